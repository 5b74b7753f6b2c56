use Rattle.std.proofs.Common.{◌+◌, drop, sym, ap, ◌∙◌, arith}
use Rattle.std.proofs.lemmas.List.{drop-drop, drop-set-lt}
use Rattle.terms.proofs.nodes.Table.push.Goals as goal

-- The node takes the first of the unused places, and those behind it stay.
pub returns-then-self-lt-MOST_NODES-clause-spare : goal.returns-then-self-lt-MOST_NODES-clause-spare
returns-then-self-lt-MOST_NODES-clause-spare c _ =
    let at = c.self.inside.len in
    let places = c.self.inside.nodes in
    drop-set-lt (at + 1) places _ c.args.node (omega arith) ∙ sym (drop-drop 1 at places) ∙ ap (λ t. drop 1 t.spare) c.self.view_is
