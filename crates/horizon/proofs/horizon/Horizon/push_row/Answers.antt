use Rattle.std.proofs.Common.{◌≡◌, List, Option, ℕ, ◌+◌, sym, ap, ◌∙◌, subst}
use Rattle.language.specs.Ends.{after, up_to}
use Rattle.spans.specs.declared.spans.Span.{Span}
use Rattle.horizon.specs.Filling.{entry_end, RowAdded}
use Rattle.horizon.proofs.Adding.{one_cell_more}
use Rattle.horizon.proofs.horizon.Horizon.push_row.Goals as goal

pub loop-base-preserved : goal.loop-base-preserved
loop-base-preserved c =
    let spans = c.args.self.now.spans in
    let cell : c.held.result ≡ after (entry_end spans c.loop-base.self.rows.items c.loop-base.base c.args.entry) (up_to 65535) =
    c.held.ensures ∙ ap (λ (x : Option ℕ). after x (up_to 65535)) (c.entry_end-end.ensures ∙ ap (λ (s : List Span). entry_end s c.loop-base.self.rows.items c.loop-base.base c.args.entry) c.loop-base.invariant.same) in
    record {
      same = c.loop-base.invariant.same;
      row = subst (λ (rows : List (Option ℕ)). RowAdded spans c.args.entry c.args.self.now.rows.items rows (c.loop-base.base + 1)) (sym c.in_ok-push.ensures.items)
          (one_cell_more spans c.args.entry c.args.self.now.rows.items c.loop-base.self.rows.items c.loop-base.base c.held.result c.loop-base.invariant.row cell);
    }
