use Rattle.std.proofs.Common.{length, ap, ◌∙◌, arith}
use Rattle.openings.specs.Shapes.{size}
use Rattle.terms.proofs.Ending.{held_by_its_nodes}
use Rattle.residuals.specs.declared.weights.Weight.{Weight}
use Rattle.residuals.proofs.Leaving.{ready, told_at_first, taken, kept}
use Rattle.residuals.proofs.holding.hold.Goals as goal

pub returns-then-from-gt-MOST_NODES-clause-replaced : goal.returns-then-from-gt-MOST_NODES-clause-replaced
returns-then-from-gt-MOST_NODES-clause-replaced g c = λ t h.
    let held = held_by_its_nodes _ _ _ t (c.term-nodes.ensures.value _ t h) h in
    kept g.K.Kind.meaning _ c.args.r.now _ c.file.ensures.same c.marks_of-marks.ensures c.day.ensures _ _ _ _ c.weigh.ensures.weighed t held
    _ _ (c.from.ensures ∙ c.size.ensures) c.if-from-gt-MOST_NODES.true

pub build-requires-clause-ready : goal.build-requires-clause-ready
build-requires-clause-ready g c =
    let tree = c.requires.tree in
    ready _ _ _ _ c.weigh.ensures.weighed tree.term (held_by_its_nodes _ _ _ tree.term (c.term-nodes.ensures.value _ tree.term tree.held) tree.held)

pub build-requires-clause-room : goal.build-requires-clause-room
build-requires-clause-room g c =
    let tree = c.requires.tree in
    let held = held_by_its_nodes _ _ _ tree.term (c.term-nodes.ensures.value _ tree.term tree.held) tree.held in
    let whole = ap (λ (x : Weight). size x.left) (told_at_first _ _ _ _ _ c.weigh.ensures.weighed tree.term held) in
    omega (arith, ap length c.new-next.ensures.items, whole, c.from.ensures, c.size.ensures, c.if-from-gt-MOST_NODES.false)

pub returns-clause-replaced : goal.returns-clause-replaced
returns-clause-replaced g c = λ t h.
    let held = held_by_its_nodes _ _ _ t (c.term-nodes.ensures.value _ t h) h in
    taken g.K.Kind.meaning _ c.args.r.now _ c.file.ensures.same c.marks_of-marks.ensures c.day.ensures _ _ _ _ c.weigh.ensures.weighed t held
    _ _ _ _ (c.from.ensures ∙ c.size.ensures) c.if-from-gt-MOST_NODES.false c.new-next.ensures.items (c.build.ensures (ready _ _ _ _ c.weigh.ensures.weighed t held))
