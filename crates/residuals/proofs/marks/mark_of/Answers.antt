use Rattle.std.proofs.Common.{sym}
use Rattle.residuals.proofs.Marking.{met_within, missed_within, missed_outside}
use Rattle.residuals.proofs.marks.mark_of.Goals as goal
use Rattle.residuals.proofs.marks.mark_of.Goals.{else-holds-via-else-holds, else-holds-via-then-holds+else-meets}

pub returns-then-meets : goal.returns-then-meets
returns-then-meets g c =
    met_within g.K.Kind.meaning c.args.file.now c.args.r.now c.args.node.now _ _ _ c.in-Leaf.is _ _ _ c.in-Step.ensures _ c.conditions_from-conditions.ensures _ c.day.ensures
    (sym c.if-holds.ensures) (sym c.if-meets.ensures.answer) _ c.meets.ensures.after

pub returns-else-holds : goal.returns-else-holds
returns-else-holds g c = elim c.else-holds.branch [
  | else-holds-via-else-holds w ↦
      missed_outside g.K.Kind.meaning c.args.file.now c.args.r.now c.args.node.now _ _ _ c.in-Leaf.is _ _ _ c.in-Step.ensures _ c.conditions_from-conditions.ensures _ c.day.ensures
      (sym w.if-holds.ensures)
  | else-holds-via-then-holds+else-meets w ↦
      missed_within g.K.Kind.meaning c.args.file.now c.args.r.now c.args.node.now _ _ _ c.in-Leaf.is _ _ _ c.in-Step.ensures _ c.conditions_from-conditions.ensures _ c.day.ensures
      (sym w.if-holds.ensures) (sym w.if-meets.ensures.answer)
]
