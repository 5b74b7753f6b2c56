use Rattle.std.proofs.Common.{◌≡◌, map, take, length}
use Rattle.residuals.specs.Marks.{mark_of}
use Rattle.residuals.proofs.marks.marks_of.Given as goal

abbrev pub invariant-loop-at : goal.invariant-loop-at
invariant-loop-at g l = (length l.marks ≡ 256) × (take l.at l.marks ≡ map (mark_of g.K.Kind.meaning l.file l.r) (take l.at l.nodes))
