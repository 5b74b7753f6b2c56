use Rattle.std.proofs.Common.{◌≡◌}
use Rattle.kinds.specs.Rows.{fill, fill_on}
use Rattle.openings.specs.Clauses.{arguments_at}
use Rattle.terms.proofs.filling.filled.Given as goal

-- what is left of the chain fills the row up
abbrev pub invariant-loop-slot : goal.invariant-loop-slot
invariant-loop-slot l = fill_on l.slot-iterator l.caller l.row ≡ fill (arguments_at l.file l.first) l.caller
