use Rattle.std.proofs.Common.{refl}
use Rattle.contract_file.proofs.Flooring.{none_noted, one_noted}
use Rattle.contract_file.proofs.chains.floors.Goals as goal

pub loop-entry-init : goal.loop-entry-init
loop-entry-init c = rw c.none-floors.ensures (none_noted _)

pub loop-entry-preserved : goal.loop-entry-preserved
loop-entry-preserved c = rw c.note.ensures (one_noted _ _ _ _ refl c.loop-entry.invariant)
