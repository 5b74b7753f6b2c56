use Rattle.contract_file.specs.Floors.{Floors}
use Rattle.contract_file.proofs.chains.floors.Given as goal

abbrev pub invariant-loop-entry : goal.invariant-loop-entry
invariant-loop-entry l = Floors l.file.entries l.entry-index l.floors.marks
