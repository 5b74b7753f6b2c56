use Rattle.entries.specs.Parts.{sides}
use Rattle.contract_file.proofs.calls.ask_calls.Given as goal

abbrev pub ghost-lowest : goal.ghost-lowest
ghost-lowest a = sides
