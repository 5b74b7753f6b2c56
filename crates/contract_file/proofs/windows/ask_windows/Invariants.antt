use Rattle.entries.specs.Parts.{pointers}
use Rattle.contract_file.proofs.windows.ask_windows.Given as goal

abbrev pub ghost-lowest : goal.ghost-lowest
ghost-lowest a = pointers
