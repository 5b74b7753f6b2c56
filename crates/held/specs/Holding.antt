-- A contract as it is held. Assumes nothing.
use Rattle.language.specs.Terms.{Term}
use Rattle.contract_file.specs.declared.files.File.{File}
use Rattle.held.specs.declared.held.Held.{Held}
use Rattle.terms.specs.Tables.{Whole}

-- The file that was checked.
abbrev pub file_of : Held → File
file_of h = h.foreseen.prospect.openings.read.file

-- The term that is left of the contract, node for node.
abbrev pub Holding : Held → Term → Type 0
Holding h t = Whole (file_of h) h.table.items t
