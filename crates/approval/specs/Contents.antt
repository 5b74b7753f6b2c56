-- What a checked file holds: the file, the signing day, and what each entry opens to.
use Rattle.std.specs.Prelude.{ℕ, List}
use Rattle.contract_file.specs.declared.files.File.{File}
use Rattle.contract_file.specs.Files.{decoded}
use Rattle.contract_file.specs.Fresh.{fresh}
use Rattle.openings.specs.declared.shapes.Shape.{Shape}
use Rattle.openings.specs.Shapes.{openings_of}
use Rattle.approval.specs.declared.checked.Checked.{Checked}

pub record Contents : Type 0 where
  pub file : File
  pub day : ℕ
  pub openings : List Shape

abbrev pub held : Checked → Contents
held c = record { file = c.openings.read.file; day = c.day; openings = c.openings.shapes }

-- a file signed on a day
abbrev pub signed : File → ℕ → Contents
signed f day = record { file = f; day = day; openings = openings_of f }

-- what the bytes of a file give
abbrev pub contents : List ℕ → ℕ → Contents
contents b day = signed (decoded b) day

-- what a new place holds
abbrev pub unsigned : Contents
unsigned = signed fresh 0
