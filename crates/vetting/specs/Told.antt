-- What a report says on its first line: the answer of check to the file's bytes, for the kind that byte 0 picks.
use Rattle.std.specs.Prelude.{◌≡◌, ℕ, Bool, cond, List, ◌++◌, Ok, Err, codes, decimal, Result, ◌==◌, slice_index}
use Rattle.kinds.specs.declared.fields.Test.{Test}
use Rattle.kinds.specs.Transfers.{transfers}
use Rattle.kinds.specs.Inspections.{inspections}
use Rattle.contract_file.specs.declared.faults.Fault.{Fault}
use Rattle.contract_file.specs.Faults.{fault_number, fault_entry}
use Rattle.words.specs.declared.names.Names.{Names}
use Rattle.words.specs.declared.names.Names.TheVariants.{Transfers, Inspections}
use Rattle.answers.specs.Computed.{computed}

-- "ok", or "no" with the question and the entry at fault
abbrev pub line_of : Result (Unit {0}) Fault → List ℕ
line_of (Ok _) = codes "ok\n"
line_of (Err f) = codes "no " ++ (decimal (fault_number f) ++ (codes " " ++ (decimal (fault_entry f) ++ codes "\n")))

-- the answer of check for the kind that goes by some words
abbrev pub answer_for : Names → ℕ → List ℕ → Result (Unit {0}) Fault
answer_for Transfers day b = computed 1 transfers.admits day b
answer_for Inspections day b = computed 2 inspections.admits day b

-- a text that begins with the answer; what stands behind is for people
pub record Told (number : ℕ) (admits : ℕ → Test → Bool) (day : ℕ) (b text : List ℕ) : Type 0 where
  pub words : List ℕ
  pub whole : text ≡ line_of (computed number admits day b) ++ words

-- byte 0 picks the kind: inspections if it is 2, and otherwise transfers
abbrev pub Reported : ℕ → List ℕ → List ℕ → Type 0
Reported day b text = cond (slice_index b 0 == 2) (Told 2 inspections.admits day b text) (Told 1 transfers.admits day b text)
