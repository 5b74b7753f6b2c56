-- The size of the opened contract, by the table of what each entry opens to.
use Rattle.std.proofs.Common.{◌≡◌, ℕ, ◌≤◌, List, refl, ap, ◌∙◌, arith}
use Rattle.kinds.specs.Rows.{zeros}
use Rattle.language.specs.Clauses.{lost}
use Rattle.language.specs.Terms.{nodes, open_with, opened}
use Rattle.contract_file.specs.declared.files.File.{File}
use Rattle.contract_file.specs.Fresh.{fresh}
use Rattle.contract_file.proofs.Freshly.{fresh_sound}
use Rattle.entries.specs.declared.entries.Entry.TheVariants as entries
use Rattle.openings.specs.declared.shapes.Shape.{Shape}
use Rattle.openings.specs.Clauses.{clause_at, templates_of}
use Rattle.openings.specs.Rounds.{of}
use Rattle.openings.specs.Shapes.{size, Known}
use Rattle.openings.proofs.Shaping.{size_is}
use Rattle.openings.proofs.Unfolding.{leading, unfolds_to}
use Rattle.answers.specs.Approving.{contract_opened}

-- where the contract is small, the table has its very size
pub size_told : (f : File) (day : ℕ) (s : List Shape) → Known f s → nodes (contract_opened f day) ≤ 256 → size (of s f.contract) ≡ nodes (contract_opened f day)
size_told f day s known small = let e = ap size (known f.contract zeros day) ∙ size_is _ in e ∙ (omega arith)

-- the contract of a new place is lost
lost_opened : (T : _) (row : _) (base : ℕ) → nodes (opened T lost row base) ≡ 1
unfolding opened open_with
lost_opened T row base = refl

pub fresh_small : (f : File) → f ≡ fresh → nodes (contract_opened f 0) ≤ 256
fresh_small f same =
    let one : clause_at fresh 1 ≡ lost = unfolds_to fresh (leading fresh fresh_sound) 1 entries.Lost refl in
    let one_node : nodes (contract_opened fresh 0) ≡ 1 = ap (λ c. nodes (opened (templates_of fresh) c zeros 0)) one ∙ lost_opened (templates_of fresh) zeros 0 in
    rw same (omega arith)
