-- That ends are foretold is a fact: what a prospect's type hides can be taken out again.
use Rattle.std.proofs.Common.{◌≡◌, ℕ, suc, List, Some, None, Option, refl, ap, arith}
use mathlib.Core.Logic.{∥∥₁_elim}
use mathlib.Core.HLevel.{Π_prop}
use denote.Struct.Props.{≡_prop}
use base.Stored.{coded_ℕ, coded_via}
use Rattle.contract_file.specs.declared.files.File.{File}
use Rattle.spans.specs.declared.spans.Span.{Span}
use Rattle.horizon.specs.Foretelling.{Foretells}

-- days that may be absent, told apart by numbers
abbrev counted : Option ℕ → ℕ
counted None = 0
counted (Some day) = suc day

counted_apart : (x y : Option ℕ) → counted x ≡ counted y → x ≡ y
counted_apart None None e = refl
counted_apart None (Some b) e = absurd (omega arith)
counted_apart (Some a) None e = absurd (omega arith)
counted_apart (Some a) (Some b) e = ap Some (omega arith)

day_prop : (x y : Option ℕ) → IsProp (x ≡ y)
day_prop = ≡_prop (coded_via coded_ℕ counted counted_apart)

pub known_ends : (f : File) (spans : List Span) (rows : List (Option ℕ)) → ∥ Foretells f spans rows ∥₁ → Foretells f spans rows
known_ends f spans rows told = ∥∥₁_elim told (Π_prop (λ i. Π_prop (λ base. Π_prop (λ h. day_prop _ _)))) (λ k. k)
