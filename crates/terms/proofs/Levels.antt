-- In a sound file each bare call names one of sixteen templates.
use Rattle.std.proofs.Common.{ℕ, zero, suc, arith}
use Rattle.language.specs.Clauses.{Clause}
use Rattle.language.specs.Terms.{BareBelow}
use Rattle.entries.specs.declared.entries.Entry.{Entry}
use Rattle.entries.specs.declared.entries.Entry.TheVariants.{Lost, Done, Step, Choice, Both, Then, Call, Template, Condition, Argument}
use Rattle.entries.specs.Parts.{at, Listed}
use Rattle.contract_file.specs.declared.files.File.{File}
use Rattle.contract_file.specs.Sound.{Sound}
use Rattle.openings.specs.Clauses.{clause_by, clause_of, clause_at}

module _ (f : File) (sound : Sound f) where
  few_by : (to : ℕ → Clause) → ((l : ℕ) → BareBelow 17 (to l)) → (i : ℕ) (e : Entry) → Listed e → BareBelow 17 (clause_by f to i e)
  few_by to h i Lost p = tt
  few_by to h i Done p = tt
  few_by to h i (Step w t cs) p = tt
  few_by to h i (Choice l r) p = (h l, h r)
  few_by to h i (Both l r) p = (h l, h r)
  few_by to h i (Then l r) p = (h l, h r)
  few_by to h i (Call k a) p = omega (arith, p.1)
  few_by to h i (Template k b n) p = tt
  few_by to h i (Condition k t n) p = tt
  few_by to h i (Argument s v n) p = tt

  few_of : (n i : ℕ) → BareBelow 17 (clause_of f n i)
  unfolding clause_of
  few_of zero i = tt
  few_of (suc n) i = few_by (clause_of f n) (few_of n) i (at f.entries i) (sound.parsed.values i)

  pub few_calls : (i : ℕ) → BareBelow 17 (clause_at f i)
  unfolding clause_at
  few_calls i = few_of 257 i
