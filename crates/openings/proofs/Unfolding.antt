-- The law by which the clause of an entry unfolds, and the templates by their number.
use Rattle.std.proofs.Common.{◌≡◌, ℕ, zero, suc, ◌-◌, ◌<◌, ◌≤◌, ◌∷◌, length, refl, ap, ◌∙◌, ap₂, arith}
use Rattle.std.proofs.lemmas.List.FromFn.{get_or-map-range_with_len, length-map-range_with_len}
use Rattle.std.proofs.lemmas.List.{get_or_past}
use Rattle.language.specs.Clauses.{Clause, lost, step, choice, both, then, body}
use Rattle.entries.specs.declared.entries.Entry.{Entry}
use Rattle.entries.specs.declared.entries.Entry.TheVariants.{Lost, Done, Step, Choice, Both, Then, Call, Template, Condition, Argument}
use Rattle.entries.specs.Parts.{at}
use Rattle.contract_file.specs.declared.files.File.{File}
use Rattle.contract_file.specs.Asking.{Passed}
use Rattle.contract_file.specs.Pointing.{EntryLeads, Pointers}
use Rattle.contract_file.specs.Sound.{Sound}
use Rattle.openings.specs.Clauses.{conditions_at, clause_by, clause_of, clause_at, body_at, templates_of}
use Rattle.days.specs.Windows.{meant}

-- the clause of an entry looks only at what the entry points to, which lies above it
by_same : (f : File) (a b : ℕ → Clause) (i : ℕ) → ((l : ℕ) → i < l → l ≤ f.count → a l ≡ b l) → (e : Entry) → EntryLeads f i e → clause_by f a i e ≡ clause_by f b i e
by_same f a b i h Lost p = refl
by_same f a b i h Done p = refl
by_same f a b i h (Step w tail cs) p = ap (step i (meant w) (conditions_at f cs)) (h tail p.0.up p.0.there)
by_same f a b i h (Choice l r) p = ap₂ choice (h l p.0.up p.0.there) (h r p.1.up p.1.there)
by_same f a b i h (Both l r) p = ap₂ both (h l p.0.up p.0.there) (h r p.1.up p.1.there)
by_same f a b i h (Then l r) p = ap₂ then (h l p.0.up p.0.there) (h r p.1.up p.1.there)
by_same f a b i h (Call k args) p = refl
by_same f a b i h (Template k b' n) p = refl
by_same f a b i h (Condition k t n) p = refl
by_same f a b i h (Argument s v n) p = refl

-- what unfolding asks of a file: a table that ends, whose pointers lead up
pub record Leading (f : File) : Type 0 where
  pub few : f.count ≤ 256
  pub long : length f.entries ≡ 257
  pub nowhere : at f.entries 0 ≡ Lost
  pub pointers : Passed (Pointers f)

pub leading : (f : File) → Sound f → Leading f
leading f sound = record { few = sound.parsed.few; long = sound.parsed.long; nowhere = sound.parsed.nowhere; pointers = sound.pointers }

module _ (f : File) (up : Leading f) where
  pub leads_at : (i : ℕ) → EntryLeads f i (at f.entries i)
  leads_at i = (up.pointers i).1

  -- enough pointers are enough
  enough : (n m i : ℕ) → i ≤ 256 → 256 - i < n → 256 - i < m → clause_of f n i ≡ clause_of f m i
  unfolding clause_of
  enough zero m i w h k = absurd (omega arith)
  enough (suc n) zero i w h k = absurd (omega arith)
  enough (suc n) (suc m) i w h k =
      by_same f (clause_of f n) (clause_of f m) i
      (λ l higher top. enough n m l (omega (arith, up.few)) (omega (arith, up.few)) (omega (arith, up.few)))
      (at f.entries i) (leads_at i)

  -- the law: an entry's clause by what stands in the entry
  pub unfolds : (i : ℕ) → clause_at f i ≡ clause_by f (clause_at f) i (at f.entries i)
  unfolding clause_at clause_of
  unfolds i =
      by_same f (clause_of f 256) (clause_at f) i
      (λ l higher top. enough 256 257 l (omega (arith, up.few)) (omega (arith, up.few)) (omega (arith, up.few)))
      (at f.entries i) (leads_at i)

  -- and by its tag
  pub unfolds_to : (i : ℕ) (e : Entry) → at f.entries i ≡ e → clause_at f i ≡ clause_by f (clause_at f) i e
  unfolds_to i e is = unfolds i ∙ ap (clause_by f (clause_at f) i) is

  -- no entry has the number 0, and past the last there is none
  pub unfolds_none : clause_at f 0 ≡ lost
  unfolds_none = unfolds_to 0 Lost up.nowhere

  pub unfolds_past : (i : ℕ) → 257 ≤ i → clause_at f i ≡ lost
  unfolds_past i h = unfolds_to i Lost (get_or_past f.entries i Lost (omega (arith, up.long)))

-- templates by their number
pub body_is : (f : File) (k : ℕ) → 0 < k → k ≤ 16 → body (templates_of f) k ≡ clause_at f (body_at f k)
unfolding templates_of
body_is f zero h i = absurd (omega arith)
body_is f (suc k) h i = get_or-map-range_with_len (λ j. clause_at f (body_at f j)) 1 16 k (suc k) lost (omega arith) (omega arith)

pub sixteen : (f : File) → length (templates_of f) ≡ 16
unfolding templates_of
sixteen f = length-map-range_with_len (λ j. clause_at f (body_at f j)) 1 16

pub body_past : (f : File) (k : ℕ) → 16 < k → body (templates_of f) k ≡ lost
body_past f k h = get_or_past (lost ∷ templates_of f) k lost (omega (arith, sixteen f))
