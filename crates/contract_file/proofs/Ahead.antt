-- Right pointers lead up: what is onward from an entry is none, or above it and in the file, and so a pass over the entries goes on.
use Rattle.std.proofs.Common.{◌≡◌, ℕ, ◌+◌, ◌<◌, ◌≤◌, ◌⊎◌, List, Option, refl, inl, inr, arith}
use Rattle.std.proofs.lemmas.Bool.{cases_eq}
use Rattle.entries.specs.declared.parts.Sort.{Sort}
use Rattle.entries.specs.declared.entries.Entry.{Entry}
use Rattle.entries.specs.declared.entries.Entry.TheVariants.{Lost, Done, Step, Choice, Both, Then, Call, Template, Condition, Argument}
use Rattle.entries.specs.Parts.{at, sides, pointers}
use Rattle.contract_file.specs.declared.files.File.{File}
use Rattle.contract_file.specs.Asking.{Passed}
use Rattle.contract_file.specs.Marks.{mark}
use Rattle.contract_file.specs.Pass.{begun, handed_on}
use Rattle.contract_file.specs.Pointing.{Leads, EndsOrLeads, EntryLeads, Pointers}
use Rattle.contract_file.specs.Reach.{Follows}
use Rattle.contract_file.proofs.Spreading.{Near, Spread, started, passed}

module _ (f : File) (i : ℕ) where
  abbrev pub Ahead : ℕ → Type 0
  Ahead p = (p ≡ 0) ⊎ ((i < p) × (p ≤ f.count))

  led : {to : ℕ} {s : Sort} → Leads f i to s → Ahead to
  led l = inr (l.up, l.there)

  led_or_none : (to : ℕ) (s : Sort) → EndsOrLeads f i to s → Ahead to
  led_or_none to s h = elim (cases_eq to 0) [ inl e ↦ inl e | inr ne ↦ led (h (omega arith)) ]

  nowhere : Ahead 0 × Ahead 0
  nowhere = (inl refl, inl refl)

  ahead : (e : Entry) → EntryLeads f i e → Ahead (pointers e).0 × Ahead (pointers e).1
  ahead Lost h = nowhere
  ahead Done h = nowhere
  ahead (Step w t cs) h = (led h.0, led_or_none _ _ h.1)
  ahead (Choice l r) h = (led h.0, led h.1)
  ahead (Both l r) h = (led h.0, led h.1)
  ahead (Then l r) h = (led h.0, led h.1)
  ahead (Call t args) h = (led_or_none _ _ h, inl refl)
  ahead (Template k b n) h = (led h.0, led_or_none _ _ h.1)
  ahead (Condition k t n) h = (led_or_none _ _ h, inl refl)
  ahead (Argument k v n) h = (led_or_none _ _ h, inl refl)

  pub ahead_by : (way : Entry → ℕ × ℕ) → Follows way → (e : Entry) → EntryLeads f i e → Ahead (way e).0 × Ahead (way e).1
  ahead_by way follows e h = elim (follows e) [ inl is ↦ rw is nowhere | inr is ↦ rw is (ahead e h) ]

-- the two ways that there are
pub pointers_follow : Follows pointers
pointers_follow e = inr refl

pub sides_follow : Follows sides
sides_follow Lost = inl refl
sides_follow Done = inl refl
sides_follow (Step w t cs) = inl refl
sides_follow (Choice l r) = inr refl
sides_follow (Both l r) = inr refl
sides_follow (Then l r) = inr refl
sides_follow (Call t args) = inl refl
sides_follow (Template k b n) = inl refl
sides_follow (Condition k t n) = inl refl
sides_follow (Argument k v n) = inl refl

-- one entry more of the pass, of a file whose pointers lead up
module _ (f : File) (few : f.count ≤ 256) (nowhere : at f.entries 0 ≡ Lost) (passes : Passed (Pointers f)) (way : Entry → ℕ × ℕ) (follows : Follows way) where
  pub one_passed : (marks : List (Option ℕ)) (i : ℕ) → Spread way f.entries marks i
      → Spread way f.entries (handed_on (way (at f.entries i)) (mark (begun (at f.entries i) marks) i) (begun (at f.entries i) marks)) (i + 1)
  one_passed marks i s =
      let here = at f.entries i in
      let leads : EntryLeads f i here = (passes i).1 in
      let near : (p : ℕ) → Ahead f i p → Near i p = λ p a. elim a [ inl z ↦ inl z | inr ahead ↦ inr (ahead.0, omega (arith, ahead.1, few)) ] in
      let up = ahead_by f i way follows here leads in
      let began = started way f.entries marks i s (λ t b n is. let l = rw is at leads in (l.0.up, omega (arith, l.0.there, few))) in
      passed way f.entries follows nowhere (begun here marks) i (near _ up.0) (near _ up.1) began.spread began.noted
