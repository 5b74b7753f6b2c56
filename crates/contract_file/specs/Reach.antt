-- What a template reaches: its body, and from there on by pointers. A way tells which of an entry's pointers are followed.
use Rattle.std.specs.Prelude.{◌≡◌, ℕ, ◌<◌, ◌⊎◌, List}
use Rattle.entries.specs.declared.entries.Entry.{Entry}
use Rattle.entries.specs.declared.entries.Entry.TheVariants.{Template}
use Rattle.entries.specs.Parts.{at, sides, pointers}

-- a way follows all pointers of an entry or none
abbrev pub Follows : (Entry → ℕ × ℕ) → Type 0
Follows way = (e : Entry) → (way e ≡ (0, 0)) ⊎ (way e ≡ pointers e)

-- an entry that one of two pointers leads to
abbrev pub To : ℕ × ℕ → ℕ → Type 0
To p k = (0 < k) × ((k ≡ p.0) ⊎ (k ≡ p.1))

-- template t reaches an entry: its body, and what is onward from an entry that it reaches
pub data Reached (way : Entry → ℕ × ℕ) (es : List Entry) (t : ℕ) : ℕ → Type 0 where
  at_body : (j b n : ℕ) → at es j ≡ Template t b n → Reached way es t b
  further : (j k : ℕ) → Reached way es t j → To (way (at es j)) k → Reached way es t k

-- bare in template t: the body itself, or reached from it through choice, both and then alone
abbrev pub Bare : List Entry → ℕ → ℕ → Type 0
Bare es t i = Reached sides es t i
