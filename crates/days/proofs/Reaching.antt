-- Days up to a last one, and whether a window can still be reached.
use Rattle.std.proofs.Common.{◌≡◌, ℕ, ◌<◌, ◌≤◌, min, max, Some, None, refl, arith}
use native.Mathlib.Decide.{dec_le}
use Rattle.std.proofs.lemmas.Bool.{le-leb, lt-leb}
use Rattle.language.specs.Clauses.{Window, first, last}
use Rattle.language.specs.Ends.{up_to, reach}

pub in_time : (end d : ℕ) → d ≤ end → Some d ≡ up_to end d
unfolding up_to
in_time end d h = rw (le-leb d end h) refl

pub too_late : (end d : ℕ) → end < d → None ≡ up_to end d
unfolding up_to
too_late end d h = rw (lt-leb d end h) refl

pub reached : (w : Window) (base clock d : ℕ) → d ≡ max (first w base) clock → d ≤ min (last w base) 65535 → Some d ≡ reach w base clock
unfolding reach
reached w base clock d is h = rw (← is, ← in_time (last w base) d (omega arith)) (in_time 65535 d (omega arith))

pub missed : (w : Window) (base clock d : ℕ) → d ≡ max (first w base) clock → min (last w base) 65535 < d → None ≡ reach w base clock
unfolding reach
missed w base clock d is h = elim (dec_le d (last w base)) [
  | yes k ↦ rw (← is, ← in_time (last w base) d k) (too_late 65535 d (omega arith))
  | no k ↦ rw (← is, ← too_late (last w base) d (omega arith)) refl
]
