-- What taking a record leaves. Assumes nothing.
use Rattle.std.specs.Prelude.{◌≡◌, ◌<◌, ◌≤◌, Ok, Err, Result}
use Rattle.language.specs.Terms.{Term, nodes}
use Rattle.held.specs.declared.held.Held.{Held}
use Rattle.terms.specs.declared.too_large.TooLarge.{TooLarge}
use Rattle.held.specs.Holding.{Holding}

-- A residual of at most 256 nodes is held afterwards, of the same file; a larger one is refused, and nothing is changed.
pub record Taken (before after : Held) (t : Term) (r : Result (Unit {0}) TooLarge) : Type 0 where
  pub foreseen : after.foreseen ≡ before.foreseen
  pub fits : nodes t ≤ 256 → (r ≡ Ok tt) × Holding after t
  pub large : 256 < nodes t → (r ≡ Err (record {})) × (after.table ≡ before.table)
