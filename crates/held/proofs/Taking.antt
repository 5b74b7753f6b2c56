-- What is held after a record was taken, or refused.
use Rattle.std.proofs.Common.{List, Result, sym, subst, arith}
use native.Mathlib.Decide.{dec_le}
use Rattle.language.specs.Terms.{Term, nodes}
use Rattle.contract_file.specs.declared.files.File.{File}
use Rattle.terms.specs.declared.nodes.Node.{Node}
use Rattle.terms.specs.declared.too_large.TooLarge.{TooLarge}
use Rattle.terms.specs.Results.{Replaced}
use Rattle.held.specs.Whole.{SomeWhole}
use Rattle.held.proofs.Reading.{some_whole}

pub still_whole : (f : File) (before after : List Node) (t : Term) (r : Result (Unit {0}) TooLarge) → Replaced f t before after r → ∥ SomeWhole f before ∥₁ → ∥ SomeWhole f after ∥₁
still_whole f before after t r replaced old = elim (dec_le (nodes t) 256) [
  | yes few ↦ some_whole f after t few (replaced.fits few).1
  | no many ↦ subst (λ (x : List Node). ∥ SomeWhole f x ∥₁) (sym (replaced.large (omega arith)).1) old
]
