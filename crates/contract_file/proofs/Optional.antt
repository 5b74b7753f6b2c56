-- A test of what an option holds, passed where it holds nothing.
use Rattle.std.proofs.Common.{ℕ, Bool, Some, None, Option, Decides, IsTrue, IfSome, MatchOption}

pub decides_if_some : (o : Option ℕ) (b : Bool) (tells : ℕ → Bool → Type 0) (P : ℕ → Type 0) → MatchOption o (IsTrue b) (λ m. tells m b) → ((m : ℕ) → tells m b → Decides b (P m)) → Decides b (IfSome o P)
decides_if_some None b tells P told decides = (λ _. tt, λ _. told)
decides_if_some (Some m) b tells P told decides = decides m told
