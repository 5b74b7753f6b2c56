-- How deep calls may stand does not matter once it is enough: a call opens as its template's body.
use Rattle.std.proofs.Common.{◌≡◌, ℕ, zero, suc, ◌<◌, List, ◌∷◌, length, sym, refl, subst, ap₂, not-suc-le-zero, arith}
use native.Mathlib.Decide.{dec_le}
use Rattle.std.proofs.lemmas.List.{get_or_past}
use Rattle.kinds.specs.Rows.{Row, Arguments, fill}
use Rattle.language.specs.Clauses.{Clause, done, lost, step, choice, both, then, call, body}
use Rattle.language.specs.Terms.{Term, choice_of, both_of, then_of, BareBelow, Guarded, open_with, open_call, opened}
use Rattle.language.specs.Opening.{OpeningRules}

open_with_agree : (k : ℕ) (f g : ℕ → Row → ℕ → Term) → ((j : ℕ) → j < k → (row : Row) (b : ℕ) → f j row b ≡ g j row b)
    → (c : Clause) → BareBelow k c → (row : Row) (b : ℕ) → open_with f c row b ≡ open_with g c row b
unfolding open_with
open_with_agree k f g h done i row b = refl
open_with_agree k f g h lost i row b = refl
open_with_agree k f g h (step e w cs tail) i row b = refl
open_with_agree k f g h (choice l r) i row b = ap₂ choice_of (open_with_agree k f g h l i.0 row b) (open_with_agree k f g h r i.1 row b)
open_with_agree k f g h (both l r) i row b = ap₂ both_of (open_with_agree k f g h l i.0 row b) (open_with_agree k f g h r i.1 row b)
open_with_agree k f g h (then l r) i row b = ap₂ (λ s t. then_of s r row t) (open_with_agree k f g h l i.0 row b) (open_with_agree k f g h r i.1 row b)
open_with_agree k f g h (call j args) i row b = h j i (fill args row) b

module _ (T : List Clause) (guarded : Guarded T) where
  pub open_call_agree : (n m k : ℕ) → k < n → k < m → (row : Row) (b : ℕ) → open_call T n k row b ≡ open_call T m k row b
  unfolding open_call
  open_call_agree zero m k h i row b = absurd (not-suc-le-zero h)
  open_call_agree (suc n) zero k h i row b = absurd (not-suc-le-zero i)
  open_call_agree (suc n) (suc m) k h i row b =
      open_with_agree k (open_call T n) (open_call T m) (λ j l. open_call_agree n m j (omega arith) (omega arith)) (body T k) (guarded k) row b

  pub opened_call : (k : ℕ) (args : Arguments) (row : Row) (b : ℕ) → opened T (call k args) row b ≡ opened T (body T k) (fill args row) b
  unfolding opened open_call open_with
  opened_call k args row b = elim (dec_le k (length T)) [
    | yes h ↦ open_with_agree k (open_call T (length T)) (open_call T (suc (length T))) (λ j l. open_call_agree (length T) (suc (length T)) j (omega arith) (omega arith)) (body T k) (guarded k) (fill args row) b
    | no h ↦
        let e : body T k ≡ lost = get_or_past (lost ∷ T) k lost (omega arith) in
        open_with_agree 0 (open_call T (length T)) (open_call T (suc (length T))) (λ j l. absurd (not-suc-le-zero l)) (body T k) (subst (BareBelow 0) (sym e) tt) (fill args row) b
  ]

pub opening_rules : (T : List Clause) → OpeningRules T
unfolding opened open_with
opening_rules T = record {
  of_done = λ row base. refl;
  of_lost = λ row base. refl;
  of_step = λ e w cs tail row base. refl;
  of_choice = λ l r row base. refl;
  of_both = λ l r row base. refl;
  of_then = λ l r row base. refl;
  of_call = λ guarded. opened_call T guarded;
}
