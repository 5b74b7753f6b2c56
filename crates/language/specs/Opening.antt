-- The rules of opening, one for each sort of clause.
use Rattle.std.specs.Prelude.{◌≡◌, ℕ, List}
use Rattle.kinds.specs.declared.fields.Conditions.{Conditions}
use Rattle.kinds.specs.Rows.{Row, Arguments, fill}
use Rattle.language.specs.Clauses.{Window, Clause, done, lost, step, choice, both, then, call, body}
use Rattle.language.specs.Terms.{Done, Lost, Leaf, choice_of, both_of, then_of, Guarded, opened}

pub record OpeningRules (templates : List Clause) : Type 0 where
  -- done and lost open to themselves, a step to a leaf
  pub of_done : (row : Row) (base : ℕ) → opened templates done row base ≡ Done
  pub of_lost : (row : Row) (base : ℕ) → opened templates lost row base ≡ Lost
  pub of_step : (e : ℕ) (w : Window) (cs : Conditions) (tail : Clause) (row : Row) (base : ℕ) → opened templates (step e w cs tail) row base ≡ Leaf e w cs tail row base
  -- choice and both open to their opened sides, tidied
  pub of_choice : (l r : Clause) (row : Row) (base : ℕ) → opened templates (choice l r) row base ≡ choice_of (opened templates l row base) (opened templates r row base)
  pub of_both : (l r : Clause) (row : Row) (base : ℕ) → opened templates (both l r) row base ≡ both_of (opened templates l row base) (opened templates r row base)
  -- then opens to the follow of its opened left with the right, and beside it, if that left may end, the right opened on the same base
  pub of_then : (l r : Clause) (row : Row) (base : ℕ) → opened templates (then l r) row base ≡ then_of (opened templates l row base) r row (opened templates r row base)
  -- a call opens as its template's body, from zeros with the arguments filled in from the caller's row
  pub of_call : Guarded templates → (k : ℕ) (args : Arguments) (row : Row) (base : ℕ) → opened templates (call k args) row base ≡ opened templates (body templates k) (fill args row) base
