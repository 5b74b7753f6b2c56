-- What is left of a term after a record, and its rules, one for each sort of term. Assumes nothing.
use Rattle.std.specs.Prelude.{◌≡◌, ℕ, cond, ◌&&◌, ◌⊎◌, List, Some, None, Option, nat_le}
use Rattle.kinds.specs.declared.fields.Conditions.{Conditions}
use Rattle.kinds.specs.Rows.{Row}
use Rattle.kinds.specs.Meaning.{Meaning}
use Rattle.language.specs.Clauses.{Window, Clause, first, last}
use Rattle.language.specs.Performing.{Inside}
use Rattle.language.specs.Terms.{Term, Done, Lost, Leaf, Choice, Both, Follow, choice_of, both_of, then_of, opened}

module _ (templates : List Clause) where
  -- A leaf after a record of day d: its tail opened from the row that results, or lost where none does.
  unfoldable pub after_leaf : Option Row → Clause → ℕ → Term
  after_leaf None tail d = Lost
  after_leaf (Some row) tail d = opened templates tail row d

module _ {R : Type 0} (K : Meaning R) where
  -- The record's resulting row, if it lies in the window and meets the conditions.
  unfoldable pub met_row : Window → Conditions → Row → ℕ → R → Option Row
  met_row w cs row base r = cond (nat_le (first w base) (K.day r) && nat_le (K.day r) (last w base)) (K.meets cs row r) None

  -- What is left of a term after a record.
  unfoldable pub residual : List Clause → Term → R → Term
  residual templates Done r = Lost
  residual templates Lost r = Lost
  residual templates (Leaf e w cs tail row base) r = after_leaf templates (met_row w cs row base r) tail (K.day r)
  residual templates (Choice a b) r = choice_of (residual templates a r) (residual templates b r)
  residual templates (Both a b) r = choice_of (both_of (residual templates a r) b) (both_of a (residual templates b r))
  residual templates (Follow t c row) r =
      let again : Term = opened templates c row (K.day r) in
      then_of (residual templates t r) c row again

pub record ResidualRules {R : Type 0} (K : Meaning R) (templates : List Clause) : Type 0 where
  -- nothing comes after done or lost
  pub of_done : (r : R) → residual K templates Done r ≡ Lost
  pub of_lost : (r : R) → residual K templates Lost r ≡ Lost
  -- a leaf that the record meets leaves its tail, opened from the row that results and the record's day
  pub of_leaf_met : (e : ℕ) (w : Window) (cs : Conditions) (tail : Clause) (row : Row) (base : ℕ) (r : R) (row' : Row)
      → Inside K w base r → K.meets cs row r ≡ Some row' → residual K templates (Leaf e w cs tail row base) r ≡ opened templates tail row' (K.day r)
  -- a leaf is lost where the record lies outside its window or does not meet its conditions
  pub of_leaf_missed : (e : ℕ) (w : Window) (cs : Conditions) (tail : Clause) (row : Row) (base : ℕ) (r : R)
      → (Inside K w base r → ⊥) ⊎ (K.meets cs row r ≡ None) → residual K templates (Leaf e w cs tail row base) r ≡ Lost
  -- a choice leaves the choice of what its sides leave
  pub of_choice : (a b : Term) (r : R) → residual K templates (Choice a b) r ≡ choice_of (residual K templates a r) (residual K templates b r)
  -- the record goes to the left side of a both or to the right one, and the other side stays
  pub of_both : (a b : Term) (r : R) → residual K templates (Both a b) r ≡ choice_of (both_of (residual K templates a r) b) (both_of a (residual K templates b r))
  -- the record goes to the term of a follow: if what is left of it may end, the clause is opened beside, from the record's day
  pub of_follow : (t : Term) (c : Clause) (row : Row) (r : R)
      → residual K templates (Follow t c row) r ≡ then_of (residual K templates t r) c row (opened templates c row (K.day r))
