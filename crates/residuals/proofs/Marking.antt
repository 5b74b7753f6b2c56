-- The mark of a leaf, by its window and its conditions.
use Rattle.std.proofs.Common.{◌≡◌, ℕ, true, false, cond, is_some, Some, None, Option, sym, refl, ap, ◌∙◌, ap₂}
use Rattle.kinds.specs.declared.fields.Conditions.{Conditions}
use Rattle.kinds.specs.Rows.{Row}
use Rattle.kinds.specs.Meaning.{Meaning, row_after}
use Rattle.language.specs.Residuals.{met_row}
use Rattle.days.specs.Windows.{meant, within}
use Rattle.days.specs.declared.windows.Window.{Window}
use Rattle.entries.specs.declared.entries.Entry.TheVariants as entries
use Rattle.entries.specs.Parts.{at}
use Rattle.contract_file.specs.declared.files.File.{File}
use Rattle.openings.specs.Clauses.{conditions_at}
use Rattle.terms.specs.declared.nodes.Node.{Node}
use Rattle.terms.specs.declared.nodes.Node.TheVariants as node
use Rattle.residuals.specs.Marks.{next_from, leaf_mark, mark_of}

goes_on : (tail : ℕ) (row row' : Row) (o : Option Row) → is_some o ≡ true → row' ≡ row_after o row → Some (record { clause = tail; row = row' }) ≡ next_from tail o
goes_on tail row row' None some is = cc
goes_on tail row row' (Some after) some is = ap (λ x. Some (record { clause = tail; row = x })) is

stops : (tail : ℕ) (o : Option Row) → is_some o ≡ false → None ≡ next_from tail o
stops tail None none = refl
stops tail (Some after) none = cc

-- a leaf whose step asks for these conditions, and the record's day
module _ {R : Type 0} (K : Meaning R) (f : File) (r : R) (n : Node) (e base : ℕ) (row : Row) (leaf : n ≡ node.Leaf e row base)
    (w : Window) (tail c : ℕ) (step : entries.Step w tail c ≡ at f.entries e) (asks : Conditions) (asked : asks ≡ conditions_at f c) (day : ℕ) (on : day ≡ K.day r) where
  marked : mark_of K f r n ≡ next_from tail (cond (within (meant w) base day) (K.meets asks row r) None)
  unfolding met_row
  marked =
      ap (mark_of K f r) leaf ∙ sym (ap (leaf_mark K f r row base) step)
      ∙ sym (ap₂ (λ d cs. next_from tail (cond (within (meant w) base d) (K.meets cs row r) None)) on asked)

  pub met_within : within (meant w) base day ≡ true → is_some (K.meets asks row r) ≡ true → (row' : Row) → row' ≡ row_after (K.meets asks row r) row
      → Some (record { clause = tail; row = row' }) ≡ mark_of K f r n
  met_within inside some row' is = goes_on tail row row' _ some is ∙ sym (marked ∙ ap (λ b. next_from tail (cond b (K.meets asks row r) None)) inside)

  pub missed_within : within (meant w) base day ≡ true → is_some (K.meets asks row r) ≡ false → None ≡ mark_of K f r n
  missed_within inside none = stops tail _ none ∙ sym (marked ∙ ap (λ b. next_from tail (cond b (K.meets asks row r) None)) inside)

  pub missed_outside : within (meant w) base day ≡ false → None ≡ mark_of K f r n
  missed_outside outside = sym (marked ∙ ap (λ b. next_from tail (cond b (K.meets asks row r) None)) outside)
