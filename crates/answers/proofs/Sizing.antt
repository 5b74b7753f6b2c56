-- The test of question 10 decides it, of a file whose pointers lead up.
use Rattle.std.proofs.Common.{◌≡◌, ℕ, zero, suc, ◌<◌, ◌≤◌, min, List, set, replicate, Decides, sym, refl, ap, ◌∙◌, subst, add-one, arith}
use Rattle.std.proofs.lemmas.List.FromFn.{get_or-map-range_with_len}
use Rattle.std.proofs.lemmas.List.{get_or_past}
use Rattle.std.proofs.lemmas.Bool.Decides.{Decides-like}
use Rattle.kinds.specs.Rows.{zeros}
use Rattle.language.specs.Terms.{nodes}
use Rattle.entries.specs.declared.entries.Entry.TheVariants as entries
use Rattle.entries.specs.Parts.{at}
use Rattle.contract_file.specs.declared.files.File.{File}
use Rattle.openings.specs.declared.shapes.Shape.{Shape}
use Rattle.openings.specs.Clauses.{body_at}
use Rattle.openings.specs.Shapes.{size, lost_shape, Known, KnownCalls}
use Rattle.openings.specs.Rounds.{of, entry_shape, clause_shape, Passed, Called}
use Rattle.openings.proofs.Shaping.{size_is}
use Rattle.openings.proofs.Unfolding.{Leading, unfolds_to}
use Rattle.openings.proofs.Opened.{none_known, none_told, pass_more, calls_none, calls_more, all_known}
use Rattle.answers.specs.Approving.{contract_opened}
use Rattle.answers.specs.Computed.{shapes_on, shapes_by, called, call_shapes, size_test}
use Rattle.answers.proofs.Deciding.{decides_leb}

module _ (f : File) (up : Leading f) (past : (i : ℕ) → f.count < i → at f.entries i ≡ entries.Lost) where
  -- the pass over the entries below i
  passed_on : (calls : List Shape) (i : ℕ) (s : List Shape) → i ≤ 257 → Passed f calls i s → Passed f calls 0 (shapes_on f calls i s)
  unfolding shapes_on
  passed_on calls zero s h inv = inv
  passed_on calls (suc i) s h inv =
      passed_on calls i (set s i (entry_shape s calls (at f.entries i))) (omega arith)
      (pass_more f up calls s i (suc i) (at f.entries i) (entry_shape s calls (at f.entries i)) (omega arith) (sym (add-one i)) inv refl refl)

  -- past the last entry nothing stands
  none_passed : (calls : List Shape) → Passed f calls (suc f.count) (replicate 257 lost_shape)
  none_passed calls = (refl, λ i h. none_known 257 i ∙ sym (ap (clause_shape calls) (unfolds_to f up i entries.Lost (past i h))))

  all_passed : (calls : List Shape) → Passed f calls 0 (shapes_by f calls)
  unfolding shapes_by
  all_passed calls = passed_on calls (suc f.count) (replicate 257 lost_shape) (omega (arith, up.few)) (none_passed calls)

  all_called : (calls s : List Shape) → Passed f calls 0 s → Called f s (called f s)
  all_called calls s passed = record { named = named; past = λ k h. get_or_past (called f s) k lost_shape h }
    where
      named : (k : ℕ) → k < 17 → of (called f s) k ≡ of s (body_at f k)
      named zero lt = sym (none_told f up calls s passed)
      named (suc k) lt = get_or-map-range_with_len (λ j. of s (body_at f j)) 1 16 k (suc k) lost_shape (omega arith) (omega arith)

  -- the rounds
  calls_known : (n : ℕ) → KnownCalls f n (call_shapes f n)
  unfolding call_shapes
  calls_known zero = calls_none f (replicate 17 lost_shape) (none_known 17)
  calls_known (suc n) =
      let calls = call_shapes f n in
      let s = shapes_by f calls in
      subst (λ (m : ℕ). KnownCalls f m (call_shapes f (suc n))) (add-one n)
      (calls_more f up n calls s (call_shapes f (suc n)) (calls_known n) (all_passed calls) (all_called calls s (all_passed calls)))

  shapes_known : Known f (shapes_by f (call_shapes f 17))
  shapes_known = all_known f 17 (call_shapes f 17) (shapes_by f (call_shapes f 17)) refl (calls_known 17) (all_passed (call_shapes f 17))

  pub decides_size : (day : ℕ) → Decides (size_test f) (nodes (contract_opened f day) ≤ 256)
  decides_size day =
      let told : size (of (shapes_by f (call_shapes f 17)) f.contract) ≡ min (nodes (contract_opened f day)) 257 = ap size (shapes_known f.contract zeros day) ∙ size_is _ in
      Decides-like _ (λ h. omega arith) (λ h. omega arith) (decides_leb (size (of (shapes_by f (call_shapes f 17)) f.contract)) 256)
