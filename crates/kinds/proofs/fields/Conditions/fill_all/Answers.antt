use Rattle.std.proofs.Common.{◌≡◌, arith, List, [], ◌∷◌, Option, ◌⊎◌, refl, sym, ◌∙◌}
use Rattle.std.proofs.lemmas.Slice.Zip.{either_empty_from_Zip}
use Rattle.kinds.specs.declared.fields.Test.{Test}
use Rattle.kinds.specs.declared.fields.Field.{Field}
use Rattle.kinds.specs.Rows.{Row}
use Rattle.kinds.specs.Fields.{all_filled}
use Rattle.kinds.proofs.fields.Conditions.fill_all.Goals as goal

-- with no test or no field left, nothing is put
filled_none : (tests : List (Option Test)) (fields : List Field) (row : Row) → (tests ≡ []) ⊎ (fields ≡ []) → all_filled tests fields row ≡ row
filled_none [] fields row e = refl
filled_none (t ∷ tests) [] row e = refl
filled_none (t ∷ tests) (f ∷ fields) row e = grind arith

pub returns : goal.returns
returns c =
    sym (filled_none _ _ c.loop-test.row (either_empty_from_Zip c.loop-test.test-iterator c.next.new.self _ c.in-None.is c.next.ensures.steps)) ∙ c.loop-test.invariant
