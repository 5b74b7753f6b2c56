use Rattle.std.proofs.Common.{◌≡◌}
use Rattle.std.specs.Slice.Iter.{iter_rest}
use Rattle.std.specs.Iterator.Adapters.{zip_first, zip_second}
use Rattle.kinds.specs.Fields.{all_filled}
use Rattle.kinds.proofs.fields.Conditions.fill_all.Given as goal

abbrev pub invariant-loop-test : goal.invariant-loop-test
invariant-loop-test l =
    all_filled (iter_rest (zip_first l.test-iterator)) (iter_rest (zip_second l.test-iterator)) l.row ≡ all_filled l.fn.self.tests l.fn.fields l.fn.row
