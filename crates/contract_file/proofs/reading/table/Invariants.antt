use Rattle.std.proofs.Common.{◌≡◌}
use Rattle.std.specs.Slice.Iter.{chunks_exact_rest, chunks_exact_size}
use Rattle.contract_file.proofs.Filled.{Filled}
use Rattle.contract_file.proofs.reading.table.Given as goal

abbrev pub invariant-loop-i : goal.invariant-loop-i
invariant-loop-i l =
    (goal.iterator-loop-i).can_next l.i-iterator
    × (goal.iterator-loop-i).is_finite l.i-iterator
    × (chunks_exact_size l.i-iterator.iter ≡ 16)
    × Filled l.bytes l.i-iterator.count (chunks_exact_rest l.i-iterator.iter) l.entries
