use Rattle.std.proofs.Common.{◌≡◌}
use Rattle.horizon.specs.Filling.{RowAdded}
use Rattle.horizon.proofs.horizon.Horizon.push_row.Given as goal

abbrev pub invariant-loop-base : goal.invariant-loop-base
invariant-loop-base l = record {
  same : l.self.spans ≡ l.fn.self.spans;
  row : RowAdded l.fn.self.spans l.entry l.fn.self.rows.items l.self.rows.items l.base;
}
