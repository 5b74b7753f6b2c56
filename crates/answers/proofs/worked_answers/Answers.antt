use Rattle.std.proofs.Common.{refl}
use Rattle.contract_file.specs.Files.{table_of}
use Rattle.contract_file.specs.Chains.{chain}
use Rattle.answers.specs.Computed.{computed, above_test, reached_below, shapes_on, shapes_by, call_shapes, lowest_from}
use Rattle.answers.proofs.worked_answers.Goals as goal

-- by evaluation
pub returns : goal.returns
unfolding computed above_test reached_below shapes_on shapes_by call_shapes lowest_from table_of chain
returns c = record {
  unchanged = refl;
  empty = refl;
  last_byte_missing = refl;
  version_two = refl;
  tag_eleven = refl;
  tail_to_itself = refl;
  field_twice = refl;
  call_of_none = refl;
  days_turned = refl;
  kind_three = refl;
  mode_five = refl;
  too_late = refl;
  two_faults = refl;
  with_template = refl;
  bare_call = refl;
  calendar_in_template = refl;
  too_large = refl;
}
