use Rattle.std.proofs.Common.{vec_items}
use Rattle.horizon.proofs.Freshly.{no_new_entry_ends}
use Rattle.horizon.proofs.horizon.Horizon.never.Goals as goal

pub returns : goal.returns
returns c = no_new_entry_ends (vec_items c.new.result)
