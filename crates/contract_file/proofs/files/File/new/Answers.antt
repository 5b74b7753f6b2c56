use Rattle.std.proofs.Common.{refl}
use Rattle.contract_file.proofs.Freshly.{fresh_sound}
use Rattle.contract_file.proofs.files.File.new.Goals as goal

pub returns : goal.returns
returns c = record { value = refl; sound = fresh_sound }
