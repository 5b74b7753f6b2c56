use Rattle.std.proofs.Common.{refl}
use Rattle.answers.specs.Approving.{contract_opened}
use Rattle.held.proofs.Reading.{some_whole}
use Rattle.held.proofs.Opening.{opened_whole}
use Rattle.held.proofs.held.Held.open.Goals as goal

pub unwrap-requires : goal.unwrap-requires
unwrap-requires c =
    let opened = opened_whole _ _ _ _ _ _ _ c.openings.ensures c.day.ensures c.open_contract.ensures.replaced c.args.foreseen.small in
    rw opened.0

pub invariant_of-result : goal.invariant_of-result
invariant_of-result c =
    let foreseen = c.args.foreseen in
    let file = foreseen.prospect.openings.read.file in
    let whole = opened_whole _ _ _ _ _ _ _ c.openings.ensures c.day.ensures c.open_contract.ensures.replaced foreseen.small in
    record { whole = some_whole file _ (contract_opened file foreseen.day) foreseen.small whole.1 }

pub returns : goal.returns
returns c =
    let foreseen = c.args.foreseen in
    record {
      same = refl;
      holding = (opened_whole _ _ _ _ _ _ _ c.openings.ensures c.day.ensures c.open_contract.ensures.replaced foreseen.small).1;
    }
