use Rattle.std.proofs.Common.{◌≡◌, length, rules, arith}
use Rattle.contract_file.specs.declared.faults.Fault.TheVariants.{Chain}
use Rattle.contract_file.specs.Chains.{Numbered, Rising, Chained}
use Rattle.contract_file.proofs.Asked.{asked}
use Rattle.contract_file.proofs.Everywhere.{past_end}
use Rattle.contract_file.proofs.chains.ask_chains.Goals as goal

pub returns : goal.returns
returns c =
    let f = c.args.file.now in
    let long : length f.entries ≡ 257 = omega arith in
    asked (Chained f) Chain _ _ (λ i ge. past_end f.entries (λ e. Numbered f i e × Rising f i e) ((λ _ _ _ q. cc), tt) i (omega (arith, long))) (λ i b k. search rules) (λ i g k. search rules) _ c.ask_each.ensures
