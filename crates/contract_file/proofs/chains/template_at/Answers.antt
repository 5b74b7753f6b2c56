use Rattle.std.proofs.Common.{◌-◌, refl, ap, ◌∙◌, rules, arith}
use Rattle.std.proofs.iter.Yields.{nat_range_steps}
use Rattle.std.proofs.lemmas.Fn.{fold_over}
use Rattle.std.proofs.lemmas.Iterator.{YieldsList-from_range}
use Rattle.std.proofs.lemmas.List.FromFn.{length-range_with_len}
use Rattle.contract_file.specs.Chains.{chain}
use Rattle.contract_file.proofs.Along.{Along, along_none, along_more}
use Rattle.contract_file.proofs.chains.template_at.Goals as goal

pub returns-then-place-eq0 : goal.returns-then-place-eq0
unfolding chain
returns-then-place-eq0 c = rw c.if-place-eq0.true

pub returns : goal.returns
returns c =
    let f = c.args.file.now in
    let links = YieldsList-from_range 1 c.args.place (c.args.place - 1) refl refl in
    let last = fold_over nat_range_steps (λ k. k) _ (Along f) _ (λ ks t k t' q here called. (let e = along_more f ks t k here in search rules, search rules)) (record { start = 1; end = c.args.place }) _ _ c.fold.result links.runs (along_none f) c.fold.ensures.ran in
    last ∙ ap (chain f) (simp length-range_with_len (omega arith))
