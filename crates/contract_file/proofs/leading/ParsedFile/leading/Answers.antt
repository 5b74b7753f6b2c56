use Rattle.std.proofs.Common.{rules, arith}
use Rattle.std.proofs.lemmas.Result.{err_from_is_err_and}
use Rattle.contract_file.proofs.Asked.{asked_pointers}
use Rattle.contract_file.proofs.leading.ParsedFile.leading.Goals as goal

pub returns-in_err-ask_each-clause-answer : goal.returns-in_err-ask_each-clause-answer
returns-in_err-ask_each-clause-answer c =
    let p = err_from_is_err_and c.from_residual.result c.from_residual.ensures.1 in
    rw (p.1, p.2) (asked_pointers c.args.self.now.file (omega arith) _ _ (λ i b k. search rules) (λ i e k. search rules) _ c.in_err-ask_each.ensures)

pub invariant_of-result : goal.invariant_of-result
invariant_of-result c = record {
  parsed = c.args.self.now.parsed;
  pointers = ∣ asked_pointers c.args.self.now.file (omega arith) _ _ (λ i b k. search rules) (λ i e k. search rules) _ c.in_ok-ask_each.ensures ∣₁;
}

pub returns-clause-answer : goal.returns-clause-answer
returns-clause-answer c = asked_pointers c.args.self.now.file (omega arith) _ _ (λ i b k. search rules) (λ i e k. search rules) _ c.in_ok-ask_each.ensures
