use Rattle.std.proofs.Common.{true, false, tests, rules, arith}
use Rattle.std.proofs.lemmas.Iterator.{first_from_Range}
use Rattle.contract_file.proofs.asking.ask_each.Goals as goal

pub returns-in-Some : goal.returns-in-Some
returns-in-Some g c =
    let first = rw c.in-Some.is at (first_from_Range _ _ _ c.find.result (λ i. goal.Q-post g c.args.question i false) (λ i. goal.Q-post g c.args.question i true) c.find.ensures.ran (λ x q k. search (rules, tests)) (λ x q k. search (rules, tests))) in
    record { passed = tt; refused = (c.in-Some.i, first.1, c.fault.ensures, first.2, λ j lt. first.3 j (omega arith) lt) }

pub returns : goal.returns
returns g c =
    let none = rw c.in-None.is at (first_from_Range _ _ _ c.find.result (λ i. goal.Q-post g c.args.question i false) (λ i. goal.Q-post g c.args.question i true) c.find.ensures.ran (λ x q k. search (rules, tests)) (λ x q k. search (rules, tests))) in
    record { passed = λ i lt. none i (omega arith) lt; refused = tt }
