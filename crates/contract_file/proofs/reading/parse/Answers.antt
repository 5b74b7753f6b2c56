use Rattle.std.proofs.Common.{◌≡◌, slice_index, sym, subst, rules, arith}
use Rattle.std.proofs.lemmas.Bool.Decides.{nat_tests}
use Rattle.contract_file.specs.declared.files.File.{File}
use Rattle.contract_file.specs.Files.{decoded}
use Rattle.contract_file.specs.Questions.{reading, RightLength}
use Rattle.contract_file.specs.Sound.{Parsed}
use Rattle.contract_file.proofs.Held.{decoded_parsed}
use Rattle.contract_file.proofs.Passing.{none_yet, one_more}
use Rattle.contract_file.proofs.reading.parse.Goals as goal

pub invariant_of-result : goal.invariant_of-result
invariant_of-result c =
    let b = c.args.bytes.now in
    let right : RightLength b = record { whole = omega arith; some = grind (arith, nat_tests); few = grind (arith, nat_tests) } in
    let file : File = record { kind = slice_index b 0; count = c.two_bytes-count.result; templates = c.two_bytes.result; contract = c.two_bytes-2.result; entries = c.in_ok-entries.entries } in
    let same : file ≡ decoded b = search rules in
    record { parsed = ∣ subst Parsed (sym same) (decoded_parsed b right (rw c.in_ok-entries.ensures.value at c.in_ok-entries.ensures.listed)) ∣₁ }

pub returns-clause-answer : goal.returns-clause-answer
returns-clause-answer c =
    let b = c.args.bytes.now in
    let qs = reading b in
    let right : RightLength b = record { whole = omega arith; some = grind (arith, nat_tests); few = grind (arith, nat_tests) } in
    one_more qs 3 (one_more qs 2 (one_more qs 1 (one_more qs 0 (none_yet qs) (λ _. tt)) (λ _ _. right)) (λ _ _. omega arith)) c.in_ok-entries.ensures.answer
