use Rattle.std.proofs.Common.{◌≡◌, refl, ◌∙◌, arith}
use Rattle.std.proofs.lemmas.Result.{err_from_is_err_and}
use Rattle.contract_file.specs.declared.faults.Fault.TheVariants.{Pointer, Chain, Call, Window}
use Rattle.contract_file.specs.Questions.{reading}
use Rattle.contract_file.proofs.Facts.{known_parsed, known_pointers}
use Rattle.contract_file.proofs.Held.{pointers_pass, chains_pass, calls_pass, windows_pass}
use Rattle.contract_file.proofs.Passing.{refused}
use Rattle.contract_file.proofs.reading.read.Goals as goal

pub returns-in_err-leading-clause-answer : goal.returns-in_err-leading-clause-answer
returns-in_err-leading-clause-answer c =
    let b = c.args.bytes.now in
    let same = c.in_ok-parsed.ensures.value in
    let p = err_from_is_err_and c.from_residual-in_err-leading.result c.from_residual-in_err-leading.ensures.1 in
    rw (p.1, p.2) (refused (reading b) _ Pointer 4 8 (omega arith) (λ _. refl) (λ _. refl) c.in_ok-parsed.ensures.answer (rw same at c.in_err-leading.ensures.answer))

pub returns-in_err-ask_chains-clause-answer : goal.returns-in_err-ask_chains-clause-answer
returns-in_err-ask_chains-clause-answer c =
    let b = c.args.bytes.now in
    let same = c.in_ok-leading.ensures.same ∙ c.in_ok-parsed.ensures.value in
    let p = err_from_is_err_and c.from_residual-in_err-ask_chains.result c.from_residual-in_err-ask_chains.ensures.1 in
    rw (p.1, p.2) (refused (reading b) _ Chain 5 8 (omega arith) (λ _. refl) (λ _. refl) (pointers_pass b c.in_ok-leading.leading.file.now same c.in_ok-parsed.ensures.answer (known_pointers _ c.in_ok-leading.leading.pointers)) (rw same at c.in_err-ask_chains.ensures))

pub returns-in_err-ask_calls-clause-answer : goal.returns-in_err-ask_calls-clause-answer
returns-in_err-ask_calls-clause-answer c =
    let b = c.args.bytes.now in
    let same = c.in_ok-leading.ensures.same ∙ c.in_ok-parsed.ensures.value in
    let p = err_from_is_err_and c.from_residual-in_err-ask_calls.result c.from_residual-in_err-ask_calls.ensures.1 in
    rw (p.1, p.2) (refused (reading b) _ Call 6 8 (omega arith) (λ _. refl) (λ _. refl) (chains_pass b c.in_ok-leading.leading.file.now same c.in_ok-parsed.ensures.answer (known_pointers _ c.in_ok-leading.leading.pointers) c.in_ok-ask_chains.ensures) (rw same at c.in_err-ask_calls.ensures))

pub returns-in_err-ask_windows-clause-answer : goal.returns-in_err-ask_windows-clause-answer
returns-in_err-ask_windows-clause-answer c =
    let b = c.args.bytes.now in
    let same = c.in_ok-leading.ensures.same ∙ c.in_ok-parsed.ensures.value in
    let p = err_from_is_err_and c.from_residual-in_err-ask_windows.result c.from_residual-in_err-ask_windows.ensures.1 in
    rw (p.1, p.2) (refused (reading b) _ Window 7 8 (omega arith) (λ _. refl) (λ _. refl) (calls_pass b c.in_ok-leading.leading.file.now same c.in_ok-parsed.ensures.answer (known_pointers _ c.in_ok-leading.leading.pointers) c.in_ok-ask_chains.ensures c.in_ok-ask_calls.ensures) (rw same at c.in_err-ask_windows.ensures))

-- the file that passes is sound
pub invariant_of-place : goal.invariant_of-place
invariant_of-place c =
    let f = c.in_ok-leading.leading.file.now in
    let same : f ≡ c.in_ok-parsed.parsed.file = c.in_ok-leading.ensures.same in
    record {
      sound = ∣ rw (← same) (record {
        parsed = known_parsed f c.in_ok-leading.leading.parsed;
        pointers = known_pointers f c.in_ok-leading.leading.pointers;
        chains = c.in_ok-ask_chains.ensures;
        calls = c.in_ok-ask_calls.ensures;
        windows = c.in_ok-ask_windows.ensures;
      }) ∣₁;
    }

pub returns-clause-answer : goal.returns-clause-answer
returns-clause-answer c =
    let b = c.args.bytes.now in
    let same = c.in_ok-leading.ensures.same ∙ c.in_ok-parsed.ensures.value in
    windows_pass b c.in_ok-leading.leading.file.now same c.in_ok-parsed.ensures.answer (known_pointers _ c.in_ok-leading.leading.pointers) c.in_ok-ask_chains.ensures c.in_ok-ask_calls.ensures c.in_ok-ask_windows.ensures
