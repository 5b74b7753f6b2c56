use Rattle.std.proofs.Common.{Ok, Err, refl, ap, ◌∙◌, subst, arith}
use Rattle.std.proofs.lemmas.Result.{err_from_is_err_and}
use Rattle.contract_file.specs.declared.files.File.{File}
use Rattle.contract_file.specs.Asking.{Refused}
use Rattle.contract_file.proofs.Passing.{Below}
use Rattle.openings.specs.Shapes.{openings_of}
use Rattle.answers.specs.Approving.{approving}
use Rattle.answers.proofs.Answering.{is_computed}
use Rattle.approval.proofs.Joining.{refused_reading, refused_approving, all_pass}
use Rattle.approval.proofs.checking.check.Goals as goal

pub returns-in_err-read : goal.returns-in_err-read
returns-in_err-read g c =
    let number = g.K.Kind.numbered c.args.kind.now in
    let admits = g.K.Kind.meaning.admits in
    let day = c.args.day in
    let answer = refused_reading number admits day c.args.bytes.now _ c.in_err-read.ensures.answer in
    let p = err_from_is_err_and c.from_residual.result c.from_residual.ensures.1 in
    rw (p.1, p.2) (record { answer = answer; value = is_computed number admits day c.args.bytes.now (Err _) answer; after = refl })

pub returns-in_err-shapes : goal.returns-in_err-shapes
returns-in_err-shapes g c =
    let number = g.K.Kind.numbered c.args.kind.now in
    let admits = g.K.Kind.meaning.admits in
    let day = c.args.day in
    let same = c.in_ok-read.ensures.after in
    let refused = subst (λ (f : File). Refused (approving number admits day f) 12 c.in_err-shapes.field-0.0) same c.in_err-shapes.ensures.answer in
    let answer = refused_approving number admits day c.args.bytes.now _ c.in_ok-read.ensures.answer refused in
    let p = err_from_is_err_and c.from_residual-in_err-shapes.result c.from_residual-in_err-shapes.ensures.1 in
    rw (p.1, p.2) (record { answer = answer; value = is_computed number admits day c.args.bytes.now (Err _) answer; after = refl })

pub invariant_of-openings : goal.invariant_of-openings
invariant_of-openings g c = record { known = ∣ c.in_ok-shapes.ensures.known ∣₁ }

-- behind all questions, the contract is small and the day early
pub invariant_of-place : goal.invariant_of-place
invariant_of-place g c =
    let passed = c.in_ok-shapes.ensures.answer in
    record { early = passed 11 (omega arith) 0 refl; small = passed 10 (omega arith) 0 refl }

pub returns : goal.returns
returns g c =
    let number = g.K.Kind.numbered c.args.kind.now in
    let admits = g.K.Kind.meaning.admits in
    let day = c.args.day in
    let same = c.in_ok-read.ensures.after in
    let passed = subst (λ (f : File). Below (approving number admits day f) 12) same c.in_ok-shapes.ensures.answer in
    let answer = all_pass number admits day c.args.bytes.now c.in_ok-read.ensures.answer passed in
    record {
      answer = answer;
      value = is_computed number admits day c.args.bytes.now (Ok tt) answer;
      after = ap (λ s. record { file = c.read.new.place.file; day = day; openings = s }) c.in_ok-shapes.ensures.value ∙ ap (λ (f : File). record { file = f; day = day; openings = openings_of f }) same;
    }
