use Rattle.std.proofs.Common.{◌≡◌, ◌+◌, ◌<◌, ◌++◌, length, drop, is_some, Some, None, sym, ap, ◌∙◌, subst, rules, arith}
use Rattle.std.proofs.lemmas.List.{take_all, length-drop}
use Rattle.std.proofs.lemmas.Result.{err_from_is_err_and}
use Rattle.std.proofs.lemmas.Bool.{false≢true}
use Rattle.std.specs.Slice.Iter.{chunks_exact_rest}
use Rattle.contract_file.specs.declared.faults.Fault.TheVariants.{Unlisted}
use Rattle.entries.specs.Layout.{entry_of}
use Rattle.entries.specs.Parts.{ListedIf}
use Rattle.contract_file.specs.Files.{bytes_of}
use Rattle.contract_file.proofs.Filled.{Filled, next_bytes, none_filled, one_filled, all_filled, all_listed}
use Rattle.contract_file.proofs.reading.table.Goals as goal

-- Kept in each answer: each has a view of the function's steps of its own, to which the lemma has to be applied.

pub loop-i-init : goal.loop-i-init
loop-i-init c =
    let b = c.args.bytes.now in
    let count : c.into_iter-i-iterator.result.count ≡ 0 = search rules in
    let rest : chunks_exact_rest c.into_iter-i-iterator.result.iter ≡ drop 8 b = ap (λ s. chunks_exact_rest s.iter) c.into_iter-i-iterator.ensures.into_iter_gives ∙ ap chunks_exact_rest c.enumerate-i-items.ensures.source ∙ c.chunks_exact.ensures.rest ∙ take_all _ (drop 8 b) (omega (arith, length-drop 8 b)) in
    (search rules, tt, search rules, rw (count, rest) (none_filled b c.requires))

pub loop-i-preserved : goal.loop-i-preserved
loop-i-preserved c =
    let b = c.args.bytes.now in
    let i = c.in-Some.i in
    let entry = c.in-Some.entry.now in
    let step = c.in-Some.ensures.steps in
    let sixteen = c.loop-i.invariant.2 in
    let filled : Filled b i (entry ++ chunks_exact_rest c.next.new.self.iter) c.loop-i.entries = rw (step.1, ← (step.0.1.0)) c.loop-i.invariant.3 in
    let told = c.in_ok-entries.ensures.value in
    let some : c.decode.result ≡ Some c.in_ok-entries.field-0 = grind arith in
    let count : c.next.new.self.count ≡ i + 1 = omega (arith, step.1, step.2) in (
      search rules,
      tt,
      step.0.0 ∙ sixteen,
      rw count (one_filled b c.requires i entry _ _ _ filled (step.0.1.1 ∙ sixteen) (sym c.decode.ensures.value ∙ some) (subst ListedIf some c.decode.ensures.listed)),
    )

pub returns-in_err-entries-clause-answer : goal.returns-in_err-entries-clause-answer
returns-in_err-entries-clause-answer c =
    let b = c.args.bytes.now in
    let i = c.in-Some.i in
    let entry = c.in-Some.entry.now in
    let step = c.in-Some.ensures.steps in
    let sixteen = c.loop-i.invariant.2 in
    let filled : Filled b i (entry ++ chunks_exact_rest c.next.new.self.iter) c.loop-i.entries = rw (step.1, ← (step.0.1.0)) c.loop-i.invariant.3 in
    let next = next_bytes b c.requires i entry _ (sym filled.left) (step.0.1.1 ∙ sixteen) in
    let is : c.decode.result ≡ entry_of (bytes_of b (i + 1)) = c.decode.ensures.value ∙ ap entry_of next.own in
    let told = c.in_err-entries.ensures.value in
    let none : c.decode.result ≡ None = grind arith in
    let fault : c.in_err-entries.field-0.0 ≡ Unlisted (i + 1) = grind arith in
    let p = err_from_is_err_and c.from_residual.result c.from_residual.ensures.1 in
    rw (p.1, p.2) (
      i + 1,
      fault,
      record {
        broken = λ good. false≢true (ap is_some (sym none ∙ is) ∙ good (omega arith) (omega (arith, next.within)));
        below = filled.listed;
      },
    )

pub returns : goal.returns
returns c =
    let b = c.args.bytes.now in
    let step = c.in-None.ensures.steps in
    let sixteen = c.loop-i.invariant.2 in
    let filled = c.loop-i.invariant.3 in
    let few : length (chunks_exact_rest c.loop-i.i-iterator.iter) < 16 = omega (arith, step.0.1.0, sixteen) in
    record {
      answer = all_listed b c.requires _ _ _ filled few;
      value = all_filled b c.requires _ _ _ filled few;
      listed = filled.values;
    }
