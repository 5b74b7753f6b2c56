use Rattle.std.proofs.Common.{rules, arith}
use Rattle.contract_file.specs.declared.faults.Fault.TheVariants.{Inadmissible}
use Rattle.contract_file.proofs.Asked.{asked}
use Rattle.contract_file.proofs.Everywhere.{past_end}
use Rattle.contract_file.proofs.Facts.{known_sound}
use Rattle.answers.specs.Approving.{Admitted, Conditions}
use Rattle.approval.proofs.approving.ask_conditions.Goals as goal

pub returns : goal.returns
returns g c =
    let f = c.file-file.result.now in
    let admits = g.K.Kind.meaning.admits in
    let parsed = (known_sound f c.file-file.ensures.sound).parsed in
    rw (← c.file-file.ensures.same) (asked (Conditions admits f) Inadmissible _ _ (λ i ge. past_end f.entries (Admitted admits) tt i (omega (arith, parsed.long))) (λ i b k. search rules) (λ i e k. search rules) _ c.ask_each.ensures)
