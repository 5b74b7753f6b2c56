use Rattle.std.proofs.Common.{◌≡◌, ◌<◌, ltb, length, Decides, IsTrue, MatchOption, sym, ◌∙◌, inl, inr, rules, tests, arith}
use Rattle.std.proofs.lemmas.Bool.Decides.{Decides-ltb}
use Rattle.entries.specs.Parts.{at}
use Rattle.entries.specs.declared.entries.Entry.TheVariants.{Lost}
use Rattle.contract_file.specs.Marks.{mark}
use Rattle.contract_file.specs.Floors.{Exceeds}
use Rattle.contract_file.proofs.Everywhere.{before_end}
use Rattle.contract_file.proofs.Flooring.{decides_above}
use Rattle.contract_file.proofs.Optional.{decides_if_some}
use Rattle.contract_file.proofs.chains.rising.Goals as goal

pub returns-in-Condition : goal.returns-in-Condition
returns-in-Condition c =
    let b = c.is_none_or.result in
    let f = c.args.file.now in
    let i = c.args.i in
    let rank = c.in-Condition.rank in
    let told : MatchOption c.of.result (IsTrue b) (λ m. b ≡ ltb m rank) = search (rules, tests) in
    let over : Decides b (Exceeds (mark c.args.floors.now.marks i) rank) = rw (← c.of.ensures) (decides_if_some c.of.result b (λ m b. b ≡ ltb m rank) (λ m. m < rank) told (λ m k. rw k (Decides-ltb m rank))) in
    let long : length f.entries ≡ 257 = omega arith in
    let some : at f.entries i ≡ Lost → ⊥ = λ lost. elim c.in-Condition.is [ inl (test, next, is) ↦ (cc) | inr (value, next, is) ↦ (cc) ] in
    let small = before_end f.entries i some in
    let both = decides_above f long c.args.floors.now.marks c.requires i (omega arith) rank b over in
    elim c.in-Condition.is [ inl (test, next, is) ↦ rw (sym c.at.ensures ∙ is) both | inr (value, next, is) ↦ rw (sym c.at.ensures ∙ is) both ]
