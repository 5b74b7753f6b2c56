use Rattle.std.proofs.Common.{◌≡◌, ◌<◌, ltb, Decides, IsTrue, MatchOption, sym, ◌∙◌, rules, tests, arith}
use Rattle.std.proofs.lemmas.Bool.Decides.{Decides-ltb, Decides-like}
use Rattle.entries.specs.Parts.{sides}
use Rattle.contract_file.specs.Marks.{mark}
use Rattle.contract_file.proofs.Everywhere.{numbered}
use Rattle.contract_file.proofs.Facts.{known_parsed}
use Rattle.contract_file.proofs.Optional.{decides_if_some}
use Rattle.contract_file.proofs.Spreading.{Under, decides_below}
use Rattle.contract_file.proofs.calls.call_right.Goals as goal

pub returns-then-template_at-gt0 : goal.returns-then-template_at-gt0
returns-then-template_at-gt0 c =
    let b = c.is_none_or.result in
    let f = c.args.leading.now.file.now in
    let es = f.entries in
    let i = c.args.i in
    let marks = c.args.bare.now.marks in
    let template = c.in-Call.template in
    let is = sym c.at.ensures ∙ c.in-Call.is in
    let there = numbered es i (λ lost. cc) (known_parsed f c.args.leading.now.parsed).nowhere in
    let told : MatchOption c.of.result (IsTrue b) (λ m. b ≡ ltb template m) = search (rules, tests) in
    let under : Decides b (Under template (mark marks i)) = rw (← c.of.ensures) (decides_if_some c.of.result b (λ m b. b ≡ ltb template m) (λ m. template < m) told (λ m k. rw k (Decides-ltb template m))) in
    rw is (Decides-like b (λ below. record { named = omega arith; below = below }) (λ right. right.below) (decides_below sides es marks c.requires i there template b under))
