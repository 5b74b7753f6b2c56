use Rattle.std.proofs.Common.{◌≡◌, rules, None, length, ap, ◌∙◌}
use Rattle.contract_file.proofs.Facts.{known_sound}
use Rattle.entries.specs.Parts.{at}
use Rattle.openings.proofs.Unfolding.{leading}
use Rattle.openings.proofs.Downward.{filled_is}
use Rattle.spans.specs.Rounds.{entry_lasts}
use Rattle.spans.proofs.Lasting.{all_last, all_last_long, entry_lasts_is, passed}
use Rattle.spans.proofs.passes.pass.Goals as goal

pub returns : goal.returns
returns c =
    let f = c.args.read.now.file in
    let D = c.args.durations.now in
    let up = leading f (known_sound f c.args.read.now.sound) in
    let long : length c.fill_from_last.result ≡ 257 = search rules in
    passed f up D c.fill_from_last.result (filled_is _ _ None (all_last f up D) c.fill_from_last.result (all_last_long f up D) long c.fill_from_last.ensures
    (λ i v small given.
    let is : v ≡ entry_lasts given.seen.now D (at f.entries i) = search rules in
    is ∙ ap (λ s. entry_lasts s D (at f.entries i)) given.shows ∙ entry_lasts_is f up D i))
