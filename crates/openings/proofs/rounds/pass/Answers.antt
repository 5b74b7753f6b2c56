use Rattle.std.proofs.Common.{◌≡◌, rules, length, ap, ◌∙◌, subst}
use Rattle.contract_file.specs.declared.files.File.{File}
use Rattle.contract_file.proofs.Facts.{known_sound}
use Rattle.entries.specs.Parts.{at}
use Rattle.openings.specs.Shapes.{lost_shape}
use Rattle.openings.specs.Rounds.{entry_shape, Passed}
use Rattle.openings.proofs.Downward.{filled_is}
use Rattle.openings.proofs.Opened.{all_shapes, all_shapes_long, entry_shape_is, passed}
use Rattle.openings.proofs.Unfolding.{leading}
use Rattle.openings.proofs.rounds.pass.Goals as goal

pub returns : goal.returns
returns c =
    let f = c.file-file.result.now in
    let calls = c.args.calls.now in
    let up = leading f (known_sound f c.file-file.ensures.sound) in
    let long : length c.fill_from_last.result ≡ 257 = search rules in
    subst (λ (g : File). Passed g calls 0 c.fill_from_last.result) c.file-file.ensures.same
    (passed f up calls c.fill_from_last.result (filled_is _ _ lost_shape (all_shapes f up calls) c.fill_from_last.result (all_shapes_long f up calls) long c.fill_from_last.ensures
    (λ i v small given.
    let is : v ≡ entry_shape given.seen.now calls (at f.entries i) = search rules in
    is ∙ ap (λ s. entry_shape s calls (at f.entries i)) given.shows ∙ entry_shape_is f up calls i)))
