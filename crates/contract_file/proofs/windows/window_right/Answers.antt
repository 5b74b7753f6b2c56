use Rattle.std.proofs.Common.{is_some, sym, ap, ◌∙◌}
use Rattle.std.proofs.lemmas.Bool.Decides.{Decides-like}
use Rattle.entries.specs.Parts.{pointers}
use Rattle.contract_file.proofs.Everywhere.{numbered}
use Rattle.contract_file.proofs.Facts.{known_parsed}
use Rattle.contract_file.proofs.Spreading.{decides_unreached}
use Rattle.contract_file.proofs.windows.window_right.Goals.{in-FromBase, in_default-matches}
use Rattle.contract_file.proofs.windows.window_right.Goals as goal

pub returns-else-matches : goal.returns-else-matches
returns-else-matches c =
    let f = c.args.leading.now.file.now in
    let es = f.entries in
    let i = c.args.i in
    let is = sym c.at.ensures ∙ c.in-Step.is in
    let there = numbered es i (λ lost. cc) (known_parsed f c.args.leading.now.parsed).nowhere in
    let unreached = decides_unreached pointers es c.args.reached.now.marks c.requires i there c.is_none.result (ap is_some (sym c.of.ensures) ∙ c.is_none.ensures) in
    elim c.match-matches.branch [
      | in-FromBase w ↦ (cc)
      | in_default-matches w ↦ (
          rw is (Decides-like c.is_none.result
          (λ apart. record { order = c.if-window-le-LAST_DAY.true.0; limit = c.if-window-le-LAST_DAY.true.1; apart = λ _. apart })
          (λ right. right.apart w.in_default-matches.is)
          unreached))
    ]
