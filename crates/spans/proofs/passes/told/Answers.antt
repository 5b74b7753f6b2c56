use Rattle.std.proofs.Common.{◌≡◌, ◌-◌, length, ap, sym, ◌∙◌, arith, rules}
use Rattle.contract_file.specs.declared.files.File.{File}
use Rattle.entries.specs.Parts.{at}
use Rattle.spans.specs.Spans.{lasting}
use Rattle.contract_file.proofs.Facts.{known_sound}
use Rattle.openings.proofs.Unfolding.{leading}
use Rattle.spans.proofs.Telling.{few_rows, rows_none, told_none, told_dated, told_undated}
use Rattle.spans.proofs.passes.told.Goals as goal

pub loop-at-init : goal.loop-at-init
loop-at-init c =
    let f = c.args.read.now.file in
    let long : length c.args.lasts.now ≡ 257 = search rules in
    (told_none f (leading f (known_sound f c.args.read.now.sound)) c.args.lasts.now long, rows_none f)

pub overflow_add-rows : goal.overflow_add-rows
overflow_add-rows c = omega (arith, c.loop-at.invariant.1, few_rows c.args.read.now.file (257 - c.loop-at.at) c.loop-at.at)

pub loop-at-preserved-then-is_dated : goal.loop-at-preserved-then-is_dated
loop-at-preserved-then-is_dated c =
    let f = c.args.read.now.file in
    told_dated f (leading f (known_sound f c.args.read.now.sound)) c.args.lasts.now c.loop-at.spans _ c.loop-at.at c.loop-at.rows c.at.result (omega arith) (omega arith) c.loop-at.invariant.0 c.loop-at.invariant.1
    (c.at.ensures ∙ ap (λ (g : File). at g.entries (c.loop-at.at - 1)) c.file-file.ensures.same) (sym c.is_dated.ensures ∙ c.if-is_dated.true)

pub loop-at-preserved : goal.loop-at-preserved
loop-at-preserved c =
    let f = c.args.read.now.file in
    told_undated f (leading f (known_sound f c.args.read.now.sound)) c.args.lasts.now c.loop-at.spans _ c.loop-at.at c.loop-at.rows c.at.result c.from.result (omega arith) (omega arith) c.loop-at.invariant.0 c.loop-at.invariant.1
    (c.at.ensures ∙ ap (λ (g : File). at g.entries (c.loop-at.at - 1)) c.file-file.ensures.same) (sym c.is_dated.ensures ∙ c.if-is_dated.false) (c.from.ensures ∙ ap lasting c.days_at.ensures)
