use Rattle.std.proofs.Common.{List, get_or, ◌∙◌, ◌-◌, ap, arith}
use Rattle.contract_file.specs.declared.files.File.{File}
use Rattle.contract_file.proofs.Facts.{known_sound}
use Rattle.entries.specs.Parts.{at}
use Rattle.spans.specs.declared.spans.Span.{Span}
use Rattle.spans.specs.declared.spans.Span.TheVariants.{Never}
use Rattle.horizon.proofs.Telling.{none_stands, row_stands, no_row_stands}
use Rattle.horizon.proofs.horizon.Horizon.over.Goals as goal

pub loop-number-init : goal.loop-number-init
loop-number-init c =
    none_stands c.args.read.now.file (known_sound _ c.args.read.now.sound) c.entry_spans-spans.result c.in_ok-rows.rows.items c.entry_spans-spans.ensures c.in_ok-rows.ensures.items

pub loop-number-preserved-in-Continue-branch-2 : goal.loop-number-preserved-in-Continue-branch-2
loop-number-preserved-in-Continue-branch-2 c =
    row_stands c.args.read.now.file (known_sound _ c.args.read.now.sound) c.loop-number.horizon.spans c.loop-number.horizon.rows.items (c.loop-number.number - 1) _ (omega arith) (omega arith) c.loop-number.invariant
    c.in-ByDay.field-0 c.at.result c.push_row.new.self.spans c.push_row.new.self.rows.items
    (c.in-ByDay.ensures ∙ ap (λ (s : List Span). get_or s (c.loop-number.number - 1) Never) c.entry_spans-spans.ensures)
    (c.at.ensures ∙ ap (λ (f : File). at f.entries (c.loop-number.number - 1)) c.file-file.ensures.same) c.push_row.ensures.spans c.in_ok-push_row.ensures.row

pub loop-number-preserved : goal.loop-number-preserved
loop-number-preserved c =
    no_row_stands c.args.read.now.file (known_sound _ c.args.read.now.sound) c.loop-number.horizon.spans c.loop-number.horizon.rows.items (c.loop-number.number - 1) _ (omega arith) (omega arith) c.loop-number.invariant
    (λ row h. c.in_default.not-ByDay row (c.span_at.ensures ∙ ap (λ (s : List Span). get_or s (c.loop-number.number - 1) Never) c.entry_spans-spans.ensures ∙ h))
