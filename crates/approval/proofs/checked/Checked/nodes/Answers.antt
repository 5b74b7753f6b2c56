use Rattle.std.proofs.Common.{ap, ◌∙◌}
use Rattle.contract_file.specs.declared.files.File.{File}
use Rattle.openings.specs.Shapes.{size}
use Rattle.openings.specs.Rounds.{of}
use Rattle.openings.proofs.Facts.{known_openings}
use Rattle.approval.proofs.Sizes.{size_told}
use Rattle.approval.proofs.checked.Checked.nodes.Goals as goal

pub returns : goal.returns
returns c =
    let self = c.args.self.now in
    let file = self.openings.read.file in
    let shapes = self.openings.shapes in
    c.size.ensures ∙ ap size c.at.ensures.same ∙ ap (λ (f : File). size (of shapes f.contract)) c.file.ensures
    ∙ size_told file self.day shapes (known_openings file shapes self.openings.known) self.small
