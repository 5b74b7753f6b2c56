use Rattle.std.proofs.Common.{ap, ◌∙◌}
use Rattle.contract_file.specs.declared.files.File.{File}
use Rattle.openings.specs.Shapes.{size}
use Rattle.openings.specs.Rounds.{of}
use Rattle.openings.proofs.Facts.{known_openings}
use Rattle.approval.proofs.Sizes.{size_told}
use Rattle.held.proofs.foreseen.Foreseen.nodes.Goals as goal

pub returns : goal.returns
returns c =
    let self = c.args.self.now in
    let table = self.prospect.openings.shapes in
    let file = self.prospect.openings.read.file in
    c.size.ensures ∙ ap size c.at.ensures.same
    ∙ ap (λ (f : File). size (of table f.contract)) c.file.ensures
    ∙ size_told file self.day table (known_openings file table self.prospect.openings.known) self.small
