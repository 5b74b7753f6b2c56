use Rattle.std.proofs.Common.{replicate, subst, arith}
use Rattle.contract_file.specs.declared.files.File.{File}
use Rattle.contract_file.proofs.Facts.{known_sound}
use Rattle.openings.specs.Rounds.{Called}
use Rattle.openings.specs.Shapes.{lost_shape}
use Rattle.openings.proofs.Guarding.{guarded}
use Rattle.openings.proofs.Opened.{none_known, calls_none, calls_more, all_known, all_told}
use Rattle.openings.proofs.Unfolding.{leading}
use Rattle.openings.proofs.rounds.openings.Goals as goal

pub loop-init : goal.loop-init
loop-init c = calls_none c.args.read.now.file (replicate 17 lost_shape) (none_known 17)

pub loop-preserved : goal.loop-preserved
loop-preserved c =
    calls_more c.args.read.now.file (leading _ (known_sound _ c.args.read.now.sound)) c.loop.counter c.loop.calls _ _ c.loop.invariant c.pass-shapes.ensures
    (subst (λ (f : File). Called f c.pass-shapes.result c.called-calls.result) c.file.ensures.same c.called-calls.ensures)

pub returns : goal.returns
returns c =
    let known = all_known c.args.read.now.file c.loop.counter c.loop.calls _ (omega arith) c.loop.invariant c.pass.ensures in
    record { value = all_told c.args.read.now.file _ c.pass.ensures.0 known; known = known; guarded = guarded _ (known_sound _ c.args.read.now.sound) }
