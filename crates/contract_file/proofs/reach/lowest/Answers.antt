use Rattle.std.proofs.Common.{◌≡◌, refl, arith}
use Rattle.std.proofs.lemmas.Fn.{says_at}
use Rattle.entries.specs.Parts.{at}
use Rattle.contract_file.proofs.Ahead.{one_passed}
use Rattle.contract_file.proofs.Facts.{known_parsed, known_pointers}
use Rattle.contract_file.proofs.Spreading.{none_passed, all_passed}
use Rattle.contract_file.proofs.reach.lowest.Goals as goal

pub loop-i-init : goal.loop-i-init
loop-i-init g c = rw c.none-lowest.ensures (none_passed _ _)

pub loop-i-preserved : goal.loop-i-preserved
loop-i-preserved g c =
    let f = c.args.leading.now.file.now in
    let parsed = known_parsed f c.args.leading.now.parsed in
    let onward : c.onward.result ≡ g.way (at f.entries c.loop-i.i) = c.requires.1.1.0 _ c.onward.result (says_at g.F.Fn c.onward.ensures refl) in
    rw (c.hand_on.ensures, onward, c.begin.ensures) (one_passed f parsed.few parsed.nowhere (known_pointers f c.args.leading.now.pointers) g.way c.requires.1.1.1 _ c.loop-i.i c.loop-i.invariant)

pub returns : goal.returns
returns g c =
    let parsed = known_parsed _ c.args.leading.now.parsed in
    all_passed g.way _ c.requires.1.1.1 parsed.nowhere _ c.loop-i.i (omega (arith, parsed.long)) c.loop-i.invariant
