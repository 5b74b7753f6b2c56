use Rattle.std.proofs.Common.{◌≡◌, ◌+◌, rules, None}
use Rattle.contract_file.proofs.Facts.{known_sound}
use Rattle.openings.specs.Clauses.{body_at}
use Rattle.spans.specs.Rounds.{of}
use Rattle.openings.proofs.Indexed.{made_each}
use Rattle.spans.proofs.Settling.{round_is}
use Rattle.spans.proofs.rounds.round.Goals as goal

pub returns : goal.returns
returns c =
    let f = c.args.read.now.file in
    round_is f (known_sound f c.args.read.now.sound) c.args.durations.now c.pass-lasts.result c.from_fn.result c.pass-lasts.ensures c.from_fn.ensures.items.long
    (λ k small. made_each _ _ c.from_fn.result 16 (λ i y. y ≡ of c.pass-lasts.result (body_at f (i + 1))) (λ i y q within call. search rules) c.from_fn.ensures.items k None small)
