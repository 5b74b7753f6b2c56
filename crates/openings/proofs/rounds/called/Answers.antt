use Rattle.std.proofs.Common.{rules, ◌≡◌, arith}
use Rattle.std.proofs.lemmas.List.{get_or_past}
use Rattle.openings.specs.Clauses.{body_at}
use Rattle.openings.specs.Shapes.{lost_shape}
use Rattle.openings.specs.Rounds.{of}
use Rattle.openings.proofs.Indexed.{made_each}
use Rattle.openings.proofs.rounds.called.Goals as goal

pub returns : goal.returns
returns c =
    let made = c.from_fn.ensures.items in
    record {
      named = λ k small. made_each _ _ c.from_fn.result 17 (λ i y. y ≡ of c.args.shapes.now (body_at c.args.file.now i)) (λ i y q within call. search rules) made k lost_shape small;
      past = λ k h. get_or_past c.from_fn.result k lost_shape (omega (arith, made.long));
    }
