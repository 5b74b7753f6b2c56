use Rattle.std.proofs.Common.{◌≡◌, ◌+◌, ◌<◌, length, refl, ap, ◌∙◌, arith}
use Rattle.language.specs.Terms.{nodes}
use Rattle.openings.specs.Shapes as shapes
use Rattle.terms.proofs.Writing.{some_nodes, longer, retold, write_lost, write_choice, write_both, write_follow}
use Rattle.residuals.specs.declared.rests.Side.TheVariants as side
use Rattle.residuals.specs.Marked.{nodes_of}
use Rattle.residuals.specs.Weights.{weight_in}
use Rattle.residuals.specs.Rests.{left_of, side_term}
use Rattle.residuals.proofs.Copying.{copied_long, copied}
use Rattle.residuals.proofs.Resting.{rests, either_written, halved, halved_some, whole, in_table, left_size, side_size, both_size, left_fits, both_fits}
use Rattle.residuals.proofs.weighed.Weighed.+build_build_both_build_side.Goals as goal

-- Kept in each answer: each has a view of the function's steps of its own, to which the lemma has to be applied.

pub build-build-requires : goal.build-build-requires
build-build-requires t c =
    let v = c.args.self.now in
    let x = c.requires.ready in
    let p = rests v c.args.at x _ c.in-Only.ensures in
    (omega (arith, p.low, in_table v c.args.at x), (p.part, omega (arith, c.requires.room, left_size v _ x, left_size v _ p.part, ap nodes p.is)))

pub build-build-requires-in-Choice : goal.build-build-requires-in-Choice
build-build-requires-in-Choice t c =
    let v = c.args.self.now in
    let x = c.requires.ready in
    let p = rests v c.args.at x _ c.in-Choice.ensures in
    let room = left_fits v _ c.args.at x c.requires.room in
    (omega (arith, p.parts.low, in_table v c.args.at x), (p.parts.left, omega (arith, c.requires.room, left_size v _ x, left_size v _ p.parts.left, ap nodes p.is, c.push-in-Choice.ensures.len room)))

pub build-build-requires-in-Choice-2 : goal.build-build-requires-in-Choice-2
build-build-requires-in-Choice-2 t c =
    let v = c.args.self.now in
    let x = c.requires.ready in
    let p = rests v c.args.at x _ c.in-Choice.ensures in
    let room = left_fits v _ c.args.at x c.requires.room in
    let first = longer _ _ _ _ (c.build-in-Choice.ensures p.parts.left) in
    (omega (arith, p.parts.low, p.parts.between, in_table v c.args.at x), (p.parts.right, omega (arith, c.requires.room, left_size v _ x, left_size v _ p.parts.right, ap nodes p.is, c.push-in-Choice.ensures.len room, first)))

pub build-build_both-requires : goal.build-build_both-requires
build-build_both-requires t c =
    let v = c.args.self.now in
    let x = c.requires.ready in
    let p = rests v c.args.at x _ c.in-Both.ensures in
    (omega (arith, p.parts.low, in_table v c.args.at x), (p.parts.between, (p.parts.left, (p.parts.right, omega (arith, c.requires.room, left_size v _ x, both_size v c.in-Both.left c.in-Both.right p.parts.left p.parts.right, ap nodes p.is)))))

pub build-build_both-requires-in-Either : goal.build-build_both-requires-in-Either
build-build_both-requires-in-Either t c =
    let v = c.args.self.now in
    let x = c.requires.ready in
    let p = rests v c.args.at x _ c.in-Either.ensures in
    let room = left_fits v _ c.args.at x c.requires.room in
    let l = c.in-Either.left in
    let r = c.in-Either.right in
    let size = both_size v (side.Taken l) (side.Kept r) p.parts.left p.parts.right in
    (omega (arith, p.parts.low, in_table v c.args.at x), (p.parts.between, (p.parts.left, (p.parts.right, omega (arith, c.requires.room, left_size v _ x, size, ap nodes p.is, c.push-in-Either.ensures.len room)))))

pub build-build_both-requires-in-Either-2 : goal.build-build_both-requires-in-Either-2
build-build_both-requires-in-Either-2 t c =
    let v = c.args.self.now in
    let x = c.requires.ready in
    let p = rests v c.args.at x _ c.in-Either.ensures in
    let room = left_fits v _ c.args.at x c.requires.room in
    let l = c.in-Either.left in
    let r = c.in-Either.right in
    let size = both_size v (side.Kept l) (side.Taken r) p.parts.left p.parts.right in
    let first = longer _ _ _ _ (c.build_both-in-Either.ensures p.parts.left p.parts.right) in
    (omega (arith, p.parts.low, in_table v c.args.at x), (p.parts.between, (p.parts.left, (p.parts.right, omega (arith, c.requires.room, left_size v _ x, size, ap nodes p.is, c.push-in-Either.ensures.len room, first)))))

pub build-build-requires-in-Follow : goal.build-build-requires-in-Follow
build-build-requires-in-Follow t c =
    let v = c.args.self.now in
    let x = c.requires.ready in
    let p = rests v c.args.at x _ c.in-Follow.ensures in
    let room = left_fits v _ c.args.at x c.requires.room in
    (omega (arith, in_table v c.args.at x), (p.part, omega (arith, c.requires.room, left_size v _ x, left_size v _ p.part, ap nodes p.is, c.push-in-Follow.ensures.len room)))

pub build-build-requires-in-Skip : goal.build-build-requires-in-Skip
build-build-requires-in-Skip t c =
    let v = c.args.self.now in
    let x = c.requires.ready in
    let p = rests v c.args.at x _ c.in-Skip.ensures in
    let room = left_fits v _ c.args.at x c.requires.room in
    let next : length c.push-in-Skip.new.self.items < 256 = omega (arith, c.requires.room, left_size v c.args.at x, ap nodes p.is, some_nodes (left_of p.part), c.push-in-Skip.ensures.len room) in
    (omega (arith, in_table v c.args.at x), (p.part, omega (arith, c.requires.room, left_size v _ x, left_size v _ p.part, ap nodes p.is, c.push-in-Skip.ensures.len room, c.push-in-Skip-2.ensures.len next)))

pub build-returns-in-Lost : goal.build-returns-in-Lost
build-returns-in-Lost t c x =
    let room = left_fits c.args.self.now _ c.args.at x c.requires.room in
    retold _ _ _ _ _ (rests c.args.self.now c.args.at x _ c.in-Lost.ensures) (write_lost _ _ _ (c.push.ensures.items room))

pub build-returns-in-Open : goal.build-returns-in-Open
build-returns-in-Open t c x =
    let p = rests c.args.self.now c.args.at x _ c.in-Open.ensures in
    retold _ _ _ _ _ p (c.open_clause.ensures (omega (arith, c.requires.room, left_size c.args.self.now _ x, ap nodes p)))

pub build-returns-in-Only : goal.build-returns-in-Only
build-returns-in-Only t c x =
    let p = rests c.args.self.now c.args.at x _ c.in-Only.ensures in
    retold _ _ _ _ _ p.is (c.build.ensures p.part)

pub build-returns-in-Choice : goal.build-returns-in-Choice
build-returns-in-Choice t c x =
    let p = rests c.args.self.now c.args.at x _ c.in-Choice.ensures in
    let room = left_fits c.args.self.now _ c.args.at x c.requires.room in
    retold _ _ _ _ _ p.is (write_choice _ _ _ _ _ _ _ (c.push-in-Choice.ensures.items room) (c.build-in-Choice.ensures p.parts.left) (c.build-in-Choice-2.ensures p.parts.right))

pub build-returns-in-Both : goal.build-returns-in-Both
build-returns-in-Both t c x =
    let p = rests c.args.self.now c.args.at x _ c.in-Both.ensures in
    retold _ _ _ _ _ p.is (c.build_both.ensures p.parts.left p.parts.right)

pub build-returns-in-Either : goal.build-returns-in-Either
build-returns-in-Either t c x =
    let room = left_fits c.args.self.now _ c.args.at x c.requires.room in
    either_written c.args.self.now c.args.at x _ _ _ _ _ _ (rests c.args.self.now c.args.at x _ c.in-Either.ensures)
    (c.push-in-Either.ensures.items room) c.build_both-in-Either.ensures c.build_both-in-Either-2.ensures

pub build-returns-in-Follow : goal.build-returns-in-Follow
build-returns-in-Follow t c x =
    let p = rests c.args.self.now c.args.at x _ c.in-Follow.ensures in
    let room = left_fits c.args.self.now _ c.args.at x c.requires.room in
    retold _ _ _ _ _ p.is (write_follow _ _ _ _ _ _ _ _ refl (c.push-in-Follow.ensures.items room) (c.build-in-Follow.ensures p.part))

pub build-returns-in-Skip : goal.build-returns-in-Skip
build-returns-in-Skip t c x =
    let v = c.args.self.now in
    let p = rests c.args.self.now c.args.at x _ c.in-Skip.ensures in
    let room = left_fits v _ c.args.at x c.requires.room in
    let next : length c.push-in-Skip.new.self.items < 256 = omega (arith, c.requires.room, left_size v c.args.at x, ap nodes p.is, some_nodes (left_of p.part), c.push-in-Skip.ensures.len room) in
    let followed = write_follow _ _ _ _ _ _ _ _ refl (c.push-in-Skip-2.ensures.items next) (c.build-in-Skip.ensures p.part) in
    let clause = c.open_clause-in-Skip.ensures (omega (arith, c.requires.room, left_size v _ x, ap nodes p.is, c.push-in-Skip.ensures.len room, longer _ _ _ _ followed)) in
    retold _ _ _ _ _ p.is (write_choice _ _ _ _ _ _ _ (c.push-in-Skip.ensures.items room) followed clause)

pub build_both-build_side-requires : goal.build_both-build_side-requires
build_both-build_side-requires t c =
    let v = c.args.self.now in
    let x = c.requires.ready in
    let y = c.requires.beside in
    let size = both_size v c.args.left c.args.right x y in
    let h = halved_some v c.args.left c.args.right x y _ _ _ _ c.in-Some-Left.field-0-is c.in-Some-Left.ensures c.side.ensures c.side-2.ensures in
    (omega arith, (x, omega (arith, c.requires.room, size, side_size v c.args.left x, ap nodes h)))

pub build_both-build_side-requires-in-Some-Right : goal.build_both-build_side-requires-in-Some-Right
build_both-build_side-requires-in-Some-Right t c =
    let v = c.args.self.now in
    let x = c.requires.ready in
    let y = c.requires.beside in
    let size = both_size v c.args.left c.args.right x y in
    let h = halved_some v c.args.left c.args.right x y _ _ _ _ c.in-Some-Right.field-0-is c.in-Some-Right.ensures c.side.ensures c.side-2.ensures in
    let order = c.requires.in_order in
    (omega arith, (y, omega (arith, c.requires.room, size, side_size v c.args.right y, ap nodes h)))

pub build_both-build_side-requires-in-Some-Whole : goal.build_both-build_side-requires-in-Some-Whole
build_both-build_side-requires-in-Some-Whole t c =
    let v = c.args.self.now in
    let x = c.requires.ready in
    let y = c.requires.beside in
    let size = both_size v c.args.left c.args.right x y in
    let h = halved_some v c.args.left c.args.right x y _ _ _ _ c.in-Some-Whole.field-0-is c.in-Some-Whole.ensures c.side.ensures c.side-2.ensures in
    let room = both_fits v _ c.args.left c.args.right x y c.requires.room in
    (omega arith, (x, omega (arith, c.requires.room, size, side_size v c.args.left x, ap nodes h, c.push-in-Some-Whole.ensures.len room)))

pub build_both-build_side-requires-in-Some-Whole-2 : goal.build_both-build_side-requires-in-Some-Whole-2
build_both-build_side-requires-in-Some-Whole-2 t c =
    let v = c.args.self.now in
    let x = c.requires.ready in
    let y = c.requires.beside in
    let size = both_size v c.args.left c.args.right x y in
    let h = halved_some v c.args.left c.args.right x y _ _ _ _ c.in-Some-Whole.field-0-is c.in-Some-Whole.ensures c.side.ensures c.side-2.ensures in
    let room = both_fits v _ c.args.left c.args.right x y c.requires.room in
    let order = c.requires.in_order in
    let first = longer _ _ _ _ (c.build_side-in-Some-Whole.ensures x) in
    (omega arith, (y, omega (arith, c.requires.room, size, side_size v c.args.right y, ap nodes h, c.push-in-Some-Whole.ensures.len room, first)))

pub build_both-returns-in-None : goal.build_both-returns-in-None
build_both-returns-in-None t c x y =
    let h = halved c.args.self.now c.args.left c.args.right x y _ _ _ c.in-None.ensures c.side.ensures c.side-2.ensures in
    let room = both_fits c.args.self.now _ c.args.left c.args.right x y c.requires.room in
    retold _ _ _ _ _ h (write_lost _ _ _ (c.push.ensures.items room))

pub build_both-returns-in-Some-Left : goal.build_both-returns-in-Some-Left
build_both-returns-in-Some-Left t c x y =
    let h = halved_some c.args.self.now c.args.left c.args.right x y _ _ _ _ c.in-Some-Left.field-0-is c.in-Some-Left.ensures c.side.ensures c.side-2.ensures in
    retold _ _ _ _ _ h (c.build_side.ensures x)

pub build_both-returns-in-Some-Right : goal.build_both-returns-in-Some-Right
build_both-returns-in-Some-Right t c x y =
    let h = halved_some c.args.self.now c.args.left c.args.right x y _ _ _ _ c.in-Some-Right.field-0-is c.in-Some-Right.ensures c.side.ensures c.side-2.ensures in
    retold _ _ _ _ _ h (c.build_side-in-Some-Right.ensures y)

pub build_both-returns-in-Some-Whole : goal.build_both-returns-in-Some-Whole
build_both-returns-in-Some-Whole t c x y =
    let h = halved_some c.args.self.now c.args.left c.args.right x y _ _ _ _ c.in-Some-Whole.field-0-is c.in-Some-Whole.ensures c.side.ensures c.side-2.ensures in
    let room = both_fits c.args.self.now _ c.args.left c.args.right x y c.requires.room in
    retold _ _ _ _ _ h (write_both _ _ _ _ _ (side_term c.args.left x) (side_term c.args.right y) (c.push-in-Some-Whole.ensures.items room) (c.build_side-in-Some-Whole.ensures x) (c.build_side-in-Some-Whole-2.ensures y))

pub build_side-slice_bounds-extend_from_slice-end : goal.build_side-slice_bounds-extend_from_slice-end
build_side-slice_bounds-extend_from_slice-end t c =
    let k = whole c.args.self.now c.args.side c.in-Kept.at c.in-Kept.is c.requires.ready in
    omega (arith, k.few, k.ends, c.from.ensures, c.size.ensures, ap (λ w. shapes.size w.held) c.weight.ensures)

pub build_side-returns-in-Kept : goal.build_side-returns-in-Kept
build_side-returns-in-Kept t c x =
    let k = whole c.args.self.now c.args.side c.in-Kept.at c.in-Kept.is x in
    let size : c.from.result ≡ shapes.size (weight_in c.args.self.now.weights.now c.in-Kept.at).held = c.from.ensures ∙ c.size.ensures ∙ ap (λ w. shapes.size w.held) c.weight.ensures in
    let ends = ap (λ n. c.in-Kept.at + n) size ∙ k.ends in
    let long = copied_long _ (nodes_of c.args.self.now.marked) c.in-Kept.at _ _ k.held ends in
    copied _ (nodes_of c.args.self.now.marked) _ _ c.in-Kept.at _ _ k.held ends
    (c.extend_from_slice.ensures.items (omega (arith, c.requires.room, side_size c.args.self.now c.args.side x, long)))
