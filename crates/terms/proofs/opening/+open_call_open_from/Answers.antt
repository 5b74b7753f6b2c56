use Rattle.std.proofs.Common.{◌≡◌, ◌<◌, length, sym, refl, ap, ◌∙◌, subst, arith}
use Rattle.kinds.specs.Rows.{fill}
use Rattle.language.specs.Clauses.{Clause, body}
use Rattle.language.specs.Terms.{BareBelow, nodes, opened}
use Rattle.language.proofs.Depth.{opening_rules}
use Rattle.contract_file.specs.declared.files.File.{File}
use Rattle.openings.specs.Clauses.{clause_at, arguments_at, body_at, templates_of}
use Rattle.openings.proofs.Unfolding.{body_is}
use Rattle.openings.proofs.Guarding.{guarded}
use Rattle.terms.specs.Plans.{opens}
use Rattle.terms.proofs.Planning.{plans, sound_file}
use Rattle.terms.proofs.Writing.{some_nodes, first_fits, longer, retold, write_lost, write_done, write_leaf, write_choice, write_both, write_follow}
use Rattle.terms.proofs.opening.+open_call_open_from.Goals as goal

-- Kept in each answer: each has a view of the function's steps of its own, to which the lemma has to be applied.

pub open_call-open_from-requires : goal.open_call-open_from-requires
open_call-open_from-requires t c =
    let f = c.args.openings.now.read.file in
    let k = c.args.template in
    let is : body (templates_of f) k ≡ clause_at f c.body-first.result = body_is f k c.requires.named.0 c.requires.named.1 ∙ sym (ap (clause_at f) (c.body-first.ensures ∙ ap (λ g. body_at g k) c.file.ensures.same)) in
    let opens_it = ap (λ x. opened (templates_of f) x c.args.row.now c.args.base) is in
    (omega arith, (subst (λ (x : Clause). BareBelow k x) is (guarded f (sound_file c.args.openings.now) k), omega (arith, c.requires.room, ap nodes opens_it)))

pub open_call-returns : goal.open_call-returns
open_call-returns t c =
    let f = c.args.openings.now.read.file in
    let k = c.args.template in
    let is : body (templates_of f) k ≡ clause_at f c.body-first.result = body_is f k c.requires.named.0 c.requires.named.1 ∙ sym (ap (clause_at f) (c.body-first.ensures ∙ ap (λ g. body_at g k) c.file.ensures.same)) in
    retold f _ _ _ _ (ap (λ x. opened (templates_of f) x c.args.row.now c.args.base) is) c.open_from.ensures

pub open_from-open_from-requires : goal.open_from-open_from-requires
open_from-open_from-requires t c =
    let p = plans c.args.openings.now c.args.level c.args.at c.args.row.now c.args.base _ c.in-Only.ensures in
    let up = p.1.up in
    (omega arith, (p.1.below c.requires.bare, omega (arith, c.requires.room, ap nodes p.0)))

pub open_from-open_from-requires-in-Choice : goal.open_from-open_from-requires-in-Choice
open_from-open_from-requires-in-Choice t c =
    let p = plans c.args.openings.now c.args.level c.args.at c.args.row.now c.args.base _ c.in-Choice.ensures in
    let room = first_fits _ _ c.requires.room in
    let up = p.1.up in
    (omega arith, (p.1.below c.requires.bare, omega (arith, c.requires.room, ap nodes p.0, c.push-in-Choice.ensures.len room)))

pub open_from-open_from-requires-in-Choice-2 : goal.open_from-open_from-requires-in-Choice-2
open_from-open_from-requires-in-Choice-2 t c =
    let f = c.args.openings.now.read.file in
    let of = opens f c.args.row.now c.args.base in
    let p = plans c.args.openings.now c.args.level c.args.at c.args.row.now c.args.base _ c.in-Choice.ensures in
    let room = first_fits _ _ c.requires.room in
    let up = p.2.up in
    (omega arith, (p.2.below c.requires.bare, omega (arith, c.requires.room, ap nodes p.0, c.push-in-Choice.ensures.len room, longer f _ _ (of c.in-Choice.left) c.open_from-in-Choice.ensures)))

pub open_from-open_from-requires-in-Both : goal.open_from-open_from-requires-in-Both
open_from-open_from-requires-in-Both t c =
    let p = plans c.args.openings.now c.args.level c.args.at c.args.row.now c.args.base _ c.in-Both.ensures in
    let room = first_fits _ _ c.requires.room in
    let up = p.1.up in
    (omega arith, (p.1.below c.requires.bare, omega (arith, c.requires.room, ap nodes p.0, c.push-in-Both.ensures.len room)))

pub open_from-open_from-requires-in-Both-2 : goal.open_from-open_from-requires-in-Both-2
open_from-open_from-requires-in-Both-2 t c =
    let f = c.args.openings.now.read.file in
    let of = opens f c.args.row.now c.args.base in
    let p = plans c.args.openings.now c.args.level c.args.at c.args.row.now c.args.base _ c.in-Both.ensures in
    let room = first_fits _ _ c.requires.room in
    let up = p.2.up in
    (omega arith, (p.2.below c.requires.bare, omega (arith, c.requires.room, ap nodes p.0, c.push-in-Both.ensures.len room, longer f _ _ (of c.in-Both.left) c.open_from-in-Both.ensures)))

pub open_from-open_from-requires-in-Follow : goal.open_from-open_from-requires-in-Follow
open_from-open_from-requires-in-Follow t c =
    let p = plans c.args.openings.now c.args.level c.args.at c.args.row.now c.args.base _ c.in-Follow.ensures in
    let room = first_fits _ _ c.requires.room in
    let up = p.1.up in
    (omega arith, (p.1.below c.requires.bare, omega (arith, c.requires.room, ap nodes p.0, c.push-in-Follow.ensures.len room)))

pub open_from-open_from-requires-in-Skip : goal.open_from-open_from-requires-in-Skip
open_from-open_from-requires-in-Skip t c =
    let of = opens c.args.openings.now.read.file c.args.row.now c.args.base in
    let p = plans c.args.openings.now c.args.level c.args.at c.args.row.now c.args.base _ c.in-Skip.ensures in
    let room = first_fits _ _ c.requires.room in
    let next : length c.push-in-Skip.new.self.items < 256 = omega (arith, c.requires.room, ap nodes p.0, some_nodes (of c.in-Skip.left), c.push-in-Skip.ensures.len room) in
    let up = p.1.up in
    (omega arith, (p.1.below c.requires.bare, omega (arith, c.requires.room, ap nodes p.0, c.push-in-Skip.ensures.len room, c.push-in-Skip-2.ensures.len next)))

pub open_from-open_from-requires-in-Skip-2 : goal.open_from-open_from-requires-in-Skip-2
open_from-open_from-requires-in-Skip-2 t c =
    let f = c.args.openings.now.read.file in
    let of = opens f c.args.row.now c.args.base in
    let p = plans c.args.openings.now c.args.level c.args.at c.args.row.now c.args.base _ c.in-Skip.ensures in
    let room = first_fits _ _ c.requires.room in
    let next : length c.push-in-Skip.new.self.items < 256 = omega (arith, c.requires.room, ap nodes p.0, some_nodes (of c.in-Skip.left), c.push-in-Skip.ensures.len room) in
    let up = p.2.up in
    (omega arith, (p.2.below c.requires.bare, omega (arith, c.requires.room, ap nodes p.0, c.push-in-Skip.ensures.len room, c.push-in-Skip-2.ensures.len next, longer f _ _ (of c.in-Skip.left) c.open_from-in-Skip.ensures)))

pub open_from-open_call-requires : goal.open_from-open_call-requires
open_from-open_call-requires t c =
    let f = c.args.openings.now.read.file in
    let p = plans c.args.openings.now c.args.level c.args.at c.args.row.now c.args.base _ c.in-Call.ensures in
    let callee : c.filled-callee.result ≡ fill (arguments_at f c.in-Call.arguments) c.args.row.now =
    subst (λ (g : File). c.filled-callee.result ≡ fill (arguments_at g c.in-Call.arguments) c.args.row.now) c.file.ensures.same c.filled-callee.ensures in
    let is = p.is ∙ sym (ap (λ x. opened (templates_of f) (body (templates_of f) c.in-Call.template) x c.args.base) callee) in
    let less = p.below c.requires.bare in
    (omega arith, (p.named, omega (arith, c.requires.room, ap nodes is)))

pub open_from-returns-in-Lost : goal.open_from-returns-in-Lost
open_from-returns-in-Lost t c =
    let f = c.args.openings.now.read.file in
    let p = plans c.args.openings.now c.args.level c.args.at c.args.row.now c.args.base _ c.in-Lost.ensures in
    let room = first_fits _ _ c.requires.room in
    retold f _ _ _ _ p (write_lost f _ _ (c.push.ensures.items room))

pub open_from-returns-in-Done : goal.open_from-returns-in-Done
open_from-returns-in-Done t c =
    let f = c.args.openings.now.read.file in
    let p = plans c.args.openings.now c.args.level c.args.at c.args.row.now c.args.base _ c.in-Done.ensures in
    let room = first_fits _ _ c.requires.room in
    retold f _ _ _ _ p (write_done f _ _ (c.push-in-Done.ensures.items room))

pub open_from-returns-in-Leaf : goal.open_from-returns-in-Leaf
open_from-returns-in-Leaf t c =
    let f = c.args.openings.now.read.file in
    let p = plans c.args.openings.now c.args.level c.args.at c.args.row.now c.args.base _ c.in-Leaf.ensures in
    let room = first_fits _ _ c.requires.room in
    retold f _ _ _ _ (ap (λ x. opened (templates_of f) x c.args.row.now c.args.base) p.is ∙ (opening_rules _).of_step _ _ _ _ _ _) (write_leaf f _ _ _ _ _ _ _ _ p.is (c.push-in-Leaf.ensures.items room))

pub open_from-returns-in-Only : goal.open_from-returns-in-Only
open_from-returns-in-Only t c =
    let f = c.args.openings.now.read.file in
    let p = plans c.args.openings.now c.args.level c.args.at c.args.row.now c.args.base _ c.in-Only.ensures in
    retold f _ _ _ _ p.0 c.open_from.ensures

pub open_from-returns-in-Choice : goal.open_from-returns-in-Choice
open_from-returns-in-Choice t c =
    let f = c.args.openings.now.read.file in
    let of = opens f c.args.row.now c.args.base in
    let p = plans c.args.openings.now c.args.level c.args.at c.args.row.now c.args.base _ c.in-Choice.ensures in
    let room = first_fits _ _ c.requires.room in
    retold f _ _ _ _ p.0 (write_choice f _ _ _ _ (of c.in-Choice.left) (of c.in-Choice.right) (c.push-in-Choice.ensures.items room) c.open_from-in-Choice.ensures c.open_from-in-Choice-2.ensures)

pub open_from-returns-in-Both : goal.open_from-returns-in-Both
open_from-returns-in-Both t c =
    let f = c.args.openings.now.read.file in
    let of = opens f c.args.row.now c.args.base in
    let p = plans c.args.openings.now c.args.level c.args.at c.args.row.now c.args.base _ c.in-Both.ensures in
    let room = first_fits _ _ c.requires.room in
    retold f _ _ _ _ p.0 (write_both f _ _ _ _ (of c.in-Both.left) (of c.in-Both.right) (c.push-in-Both.ensures.items room) c.open_from-in-Both.ensures c.open_from-in-Both-2.ensures)

pub open_from-returns-in-Follow : goal.open_from-returns-in-Follow
open_from-returns-in-Follow t c =
    let f = c.args.openings.now.read.file in
    let of = opens f c.args.row.now c.args.base in
    let p = plans c.args.openings.now c.args.level c.args.at c.args.row.now c.args.base _ c.in-Follow.ensures in
    let room = first_fits _ _ c.requires.room in
    retold f _ _ _ _ p.0 (write_follow f _ _ _ (of c.in-Follow.left) _ _ _ refl (c.push-in-Follow.ensures.items room) c.open_from-in-Follow.ensures)

pub open_from-returns-in-Skip : goal.open_from-returns-in-Skip
open_from-returns-in-Skip t c =
    let f = c.args.openings.now.read.file in
    let of = opens f c.args.row.now c.args.base in
    let p = plans c.args.openings.now c.args.level c.args.at c.args.row.now c.args.base _ c.in-Skip.ensures in
    let room = first_fits _ _ c.requires.room in
    let next : length c.push-in-Skip.new.self.items < 256 = omega (arith, c.requires.room, ap nodes p.0, some_nodes (of c.in-Skip.left), c.push-in-Skip.ensures.len room) in
    retold f _ _ _ _ p.0
    (write_choice f _ _ _ _ _ (of c.in-Skip.right) (c.push-in-Skip.ensures.items room)
    (write_follow f _ _ _ (of c.in-Skip.left) _ _ _ refl (c.push-in-Skip-2.ensures.items next) c.open_from-in-Skip.ensures) c.open_from-in-Skip-2.ensures)

pub open_from-returns-in-Call : goal.open_from-returns-in-Call
open_from-returns-in-Call t c =
    let f = c.args.openings.now.read.file in
    let p = plans c.args.openings.now c.args.level c.args.at c.args.row.now c.args.base _ c.in-Call.ensures in
    let callee : c.filled-callee.result ≡ fill (arguments_at f c.in-Call.arguments) c.args.row.now =
    subst (λ (g : File). c.filled-callee.result ≡ fill (arguments_at g c.in-Call.arguments) c.args.row.now) c.file.ensures.same c.filled-callee.ensures in
    let is = p.is ∙ sym (ap (λ x. opened (templates_of f) (body (templates_of f) c.in-Call.template) x c.args.base) callee) in
    retold f _ _ _ _ is c.open_call.ensures
