use Rattle.std.proofs.Common.{◌≡◌, ◌+◌, ◌-◌, ◌*◌, take, drop, set, length, rules, ap, ◌∙◌, arith, length-take, length-drop}
use Rattle.std.specs.List.{filter_map}
use Rattle.std.proofs.lemmas.Iterator.{YieldsList-from_slice}
use Rattle.std.proofs.lemmas.Iterator.Consumers.{YieldsList-at, YieldsList-from_filter_map, YieldsList-from_enumerate, YieldsList-turn, YieldsList-end}
use Rattle.std.proofs.lemmas.List.{length_push}
use Rattle.std.proofs.lemmas.List.FromFn.{length-enumerate_from}
use borrow.Author.Tests.{tests}
use Rattle.due.specs.Items.{node_due, numbers}
use Rattle.due.proofs.Writing.{Stands, stands, one_more, filled, all_written}
use Rattle.due.proofs.listing.write_dues.Goals as goal
use Rattle.due.proofs.listing.write_dues.Goals.{In-Some}

turn : (c : In-Some) → Stands (filter_map (node_due c.args.file.now) c.args.nodes.now) (length c.loop-leaf.yielded) c.in-Some.leaf (c.in-Some.step, c.in-Some.first, c.in-Some.last)
turn c =
    stands _ _ _ (YieldsList-turn (YieldsList-at c.into_iter-leaf-iterator.ensures.into_iter_gives (YieldsList-from_enumerate
    (YieldsList-at c.enumerate-leaf-items.ensures.source (YieldsList-from_filter_map _ (node_due c.args.file.now)
    (YieldsList-from_slice c.args.nodes.now (cc)) c.filter_map-dues.ensures.closure (λ x r q k. search (rules, tests))))
    c.enumerate-leaf-items.ensures.count)) c.loop-leaf.yielded _ c.loop-leaf.yielded_by _ _ _ c.in-Some.is c.next.ensures.steps)

pub slice_bounds-item-end : goal.slice_bounds-item-end
slice_bounds-item-end c = (let here = turn (goal.at.slice_bounds-item-end c).In-Some in omega arith)

pub loop-leaf-preserved : goal.loop-leaf-preserved
loop-leaf-preserved c =
    let here = turn (goal.at.loop-leaf-preserved c).In-Some in
    let place = 3 * c.in-Some.leaf in
    let part = take (place + 3 - place) (drop place c.loop-leaf.list) in
    let long : length part ≡ 3 = omega (arith, length-take (place + 3 - place) (drop place c.loop-leaf.list), length-drop place c.loop-leaf.list) in
    one_more _ c.args.list.now (length c.loop-leaf.yielded) _ _ _ c.loop-leaf.list _ _ here.within (length_push c.loop-leaf.yielded _) (ap (λ n. 3 * n) here.at) (omega arith) (omega arith)
    (ap (λ n. set (set (set part 0 n) 1 c.in-Some.first) 2 c.in-Some.last) c.from.ensures ∙ filled part (c.in-Some.step, c.in-Some.first, c.in-Some.last) long ∙ ap numbers here.is) c.loop-leaf.invariant

pub returns : goal.returns
returns c =
    let ended = YieldsList-end (YieldsList-at c.into_iter-leaf-iterator.ensures.into_iter_gives (YieldsList-from_enumerate
    (YieldsList-at c.enumerate-leaf-items.ensures.source (YieldsList-from_filter_map _ (node_due c.args.file.now)
    (YieldsList-from_slice c.args.nodes.now (cc)) c.filter_map-dues.ensures.closure (λ x r q k. search (rules, tests))))
    c.enumerate-leaf-items.ensures.count)) c.loop-leaf.yielded _ c.loop-leaf.yielded_by _ _ c.in-None.is c.next.ensures.steps in
    all_written _ c.args.list.now _ c.loop-leaf.list (ended.1 ∙ length-enumerate_from 0 _) c.loop-leaf.invariant
