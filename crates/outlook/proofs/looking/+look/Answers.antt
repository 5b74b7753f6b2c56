use Rattle.std.proofs.Common.{sym, ◌∙◌}
use Rattle.contract_file.proofs.Facts.{known_sound}
use Rattle.openings.proofs.Unfolding.{leading}
use Rattle.horizon.proofs.Facts.{known_ends}
use Rattle.terms.specs.declared.nodes.Node.TheVariants.{Lost}
use Rattle.outlook.proofs.Seeing.{see_past, see_lost, see_done, see_leaf, see_choice, see_both, see_follow}
use Rattle.outlook.proofs.looking.+look.Goals as goal

pub returns-in_default-clause-seen : goal.returns-in_default-clause-seen
returns-in_default-clause-seen t c = see_past c.args.ahead.now.openings.now.read.file c.args.nodes.now c.args.clock c.args.at _ c.in_default.ensures.lookup.3

pub returns-in-Lost-clause-seen : goal.returns-in-Lost-clause-seen
returns-in-Lost-clause-seen t c = see_lost c.args.ahead.now.openings.now.read.file c.args.nodes.now c.args.clock c.args.at _ (sym (c.in-Some.ensures.lookup.3.1 Lost) ∙ c.in-Lost.is) c.lost-in-Lost.ensures

pub returns-in-Done-clause-seen : goal.returns-in-Done-clause-seen
returns-in-Done-clause-seen t c = see_done c.args.ahead.now.openings.now.read.file c.args.nodes.now c.args.clock c.args.at _ (sym (c.in-Some.ensures.lookup.3.1 Lost) ∙ c.in-Done.is) c.done.ensures

pub returns-in-Leaf-clause-seen : goal.returns-in-Leaf-clause-seen
returns-in-Leaf-clause-seen t c =
    see_leaf c.args.ahead.now.openings.now.read.file c.args.nodes.now c.args.clock c.args.at c.args.ahead.now.horizon.now (known_ends _ _ _ c.args.ahead.now.foretold) (leading _ (known_sound _ c.args.ahead.now.openings.now.read.sound)) _ _ _ _ (sym (c.in-Some.ensures.lookup.3.1 Lost) ∙ c.in-Leaf.is) c.leaf.ensures

pub returns-in-Choice-clause-seen : goal.returns-in-Choice-clause-seen
returns-in-Choice-clause-seen t c =
    see_choice c.args.ahead.now.openings.now.read.file c.args.nodes.now c.args.clock c.args.at _ _ _ _ _ c.look-middle.ensures.seen c.look-end.ensures.seen (sym (c.in-Some.ensures.lookup.3.1 Lost) ∙ c.in-Choice.is) c.choice.ensures

pub returns-in-Both-clause-seen : goal.returns-in-Both-clause-seen
returns-in-Both-clause-seen t c =
    see_both c.args.ahead.now.openings.now.read.file c.args.nodes.now c.args.clock c.args.at _ _ _ _ _ c.look-middle-in-Both.ensures.seen c.look-end-in-Both.ensures.seen (sym (c.in-Some.ensures.lookup.3.1 Lost) ∙ c.in-Both.is) c.both.ensures

pub returns-in-Follow-clause-seen : goal.returns-in-Follow-clause-seen
returns-in-Follow-clause-seen t c =
    see_follow c.args.ahead.now.openings.now.read.file c.args.nodes.now c.args.clock c.args.at c.args.ahead.now.horizon.now (known_ends _ _ _ c.args.ahead.now.foretold) _ _ _ _ _ c.look-end-in-Follow.ensures.seen (sym (c.in-Some.ensures.lookup.3.1 Lost) ∙ c.in-Follow.is) c.follow.ensures
