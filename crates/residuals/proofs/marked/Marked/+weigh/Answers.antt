use Rattle.std.proofs.Common.{◌<◌, length, sym, ap, ◌∙◌, arith}
use Rattle.terms.specs.declared.nodes.Node.TheVariants.{Lost}
use Rattle.residuals.specs.Marked.{shape_if}
use Rattle.residuals.specs.Weights.{leaf_weight, follow_weight}
use Rattle.residuals.proofs.Weighing.{weigh_past, weigh_lost, weigh_done, weigh_leaf, weigh_choice, weigh_both, weigh_follow}
use Rattle.residuals.proofs.marked.Marked.+weigh.Goals as goal
use Rattle.residuals.proofs.marked.Marked.+weigh.Goals.{in-Lost, in-Done, in-Leaf, in-Choice, in-Both, in-Follow}

pub returns-in_default-clause-weighed : goal.returns-in_default-clause-weighed
returns-in_default-clause-weighed t c = weigh_past c.args.self.now c.args.at _ c.args.weights.now c.in_default.ensures.lookup.3

pub returns-clause-weighed : goal.returns-clause-weighed
returns-clause-weighed t c =
    let m = c.args.self.now in
    let at = c.args.at in
    let few = m.few in
    let inside = c.in-Some.ensures.lookup.3.0 in
    let stands = sym (c.in-Some.ensures.lookup.3.1 Lost) in
    let room : at < length c.match-node.weights = omega (arith, c.match-node.array_long) in
    elim c.match-node.branch [
      | in-Lost w ↦ rw (w.end-is, w.weights-is) (weigh_lost m at _ _ (omega (arith, ap length w.weights-is)) (stands ∙ w.in-Lost.is) w.unmet-in-Lost.ensures)
      | in-Done w ↦ rw (w.end-is, w.weights-is) (weigh_done m at _ _ (omega (arith, ap length w.weights-is)) (stands ∙ w.in-Done.is) w.unmet-in-Done.ensures)
      | in-Leaf w ↦
          rw (w.end-is, w.weights-is)
          (weigh_leaf m at _ _ (omega (arith, ap length w.weights-is)) _ _ _ (stands ∙ w.in-Leaf.is) (w.leaf.ensures ∙ ap leaf_weight (w.shape_of.ensures ∙ ap (shape_if m) w.mark.ensures)))
      | in-Choice w ↦
          rw (w.end-is, w.weights-is)
          (weigh_choice m at _ _ _ _ _ _ _ _ w.weigh-middle.ensures.weighed w.weigh-end.ensures.weighed w.weigh-middle.ensures.behind (omega (arith, ap length w.weights-is)) (stands ∙ w.in-Choice.is) w.choice.ensures)
      | in-Both w ↦
          rw (w.end-is, w.weights-is)
          (weigh_both m at _ _ _ _ _ _ _ _ w.weigh-middle-in-Both.ensures.weighed w.weigh-end-in-Both.ensures.weighed w.weigh-middle-in-Both.ensures.behind (omega (arith, ap length w.weights-is)) (stands ∙ w.in-Both.is) w.both.ensures)
      | in-Follow w ↦
          rw (w.end-is, w.weights-is)
          (weigh_follow m at _ _ _ _ _ w.weigh-end-in-Follow.ensures.weighed (omega (arith, ap length w.weights-is)) _ _ (stands ∙ w.in-Follow.is) (w.follow.ensures ∙ ap (follow_weight w.weigh-end-in-Follow.result.0) w.at.ensures.same))
    ]
