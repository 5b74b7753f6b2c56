use Rattle.std.proofs.Common.{inl, inr, sym, ◌∙◌}
use Rattle.terms.specs.declared.nodes.Node.TheVariants.{Lost}
use Rattle.terms.proofs.Ending.{ends_past, ends_lost, ends_done, ends_leaf, ends_choice, ends_both, ends_follow}
use Rattle.terms.proofs.nodes.+end_of.Goals as goal

pub returns-in_default-clause-ends : goal.returns-in_default-clause-ends
returns-in_default-clause-ends t c = ends_past _ _ c.in_default.ensures.lookup.3

pub returns-in-Lost-clause-ends : goal.returns-in-Lost-clause-ends
returns-in-Lost-clause-ends t c =
    let here = sym (c.in-Some.ensures.lookup.3.1 Lost) in
    elim c.in-Lost.is [
      | inl lost ↦ ends_lost _ _ (here ∙ lost)
      | inr rest ↦ elim rest [
        | inl done ↦ ends_done _ _ (here ∙ done)
        | inr leaf ↦ ends_leaf _ _ _ _ _ (here ∙ leaf.3)
      ]
    ]

pub returns-in-Choice-clause-ends : goal.returns-in-Choice-clause-ends
returns-in-Choice-clause-ends t c =
    let here = sym (c.in-Some.ensures.lookup.3.1 Lost) in
    elim c.in-Choice.is [
      | inl choice ↦ ends_choice _ _ _ _ c.end_of-middle.ensures.ends c.end_of-in-Choice.ensures.ends (here ∙ choice)
      | inr both ↦ ends_both _ _ _ _ c.end_of-middle.ensures.ends c.end_of-in-Choice.ensures.ends (here ∙ both)
    ]

pub returns-in-Follow-clause-ends : goal.returns-in-Follow-clause-ends
returns-in-Follow-clause-ends t c = ends_follow _ _ _ _ _ (sym (c.in-Some.ensures.lookup.3.1 Lost) ∙ c.in-Follow.is) c.end_of.ensures.ends
