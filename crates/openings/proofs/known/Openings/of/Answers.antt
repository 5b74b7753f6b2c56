use Rattle.openings.proofs.known.Openings.of.Goals as goal

pub invariant_of-result : goal.invariant_of-result
invariant_of-result c = record { known = ∣ c.openings-shapes.ensures.known ∣₁ }
