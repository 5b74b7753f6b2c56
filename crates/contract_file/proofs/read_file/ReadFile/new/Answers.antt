use Rattle.contract_file.proofs.read_file.ReadFile.new.Goals as goal

pub invariant_of-result : goal.invariant_of-result
invariant_of-result c = record { sound = ∣ c.new.ensures.sound ∣₁ }
