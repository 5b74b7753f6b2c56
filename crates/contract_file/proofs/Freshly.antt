-- The file of a new place is sound.
use Rattle.std.proofs.Common.{ℕ, sym, refl, subst, arith}
use Rattle.entries.specs.declared.entries.Entry.{Entry}
use Rattle.entries.specs.declared.entries.Entry.TheVariants.{Lost}
use Rattle.entries.specs.Parts.{at, Listed}
use Rattle.contract_file.specs.Pointing.{EntryLeads, HeadLeads}
use Rattle.contract_file.specs.Chains.{Numbered, Rising}
use Rattle.contract_file.specs.Clauses.{CallRight, WindowRight}
use Rattle.contract_file.specs.Fresh.{fresh}
use Rattle.contract_file.specs.Sound.{Sound}
use Rattle.contract_file.proofs.Tables.{all_lost}

-- what holds of lost holds of each entry
by_lost : (P : Entry → Type 0) (i : ℕ) → P Lost → P (at fresh.entries i)
by_lost P i h = subst P (sym (all_lost 257 i)) h

head : HeadLeads fresh
head = (record { up = omega arith; there = omega arith; right = refl }, (λ some. absurd (omega arith)))

pub fresh_sound : Sound fresh
fresh_sound = record {
  parsed = record {
    some = omega arith;
    few = omega arith;
    long = refl;
    nowhere = refl;
    past = λ i _. all_lost 257 i;
    values = λ i. by_lost Listed i tt;
  };
  pointers = λ i. ((λ _. head), by_lost (EntryLeads fresh i) i tt);
  chains = λ i. (
    by_lost (Numbered fresh i) i (λ k b n q. cc),
    by_lost (Rising fresh i) i tt,
  );
  calls = λ i. by_lost (CallRight fresh i) i tt;
  windows = λ i. by_lost (WindowRight fresh i) i tt;
}
