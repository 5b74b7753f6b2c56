-- A pass tells how many days the entries last.
use Rattle.std.proofs.Common.{◌≡◌, ℕ, ◌<◌, ◌≤◌, List, map, length, Some, None, Option, sym, refl, ap, ◌∙◌, ap₂, arith}
use native.Mathlib.Decide.{dec_le}
use Rattle.std.specs.List.{range_with_len}
use Rattle.std.proofs.lemmas.List.{get_or_past}
use Rattle.std.proofs.lemmas.List.FromFn.{get_or-map-range_with_len, length-map-range_with_len}
use Rattle.language.specs.Clauses.{from_base, calendar, Clause, done, lost, step, choice, both, then, call}
use Rattle.language.specs.Ends.{earlier, later, after, reach, Durations, ends, Relative}
use Rattle.language.proofs.Days.{Attained, at_weaker, at_reach}
use Rattle.language.proofs.Shifts.{shift, ends_range, ends_from_zero}
use Rattle.days.specs.Windows.{meant}
use Rattle.entries.specs.declared.entries.Entry.{Entry}
use Rattle.entries.specs.declared.entries.Entry.TheVariants as entries
use Rattle.entries.specs.Parts.{at}
use Rattle.contract_file.specs.declared.files.File.{File}
use Rattle.contract_file.specs.Pointing.{EntryLeads}
use Rattle.openings.specs.Clauses.{clause_by, clause_at}
use Rattle.openings.specs.Passes.{told_past}
use Rattle.openings.proofs.Downward.{past_is}
use Rattle.openings.proofs.Unfolding.{Leading, leads_at, unfolds, unfolds_past}
use Rattle.spans.specs.Rounds.{of, following, entry_lasts, lasts, Passed}

pub after_same : (x : Option ℕ) (f g : ℕ → Option ℕ) → Attained x (λ d. d ≤ 65535) → ((n : ℕ) → n ≤ 65535 → f n ≡ g n) → after x f ≡ after x g
after_same None f g h k = refl
after_same (Some n) f g h k = k n h

-- days that follow one another come to the end by the day on which the first end
module _ (D : Durations) where
  pub lasts_is : (c : Clause) → Relative c → lasts D c ≡ ends D c 0
  lasts_is done r = refl
  lasts_is lost r = refl
  lasts_is (step e (from_base u v) cs tail) r =
      after_same (reach (from_base u v) 0 0) (λ n. shift n (lasts D tail)) (ends D tail)
      (at_weaker (reach (from_base u v) 0 0) _ (λ d. d ≤ 65535) (at_reach (from_base u v) 0 0) (λ d q. q.3))
      (λ n h. ap (shift n) (lasts_is tail r) ∙ sym (ends_from_zero D tail r n h))
  lasts_is (step e (calendar u v) cs tail) r = absurd r
  lasts_is (choice l r) p = ap₂ earlier (lasts_is l p.0) (lasts_is r p.1)
  lasts_is (both l r) p = ap₂ later (lasts_is l p.0) (lasts_is r p.1)
  lasts_is (then l r) p =
      ap (λ (x : Option ℕ). following x (lasts D r)) (lasts_is l p.0)
      ∙ after_same (ends D l 0) (λ n. shift n (lasts D r)) (ends D r)
      (at_weaker (ends D l 0) (λ d. (0 ≤ d) × (d ≤ 65535)) (λ d. d ≤ 65535) (ends_range D l 0 (omega arith)) (λ d q. q.1))
      (λ n h. ap (shift n) (lasts_is r p.1) ∙ sym (ends_from_zero D r p.1 n h))
  lasts_is (call k args) p = refl

-- one entry of a pass
module _ (f : File) (up : Leading f) (D : Durations) where
  entry_is : (s : List (Option ℕ)) (i : ℕ) → ((k : ℕ) → i < k → of s k ≡ lasts D (clause_at f k)) → (e : Entry) → EntryLeads f i e
      → entry_lasts s D e ≡ lasts D (clause_by f (clause_at f) i e)
  entry_is s i h entries.Lost p = refl
  entry_is s i h entries.Done p = refl
  entry_is s i h (entries.Step w t cs) p = ap (following (reach (meant w) 0 0)) (h t p.0.up)
  entry_is s i h (entries.Choice l r) p = ap₂ earlier (h l p.0.up) (h r p.1.up)
  entry_is s i h (entries.Both l r) p = ap₂ later (h l p.0.up) (h r p.1.up)
  entry_is s i h (entries.Then l r) p = ap₂ following (h l p.0.up) (h r p.1.up)
  entry_is s i h (entries.Call k a) p = refl
  entry_is s i h (entries.Template k b x) p = refl
  entry_is s i h (entries.Condition k t x) p = refl
  entry_is s i h (entries.Argument k v x) p = refl

  -- the days of each entry at its number
  abbrev pub all_last : List (Option ℕ)
  all_last = map (λ i. lasts D (clause_at f i)) (range_with_len 0 257)

  pub all_last_long : length all_last ≡ 257
  all_last_long = length-map-range_with_len (λ i. lasts D (clause_at f i)) 0 257

  past_none : (i : ℕ) → 257 ≤ i → lasts D (clause_at f i) ≡ None
  past_none i h = ap (lasts D) (unfolds_past f up i h)

  pub all_last_at : (i : ℕ) → of all_last i ≡ lasts D (clause_at f i)
  all_last_at i = elim (dec_le 257 i) [
    | yes h ↦ get_or_past all_last i None (omega (arith, all_last_long)) ∙ sym (past_none i h)
    | no h ↦ get_or-map-range_with_len (λ j. lasts D (clause_at f j)) 0 257 i i None (omega arith) (omega arith)
  ]

  pub entry_lasts_is : (i : ℕ) → entry_lasts (told_past None all_last i) D (at f.entries i) ≡ of all_last i
  entry_lasts_is i =
      entry_is (told_past None all_last i) i (λ k h. past_is None all_last i k h ∙ all_last_at k) (at f.entries i) (leads_at f up i)
      ∙ ap (lasts D) (sym (unfolds f up i)) ∙ sym (all_last_at i)

  pub passed : (s : List (Option ℕ)) → s ≡ all_last → Passed f D s
  passed s is = (ap (λ (l : List (Option ℕ)). length l) is ∙ all_last_long, λ i. ap (λ l. of l i) is ∙ all_last_at i)
