-- A pass tells the spans of the entries, and numbers the rows.
use Rattle.std.proofs.Common.{◌≡◌, ℕ, zero, suc, ◌+◌, ◌-◌, ◌<◌, ◌≤◌, Bool, true, false, cond, ◌||◌, ◌≢◌, List, length, get_or, set, replicate, Some, None, Option, sym, refl, ap, ◌∙◌, ap₂, arith, length-set, get_or-set_other, get_or-set_same}
use native.Mathlib.Decide.{dec_le}
use lib.ListN.{length-replicate}
use Rattle.std.proofs.lemmas.Bool.{cond-true, cond-false}
use Rattle.std.proofs.lemmas.List.{get_or_past, get_or-replicate}
use Rattle.std.proofs.lemmas.List.FromFn.{fill_by_all, get_or-map-range_with_len, length-map-range_with_len}
use Rattle.language.specs.Clauses.{Clause, step}
use Rattle.language.specs.Ends.{Durations, ends, durations}
use Rattle.days.specs.declared.windows.Counted.{Counted}
use Rattle.days.specs.declared.windows.Counted.TheVariants.{FromBase, ByCalendar}
use Rattle.days.specs.Windows.{window, by_calendar}
use Rattle.entries.specs.declared.entries.Entry.{Entry}
use Rattle.entries.specs.declared.entries.Entry.TheVariants as entries
use Rattle.entries.specs.Parts.{at}
use Rattle.contract_file.specs.declared.files.File.{File}
use Rattle.contract_file.specs.Pointing.{EntryLeads}
use Rattle.contract_file.specs.Sound.{Sound}
use Rattle.openings.specs.Clauses.{clause_by, clause_at, templates_of, conditions_at}
use Rattle.openings.proofs.Unfolding.{Leading, leading, leads_at, unfolds, unfolds_past}
use Rattle.spans.specs.declared.spans.Span.{Span}
use Rattle.spans.specs.declared.spans.Span.TheVariants.{Never, ByDay}
use Rattle.spans.specs.Spans.{dated, lasting, span_by, rows_in, row_of, spans_of}
use Rattle.spans.specs.Rounds.{of, lasts, Passed, span_of, by_day, entry_dated, Told}
use Rattle.spans.proofs.Relativity.{relative_undated}
use Rattle.spans.proofs.Lasting.{lasts_is}

not_by_day : (x : Option ℕ) → by_day (lasting x) ≡ false
not_by_day None = refl
not_by_day (Some n) = refl

by_day_is : (b : Bool) (row : ℕ) (x : Option ℕ) → by_day (cond b (ByDay row) (lasting x)) ≡ b
by_day_is true row x = refl
by_day_is false row x = not_by_day x

never_known : (n k : ℕ) → span_of (replicate n Never) k ≡ Never
never_known n k = elim (dec_le n k) [
  | yes h ↦ past (replicate n Never) (rw long h)
  | no h ↦ get_or-replicate n k Never Never (omega arith)
]
  where
    long : length (replicate n Never) ≡ n
    long = simp length-replicate

    past : (xs : List Span) → length xs ≤ k → span_of xs k ≡ Never
    past xs h = get_or_past xs k Never h

-- there are no more rows than entries
pub few_rows : (f : File) (n i : ℕ) → rows_in f n i ≤ n
unfolding rows_in
few_rows f zero i = omega arith
few_rows f (suc n) i = let before = few_rows f n (suc i) in let one = at_most_one (dated (clause_at f i)) in omega (arith, before, one)
  where
    at_most_one : (b : Bool) → cond b 1 0 ≤ 1
    at_most_one true = omega arith
    at_most_one false = omega arith

pub rows_none : (f : File) → 0 ≡ rows_in f 0 257
unfolding rows_in
rows_none f = refl

-- one entry more
rows_more : (f : File) (i to rows : ℕ) → i < 257 → to ≡ i + 1 → rows ≡ rows_in f (257 - to) to → rows + cond (dated (clause_at f i)) 1 0 ≡ rows_in f (257 - i) i
unfolding rows_in
rows_more f i to rows small is h =
    let next : to ≡ suc i = omega arith in
    let many : 257 - i ≡ suc (257 - suc i) = omega arith in
    ap (λ n. n + cond (dated (clause_at f i)) 1 0) (h ∙ ap (λ n. rows_in f (257 - n) n) next) ∙ sym (ap (λ n. rows_in f n i) many)

-- from an entry on, the table tells the span of each
abbrev pub ToldFrom : File → List (Option ℕ) → ℕ → List Span → Type 0
ToldFrom f days from s = (length s ≡ 257) × ((i : ℕ) → from ≤ i → span_of s i ≡ cond (dated (clause_at f i)) (ByDay (row_of f i)) (lasting (of days i)))

module _ (f : File) (up : Leading f) (days : List (Option ℕ)) where
  abbrev tells : ℕ → Span
  tells i = cond (dated (clause_at f i)) (ByDay (row_of f i)) (lasting (of days i))

  dated_by : (s : List Span) (i : ℕ) → ((k : ℕ) → i < k → by_day (span_of s k) ≡ dated (clause_at f k)) → (e : Entry) → EntryLeads f i e
      → entry_dated s e ≡ dated (clause_by f (clause_at f) i e)
  dated_by s i h entries.Lost p = refl
  dated_by s i h entries.Done p = refl
  dated_by s i h (entries.Step w t cs) p = counted w.counted
    where
      counted : (c : Counted) → (by_calendar c || by_day (span_of s t)) ≡ dated (step i (window c w.first w.last) (conditions_at f cs) (clause_at f t))
      counted ByCalendar = refl
      counted FromBase = h t p.0.up
  dated_by s i h (entries.Choice l r) p = ap₂ ◌||◌ (h l p.0.up) (h r p.1.up)
  dated_by s i h (entries.Both l r) p = ap₂ ◌||◌ (h l p.0.up) (h r p.1.up)
  dated_by s i h (entries.Then l r) p = ap₂ ◌||◌ (h l p.0.up) (h r p.1.up)
  dated_by s i h (entries.Call k a) p = refl
  dated_by s i h (entries.Template k b x) p = refl
  dated_by s i h (entries.Condition k t x) p = refl
  dated_by s i h (entries.Argument k v x) p = refl

  dated_is : (s : List Span) (i to : ℕ) (e : Entry) → to ≡ i + 1 → ToldFrom f days to s → e ≡ at f.entries i → entry_dated s e ≡ dated (clause_at f i)
  dated_is s i to e is inv ee =
      ap (entry_dated s) ee
      ∙ dated_by s i (λ k h. ap by_day (inv.1 k (omega arith)) ∙ by_day_is (dated (clause_at f k)) (row_of f k) (of days k)) (at f.entries i) (leads_at f up i)
      ∙ ap dated (sym (unfolds f up i))

  told_more : (s : List Span) (i to : ℕ) (x : Span) → i < 257 → to ≡ i + 1 → ToldFrom f days to s → x ≡ tells i → ToldFrom f days i (set s i x)
  told_more s i to x small is inv ex = (
    simp length-set inv.0,
    λ k low. elim (dec_le k i) [
      | yes j ↦ (let same : k ≡ i = omega arith in
          let inside : i < length s = omega (arith, inv.0) in
          let here : get_or (set s i x) i Never ≡ x = rw get_or-set_same in
          ap (span_of (set s i x)) same ∙ here ∙ ex ∙ sym (ap tells same))
      | no j ↦ (let ne : k ≢ i = omega arith in
          let there : get_or (set s i x) k Never ≡ get_or s k Never = rw get_or-set_other in
          there ∙ inv.1 k (omega arith))
    ],
  )

  row_is : (i to rows : ℕ) → i < 257 → to ≡ i + 1 → rows ≡ rows_in f (257 - to) to → rows ≡ row_of f i
  row_is i to rows small is h =
      let next : to ≡ suc i = omega arith in
      let many : 257 - suc i ≡ 256 - i = omega arith in
      h ∙ ap (λ n. rows_in f (257 - n) n) next ∙ ap (λ n. rows_in f n (suc i)) many

  -- past the last entry nothing stands
  pub told_none : length days ≡ 257 → ToldFrom f days 257 (replicate 257 Never)
  told_none long = (
    simp length-replicate,
    λ i h. never_known 257 i ∙ sym (ap₂ (λ c x. cond (dated c) (ByDay (row_of f i)) (lasting x)) (unfolds_past f up i h) (get_or_past days i None (omega arith))),
  )

  -- an entry with a row, and one without
  pub told_dated : (s : List Span) (i to rows : ℕ) (e : Entry) → i < 257 → to ≡ i + 1 → ToldFrom f days to s → rows ≡ rows_in f (257 - to) to → e ≡ at f.entries i → entry_dated s e ≡ true
      → ToldFrom f days i (set s i (ByDay rows)) × (rows + 1 ≡ rows_in f (257 - i) i)
  told_dated s i to rows e small is inv counted ee yes-dated =
      let here : dated (clause_at f i) ≡ true = sym (dated_is s i to e is inv ee) ∙ yes-dated in (
        told_more s i to (ByDay rows) small is inv (ap ByDay (row_is i to rows small is counted) ∙ sym (cond-true (dated (clause_at f i)) (ByDay (row_of f i)) (lasting (of days i)) here)),
        ap (λ b. rows + cond b 1 0) (sym here) ∙ rows_more f i to rows small is counted,
      )

  pub told_undated : (s : List Span) (i to rows : ℕ) (e : Entry) (x : Span) → i < 257 → to ≡ i + 1 → ToldFrom f days to s → rows ≡ rows_in f (257 - to) to → e ≡ at f.entries i → entry_dated s e ≡ false → x ≡ lasting (of days i)
      → ToldFrom f days i (set s i x) × (rows ≡ rows_in f (257 - i) i)
  told_undated s i to rows e x small is inv counted ee not-dated ex =
      let here : dated (clause_at f i) ≡ false = sym (dated_is s i to e is inv ee) ∙ not-dated in
      let none : rows + 0 ≡ rows = omega arith in (
        told_more s i to x small is inv (ex ∙ sym (cond-false (dated (clause_at f i)) (ByDay (row_of f i)) (lasting (of days i)) here)),
        sym none ∙ ap (λ b. rows + cond b 1 0) (sym here) ∙ rows_more f i to rows small is counted,
      )

-- a table that tells of each entry is the table of them all
span_is : (D : Durations) (row : ℕ) (c : Clause) (b : Bool) → dated c ≡ b → cond b (ByDay row) (lasting (lasts D c)) ≡ cond b (ByDay row) (lasting (ends D c 0))
span_is D row c true h = refl
span_is D row c false h = ap lasting (lasts_is D c (relative_undated c h))

pub told_is : (f : File) (D : Durations) (days : List (Option ℕ)) (s : List Span) → D ≡ durations (templates_of f) → Passed f D days → Told f days s → s ≡ spans_of f
unfolding spans_of
told_is f D days s settled passed told =
    fill_by_all _ s 257 Never told.0 (λ i _. told.1 i
    ∙ ap (λ x. cond (dated (clause_at f i)) (ByDay (row_of f i)) (lasting x)) (passed.1 i)
    ∙ span_is D (row_of f i) (clause_at f i) (dated (clause_at f i)) refl
    ∙ ap (λ E. span_by E (row_of f i) (clause_at f i)) settled)

-- what the table tells of each entry, and past the last
pub spans_at : (f : File) → Sound f → (i : ℕ) → get_or (spans_of f) i Never ≡ span_by (durations (templates_of f)) (row_of f i) (clause_at f i)
unfolding spans_of
spans_at f sound i = elim (dec_le 257 i) [
  | yes h ↦
      let long : length (spans_of f) ≡ 257 = length-map-range_with_len (λ j. span_by (durations (templates_of f)) (row_of f j) (clause_at f j)) 0 257 in
      get_or_past (spans_of f) i Never (omega arith) ∙ sym (ap (span_by (durations (templates_of f)) (row_of f i)) (unfolds_past f (leading f sound) i h))
  | no h ↦ get_or-map-range_with_len (λ j. span_by (durations (templates_of f)) (row_of f j) (clause_at f j)) 0 257 i i Never (omega arith) (omega arith)
]
