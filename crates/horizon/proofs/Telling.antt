-- What the spans alone tell, and what filling a row adds.
use Rattle.std.proofs.Common.{◌≡◌, ℕ, suc, ◌+◌, ◌*◌, ◌<◌, ◌≤◌, Bool, true, false, cond, List, [], length, get_or, take, Some, None, Option, sym, refl, ap, ◌∙◌, subst, ap₂, arith, take_all}
use native.Mathlib.Decide.{dec_le}
use Rattle.std.proofs.lemmas.Bool.{true≢false, cond-true}
use Rattle.std.proofs.lemmas.List.{get_or-take}
use Rattle.language.specs.Clauses.{Clause}
use Rattle.language.specs.Ends.{earlier, later, after, up_to, reach, Durations, ends, durations}
use Rattle.language.proofs.Days.{Attained, up_to_yes, at_weaker, at_reach}
use Rattle.language.proofs.Shifts.{shift, ends_range, ends_from_zero}
use Rattle.days.specs.Windows.{meant}
use Rattle.entries.specs.declared.entries.Entry.{Entry}
use Rattle.entries.specs.declared.entries.Entry.TheVariants as entries
use Rattle.entries.specs.Parts.{at}
use Rattle.contract_file.specs.declared.files.File.{File}
use Rattle.contract_file.specs.Pointing.{EntryLeads}
use Rattle.contract_file.specs.Sound.{Sound}
use Rattle.openings.specs.Clauses.{clause_by, clause_at, templates_of}
use Rattle.openings.proofs.Unfolding.{leading, leads_at, unfolds, unfolds_past}
use Rattle.spans.specs.declared.spans.Span.{Span}
use Rattle.spans.specs.declared.spans.Span.TheVariants.{Never, After, ByDay}
use Rattle.spans.specs.Spans.{dated, lasting, rows_in, row_of, spans_of}
use Rattle.spans.proofs.Relativity.{relative_undated}
use Rattle.spans.proofs.Lasting.{after_same}
use Rattle.spans.proofs.Telling.{spans_at}
use Rattle.horizon.specs.Foretelling.{by_span, end_by}
use Rattle.horizon.specs.Filling.{entry_end, Told, Filled, RowAdded}
use Rattle.horizon.proofs.Rows.{rows_from, with_its_own, those_above, rows_of_entries_above_stand_in_front}

-- a span that lasts moves with its base
by_lasting : (rows : List (Option ℕ)) (base : ℕ) (x : Option ℕ) → by_span rows base (lasting x) ≡ shift base x
by_lasting rows base None = refl
by_lasting rows base (Some n) = refl

-- an end is looked up in the cells that the rows have alike
alike : (new old : List (Option ℕ)) (d : ℕ) (s : Span) → ((row : ℕ) → s ≡ ByDay row → get_or new (row * 65536 + d) None ≡ get_or old (row * 65536 + d) None) → by_span new d s ≡ by_span old d s
alike new old d Never h = refl
alike new old d (After n) h = refl
alike new old d (ByDay row) h = h row refl

-- a cell holds any day that a record may bear
cells_hold_days : (x : Option ℕ) (b : ℕ) → Attained x (λ d. (b ≤ d) × (d ≤ 65535)) → after x (up_to 65535) ≡ x
cells_hold_days None b h = refl
cells_hold_days (Some d) b h = up_to_yes 65535 d h.1

-- which spans have a row
lasting_has_no_row : (x : Option ℕ) (row : ℕ) → lasting x ≡ ByDay row → ⊥
lasting_has_no_row None row e = let z : ◌≡◌ {A = ℕ} 0 1 = cc in omega arith
lasting_has_no_row (Some n) row e = let z : ◌≡◌ {A = ℕ} 0 1 = cc in omega arith

dated_if_row : (b : Bool) (own row : ℕ) (x : Option ℕ) → cond b (ByDay own) (lasting x) ≡ ByDay row → (b ≡ true) × (row ≡ own)
dated_if_row true own row x e = (refl, cc)
dated_if_row false own row x e = absurd (lasting_has_no_row x row e)

undated_if_none : (b : Bool) (own : ℕ) (x : Option ℕ) → ((row : ℕ) → cond b (ByDay own) (lasting x) ≡ ByDay row → ⊥) → b ≡ false
undated_if_none true own x none = absurd (none own refl)
undated_if_none false own x none = refl

module _ (f : File) (sound : Sound f) where
  abbrev D : Durations
  D = durations (templates_of f)

  undated_past : (i : ℕ) → 257 ≤ i → dated (clause_at f i) ≡ false
  undated_past i h = ap dated (unfolds_past f (leading f sound) i h)

  -- a row is that of a dated entry
  rows_are_of_dated_entries : (i row : ℕ) → get_or (spans_of f) i Never ≡ ByDay row → (i ≤ 256) × (dated (clause_at f i) ≡ true) × (row ≡ row_of f i)
  rows_are_of_dated_entries i row e =
      let own = dated_if_row (dated (clause_at f i)) (row_of f i) row (ends D (clause_at f i) 0) (sym (spans_at f sound i) ∙ e) in
      elim (dec_le i 256) [
        | yes h ↦ (h, own.0, own.1)
        | no h ↦ absurd (true≢false (sym own.0 ∙ undated_past i (omega arith)))
      ]

  -- the spans alone tell of entries with no row, and past the last
  by_its_span : (b : Bool) (rows : List (Option ℕ)) (i base : ℕ) → base ≤ 65535 → dated (clause_at f i) ≡ false → b ≡ false → by_span rows base (cond b (ByDay (row_of f i)) (lasting (ends D (clause_at f i) 0))) ≡ ends D (clause_at f i) base
  by_its_span true rows i base b u e = absurd (true≢false e)
  by_its_span false rows i base b u e = by_lasting rows base (ends D (clause_at f i) 0) ∙ sym (ends_from_zero D (clause_at f i) (relative_undated (clause_at f i) u) base b)

  told_by_its_span : (rows : List (Option ℕ)) (i base : ℕ) → base ≤ 65535 → dated (clause_at f i) ≡ false → Told f (spans_of f) rows i base
  told_by_its_span rows i base b u = ap (by_span rows base) (spans_at f sound i) ∙ by_its_span (dated (clause_at f i)) rows i base b u u

  pub all_are_told_past_the_last : (rows : List (Option ℕ)) → Filled f (spans_of f) rows 257
  all_are_told_past_the_last rows k base h b = told_by_its_span rows k base b (undated_past k h)

  pub entries_with_no_row_are_told : (rows : List (Option ℕ)) (i : ℕ) → ((row : ℕ) → get_or (spans_of f) i Never ≡ ByDay row → ⊥) → Filled f (spans_of f) rows (i + 1) → Filled f (spans_of f) rows i
  entries_with_no_row_are_told rows i none above k base low b = elim (dec_le k i) [
    | yes h ↦ (let same : i ≡ k = omega arith in
        let undated = undated_if_none (dated (clause_at f i)) (row_of f i) (ends D (clause_at f i) 0) (λ row e. none row (spans_at f sound i ∙ e)) in
        subst (λ (j : ℕ). Told f (spans_of f) rows j base) same (told_by_its_span rows i base b undated))
    | no h ↦ above k base (omega arith) b
  ]

  -- an entry's end comes from those of its parts, which lie above
  by_its_parts : (rows : List (Option ℕ)) (i base : ℕ) → base ≤ 65535 → Filled f (spans_of f) rows (i + 1) → (e : Entry) → EntryLeads f i e → dated (clause_by f (clause_at f) i e) ≡ true → entry_end (spans_of f) rows base e ≡ ends D (clause_by f (clause_at f) i e) base
  by_its_parts rows i base b told entries.Lost p d = refl
  by_its_parts rows i base b told entries.Done p d = refl
  by_its_parts rows i base b told (entries.Step w tail cs) p d =
      after_same (reach (meant w) base base) (end_by (spans_of f) rows tail) (ends D (clause_at f tail))
      (at_weaker (reach (meant w) base base) _ (λ d. d ≤ 65535) (at_reach (meant w) base base) (λ d q. q.3))
      (λ day h. told tail day (omega (arith, p.0.up)) h)
  by_its_parts rows i base b told (entries.Choice l r) p d = ap₂ earlier (told l base (omega (arith, p.0.up)) b) (told r base (omega (arith, p.1.up)) b)
  by_its_parts rows i base b told (entries.Both l r) p d = ap₂ later (told l base (omega (arith, p.0.up)) b) (told r base (omega (arith, p.1.up)) b)
  by_its_parts rows i base b told (entries.Then l r) p d =
      ap (λ (x : Option ℕ). after x (end_by (spans_of f) rows r)) (told l base (omega (arith, p.0.up)) b)
      ∙ after_same (ends D (clause_at f l) base) (end_by (spans_of f) rows r) (ends D (clause_at f r))
      (at_weaker (ends D (clause_at f l) base) _ (λ d. d ≤ 65535) (ends_range D (clause_at f l) base b) (λ d q. q.1))
      (λ day h. told r day (omega (arith, p.1.up)) h)
  by_its_parts rows i base b told (entries.Call k args) p d = let z : ◌≡◌ {A = ℕ} 0 1 = cc in absurd (omega arith)
  by_its_parts rows i base b told (entries.Template k t n) p d = refl
  by_its_parts rows i base b told (entries.Condition k t n) p d = refl
  by_its_parts rows i base b told (entries.Argument s v n) p d = refl

  -- the rows with an entry's own behind them
  module _ (old new : List (Option ℕ)) (i : ℕ) (small : i ≤ 256) (dates : dated (clause_at f i) ≡ true) (long : length old ≡ row_of f i * 65536)
      (told : Filled f (spans_of f) old (i + 1)) (added : RowAdded (spans_of f) (at f.entries i) old new 65536) where
    -- the cells in front are as they were
    in_front : (m place : ℕ) → length old ≤ m → place < length old → get_or (take m new) place None ≡ get_or old place None
    in_front m place h low =
        get_or-take m new place None (omega arith) ∙ sym (get_or-take (length old) new place None low) ∙ ap (λ (l : List (Option ℕ)). get_or l place None) added.kept

    above : (m : ℕ) → length old ≤ m → Filled f (spans_of f) (take m new) (i + 1)
    above m h k base low b =
        alike (take m new) old base (get_or (spans_of f) k Never)
        (λ row e.
        let theirs = rows_are_of_dated_entries k row e in
        let front = rows_of_entries_above_stand_in_front f i k (omega arith) theirs.0 theirs.1 in
        in_front m (row * 65536 + base) h (omega (arith, theirs.2, front, long)))
        ∙ told k base low b

    -- the end that a cell is to hold
    its_end : (m base : ℕ) → length old ≤ m → base ≤ 65535 → entry_end (spans_of f) (take m new) base (at f.entries i) ≡ ends D (clause_at f i) base
    its_end m base h b =
        let here : dated (clause_by f (clause_at f) i (at f.entries i)) ≡ true = ap dated (sym (unfolds f (leading f sound) i)) ∙ dates in
        by_its_parts (take m new) i base b (above m h) (at f.entries i) (leads_at f (leading f sound) i) here ∙ ap (λ (c : Clause). ends D c base) (sym (unfolds f (leading f sound) i))

    own : (base : ℕ) → base ≤ 65535 → Told f (spans_of f) new i base
    own base b =
        let end = its_end (length old + base) base (omega arith) b in
        let place : row_of f i * 65536 + base ≡ length old + base = omega (arith, long) in
        ap (by_span new base) (spans_at f sound i ∙ cond-true (dated (clause_at f i)) (ByDay (row_of f i)) (lasting (ends D (clause_at f i) 0)) dates)
        ∙ ap (λ n. get_or new n None) place ∙ added.ends base (omega arith) ∙ ap (λ (x : Option ℕ). after x (up_to 65535)) end
        ∙ cells_hold_days (ends D (clause_at f i) base) base (ends_range D (clause_at f i) base b)

    pub row_is_told : Filled f (spans_of f) new i
    row_is_told k base low b = elim (dec_le k i) [
      | yes h ↦ (let same : i ≡ k = omega arith in subst (λ (j : ℕ). Told f (spans_of f) new j base) same (own base b))
      | no h ↦ subst (λ (rows : List (Option ℕ)). Told f (spans_of f) rows k base) (take_all (length new) new (omega arith)) (above (length new) (omega (arith, added.long)) k base (omega arith) b)
    ]

-- what stands when the entries from i on are told
pub record Standing (f : File) (spans : List Span) (rows : List (Option ℕ)) (i : ℕ) : Type 0 where
  pub same : spans ≡ spans_of f
  pub long : length rows ≡ rows_from f i * 65536
  pub told : Filled f (spans_of f) rows i

module _ (f : File) (sound : Sound f) where
  pub none_stands : (spans : List Span) (rows : List (Option ℕ)) → spans ≡ spans_of f → rows ≡ [] → Standing f spans rows 257
  unfolding rows_in
  none_stands spans rows same none = record { same = same; long = ap (λ (l : List (Option ℕ)). length l) none; told = all_are_told_past_the_last f sound rows }

  module _ (spans : List Span) (rows : List (Option ℕ)) (i to : ℕ) (small : i ≤ 256) (is : to ≡ i + 1) (before : Standing f spans rows to) where
    told_above : Filled f (spans_of f) rows (i + 1)
    told_above = subst (λ n. Filled f (spans_of f) rows n) is before.told

    front : length rows ≡ row_of f i * 65536
    front = let next : to ≡ suc i = omega arith in before.long ∙ ap (λ n. rows_from f n * 65536) next ∙ ap (λ n. n * 65536) (sym (those_above f i small))

    pub row_stands : (row : ℕ) (e : Entry) (spans' : List Span) (rows' : List (Option ℕ)) → ByDay row ≡ get_or (spans_of f) i Never → e ≡ at f.entries i → spans' ≡ spans → RowAdded spans e rows rows' 65536 → Standing f spans' rows' i
    row_stands row e spans' rows' span is_entry kept added =
        let dates = (rows_are_of_dated_entries f sound i row (sym span)).1 in
        let one = ap {B = ℕ} (λ b. cond b 1 0) dates in
        let there = subst (λ x. RowAdded (spans_of f) x rows rows' 65536) is_entry (subst (λ s. RowAdded s e rows rows' 65536) before.same added) in
        record {
          same = kept ∙ before.same;
          long = omega (arith, added.long, front, with_its_own f i small, one);
          told = row_is_told f sound rows rows' i small dates front told_above there;
        }

    pub no_row_stands : ((row : ℕ) → get_or (spans_of f) i Never ≡ ByDay row → ⊥) → Standing f spans rows i
    no_row_stands none =
        let undated = undated_if_none (dated (clause_at f i)) (row_of f i) (ends (durations (templates_of f)) (clause_at f i) 0) (λ row h. none row (spans_at f sound i ∙ h)) in
        let one = ap {B = ℕ} (λ b. cond b 1 0) undated in
        record {
          same = before.same;
          long = omega (arith, front, with_its_own f i small, one);
          told = entries_with_no_row_are_told f sound rows i none told_above;
        }
