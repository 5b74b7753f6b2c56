-- A table of entries as it is filled.
use Rattle.std.proofs.Common.{◌≡◌, ℕ, ◌+◌, ◌<◌, ◌≤◌, ◌≢◌, List, length, set, replicate, Some, sym, ap, ◌∙◌, inl, inr, arith, get_or-set_other, get_or-set_same, below_more}
use Rattle.std.proofs.lemmas.List.FromFn.{fill_by_all, get_or-map-range_with_len, length-map-range_with_len}
use Rattle.std.proofs.lemmas.List.{get_or_past, get_or-replicate, length-replicate, set_past}
use Rattle.std.proofs.lemmas.Bool.{cases_eq, cases_lt, le-leb, lt-leb}
use Rattle.std.proofs.lemmas.Bool.Decides.{nat_tests}
use Rattle.entries.specs.declared.entries.Entry.{Entry}
use Rattle.entries.specs.declared.entries.Entry.TheVariants.{Lost}
use Rattle.entries.specs.Parts.{at, Listed}
use Rattle.entries.specs.Layout.{entry_of}
use Rattle.contract_file.specs.Files.{count_of, bytes_of, or_lost, placed, table_of}

pub all_lost : (n j : ℕ) → at (replicate n Lost) j ≡ Lost
all_lost n j =
    elim (cases_lt j n) [
      | inl lt ↦ get_or-replicate n j Lost Lost lt
      | inr ge ↦ get_or_past (replicate n Lost) j Lost (simp length-replicate ge)
    ]

-- a place that is an entry's, and one past the last
pub placed_entry : (b : List ℕ) (i : ℕ) (e : Entry) → 1 ≤ i → i ≤ count_of b → entry_of (bytes_of b i) ≡ Some e → placed b i ≡ e
placed_entry b i e low high is = rw (le-leb 1 i low, le-leb i (count_of b) high) (ap or_lost is)

pub placed_none : (b : List ℕ) (i : ℕ) → i < 1 → placed b i ≡ Lost
placed_none b i none = rw (lt-leb 1 i none)

pub placed_past : (b : List ℕ) (i : ℕ) → count_of b < i → placed b i ≡ Lost
placed_past b i past = rw (lt-leb i (count_of b) past) (grind (arith, nat_tests))

pub filled_more : (b : List ℕ) (es : List Entry) (i : ℕ) (e : Entry) → i < length es → placed b i ≡ e → ((j : ℕ) → j < i → at es j ≡ placed b j) → (j : ℕ) → j < i + 1 → at (set es i e) j ≡ placed b j
filled_more b es i e lt is below =
    below_more _ _ (λ j h. let ne : j ≢ i = omega arith in rw get_or-set_other (below j h)) (rw get_or-set_same (sym is))

pub filled_rest : (es : List Entry) (i : ℕ) (e : Entry) → ((j : ℕ) → i ≤ j → at es j ≡ Lost) → (j : ℕ) → i + 1 ≤ j → at (set es i e) j ≡ Lost
filled_rest es i e rest j h = let ne : j ≢ i = omega arith in rw get_or-set_other (rest j (omega arith))

pub filled_all : (b : List ℕ) (es : List Entry) (i : ℕ) → length es ≡ 257 → count_of b < i → ((j : ℕ) → j < i → at es j ≡ placed b j) → ((j : ℕ) → i ≤ j → at es j ≡ Lost) → es ≡ table_of b
unfolding table_of
filled_all b es i long past below rest =
    fill_by_all (placed b) es 257 Lost long
    (λ k _. elim (cases_lt k i) [ inl lt ↦ below k lt | inr ge ↦ rest k ge ∙ sym (placed_past b k (omega arith)) ])

-- the table that is read
pub table_long : (b : List ℕ) → length (table_of b) ≡ 257
unfolding table_of
table_long b = length-map-range_with_len (placed b) 0 257

pub table_at : (b : List ℕ) (i : ℕ) → i < 257 → at (table_of b) i ≡ placed b i
unfolding table_of
table_at b i h = get_or-map-range_with_len (placed b) 0 257 i i Lost h (omega arith)

pub table_nowhere : (b : List ℕ) → at (table_of b) 0 ≡ Lost
table_nowhere b = table_at b 0 (omega arith) ∙ placed_none b 0 (omega arith)

pub table_past : (b : List ℕ) (i : ℕ) → count_of b < i → at (table_of b) i ≡ Lost
table_past b i h =
    elim (cases_lt i 257) [
      | inl lt ↦ table_at b i lt ∙ placed_past b i h
      | inr ge ↦ get_or_past (table_of b) i Lost (omega (arith, table_long b))
    ]

-- one listed entry more
pub set_listed : (es : List Entry) (i : ℕ) (e : Entry) → ((j : ℕ) → Listed (at es j)) → Listed e → (j : ℕ) → Listed (at (set es i e) j)
set_listed es i e all here j =
    elim (cases_eq j i) [
      | inr ne ↦ let other : j ≢ i = ne in rw get_or-set_other (all j)
      | inl same ↦
          elim (cases_lt i (length es)) [
            | inl lt ↦ rw (same, get_or-set_same) here
            | inr ge ↦ rw (set_past es i e ge) (all j)
          ]
    ]
