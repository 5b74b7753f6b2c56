-- A table as its entries are read, sixteen bytes by sixteen.
use Rattle.std.proofs.Common.{◌≡◌, ℕ, ◌+◌, ◌-◌, ◌*◌, ◌<◌, ◌≤◌, List, ◌++◌, length, take, drop, set, Some, is_some, replicate, sym, refl, ap, ◌∙◌, arith, length-set, below_more}
use Rattle.std.proofs.lemmas.List.{drop-drop, take-append-le, drop-append-le, take_all, drop_all, length-append, length-drop}
use Rattle.entries.specs.declared.entries.Entry.{Entry}
use Rattle.entries.specs.declared.entries.Entry.TheVariants.{Lost}
use Rattle.entries.specs.Parts.{at, Listed}
use Rattle.entries.specs.Layout.{entry_of}
use Rattle.contract_file.specs.Files.{count_of, bytes_of, placed, table_of}
use Rattle.contract_file.specs.Questions.{RightLength, EntriesListed}
use Rattle.contract_file.proofs.Tables.{set_listed, all_lost, placed_none, placed_entry, filled_more, filled_rest, filled_all}

-- the first n entries are read, and `rest` is left
pub record Filled (b : List ℕ) (n : ℕ) (rest : List ℕ) (es : List Entry) : Type 0 where
  pub left : rest ≡ drop (8 + 16 * n) b
  pub long : length es ≡ 257
  pub listed : (j : ℕ) → j < n + 1 → EntriesListed b j
  pub own : (j : ℕ) → j < n + 1 → at es j ≡ placed b j
  pub others : (j : ℕ) → n + 1 ≤ j → at es j ≡ Lost
  pub values : (j : ℕ) → Listed (at es j)

module _ (b : List ℕ) (right : RightLength b) where
  -- what is known of the next sixteen bytes behind the head and n entries
  pub record Next (n : ℕ) (x rest : List ℕ) : Type 0 where
    pub within : n < count_of b
    pub own : x ≡ bytes_of b (n + 1)
    pub behind : rest ≡ drop (8 + 16 * (n + 1)) b

  pub next_bytes : (n : ℕ) (x rest : List ℕ) → drop (8 + 16 * n) b ≡ x ++ rest → length x ≡ 16 → Next n x rest
  next_bytes n x rest is sixteen =
      let m = 8 + 16 * n in
      let place : 16 * (n + 1) - 8 ≡ m = omega arith in
      let more : m + 16 ≡ 8 + 16 * (n + 1) = omega arith in
      record {
        within = omega (arith, length-drop m b, length-append x rest, ap length is, right.whole);
        own = sym (ap (λ (k : ℕ). take 16 (drop k b)) place ∙ ap (take 16) is ∙ take-append-le 16 x rest (omega arith) ∙ take_all 16 x (omega arith));
        behind =
            sym (ap (λ (y : List ℕ). y ++ rest) (drop_all 16 x (omega arith)))
            ∙ sym (drop-append-le 16 x rest (omega arith)) ∙ sym (ap (drop 16) is) ∙ drop-drop 16 m b ∙ ap (λ (k : ℕ). drop k b) more;
      }

  -- no sixteen bytes are left behind the head and n entries
  pub none_left : (n : ℕ) → length (drop (8 + 16 * n) b) < 16 → count_of b < n + 1
  none_left n few = omega (arith, few, length-drop (8 + 16 * n) b, right.whole)

  pub none_filled : Filled b 0 (drop 8 b) (replicate 257 Lost)
  none_filled = record {
    left = refl;
    long = refl;
    listed = λ j low high _. absurd (omega arith);
    own = λ j low. all_lost 257 j ∙ sym (placed_none b j (omega arith));
    others = λ j _. all_lost 257 j;
    values = λ j. rw (all_lost 257 j) tt;
  }

  pub one_filled : (n : ℕ) (x rest : List ℕ) (es : List Entry) (e : Entry) → Filled b n (x ++ rest) es → length x ≡ 16 → entry_of x ≡ Some e → Listed e → Filled b (n + 1) rest (set es (n + 1) e)
  one_filled n x rest es e f sixteen is values =
      let next = next_bytes n x rest (sym f.left) sixteen in
      let told : entry_of (bytes_of b (n + 1)) ≡ Some e = ap entry_of (sym next.own) ∙ is in
      record {
        left = next.behind;
        long = simp length-set f.long;
        listed = below_more (EntriesListed b) (n + 1) f.listed (λ _ _. ap is_some told);
        own = filled_more b es (n + 1) e (omega (arith, next.within, right.few, f.long)) (placed_entry b (n + 1) e (omega arith) (omega (arith, next.within)) told) f.own;
        others = filled_rest es (n + 1) e f.others;
        values = set_listed es (n + 1) e f.values values;
      }

  pub all_filled : (n : ℕ) (rest : List ℕ) (es : List Entry) → Filled b n rest es → length rest < 16 → es ≡ table_of b
  all_filled n rest es f few = filled_all b es (n + 1) f.long (none_left n (rw (f.left) at few)) f.own f.others

  pub all_listed : (n : ℕ) (rest : List ℕ) (es : List Entry) → Filled b n rest es → length rest < 16 → (i : ℕ) → EntriesListed b i
  all_listed n rest es f few i low high = let past = none_left n (rw (f.left) at few) in f.listed i (omega arith) low high
