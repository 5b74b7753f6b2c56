-- A table that is filled from its last place to the first.
use Rattle.std.proofs.Common.{◌≡◌, ℕ, zero, suc, ◌+◌, ◌-◌, ◌<◌, ◌≤◌, ◌≢◌, List, ◌∷◌, ◌++◌, length, get_or, set, take, drop, replicate, sym, refl, ap, ◌∙◌, subst, ap₂, arith, length-set, get_or-set_other, get_or-set_same}
use native.Mathlib.Decide.{dec_le}
use denote.Ref.{Bor}
use denote.Param.Members.{Shared}
use Rattle.std.proofs.lemmas.List.{drop-set-lt, take-set-le, take-append-drop, take-take, take-replicate, drop_more, get_or-append_right, get_or-drop, drop_all}
use lib.ListN.{length-replicate}
use Rattle.openings.specs.Passes.{told_past, Gives}

module _ {A F : Type 0} (G : Shared F (ℕ × (Bor (List A) × Unit {0})) A) (rule : F) (untold : A) where
  -- from a place on, each value is one that the rule may give; below it nothing is told yet
  pub record ToldFrom (from : ℕ) (table : List A) : Type 0 where
    pub long : length table ≡ 257
    pub told : (i : ℕ) → from ≤ i → i < 257 → Gives G rule i (told_past untold table i) (get_or table i untold)
    pub rest : take from table ≡ replicate from untold

  module _ (table : List A) (p to : ℕ) (v : A) (is : to ≡ p + 1) (small : to ≤ 257) (before : ToldFrom to table) where
    others : (i : ℕ) → p ≤ i → told_past untold (set table p v) i ≡ told_past untold table i
    others i h = ap (λ l. replicate (i + 1) untold ++ l) (drop-set-lt (i + 1) table p v (omega arith))

    here : told_past untold (set table p v) p ≡ table
    here = others p (omega arith) ∙ ap (λ n. replicate n untold ++ drop n table) (sym is) ∙ ap (λ l. l ++ drop to table) (sym before.rest) ∙ take-append-drop to table

    below : take p (set table p v) ≡ replicate p untold
    below =
        take-set-le p table p v (omega arith) ∙ sym (take-take p to table (omega arith)) ∙ ap (take p) before.rest ∙ take-replicate p to untold (omega arith)

    pub one_more : Gives G rule p table v → ToldFrom p (set table p v)
    one_more given = record {
      long = length-set table p v ∙ before.long;
      told = λ i low h. elim (dec_le i p) [
        | yes e ↦ (let same : p ≡ i = omega arith in
            let inside : p < length table = omega (arith, before.long) in
            let it : v ≡ get_or (set table p v) p untold = sym (get_or-set_same table p v untold inside) in
            subst (λ j. Gives G rule j (told_past untold (set table p v) j) (get_or (set table p v) j untold)) same
            record { seen = given.seen; shows = given.shows ∙ sym here; says = subst (λ x. G.post rule (p, (given.seen, tt)) x) it given.says })
        | no e ↦ (let ne : i ≢ p = omega arith in
            let g = before.told i (omega arith) h in
            let it : get_or table i untold ≡ get_or (set table p v) i untold = sym (get_or-set_other table p i v untold ne) in
            record { seen = g.seen; shows = g.shows ∙ sym (others i (omega arith)); says = subst (λ x. G.post rule (i, (g.seen, tt)) x) it g.says })
      ];
      rest = below;
    }

  -- Where each value that the rule may give, finding past its place what stands in M, is the one that stands in M, the table is M.
  module _ (M table : List A) (whole : length M ≡ 257) (long : length table ≡ 257)
      (given : (i : ℕ) → i < 257 → Gives G rule i (told_past untold table i) (get_or table i untold))
      (right : (i : ℕ) (v : A) → i < 257 → Gives G rule i (told_past untold M i) v → v ≡ get_or M i untold) where
    past : (n i : ℕ) → i + n ≡ 257 → drop i table ≡ drop i M
    past zero i e = drop_all i table (omega arith) ∙ sym (drop_all i M (omega arith))
    past (suc n) i e =
        let more : drop (i + 1) table ≡ drop (i + 1) M = past n (i + 1) (omega arith) in
        let same : told_past untold table i ≡ told_past untold M i = ap (λ l. replicate (i + 1) untold ++ l) more in
        let here : get_or table i untold ≡ get_or M i untold =
        right i _ (omega arith) (subst (λ l. Gives G rule i l (get_or table i untold)) same (given i (omega arith))) in
        drop_more table i untold (omega arith) ∙ ap₂ (λ x l. x ∷ l) here more ∙ sym (drop_more M i untold (omega arith))

    pub filled_is : table ≡ M
    filled_is = past 257 0 refl

-- past its place the rule finds what the table comes to
pub past_is : {A : Type 0} (untold : A) (table : List A) (i k : ℕ) → i < k → get_or (told_past untold table i) k untold ≡ get_or table k untold
past_is untold table i k h =
    get_or-append_right (replicate (i + 1) untold) (drop (i + 1) table) (i + 1) k untold (length-replicate (i + 1) untold) (omega arith)
    ∙ get_or-drop (i + 1) table (k - (i + 1)) untold
    ∙ (let e : i + 1 + (k - (i + 1)) ≡ k = omega arith in ap (λ n. get_or table n untold) e)
