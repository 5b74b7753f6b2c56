-- The rounds come to the durations.
use Rattle.std.proofs.Common.{eqb, ◌&&◌, ◌≡◌, ℕ, zero, suc, ◌+◌, ◌*◌, ◌<◌, true, false, List, [], ◌∷◌, map, length, get_or, replicate, Some, None, Option, sym, refl, ap, ◌∙◌, ap₂, arith, ext_get_or}
use Rattle.std.specs.Cmp.Lexicographic.{pointwise}
use Rattle.std.specs.Option.{option_eq}
use Rattle.std.proofs.lemmas.Bool.{cond-true, cond-false}
use Rattle.language.specs.Clauses.{Clause, lost}
use Rattle.language.specs.Ends.{Durations, ends, round, same_day, same, settle, durations}
use Rattle.contract_file.specs.declared.files.File.{File}
use Rattle.contract_file.specs.Sound.{Sound}
use Rattle.openings.specs.Clauses.{clause_at, body_at, templates_of}
use Rattle.openings.proofs.Unfolding.{body_is, sixteen}
use Rattle.spans.specs.Rounds.{of, Passed}
use Rattle.spans.proofs.Relativity.{body_entries_are_relative}
use Rattle.spans.proofs.Lasting.{lasts_is}

of_map : (g : Clause → Option ℕ) → g lost ≡ None → (cs : List Clause) (i : ℕ) → of (map g cs) i ≡ g (get_or cs i lost)
of_map g h [] zero = sym h
of_map g h [] (suc i) = sym h
of_map g h (c ∷ cs) zero = refl
of_map g h (c ∷ cs) (suc i) = of_map g h cs i

long_map : (g : Clause → Option ℕ) (cs : List Clause) → length (map g cs) ≡ length cs
long_map g [] = refl
long_map g (c ∷ cs) = ap suc (long_map g cs)

none_yet : (cs : List Clause) → replicate (length cs) None ≡ map {B = Option ℕ} (λ c. None) cs
none_yet [] = refl
none_yet (c ∷ cs) = ap (λ (l : Durations). None ∷ l) (none_yet cs)

-- the days of the templates' bodies, told by a pass, are the next durations
pub round_is : (f : File) → Sound f → (D s next : Durations) → Passed f D s → length next ≡ 16 → ((k : ℕ) → k < 16 → of next k ≡ of s (body_at f (k + 1))) → next ≡ round (templates_of f) D
round_is f sound D s next passed long each =
    let g : Clause → Option ℕ = λ c. ends D c 0 in
    let many : length (map g (templates_of f)) ≡ 16 = long_map g (templates_of f) ∙ sixteen f in
    ext_get_or None next (round (templates_of f) D) (long ∙ sym many)
    (λ i h.
    let number : i + 1 ≡ suc i = omega arith in
    each i (omega arith) ∙ ap (λ q. of s (body_at f q)) number
    ∙ passed.1 (body_at f (suc i)) ∙ lasts_is D (clause_at f (body_at f (suc i))) (body_entries_are_relative f sound (suc i))
    ∙ sym (of_map g refl (templates_of f) i ∙ ap g (body_is f (suc i) (omega arith) (omega arith))))

-- rounds until one changes nothing
module _ (f : File) where
  pub settles_first : settle (templates_of f) 1048577 (replicate 16 None) ≡ durations (templates_of f)
  unfolding durations
  settles_first =
      let many : 1048577 ≡ suc (65536 * length (templates_of f)) = omega (arith, sixteen f) in
      ap₂ (settle (templates_of f)) many (ap (λ n. replicate n None) (sym (sixteen f)) ∙ none_yet (templates_of f))

  pub settles_more : (n m : ℕ) (D next E : Durations) → n ≡ suc m → settle (templates_of f) n D ≡ E → next ≡ round (templates_of f) D → same D next ≡ false → settle (templates_of f) m next ≡ E
  unfolding settle
  settles_more n m D next E e inv is differ =
      let differs : same D (round (templates_of f) D) ≡ false = ap (same D) (sym is) ∙ differ in
      ap (settle (templates_of f) m) is
      ∙ sym (cond-false (same D (round (templates_of f) D)) D (settle (templates_of f) m (round (templates_of f) D)) differs)
      ∙ sym (ap (λ k. settle (templates_of f) k D) e) ∙ inv

  pub settled : (n m : ℕ) (D next E : Durations) → n ≡ suc m → settle (templates_of f) n D ≡ E → next ≡ round (templates_of f) D → same D next ≡ true → D ≡ E
  unfolding settle
  settled n m D next E e inv is alike =
      let same_again : same D (round (templates_of f) D) ≡ true = ap (same D) (sym is) ∙ alike in
      sym (cond-true (same D (round (templates_of f) D)) D (settle (templates_of f) m (round (templates_of f) D)) same_again) ∙ sym (ap (λ k. settle (templates_of f) k D) e) ∙ inv

  pub settles_last : (n : ℕ) (D E : Durations) → n ≡ 0 → settle (templates_of f) n D ≡ E → D ≡ E
  unfolding settle
  settles_last n D E e inv = sym (ap (λ k. settle (templates_of f) k D) e) ∙ inv

-- what `==` says of two tables of durations
same_day_is : (x y : Option ℕ) → option_eq eqb x y ≡ same_day x y
same_day_is None None = refl
same_day_is None (Some b) = refl
same_day_is (Some a) None = refl
same_day_is (Some a) (Some b) = refl

pub same_is : (xs ys : Durations) → pointwise (option_eq eqb) xs ys ≡ same xs ys
same_is [] [] = refl
same_is [] (y ∷ ys) = refl
same_is (x ∷ xs) [] = refl
same_is (x ∷ xs) (y ∷ ys) = ap₂ (λ a b. a && b) (same_day_is x y) (same_is xs ys)
