-- The pass along chains finds what each entry has to exceed.
use Rattle.std.proofs.Common.{◌≡◌, ℕ, ◌+◌, ◌<◌, ◌≢◌, Bool, List, Some, None, Option, Decides, length, replicate, sym, refl, subst, inl, inr, arith, length-set, get_or-set_other, get_or-set_same}
use Rattle.std.proofs.lemmas.List.{get_or_past}
use Rattle.std.proofs.lemmas.Bool.{cases_eq, cases_lt}
use Rattle.std.proofs.lemmas.Bool.Decides.{Decides-like}
use Rattle.entries.specs.declared.entries.Entry.{Entry}
use Rattle.entries.specs.declared.entries.Entry.TheVariants.{Lost, Done, Step, Choice, Both, Then, Call, Template, Condition, Argument}
use Rattle.entries.specs.Parts.{at, rank, Precedes}
use Rattle.contract_file.specs.declared.files.File.{File}
use Rattle.contract_file.specs.Chains.{Above}
use Rattle.contract_file.specs.Marks.{mark}
use Rattle.contract_file.specs.Floors.{higher_of, raised, noted, Exceeds, Floors}
use Rattle.contract_file.proofs.Spreading.{unmarked}

-- what exceeds the higher of a mark and a number exceeds both
exceeds_both : (o : Option ℕ) (own n : ℕ) → higher_of o own < n → Exceeds o n × (own < n)
exceeds_both None own n lt = (tt, lt)
exceeds_both (Some m) own n lt = (omega arith, omega arith)

exceeds_higher : (o : Option ℕ) (own n : ℕ) → Exceeds o n → own < n → higher_of o own < n
exceeds_higher None own n over lt = lt
exceeds_higher (Some m) own n over lt = omega arith

module _ (es : List Entry) where
  pub none_noted : Floors es 0 (replicate 257 None)
  none_noted = record {
    long = refl;
    above = λ k n small over j lt p. absurd (omega arith);
    least = λ k n small all. rw (unmarked 257 k) tt;
  }

  -- an entry that is in no chain
  unchained : (floors : List (Option ℕ)) (i : ℕ) → ((k : ℕ) → Precedes (at es i) k → ⊥) → Floors es i floors → Floors es (i + 1) floors
  unchained floors i none f = record {
    long = f.long;
    above = λ k n small over j lt p.
        elim (cases_lt j i) [
          | inl earlier ↦ f.above k n small over j earlier p
          | inr here ↦ let same : j ≡ i = omega arith in absurd (none k (subst (λ (x : ℕ). Precedes (at es x) k) same p))
        ];
    least = λ k n small all. f.least k n small (λ j lt. all j (omega arith));
  }

  -- an entry whose next is `next`
  chained : (floors : List (Option ℕ)) (i next own : ℕ) → rank (at es i) ≡ own → Precedes (at es i) next → ((k : ℕ) → Precedes (at es i) k → next ≡ k) → Floors es i floors → Floors es (i + 1) (raised floors next own)
  chained floors i next own is to only f = record {
    long = simp length-set f.long;
    above = λ k n small over j lt p.
        elim (cases_eq k next) [
          | inr ne ↦
              let other : k ≢ next = ne in
              let was : Exceeds (mark floors k) n = rw (get_or-set_other) at over in
              elim (cases_lt j i) [
                | inl earlier ↦ f.above k n small was j earlier p
                | inr here ↦ let same : j ≡ i = omega arith in absurd (ne (sym (only k (subst (λ (x : ℕ). Precedes (at es x) k) same p))))
              ]
          | inl e ↦
              let inside : next < length floors = omega (arith, f.long) in
              let now' : mark (raised floors next own) k ≡ Some (higher_of (mark floors next) own) = rw (e, get_or-set_same) in
              let both = exceeds_both (mark floors next) own n (subst (λ (o : Option ℕ). Exceeds o n) now' over) in
              elim (cases_lt j i) [
                | inl earlier ↦ f.above k n small (rw e both.0) j earlier p
                | inr here ↦ let same : j ≡ i = omega arith in rw (same, is) both.1
              ]
        ];
    least = λ k n small all.
        let was = f.least k n small (λ j lt. all j (omega arith)) in
        elim (cases_eq k next) [
          | inr ne ↦ let other : k ≢ next = ne in rw get_or-set_other was
          | inl e ↦
              let inside : next < length floors = omega (arith, f.long) in
              let low : own < n = rw is at (all i (omega arith) (rw e to)) in
              rw (e, get_or-set_same) (exceeds_higher (mark floors next) own n (rw e at was) low)
        ];
  }

  -- one entry more
  pub one_noted : (floors : List (Option ℕ)) (i : ℕ) (e : Entry) → at es i ≡ e → Floors es i floors → Floors es (i + 1) (noted e floors)
  one_noted floors i Lost is f = unchained floors i (λ k p. subst (λ (x : Entry). Precedes x k) is p) f
  one_noted floors i Done is f = unchained floors i (λ k p. subst (λ (x : Entry). Precedes x k) is p) f
  one_noted floors i (Step w t cs) is f = unchained floors i (λ k p. subst (λ (x : Entry). Precedes x k) is p) f
  one_noted floors i (Choice l r) is f = unchained floors i (λ k p. subst (λ (x : Entry). Precedes x k) is p) f
  one_noted floors i (Both l r) is f = unchained floors i (λ k p. subst (λ (x : Entry). Precedes x k) is p) f
  one_noted floors i (Then l r) is f = unchained floors i (λ k p. subst (λ (x : Entry). Precedes x k) is p) f
  one_noted floors i (Call t a) is f = unchained floors i (λ k p. subst (λ (x : Entry). Precedes x k) is p) f
  one_noted floors i (Template t b n) is f = unchained floors i (λ k p. subst (λ (x : Entry). Precedes x k) is p) f
  one_noted floors i (Condition field t n) is f = chained floors i n field (rw is) (rw is refl) (λ k p. subst (λ (x : Entry). Precedes x k) is p) f
  one_noted floors i (Argument slot v n) is f = chained floors i n slot (rw is) (rw is refl) (λ k p. subst (λ (x : Entry). Precedes x k) is p) f

-- a number exceeds what the whole table has of entry i if it is more than each that has i as its next
module _ (f : File) (long : length f.entries ≡ 257) (floors : List (Option ℕ)) (known : Floors f.entries 257 floors) (i : ℕ) (small : i < 257) where
  pub above_floor : (n : ℕ) → Exceeds (mark floors i) n → Above f i n
  above_floor n over j p =
      elim (cases_lt j 257) [
        | inl lt ↦ known.above i n small over j lt p
        | inr ge ↦ absurd (subst (λ (e : Entry). Precedes e i) (get_or_past f.entries j Lost (omega (arith, long))) p)
      ]

  pub floor_above : (n : ℕ) → Above f i n → Exceeds (mark floors i) n
  floor_above n all = known.least i n small (λ j _ p. all j p)

  pub decides_above : (n : ℕ) (b : Bool) → Decides b (Exceeds (mark floors i) n) → Decides b (Above f i n)
  decides_above n b over = Decides-like b (above_floor n) (floor_above n) over
