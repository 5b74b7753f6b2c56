-- The term that is computed from a table is the one that the table holds.
use Rattle.std.proofs.Common.{◌≡◌, ℕ, zero, suc, ◌+◌, ◌≤◌, eqb, ltb, List, length, get_or, Some, None, Option, sym, refl, ap, ◌∙◌, subst, arith}
use mathlib.Core.Logic.{∥∥₁_elim}
use mathlib.Core.HLevel.{⊥_prop}
use base.Stored.{coded_ℕ}
use denote.Struct.Props.{≡_prop}
use Rattle.std.proofs.lemmas.Bool.{cond_both, ltb-true, eqb-true, lt-ltb, eq-eqb}
use Rattle.kinds.specs.Rows.{Row}
use Rattle.language.specs.Clauses.{Clause, done, lost, step, choice, both, then, call}
use Rattle.language.specs.Terms as term
use Rattle.language.specs.Terms.{Term, nodes}
use Rattle.contract_file.specs.declared.files.File.{File}
use Rattle.openings.specs.Clauses.{clause_at}
use Rattle.terms.specs.declared.nodes.Node.{Node}
use Rattle.terms.specs.declared.nodes.Node.TheVariants.{Lost, Done, Leaf, Choice, Both, Follow}
use Rattle.terms.specs.Tables.{Is, Holds, Whole}
use Rattle.terms.proofs.Writing.{some_nodes}
use Rattle.held.specs.Whole.{bind, leaf_by, node_by, term_at, Long, SomeWhole}

-- where there is a term, Q holds of it
abbrev At : Option Term → (Term → Type 0) → Type 0
At None Q = Unit {0}
At (Some t) Q = Q t

at_bind : (x : Option Term) (more : Term → Option Term) (Q R : Term → Type 0) → At x Q → ((t : Term) → Q t → At (more t) R) → At (bind x more) R
at_bind None more Q R h k = tt
at_bind (Some t) more Q R h k = k t h

module _ (f : File) (ns : List Node) where
  leaf_held : (at e base : ℕ) (row : Row) → Is ns at (Leaf e row base) → (c : Clause) → clause_at f e ≡ c → At (leaf_by e row base c) (Holds f ns at)
  leaf_held at e base row is done eq = tt
  leaf_held at e base row is lost eq = tt
  leaf_held at e base row is (step own w cs tail) eq =
      cond_both (eqb own e) (Some (term.Leaf e w cs tail row base)) None (λ (o : Option Term). At o (Holds f ns at))
      (λ same. (is, eq ∙ ap (λ (n : ℕ). step n w cs tail) (eqb-true own e same))) (λ _. tt)
  leaf_held at e base row is (choice l r) eq = tt
  leaf_held at e base row is (both l r) eq = tt
  leaf_held at e base row is (then l r) eq = tt
  leaf_held at e base row is (call k args) eq = tt

  node_held : (held : ℕ → Option Term) → ((k : ℕ) → At (held k) (Holds f ns k)) → (at : ℕ) (n : Node) → Is ns at n → At (node_by f held at n) (Holds f ns at)
  node_held held h at Lost is = is
  node_held held h at Done is = is
  node_held held h at (Leaf e row base) is = leaf_held at e base row is (clause_at f e) refl
  node_held held h at Choice is =
      at_bind (held (at + 1)) _ (Holds f ns (at + 1)) _ (h (at + 1))
      (λ l hl. at_bind (held (at + 1 + nodes l)) _ (Holds f ns (at + 1 + nodes l)) _ (h (at + 1 + nodes l)) (λ r hr. (is, hl, hr)))
  node_held held h at Both is =
      at_bind (held (at + 1)) _ (Holds f ns (at + 1)) _ (h (at + 1))
      (λ l hl. at_bind (held (at + 1 + nodes l)) _ (Holds f ns (at + 1 + nodes l)) _ (h (at + 1 + nodes l)) (λ r hr. (is, hl, hr)))
  node_held held h at (Follow e row) is =
      at_bind (held (at + 1)) _ (Holds f ns (at + 1)) _ (h (at + 1)) (λ t ht. (e, is, refl, ht))

  what_is_read_is_held : (n at : ℕ) → At (term_at f ns n at) (Holds f ns at)
  unfolding term_at
  what_is_read_is_held zero at = tt
  what_is_read_is_held (suc n) at =
      cond_both (ltb at (length ns)) (node_by f (term_at f ns n) at (get_or ns at Lost)) None (λ (o : Option Term). At o (Holds f ns at))
      (λ within. node_held (term_at f ns n) (what_is_read_is_held n) at (get_or ns at Lost) (ltb-true at (length ns) within, refl)) (λ _. tt)

  term_step : (n at : ℕ) (node : Node) → Is ns at node → term_at f ns (suc n) at ≡ node_by f (term_at f ns n) at node
  unfolding term_at
  term_step n at node is = rw (lt-ltb at (length ns) is.0, is.1) refl

  what_is_held_is_read : (n : ℕ) (t : Term) (at : ℕ) → Holds f ns at t → nodes t ≤ n → term_at f ns n at ≡ Some t
  what_is_held_is_read zero t at h few = absurd (omega (arith, some_nodes t))
  what_is_held_is_read (suc n) term.Done at h few = term_step n at Done h
  what_is_held_is_read (suc n) term.Lost at h few = term_step n at Lost h
  what_is_held_is_read (suc n) (term.Leaf e w cs tail row base) at h few =
      term_step n at (Leaf e row base) h.0 ∙ (rw (h.1, eq-eqb e e refl) refl)
  what_is_held_is_read (suc n) (term.Choice l r) at h few =
      term_step n at Choice h.0 ∙ (rw (what_is_held_is_read n l (at + 1) h.1 (omega arith), what_is_held_is_read n r (at + 1 + nodes l) h.2 (omega arith)) refl)
  what_is_held_is_read (suc n) (term.Both l r) at h few =
      term_step n at Both h.0 ∙ (rw (what_is_held_is_read n l (at + 1) h.1 (omega arith), what_is_held_is_read n r (at + 1 + nodes l) h.2 (omega arith)) refl)
  what_is_held_is_read (suc n) (term.Follow t c row) at h few =
      term_step n at (Follow h.0 row) h.1 ∙ (rw (what_is_held_is_read n t (at + 1) h.3 (omega arith), h.2) refl)

-- what a held contract's type hides can be taken out again
pub record Found (f : File) (ns : List Node) : Type 0 where
  pub term : Term
  pub whole : Whole f ns term

found_by : (f : File) (ns : List Node) (o : Option Term) → At o (Holds f ns 0) → ∥ Long (length ns) o ∥₁ → Found f ns
found_by f ns None h long = absurd (∥∥₁_elim long ⊥_prop (λ x. x))
found_by f ns (Some t) h long = record { term = t; whole = (h, ∥∥₁_elim long (≡_prop coded_ℕ _ _) (λ x. x)) }

pub found : (f : File) (ns : List Node) → ∥ SomeWhole f ns ∥₁ → Found f ns
found f ns long = found_by f ns (term_at f ns 256 0) (what_is_read_is_held f ns 256 0) long

pub some_whole : (f : File) (ns : List Node) (t : Term) → nodes t ≤ 256 → Whole f ns t → ∥ SomeWhole f ns ∥₁
some_whole f ns t few whole = ∣ subst (Long (length ns)) (sym (what_is_held_is_read f ns 256 t 0 whole.0 few)) whole.1 ∣₁
