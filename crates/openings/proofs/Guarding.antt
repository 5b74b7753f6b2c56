-- In the templates of a sound file each bare call names a lower template.
use Rattle.std.proofs.Common.{◌≡◌, ℕ, zero, suc, ◌+◌, ◌-◌, ◌<◌, ◌≤◌, List, sym, refl, ap, ◌∙◌, subst, inl, inr, arith}
use native.Mathlib.Decide.{dec_le}
use Rattle.std.proofs.lemmas.Bool.{cases_order, cases_eq}
use Rattle.language.specs.Clauses.{Clause}
use Rattle.language.specs.Terms.{BareBelow, Guarded}
use Rattle.entries.specs.declared.entries.Entry.{Entry}
use Rattle.entries.specs.declared.entries.Entry.TheVariants.{Lost, Done, Step, Choice, Both, Then, Call, Template, Condition, Argument}
use Rattle.entries.specs.Parts.{at, next_template, Listed}
use Rattle.contract_file.specs.declared.files.File.{File}
use Rattle.contract_file.specs.Pointing.{EntryLeads}
use Rattle.contract_file.specs.Chains.{chain}
use Rattle.contract_file.specs.Clauses.{CallRight}
use Rattle.contract_file.specs.Reach.{Bare, at_body, further}
use Rattle.contract_file.specs.Sound.{Sound}
use Rattle.contract_file.proofs.Along.{chain_more}
use Rattle.openings.specs.Clauses.{clause_by, clause_of, clause_at, body_of, templates_of}
use Rattle.openings.proofs.Unfolding.{leading, leads_at, unfolds_none, body_is, body_past}

module _ (f : File) (sound : Sound f) where
  abbrev es : List Entry
  es = f.entries

  -- bare calls in what a body reaches through choice, both and then
  bare_by : (k i : ℕ) (to : ℕ → Clause) → Bare es k i → ((l : ℕ) → Bare es k l → BareBelow k (to l)) → (e : Entry) → at es i ≡ e → EntryLeads f i e → CallRight f i e → BareBelow k (clause_by f to i e)
  bare_by k i to bare rest Lost is p c = tt
  bare_by k i to bare rest Done is p c = tt
  bare_by k i to bare rest (Step w t cs) is p c = tt
  bare_by k i to bare rest (Choice l r) is p c = (
    rest l (further i l bare (rw is (omega (arith, p.0.up), inl refl))),
    rest r (further i r bare (rw is (omega (arith, p.1.up), inr refl))),
  )
  bare_by k i to bare rest (Both l r) is p c = (
    rest l (further i l bare (rw is (omega (arith, p.0.up), inl refl))),
    rest r (further i r bare (rw is (omega (arith, p.1.up), inr refl))),
  )
  bare_by k i to bare rest (Then l r) is p c = (
    rest l (further i l bare (rw is (omega (arith, p.0.up), inl refl))),
    rest r (further i r bare (rw is (omega (arith, p.1.up), inr refl))),
  )
  bare_by k i to bare rest (Call t a) is p c = c.below k bare
  bare_by k i to bare rest (Template t b n) is p c = tt
  bare_by k i to bare rest (Condition t q n) is p c = tt
  bare_by k i to bare rest (Argument t v n) is p c = tt

  bare_of : (n k i : ℕ) → Bare es k i → BareBelow k (clause_of f n i)
  unfolding clause_of
  bare_of zero k i bare = tt
  bare_of (suc n) k i bare = bare_by k i (clause_of f n) bare (λ l. bare_of n k l) (at es i) refl (leads_at f (leading f sound) i) (sound.calls i)

  -- the chain of templates goes up as long as it goes on
  next_up : (i : ℕ) (e : Entry) → EntryLeads f i e → 0 < next_template e → i < next_template e
  next_up i Lost p h = absurd (omega arith)
  next_up i Done p h = absurd (omega arith)
  next_up i (Step w t cs) p h = absurd (omega arith)
  next_up i (Choice l r) p h = absurd (omega arith)
  next_up i (Both l r) p h = absurd (omega arith)
  next_up i (Then l r) p h = absurd (omega arith)
  next_up i (Call t a) p h = absurd (omega arith)
  next_up i (Template t b n) p h = (p.1 h).up
  next_up i (Condition t q n) p h = absurd (omega arith)
  next_up i (Argument t v n) p h = absurd (omega arith)

  chain_up : (k : ℕ) → 0 < k → 0 < chain f (k + 1) → chain f k < chain f (k + 1)
  chain_up k some h =
      let next = chain_more f k some in
      rw next (next_up (chain f k) (at es (chain f k)) (leads_at f (leading f sound) (chain f k)) (rw next at h))

  chain_goes : (k : ℕ) → 0 < k → 0 < chain f (k + 1) → 0 < chain f k
  chain_goes k some h =
      elim (cases_eq (chain f k) 0) [
        | inr ne ↦ omega arith
        | inl e ↦
            let none : chain f (k + 1) ≡ 0 = chain_more f k some ∙ ap (λ i. next_template (at es i)) e ∙ ap next_template sound.parsed.nowhere in
            absurd (omega arith)
      ]

  chain_rises : (n k : ℕ) → 0 < k → 0 < chain f (k + n) → (chain f k ≤ chain f (k + n)) × (0 < n → chain f k < chain f (k + n))
  chain_rises zero k some h = let e : k + 0 ≡ k = omega arith in rw e (omega arith, (λ none. absurd (omega arith)))
  chain_rises (suc n) k some h =
      let e : k + suc n ≡ (k + n) + 1 = omega arith in
      let on : 0 < chain f ((k + n) + 1) = rw e at h in
      let before = chain_rises n k some (chain_goes (k + n) (omega arith) on) in
      let last = chain_up (k + n) (omega arith) on in
      rw e (omega (arith, before.0, last), (λ _. omega (arith, before.0, last)))

  one_place : (j k : ℕ) → 0 < j → j < k → 0 < chain f k → chain f j ≡ chain f k → ⊥
  one_place j k some lt h same =
      let e : j + (k - j) ≡ k = omega arith in
      let rises = (chain_rises (k - j) j some (rw e h)).1 (omega arith) in
      let less : chain f j < chain f k = rw e at rises in
      omega arith

  same_place : (j k : ℕ) → 0 < j → 0 < k → 0 < chain f k → chain f j ≡ chain f k → j ≡ k
  same_place j k a b h same =
      elim (cases_order j k) [
        | inl e ↦ e
        | inr (inl lt) ↦ absurd (one_place j k a lt h same)
        | inr (inr gt) ↦ absurd (one_place k j b gt (rw same h) (sym same))
      ]

  nothing : (k : ℕ) → BareBelow k (clause_at f 0)
  nothing k = subst (BareBelow k) (sym (unfolds_none f (leading f sound))) tt

  named : (k t b n : ℕ) → t ≡ k → at es (chain f k) ≡ Template t b n → BareBelow k (clause_at f b)
  unfolding clause_at
  named k t b n own is = bare_of 257 k b (at_body (chain f k) b n (is ∙ ap (λ x. Template x b n) own))

  -- the body of a template
  body_bare : (k : ℕ) → 0 < k → (e : Entry) → at es (chain f k) ≡ e → BareBelow k (clause_at f (body_of e))
  body_bare k some Lost is = nothing k
  body_bare k some Done is = nothing k
  body_bare k some (Step w t cs) is = nothing k
  body_bare k some (Choice l r) is = nothing k
  body_bare k some (Both l r) is = nothing k
  body_bare k some (Then l r) is = nothing k
  body_bare k some (Call t a) is = nothing k
  body_bare k some (Template t b n) is =
      let values = subst (λ (e : Entry). Listed e) is (sound.parsed.values (chain f k)) in
      let there : 0 < chain f k = elim (cases_eq (chain f k) 0) [
        | inr ne ↦ omega arith
        | inl z ↦ absurd (let q : Lost ≡ Template t b n = sym sound.parsed.nowhere ∙ ap (at es) (sym z) ∙ is in let y : ◌≡◌ {A = ℕ} 0 1 = cc in omega arith)
      ] in
      let own : t ≡ k = same_place t k values.0 some there ((sound.chains (chain f k)).0 t b n is) in
      named k t b n own is
  body_bare k some (Condition t q n) is = nothing k
  body_bare k some (Argument t v n) is = nothing k

  pub guarded : Guarded (templates_of f)
  guarded k = elim (dec_le k 16) [
    | yes small ↦
        elim (cases_eq k 0) [
          | inl none ↦ rw none tt
          | inr ne ↦ subst (BareBelow k) (sym (body_is f k (omega arith) small)) (body_bare k (omega arith) (at es (chain f k)) refl)
        ]
    | no large ↦ subst (BareBelow k) (sym (body_past f k (omega arith))) tt
  ]
