-- A plan is right, and names only what lies above an entry or a lower template.
use Rattle.std.proofs.Common.{◌≡◌, ℕ, ◌<◌, ◌≤◌, min, List, Some, None, Option, sym, refl, ap, ◌∙◌, subst}
use Rattle.kinds.specs.declared.fields.Conditions.{Conditions}
use Rattle.kinds.specs.Rows.{Row, fill}
use Rattle.language.specs.Clauses.{Window, Clause, step, body}
use Rattle.language.specs.Terms.{Term, Done, Lost, Choice, Both, Follow, nodes, choice_of, both_of, then_of, opened, BareBelow}
use Rattle.language.proofs.Depth.{opening_rules}
use Rattle.entries.specs.declared.entries.Entry.{Entry}
use Rattle.entries.specs.declared.entries.Entry.TheVariants as entries
use Rattle.entries.specs.Parts.{at, Listed}
use Rattle.contract_file.specs.declared.files.File.{File}
use Rattle.contract_file.specs.Pointing.{EntryLeads}
use Rattle.contract_file.specs.Sound.{Sound}
use Rattle.contract_file.proofs.Facts.{known_sound}
use Rattle.days.specs.Windows.{meant}
use Rattle.openings.specs.declared.known.Openings.{Openings}
use Rattle.openings.specs.declared.shapes.Shape.{Shape}
use Rattle.openings.specs.declared.shapes.Tidied.{Tidied}
use Rattle.openings.specs.declared.shapes.Tidied.TheVariants as tidied
use Rattle.openings.specs.declared.shapes.Followed.{Followed}
use Rattle.openings.specs.declared.shapes.Followed.TheVariants as follows
use Rattle.openings.specs.Clauses.{conditions_at, arguments_at, clause_by, clause_at, templates_of}
use Rattle.openings.specs.Shapes.{Known, size, by_sides, by_both, by_followed}
use Rattle.openings.specs.Rounds.{of}
use Rattle.openings.proofs.Shaping.{size_is, ChoiceLeaves, choice_leaves, BothLeaves, both_leaves, ThenLeaves, then_leaves}
use Rattle.openings.proofs.Unfolding as unfolding-laws
use Rattle.openings.proofs.Guarding.{guarded}
use Rattle.openings.proofs.Facts.{known_openings}
use Rattle.terms.specs.declared.plans.Plan.{Plan}
use Rattle.terms.specs.declared.plans.Plan.TheVariants as plan
use Rattle.terms.specs.Plans.{opens, choice_plan, both_plan, then_plan, plan_by}

pub record Stepped (f : File) (i : ℕ) : Type 0 where
  pub when : Window
  pub asks : Conditions
  pub tail : Clause
  pub is : clause_at f i ≡ step i when asks tail

module _ (f : File) (level i : ℕ) (row : Row) (base : ℕ) where
  -- an entry that is opened for entry i
  pub record Next (e : ℕ) : Type 0 where
    pub up : i < e
    pub below : BareBelow level (clause_at f i) → BareBelow level (clause_at f e)

  -- a template that is opened for entry i
  pub record Called (k a : ℕ) : Type 0 where
    pub named : (1 ≤ k) × (k ≤ 16)
    pub below : BareBelow level (clause_at f i) → k < level
    pub is : opens f row base i ≡ opened (templates_of f) (body (templates_of f) k) (fill (arguments_at f a) row) base

  abbrev pub Planned : Plan → Type 0
  Planned plan.Lost = opens f row base i ≡ Lost
  Planned plan.Done = opens f row base i ≡ Done
  Planned plan.Leaf = Stepped f i
  Planned (plan.Only e) = (opens f row base i ≡ opens f row base e) × Next e
  Planned (plan.Choice l r) = (opens f row base i ≡ Choice (opens f row base l) (opens f row base r)) × Next l × Next r
  Planned (plan.Both l r) = (opens f row base i ≡ Both (opens f row base l) (opens f row base r)) × Next l × Next r
  Planned (plan.Follow l r) = (opens f row base i ≡ Follow (opens f row base l) (clause_at f r) row) × Next l
  Planned (plan.Skip l r) = (opens f row base i ≡ Choice (Follow (opens f row base l) (clause_at f r) row) (opens f row base r)) × Next l × Next r
  Planned (plan.Call k a) = Called k a

  module _ (shapes : List Shape) (sound : Sound f) (known : Known f shapes) where
    -- the sides of an entry that has two
    module _ (l r : ℕ) where
      choice_planned : opens f row base i ≡ choice_of (opens f row base l) (opens f row base r) → Next l → Next r → Planned (choice_plan shapes l r)
      choice_planned is nl nr = by _ (choice_leaves (opens f row base l) (opens f row base r) _ _ (known l row base) (known r row base))
        where
          by : (k : Tidied) → ChoiceLeaves (opens f row base l) (opens f row base r) k → Planned (by_sides (plan.Only l) (plan.Only r) (plan.Choice l r) k)
          by tidied.Left e = (is ∙ e, nl)
          by tidied.Right e = (is ∙ e, nr)
          by tidied.Whole e = (is ∙ e, nl, nr)

      both_planned : opens f row base i ≡ both_of (opens f row base l) (opens f row base r) → Next l → Next r → Planned (both_plan shapes l r)
      both_planned is nl nr = by _ (both_leaves (opens f row base l) (opens f row base r) _ _ (known l row base) (known r row base))
        where
          by : (k : Option Tidied) → BothLeaves (opens f row base l) (opens f row base r) k → Planned (by_both plan.Lost (plan.Only l) (plan.Only r) (plan.Both l r) k)
          by None e = is ∙ e
          by (Some tidied.Left) e = (is ∙ e, nl)
          by (Some tidied.Right) e = (is ∙ e, nr)
          by (Some tidied.Whole) e = (is ∙ e, nl, nr)

      then_planned : opens f row base i ≡ then_of (opens f row base l) (clause_at f r) row (opens f row base r) → Next l → Next r → Planned (then_plan shapes l r)
      then_planned is nl nr = by _ (then_leaves (opens f row base l) (clause_at f r) row (opens f row base r) _ _ (known l row base) (known r row base))
        where
          by : (k : Option Followed) → ThenLeaves (opens f row base l) (clause_at f r) row (opens f row base r) k
              → Planned (by_followed plan.Lost (plan.Only r) (plan.Follow l r) (plan.Skip l r) k)
          by None e = is ∙ e
          by (Some follows.Clause) e = (is ∙ e, nr)
          by (Some follows.Follow) e = (is ∙ e, nl)
          by (Some follows.Skip) e = (is ∙ e, nl, nr)

    -- what stands in the entry
    module _ (e : Entry) (is : at f.entries i ≡ e) where
      means : clause_at f i ≡ clause_by f (clause_at f) i e
      means = unfolding-laws.unfolds_to f (unfolding-laws.leading f sound) i e is

      leads : EntryLeads f i e
      leads = rw is at (unfolding-laws.leads_at f (unfolding-laws.leading f sound) i)

      values : Listed e
      values = rw is at (sound.parsed.values i)

      opens_as : (t : Term) → opened (templates_of f) (clause_by f (clause_at f) i e) row base ≡ t → opens f row base i ≡ t
      opens_as t q = ap (λ c. opened (templates_of f) c row base) means ∙ q

    by : (e : Entry) → at f.entries i ≡ e → Planned (plan_by shapes e)
    by entries.Lost e = opens_as _ e _ ((opening_rules _).of_lost row base)
    by entries.Done e = opens_as _ e _ ((opening_rules _).of_done row base)
    by (entries.Step w tail cs) e = record { when = meant w; asks = conditions_at f cs; tail = clause_at f tail; is = means _ e }
    by (entries.Choice l r) e =
        let p = leads _ e in
        let is = means _ e in
        choice_planned l r (opens_as _ e _ ((opening_rules _).of_choice _ _ row base))
        (record { up = p.0.up; below = λ h. (let g = rw is at h in g.0) }) (record { up = p.1.up; below = λ h. (let g = rw is at h in g.1) })
    by (entries.Both l r) e =
        let p = leads _ e in
        let is = means _ e in
        both_planned l r (opens_as _ e _ ((opening_rules _).of_both _ _ row base))
        (record { up = p.0.up; below = λ h. (let g = rw is at h in g.0) }) (record { up = p.1.up; below = λ h. (let g = rw is at h in g.1) })
    by (entries.Then l r) e =
        let p = leads _ e in
        let is = means _ e in
        then_planned l r (opens_as _ e _ ((opening_rules _).of_then _ _ row base))
        (record { up = p.0.up; below = λ h. (let g = rw is at h in g.0) }) (record { up = p.1.up; below = λ h. (let g = rw is at h in g.1) })
    by (entries.Call k a) e =
        let is = means _ e in
        record {
          named = values _ e;
          below = λ h. (let g = rw is at h in g);
          is = opens_as _ e _ ((opening_rules _).of_call (guarded f sound) k (arguments_at f a) row base);
        }
    by (entries.Template k b x) e = opens_as _ e _ ((opening_rules _).of_lost row base)
    by (entries.Condition k t x) e = opens_as _ e _ ((opening_rules _).of_lost row base)
    by (entries.Argument s v x) e = opens_as _ e _ ((opening_rules _).of_lost row base)

-- a file with its openings is sound, and what they tell is known
module _ (o : Openings) where
  pub sound_file : Sound o.read.file
  sound_file = known_sound o.read.file o.read.sound

  -- the size that is told of the contract
  pub contract_told : (f : File) (s : Shape) → f ≡ o.read.file → s ≡ of o.shapes f.contract → (row : Row) (base : ℕ)
      → size s ≡ min (nodes (opens o.read.file row base o.read.file.contract)) 257
  contract_told f s same is row base =
      ap size (is ∙ ap (λ g. of o.shapes g.contract) same ∙ known_openings _ _ o.known o.read.file.contract row base) ∙ size_is _

  pub plans : (level i : ℕ) (row : Row) (base : ℕ) (p : Plan) → p ≡ plan_by o.shapes (at o.read.file.entries i) → Planned o.read.file level i row base p
  plans level i row base p eq =
      subst (Planned o.read.file level i row base) (sym eq)
      (by o.read.file level i row base o.shapes sound_file (known_openings _ _ o.known) (at o.read.file.entries i) refl)
