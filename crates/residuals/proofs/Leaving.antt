-- What the marks of a record leave is the residual, and the table takes it over.
use Rattle.std.proofs.Common.{◌≡◌, ℕ, ◌+◌, ◌<◌, ◌≤◌, min, List, [], map, get_or, Some, None, Ok, Err, Option, sym, refl, ap, ◌∙◌, subst, ap₂, arith}
use Rattle.std.proofs.lemmas.List.{get_or-map}
use Rattle.kinds.specs.declared.fields.Conditions.{Conditions}
use Rattle.kinds.specs.Rows.{Row}
use Rattle.kinds.specs.Meaning.{Meaning}
use Rattle.language.specs.Clauses.{Window, Clause, step}
use Rattle.language.specs.Terms.{Term, Done, Lost, Leaf, Choice, Both, Follow, nodes, choice_of, both_of, then_of, opened}
use Rattle.language.specs.Residuals.{after_leaf, met_row, residual}
use Rattle.days.specs.Windows.{meant}
use Rattle.entries.specs.declared.entries.Entry.{Entry}
use Rattle.entries.specs.declared.entries.Entry.TheVariants as entries
use Rattle.entries.specs.Parts.{at}
use Rattle.contract_file.specs.declared.files.File.{File}
use Rattle.contract_file.proofs.Facts.{known_sound}
use Rattle.openings.specs.Clauses.{conditions_at, clause_by, clause_at, templates_of}
use Rattle.openings.proofs.Unfolding.{leading, unfolds}
use Rattle.openings.specs.Shapes.{size}
use Rattle.openings.proofs.Shaping.{size_is}
use Rattle.terms.specs.declared.nodes.Node.TheVariants as node
use Rattle.terms.specs.declared.nodes.Node.{Node}
use Rattle.terms.specs.Tables.{Wrote}
use Rattle.terms.specs.Results.{Replaced}
use Rattle.terms.proofs.Joining.{replaced, refused}
use Rattle.terms.proofs.Writing.{some_nodes}
use Rattle.residuals.specs.declared.marked.Marked.{Marked}
use Rattle.residuals.specs.declared.weights.Weight.{Weight}
use Rattle.residuals.specs.declared.weighed.Weighed.{Weighed}
use Rattle.residuals.specs.Marks.{next_from, leaf_mark, mark_of}
use Rattle.residuals.specs.Marked.{file_of, nodes_of, Stands, opened_if, left}
use Rattle.residuals.specs.Weights.{Weighs, weight_in}
use Rattle.residuals.specs.Rests.{Ready}

-- what was weighed from the first place on can be built
abbrev pub ready : (v : Weighed) (old : List Weight) (end : ℕ) (w : Weight) → Weighs v.marked 0 end w old v.weights.now → (t : Term) → Stands v.marked 0 t → Ready v 0
ready v old end w weighs t h = record { term = t; held = h; told = λ k u low high held. weighs.told k u low (omega (arith, weighs.ends t h)) held }

-- the weight of the whole term stands at the first place
pub told_at_first : (m : Marked) (old new : List Weight) (end : ℕ) (w : Weight) → Weighs m 0 end w old new → (t : Term) → Stands m 0 t → weight_in new 0 ≡ w
told_at_first m old new end w weighs t h = weighs.told 0 t (omega arith) (omega (arith, weighs.ends t h, some_nodes t)) h ∙ sym (weighs.root t h)

-- a term under the marks of a record
module _ {R : Type 0} (K : Meaning R) (m : Marked) (r : R) (f : File) (same : f ≡ file_of m) (marks : m.marks.now ≡ map (mark_of K f r) (nodes_of m)) (on : m.day ≡ K.day r) where
  marked : m.marks.now ≡ map (mark_of K (file_of m) r) (nodes_of m)
  marked = marks ∙ ap (λ g. map (mark_of K g r) (nodes_of m)) same

  -- the tail of a leaf's step goes on from the row that results
  goes_on : (t : ℕ) (tail : Clause) (o : Option Row) → clause_at (file_of m) t ≡ tail → opened_if m (next_from t o) ≡ after_leaf (templates_of (file_of m)) o tail (K.day r)
  unfolding after_leaf
  goes_on t tail None is = refl
  goes_on t tail (Some row) is = ap₂ (λ c d. opened (templates_of (file_of m)) c row d) is on

  leaf_left : (e base : ℕ) (row : Row) (w : Window) (cs : Conditions) (tail : Clause) → clause_at (file_of m) e ≡ step e w cs tail
      → opened_if m (leaf_mark K (file_of m) r row base (at (file_of m).entries e)) ≡ after_leaf (templates_of (file_of m)) (met_row K w cs row base r) tail (K.day r)
  leaf_left e base row w cs tail is = by (at (file_of m).entries e) (sym (unfolds (file_of m) (leading _ (known_sound _ m.openings.now.read.sound)) e) ∙ is)
    where
      by : (x : Entry) → clause_by (file_of m) (clause_at (file_of m)) e x ≡ step e w cs tail
          → opened_if m (leaf_mark K (file_of m) r row base x) ≡ after_leaf (templates_of (file_of m)) (met_row K w cs row base r) tail (K.day r)
      by entries.Lost q = cc
      by entries.Done q = cc
      by (entries.Step days t c) q =
          let when : meant days ≡ w = cc in
          let asks : conditions_at (file_of m) c ≡ cs = cc in
          let next : clause_at (file_of m) t ≡ tail = cc in
          goes_on t tail _ next ∙ ap₂ (λ x y. after_leaf (templates_of (file_of m)) (met_row K x y row base r) tail (K.day r)) when asks
      by (entries.Choice a b) q = cc
      by (entries.Both a b) q = cc
      by (entries.Then a b) q = cc
      by (entries.Call k a) q = cc
      by (entries.Template k b x) q = cc
      by (entries.Condition k t x) q = cc
      by (entries.Argument s v x) q = cc

  pub left_is : (i : ℕ) (t : Term) → Stands m i t → left m i t ≡ residual K (templates_of (file_of m)) t r
  unfolding left residual
  left_is i Done h = refl
  left_is i Lost h = refl
  left_is i (Leaf e w cs tail row base) h =
      ap (opened_if m) (ap (λ l. get_or l i None) marked ∙ get_or-map (mark_of K (file_of m) r) (nodes_of m) i node.Lost None h.0.0 ∙ ap (mark_of K (file_of m) r) h.0.1)
      ∙ leaf_left e base row w cs tail h.1
  left_is i (Choice a b) h = ap₂ choice_of (left_is (i + 1) a h.1) (left_is (i + 1 + nodes a) b h.2)
  left_is i (Both a b) h = ap₂ (λ x y. choice_of (both_of x b) (both_of a y)) (left_is (i + 1) a h.1) (left_is (i + 1 + nodes a) b h.2)
  left_is i (Follow t c row) h = ap₂ (λ x d. then_of x c row (opened (templates_of (file_of m)) c row d)) (left_is (i + 1) t h.3) on

  module _ (weights : List Weight) (old : List Weight) (end : ℕ) (w : Weight) (weighs : Weighs m 0 end w old weights) (t : Term) (h : Stands m 0 t) where
    sized : size w.left ≡ min (nodes (residual K (templates_of (file_of m)) t r)) 257
    sized = ap (λ x. size x.left) (weighs.root t h) ∙ size_is _ ∙ ap (λ u. min (nodes u) 257) (left_is 0 t h)

    pub taken : (before start after : List Node) (s : ℕ) → s ≡ size w.left → s ≤ 256 → start ≡ [] → Wrote (file_of m) start after (left m 0 t)
        → Replaced (file_of m) (residual K (templates_of (file_of m)) t r) before after (Ok tt)
    taken before start after s e small is v = replaced (file_of m) _ before start after is (omega (arith, sized)) (subst (Wrote (file_of m) start after) (left_is 0 t h) v)

    pub kept : (before : List Node) (s : ℕ) → s ≡ size w.left → 256 < s → Replaced (file_of m) (residual K (templates_of (file_of m)) t r) before before (Err (record {}))
    kept before s e large = refused (file_of m) _ before (omega (arith, sized))
