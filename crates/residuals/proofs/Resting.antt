-- What is written for what is left of a term is what is left of it.
use Rattle.std.proofs.Common.{◌≡◌, ℕ, ◌+◌, ◌<◌, ◌≤◌, min, List, [], ◌∷◌, ◌++◌, length, get_or, Some, None, Option, sym, refl, ap, ◌∙◌, subst, ap₂, arith}
use Rattle.kinds.specs.Rows.{Row}
use Rattle.language.specs.Terms.{Term, Lost, Choice, Both, Follow, nodes, choice_of, both_of, then_of, opened}
use Rattle.openings.specs.declared.shapes.Shape.{Shape}
use Rattle.openings.specs.declared.shapes.Tidied.{Tidied}
use Rattle.openings.specs.declared.shapes.Tidied.TheVariants as tidied
use Rattle.openings.specs.declared.shapes.Followed.{Followed}
use Rattle.openings.specs.declared.shapes.Followed.TheVariants as behind
use Rattle.openings.specs.Clauses.{clause_at, templates_of}
use Rattle.openings.specs.Shapes.{shape_of, tidied_both, by_sides, by_followed, both_shape}
use Rattle.openings.proofs.Shaping.{size_is, both_shape_is, ChoiceLeaves, choice_leaves, BothLeaves, both_leaves, ThenLeaves, then_leaves}
use Rattle.openings.specs.Shapes as shapes
use Rattle.terms.specs.declared.nodes.Node.{Node}
use Rattle.terms.specs.declared.nodes.Node.TheVariants as node
use Rattle.terms.specs.Tables.{Wrote}
use Rattle.terms.proofs.Viewing.{view, Sides, Under, Open}
use Rattle.terms.proofs.Writing.{some_nodes, held_within, retold, write_choice}
use Rattle.residuals.specs.declared.marks.Next.{Next}
use Rattle.residuals.specs.declared.marked.Marked.{Marked}
use Rattle.residuals.specs.declared.weights.Weight.{Weight}
use Rattle.residuals.specs.declared.weighed.Weighed.{Weighed}
use Rattle.residuals.specs.declared.rests.Side.{Side}
use Rattle.residuals.specs.declared.rests.Side.TheVariants as side
use Rattle.residuals.specs.declared.rests.Rest.{Rest}
use Rattle.residuals.specs.declared.rests.Rest.TheVariants as rest
use Rattle.residuals.specs.Marked.{file_of, nodes_of, Stands, mark_at, opened_if, left}
use Rattle.residuals.specs.Weights.{weight_of, weight_in}
use Rattle.residuals.specs.Rests.{Ready, left_of, place, side_term, side_shape, leaf_rest, choice_rest, both_rest, follow_rest, second_at, rest_by, BuildsBoth, HasRoom}
use Rattle.residuals.proofs.Weighing.{opens}

module _ (w : Weighed) where
  abbrev m : Marked
  m = w.marked

  abbrev weights : List Weight
  weights = w.weights.now

  -- the weight of what is ready
  weighs : (at : ℕ) (x : Ready w at) → weight_in weights at ≡ weight_of m at x.term
  weighs at x = x.told at x.term (omega arith) (omega (arith, some_nodes x.term)) x.held

  held_shape : (at : ℕ) (x : Ready w at) → (weight_in weights at).held ≡ shape_of x.term
  held_shape at x = ap (λ w. w.held) (weighs at x)

  left_shape : (at : ℕ) (x : Ready w at) → (weight_in weights at).left ≡ shape_of (left_of x)
  left_shape at x = ap (λ w. w.left) (weighs at x)

  -- it stands within the nodes, of which there are few
  within : (at : ℕ) (x : Ready w at) → at + nodes x.term ≤ length (nodes_of m)
  within at x = held_within (file_of m) (nodes_of m) at x.term x.held

  pub in_table : (at : ℕ) → Ready w at → at < 256
  in_table at x = omega (arith, within at x, m.few, some_nodes x.term)

  -- where the next term begins
  pub ends_at : (at : ℕ) (x : Ready w at) → at + shapes.size (weight_in weights at).held ≡ at + nodes x.term
  ends_at at x = (let s = ap shapes.size (held_shape at x) ∙ size_is x.term in omega (arith, within at x, m.few))

  -- a both of two sides
  sided : (s : Side) (x : Ready w (place s)) → side_shape weights s ≡ shape_of (side_term s x)
  sided (side.Taken p) x = left_shape p x
  sided (side.Kept p) x = held_shape p x

  -- how many nodes are written
  pub left_size : (at : ℕ) (x : Ready w at) → shapes.size (weight_in weights at).left ≡ min (nodes (left_of x)) 257
  left_size at x = ap shapes.size (left_shape at x) ∙ size_is (left_of x)

  pub side_size : (s : Side) (x : Ready w (place s)) → shapes.size (side_shape weights s) ≡ min (nodes (side_term s x)) 257
  side_size s x = ap shapes.size (sided s x) ∙ size_is (side_term s x)

  pub both_size : (l r : Side) (x : Ready w (place l)) (y : Ready w (place r))
      → shapes.size (both_shape (side_shape weights l) (side_shape weights r)) ≡ min (nodes (both_of (side_term l x) (side_term r y))) 257
  both_size l r x y = ap shapes.size (ap₂ both_shape (sided l x) (sided r y) ∙ sym (both_shape_is (side_term l x) (side_term r y))) ∙ size_is _

  -- at least one is
  pub left_some : (at : ℕ) (x : Ready w at) → 0 < shapes.size (weight_in weights at).left
  left_some at x = omega (arith, left_size at x, some_nodes (left_of x))

  pub both_some : (l r : Side) (x : Ready w (place l)) (y : Ready w (place r)) → 0 < shapes.size (both_shape (side_shape weights l) (side_shape weights r))
  both_some l r x y = omega (arith, both_size l r x y, some_nodes (both_of (side_term l x) (side_term r y)))

  -- where they fit there is room for the first
  pub left_fits : (ns : List Node) (at : ℕ) (x : Ready w at) → HasRoom ns (weight_in weights at).left → length ns < 256
  left_fits ns at x room = omega (arith, room, left_some at x)

  pub both_fits : (ns : List Node) (l r : Side) (x : Ready w (place l)) (y : Ready w (place r))
      → HasRoom ns (both_shape (side_shape weights l) (side_shape weights r)) → length ns < 256
  both_fits ns l r x y room = omega (arith, room, both_some l r x y)

  pub halved : (l r : Side) (x : Ready w (place l)) (y : Ready w (place r)) (a b : Shape) (h : Option Tidied) → h ≡ tidied_both a b
      → a ≡ side_shape weights l → b ≡ side_shape weights r → BothLeaves (side_term l x) (side_term r y) h
  halved l r x y a b h e p q =
      subst (BothLeaves (side_term l x) (side_term r y)) (sym e) (both_leaves (side_term l x) (side_term r y) a b (p ∙ sided l x) (q ∙ sided r y))

  pub halved_some : (l r : Side) (x : Ready w (place l)) (y : Ready w (place r)) (a b : Shape) (k h : Tidied) → h ≡ k → Some h ≡ tidied_both a b
      → a ≡ side_shape weights l → b ≡ side_shape weights r → BothLeaves (side_term l x) (side_term r y) (Some k)
  halved_some l r x y a b k h e is p q = halved l r x y a b (Some k) (sym (ap (λ (h : Tidied). Some h) e) ∙ is) p q

  -- a side that stays as it stands
  pub record Whole (p : ℕ) (t : Term) : Type 0 where
    pub held : Stands m p t
    pub few : p + nodes t ≤ length (nodes_of m)
    pub ends : p + shapes.size (weight_in weights p).held ≡ p + nodes t

  pub whole : (s : Side) (p : ℕ) → s ≡ side.Kept p → (x : Ready w (place s)) → Whole p (side_term s x)
  whole (side.Taken q) p e x = (let z : ◌≡◌ {A = ℕ} 0 1 = cc in absurd (omega arith))
  whole (side.Kept q) p e x =
      let same : q ≡ p = cc in
      subst (λ (i : ℕ). Whole i x.term) same (record { held = x.held; few = within q x; ends = ends_at q x })

  -- what is written
  module _ (at : ℕ) (x : Ready w at) where
    pub record Parts (l r : ℕ) : Type 0 where
      pub left : Ready w l
      pub right : Ready w r
      pub low : at < l
      pub between : l < r

    pub record Part (p : ℕ) : Type 0 where
      pub part : Ready w p
      pub low : at < p
      pub is : left_of x ≡ left_of part

    pub record Choosing (l r : ℕ) (by : (y : Ready w l) (z : Ready w r) → Term) : Type 0 where
      pub parts : Parts l r
      pub is : left_of x ≡ by parts.left parts.right

    pub record Following (by : Ready w (at + 1) → Term) : Type 0 where
      pub part : Ready w (at + 1)
      pub is : left_of x ≡ by part

    abbrev follows : Next → Ready w (at + 1) → Term
    follows next y = Follow (left_of y) (clause_at (file_of m) next.clause) next.row

    abbrev pub Rested : Rest → Type 0
    Rested rest.Lost = left_of x ≡ Lost
    Rested (rest.Open next) = left_of x ≡ opened_if m (Some next)
    Rested (rest.Only p) = Part p
    Rested (rest.Choice l r) = Choosing l r (λ y z. Choice (left_of y) (left_of z))
    Rested (rest.Both l r) = Choosing (place l) (place r) (λ y z. both_of (side_term l y) (side_term r z))
    Rested (rest.Either l r) = Choosing l r (λ y z. Choice (both_of (left_of y) z.term) (both_of y.term (left_of z)))
    Rested (rest.Follow next) = Following (follows next)
    Rested (rest.Skip next) = Following (λ y. Choice (follows next y) (opened_if m (Some next)))

    -- the two sides of a term
    module _ (join : Term → Term → Term) (size : (l r : Term) → nodes (join l r) ≡ 1 + (nodes l + nodes r)) (v : Sides (file_of m) (nodes_of m) at join x.term) where
      spans : nodes x.term ≡ 1 + (nodes v.left + nodes v.right)
      spans = ap nodes v.is ∙ size v.left v.right

      left_ready : Ready w (at + 1)
      left_ready = record { term = v.left; held = v.left_held; told = λ k u low high h. x.told k u (omega arith) (omega (arith, spans)) h }

      second : second_at weights at ≡ at + 1 + nodes v.left
      unfolding left_ready
      second = ends_at (at + 1) left_ready

      right_ready : Ready w (second_at weights at)
      right_ready = record {
        term = v.right;
        held = subst (λ (i : ℕ). Stands m i v.right) (sym second) v.right_held;
        told = λ k u low high h. x.told k u (omega (arith, second)) (omega (arith, spans, second)) h;
      }

      parts : Parts (at + 1) (second_at weights at)
      parts = record { left = left_ready; right = right_ready; low = omega arith; between = omega (arith, second, some_nodes v.left) }

      moves : left m (at + 1 + nodes v.left) v.right ≡ left m (second_at weights at) v.right
      moves = ap (λ i. left m i v.right) (sym second)

    choice_rested : Sides (file_of m) (nodes_of m) at Choice x.term → Rested (choice_rest weights (at + 1) (second_at weights at))
    unfolding left left_ready right_ready parts
    choice_rested v =
        let l = left_ready Choice (λ l r. refl) v in
        let r = right_ready Choice (λ l r. refl) v in
        let ps = parts Choice (λ l r. refl) v in
        let l' = left_of l in
        let r' = left_of r in
        let is : left_of x ≡ choice_of l' r' = ap (left m at) v.is ∙ ap (choice_of l') (moves Choice (λ l r. refl) v) in
        by ps _ is (choice_leaves l' r' _ _ (left_shape _ l) (left_shape _ r))
      where
        by : {p q : ℕ} (ps : Parts p q) (k : Tidied) → left_of x ≡ choice_of (left_of ps.left) (left_of ps.right) → ChoiceLeaves (left_of ps.left) (left_of ps.right) k
            → Rested (by_sides (rest.Only p) (rest.Only q) (rest.Choice p q) k)
        by ps tidied.Left is e = record { part = ps.left; low = ps.low; is = is ∙ e }
        by ps tidied.Right is e = record { part = ps.right; low = omega (arith, ps.low, ps.between); is = is ∙ e }
        by ps tidied.Whole is e = record { parts = ps; is = is ∙ e }

    both_rested : Sides (file_of m) (nodes_of m) at Both x.term → Rested (both_rest weights (at + 1) (second_at weights at))
    unfolding left left_ready right_ready parts
    both_rested v =
        let l = left_ready Both (λ l r. refl) v in
        let r = right_ready Both (λ l r. refl) v in
        let ps = parts Both (λ l r. refl) v in
        let l' = left_of l in
        let r' = left_of r in
        let is : left_of x ≡ choice_of (both_of l' r.term) (both_of l.term r') =
        ap (left m at) v.is ∙ ap (λ z. choice_of (both_of l' r.term) (both_of l.term z)) (moves Both (λ l r. refl) v) in
        by ps _ is (choice_leaves (both_of l' r.term) (both_of l.term r') _ _
        (ap₂ both_shape (left_shape _ l) (held_shape _ r) ∙ sym (both_shape_is l' r.term))
        (ap₂ both_shape (held_shape _ l) (left_shape _ r) ∙ sym (both_shape_is l.term r')))
      where
        by : {p q : ℕ} (ps : Parts p q) (k : Tidied)
            → left_of x ≡ choice_of (both_of (left_of ps.left) ps.right.term) (both_of ps.left.term (left_of ps.right))
            → ChoiceLeaves (both_of (left_of ps.left) ps.right.term) (both_of ps.left.term (left_of ps.right)) k
            → Rested (by_sides (rest.Both (side.Taken p) (side.Kept q)) (rest.Both (side.Kept p) (side.Taken q)) (rest.Either p q) k)
        by ps tidied.Left is e = record { parts = ps; is = is ∙ e }
        by ps tidied.Right is e = record { parts = ps; is = is ∙ e }
        by ps tidied.Whole is e = record { parts = ps; is = is ∙ e }

    leaf_rested : (s base : ℕ) (row : Row) → Open (file_of m) (nodes_of m) at s row base x.term → Rested (leaf_rest (mark_at m at))
    unfolding left
    leaf_rested s base row v = by (mark_at m at) (ap (left m at) v.is)
      where
        by : (o : Option Next) → left_of x ≡ opened_if m o → Rested (leaf_rest o)
        by None is = is
        by (Some next) is = is

    abbrev again : ℕ → Row → Term
    again s row = opened (templates_of (file_of m)) (clause_at (file_of m) s) row m.day

    then_rested : (s : ℕ) (row : Row) (y : Ready w (at + 1)) (l : Shape) → l ≡ shape_of (left_of y) → left_of x ≡ then_of (left_of y) (clause_at (file_of m) s) row (again s row)
        → Rested (follow_rest m l (record { clause = s; row = row }))
    then_rested s row y l w is = by _ (then_leaves (left_of y) (clause_at (file_of m) s) row (again s row) _ _ w (opens m s row m.day))
      where
        next : Next
        next = record { clause = s; row = row }

        by : (k : Option Followed) → ThenLeaves (left_of y) (clause_at (file_of m) s) row (again s row) k
            → Rested (by_followed rest.Lost (rest.Open next) (rest.Follow next) (rest.Skip next) k)
        by None e = is ∙ e
        by (Some behind.Clause) e = is ∙ e
        by (Some behind.Follow) e = record { part = y; is = is ∙ e }
        by (Some behind.Skip) e = record { part = y; is = is ∙ e }

    follow_rested : (s : ℕ) (row : Row) → Under (file_of m) (nodes_of m) at s row x.term → Rested (follow_rest m (weight_in weights (at + 1)).left (record { clause = s; row = row }))
    unfolding left
    follow_rested s row v =
        let y : Ready w (at + 1) = record { term = v.term; held = v.held; told = λ k u low high h. x.told k u (omega arith) (omega (arith, ap nodes v.is)) h } in
        then_rested s row y _ (left_shape (at + 1) y)
        (ap (left m at) v.is ∙ sym (ap (λ c. then_of (left_of y) c row (opened (templates_of (file_of m)) c row m.day)) v.clause_is))

    rested_by : (n : Node) → get_or (nodes_of m) at node.Lost ≡ n → Rested (rest_by m weights at n)
    unfolding left
    rested_by node.Lost e = ap (left m at) (view (file_of m) (nodes_of m) at _ e x.term x.held)
    rested_by node.Done e = ap (left m at) (view (file_of m) (nodes_of m) at _ e x.term x.held)
    rested_by (node.Leaf s row base) e = leaf_rested s base row (view (file_of m) (nodes_of m) at _ e x.term x.held)
    rested_by node.Choice e = choice_rested (view (file_of m) (nodes_of m) at _ e x.term x.held)
    rested_by node.Both e = both_rested (view (file_of m) (nodes_of m) at _ e x.term x.held)
    rested_by (node.Follow s row) e = follow_rested s row (view (file_of m) (nodes_of m) at _ e x.term x.held)

    pub rests : (r : Rest) → r ≡ rest_by m weights at (get_or (nodes_of m) at node.Lost) → Rested r
    rests r e = subst Rested (sym e) (rested_by (get_or (nodes_of m) at node.Lost) refl)

    -- the record gone to either side
    pub either_written : (l r : ℕ) (a b c d : List Node) → Rested (rest.Either l r) → b ≡ a ++ node.Choice ∷ []
        → BuildsBoth w (side.Taken l) (side.Kept r) b c → BuildsBoth w (side.Kept l) (side.Taken r) c d → Wrote (file_of m) a d (left_of x)
    either_written l r a b c d p e first second =
        retold _ _ _ _ _ p.is (write_choice _ _ _ _ _ _ _ e (first p.parts.left p.parts.right) (second p.parts.left p.parts.right))
