-- The weight of a term, by the weights of its parts.
use Rattle.std.proofs.Common.{◌≡◌, ℕ, ◌+◌, ◌<◌, ◌≤◌, ◌≢◌, List, length, get_or, set, Some, None, Option, sym, refl, ap, ◌∙◌, subst, ap₂, arith, get_or-set_other, get_or-set_same}
use native.Mathlib.Decide.{dec_le}
use Rattle.kinds.specs.declared.fields.Conditions.{Conditions}
use Rattle.kinds.specs.Rows.{Row}
use Rattle.language.specs.Clauses.{Window, Clause}
use Rattle.language.specs.Terms.{Term, Done, Lost, Leaf, Choice, Both, Follow, nodes, both_of, opened}
use Rattle.openings.specs.declared.shapes.Shape.{Shape}
use Rattle.openings.specs.Clauses.{clause_at, templates_of}
use Rattle.openings.specs.Shapes.{shape_of, choice_shape, then_shape, Known}
use Rattle.openings.specs.Rounds.{of}
use Rattle.openings.proofs.Facts.{known_openings}
use Rattle.openings.proofs.Shaping.{choice_node_is, both_node_is, follow_node_is, choice_shape_is, both_shape_is, then_shape_is}
use Rattle.terms.specs.declared.nodes.Node.TheVariants as node
use Rattle.terms.proofs.Viewing.{view, Sides}
use Rattle.terms.proofs.Writing.{some_nodes, held_within}
use Rattle.residuals.specs.declared.marks.Next.{Next}
use Rattle.residuals.specs.declared.marked.Marked.{Marked}
use Rattle.residuals.specs.declared.weights.Weight.{Weight}
use Rattle.residuals.specs.Marked.{file_of, nodes_of, Stands, mark_at, opened_if, shape_if, left}
use Rattle.residuals.specs.Weights.{weight_of, lost_weight, done_weight, leaf_weight, choice_weight, both_weight, follow_weight, weight_in, Weighs}

weigh_by : (a b c d : Shape) → a ≡ b → c ≡ d → ◌≡◌ {A = Weight} (record { held = a; left = c }) (record { held = b; left = d })
weigh_by a b c d p q = ap₂ (λ x y. record { held = x; left = y }) p q

module _ (m : Marked) where
  -- the table of openings tells what opens on the record's day
  pub opens : Known (file_of m) m.openings.now.shapes
  opens = known_openings _ _ m.openings.now.known

  opens_if : (o : Option Next) → shape_if m o ≡ shape_of (opened_if m o)
  opens_if None = refl
  opens_if (Some next) = opens next.clause next.row m.day

  -- each sort of node
  module _ (at : ℕ) where
    lost_weighs : lost_weight ≡ weight_of m at Lost
    unfolding left
    lost_weighs = refl

    done_weighs : done_weight ≡ weight_of m at Done
    unfolding left
    done_weighs = refl

    leaf_weighs : (e : ℕ) (w : Window) (cs : Conditions) (tail : Clause) (row : Row) (base : ℕ) → leaf_weight (shape_if m (mark_at m at)) ≡ weight_of m at (Leaf e w cs tail row base)
    unfolding left
    leaf_weighs e w cs tail row base = ap leaf_weight (opens_if (mark_at m at))

    choice_weighs : (l r : Term) → choice_weight (weight_of m (at + 1) l) (weight_of m (at + 1 + nodes l) r) ≡ weight_of m at (Choice l r)
    unfolding left
    choice_weighs l r = weigh_by _ _ _ _ (sym (choice_node_is l r)) (sym (choice_shape_is (left m (at + 1) l) (left m (at + 1 + nodes l) r)))

    both_weighs : (l r : Term) → both_weight (weight_of m (at + 1) l) (weight_of m (at + 1 + nodes l) r) ≡ weight_of m at (Both l r)
    unfolding left
    both_weighs l r =
        let l' = left m (at + 1) l in
        let r' = left m (at + 1 + nodes l) r in
        weigh_by _ _ _ _ (sym (both_node_is l r))
        (ap₂ choice_shape (sym (both_shape_is l' r)) (sym (both_shape_is l r')) ∙ sym (choice_shape_is (both_of l' r) (both_of l r')))

    follow_weighs : (t : Term) (e : ℕ) (c : Clause) (row : Row) → clause_at (file_of m) e ≡ c
        → follow_weight (weight_of m (at + 1) t) (of m.openings.now.shapes e) ≡ weight_of m at (Follow t c row)
    unfolding left
    follow_weighs t e c row is =
        let t' = left m (at + 1) t in
        let o = opened (templates_of (file_of m)) c row m.day in
        weigh_by _ _ _ _ (sym (follow_node_is t c row))
        (ap (then_shape (shape_of t')) (opens e row m.day ∙ ap (λ x. shape_of (opened (templates_of (file_of m)) x row m.day)) is) ∙ sym (then_shape_is t' c row o))

    stands_within : (t : Term) → Stands m at t → at < length (nodes_of m)
    stands_within t h = omega (arith, held_within (file_of m) (nodes_of m) at t h, some_nodes t)

    -- past the end nothing stands
    pub weigh_past : (w : Weight) (old : List Weight) → length (nodes_of m) ≤ at → Weighs m at at w old old
    weigh_past w old past = record {
      ends = λ t h. (let inside = stands_within t h in absurd (omega arith));
      root = λ t h. (let inside = stands_within t h in absurd (omega arith));
      kept = λ k low. refl;
      told = λ k u low high h. absurd (omega arith);
    }

    -- a root's weight, written where its parts are weighed
    rooted : (end : ℕ) (old new : List Weight) (w : Weight) → at < length new
        → ((t : Term) → Stands m at t → end ≡ at + nodes t)
        → ((k : ℕ) → k < at → weight_in new k ≡ weight_in old k)
        → ((t : Term) → Stands m at t → w ≡ weight_of m at t)
        → ((k : ℕ) (u : Term) → at < k → k < end → Stands m k u → weight_in new k ≡ weight_of m k u)
        → Weighs m at end w old (set new at w)
    rooted end old new w room ends kept root parts = record {
      ends = ends;
      root = root;
      kept = λ k low. (let other = elsewhere k (omega arith) in other ∙ kept k low);
      told = λ k u low high h. elim (dec_le k at) [
        | yes i ↦ (let e : k ≡ at = omega arith in
            let here : weight_in (set new at w) at ≡ w = rw get_or-set_same in
            ap (weight_in (set new at w)) e ∙ here ∙ root u (subst (λ (i : ℕ). Stands m i u) e h) ∙ sym (ap (λ i. weight_of m i u) e))
        | no i ↦ elsewhere k (omega arith) ∙ parts k u (omega arith) high h
      ];
    }
      where
        elsewhere : (k : ℕ) → k ≢ at → weight_in (set new at w) k ≡ weight_in new k
        elsewhere k ne = rw get_or-set_other

    -- a term of one node
    module _ (old : List Weight) (w : Weight) (room : at < length old) where
      alone : ((t : Term) → Stands m at t → nodes t ≡ 1) → ((t : Term) → Stands m at t → w ≡ weight_of m at t) → Weighs m at (at + 1) w old (set old at w)
      alone size root = rooted (at + 1) old old w room (λ t h. omega (arith, size t h)) (λ k low. refl) root (λ k u low high h. absurd (omega arith))

      pub weigh_lost : get_or (nodes_of m) at node.Lost ≡ node.Lost → w ≡ lost_weight → Weighs m at (at + 1) w old (set old at w)
      weigh_lost e is =
          let seen = view (file_of m) (nodes_of m) at _ e in
          alone (λ t h. ap nodes (seen t h)) (λ t h. is ∙ lost_weighs ∙ sym (ap (weight_of m at) (seen t h)))

      pub weigh_done : get_or (nodes_of m) at node.Lost ≡ node.Done → w ≡ done_weight → Weighs m at (at + 1) w old (set old at w)
      weigh_done e is =
          let seen = view (file_of m) (nodes_of m) at _ e in
          alone (λ t h. ap nodes (seen t h)) (λ t h. is ∙ done_weighs ∙ sym (ap (weight_of m at) (seen t h)))

      pub weigh_leaf : (s base : ℕ) (row : Row) → get_or (nodes_of m) at node.Lost ≡ node.Leaf s row base → w ≡ leaf_weight (shape_if m (mark_at m at)) → Weighs m at (at + 1) w old (set old at w)
      weigh_leaf s base row e is =
          let seen = view (file_of m) (nodes_of m) at _ e in
          alone (λ t h. ap nodes (seen t h).is) (λ t h. (let v = seen t h in is ∙ leaf_weighs s v.when v.asks v.tail row base ∙ sym (ap (weight_of m at) v.is)))

    -- a term of two sides
    module _ (old half new : List Weight) (l r w : Weight) (mid end : ℕ) (a : Weighs m (at + 1) mid l old half) (b : Weighs m mid end r half new) (low : at + 1 ≤ mid) (room : at < length new) where
      joined : (join : Term → Term → Term) (by : Weight → Weight → Weight) → ((l r : Term) → nodes (join l r) ≡ 1 + (nodes l + nodes r))
          → ((l r : Term) → by (weight_of m (at + 1) l) (weight_of m (at + 1 + nodes l) r) ≡ weight_of m at (join l r))
          → ((t : Term) → Stands m at t → Sides (file_of m) (nodes_of m) at join t) → w ≡ by l r → Weighs m at end w old (set new at w)
      joined join by size weighs sides is =
          rooted end old new w room
          (λ t h. (let v = sides t h in omega (arith, ap nodes v.is, size v.left v.right, a.ends v.left v.left_held, b.ends v.right (right_stands v))))
          (λ k below. b.kept k (omega arith) ∙ a.kept k (omega arith))
          (λ t h.
          let v = sides t h in
          let y : r ≡ weight_of m (at + 1 + nodes v.left) v.right = b.root v.right (right_stands v) ∙ ap (λ i. weight_of m i v.right) (a.ends v.left v.left_held) in
          is ∙ ap₂ by (a.root v.left v.left_held) y ∙ weighs v.left v.right ∙ sym (ap (weight_of m at) v.is))
          (λ k u above high h. elim (dec_le mid k) [
            | yes j ↦ b.told k u j high h
            | no j ↦ b.kept k (omega arith) ∙ a.told k u (omega arith) (omega arith) h
          ])
        where
          right_stands : {t : Term} (v : Sides (file_of m) (nodes_of m) at join t) → Stands m mid v.right
          right_stands v = subst (λ (i : ℕ). Stands m i v.right) (sym (a.ends v.left v.left_held)) v.right_held

      pub weigh_choice : get_or (nodes_of m) at node.Lost ≡ node.Choice → w ≡ choice_weight l r → Weighs m at end w old (set new at w)
      weigh_choice e is = joined Choice choice_weight (λ l r. refl) choice_weighs (view (file_of m) (nodes_of m) at _ e) is

      pub weigh_both : get_or (nodes_of m) at node.Lost ≡ node.Both → w ≡ both_weight l r → Weighs m at end w old (set new at w)
      weigh_both e is = joined Both both_weight (λ l r. refl) both_weighs (view (file_of m) (nodes_of m) at _ e) is

    -- a term under a follow
    module _ (old new : List Weight) (part w : Weight) (end : ℕ) (a : Weighs m (at + 1) end part old new) (room : at < length new) where
      pub weigh_follow : (s : ℕ) (row : Row) → get_or (nodes_of m) at node.Lost ≡ node.Follow s row
          → w ≡ follow_weight part (of m.openings.now.shapes s) → Weighs m at end w old (set new at w)
      weigh_follow s row e is =
          let seen = view (file_of m) (nodes_of m) at _ e in
          rooted end old new w room
          (λ t h. (let v = seen t h in omega (arith, ap nodes v.is, a.ends v.term v.held)))
          (λ k low. a.kept k (omega arith))
          (λ t h.
          let v = seen t h in
          is ∙ ap (λ x. follow_weight x (of m.openings.now.shapes s)) (a.root v.term v.held)
          ∙ follow_weighs v.term s v.clause row v.clause_is ∙ sym (ap (weight_of m at) v.is))
          (λ k u low high h. a.told k u (omega arith) high h)
