-- Where a term ends among the nodes that hold it.
use Rattle.std.proofs.Common.{◌≡◌, ℕ, ◌+◌, ◌≤◌, List, length, get_or, take, sym, ap, subst, arith, length-take, get_or-take}
use Rattle.kinds.specs.Rows.{Row}
use Rattle.language.specs.Terms.{Term, Choice, Both, nodes}
use Rattle.contract_file.specs.declared.files.File.{File}
use Rattle.terms.specs.declared.nodes.Node.{Node}
use Rattle.terms.specs.declared.nodes.Node.TheVariants as node
use Rattle.terms.specs.Tables.{Ends, Holds}
use Rattle.terms.proofs.Viewing.{Sides, view}
use Rattle.terms.proofs.Writing.{some_nodes, held_within, moved}

module _ (ns : List Node) (at : ℕ) where
  pub ends_past : length ns ≤ at → Ends ns at at
  ends_past past f t h = absurd (omega (arith, held_within f ns at t h, some_nodes t))

  pub ends_lost : get_or ns at node.Lost ≡ node.Lost → Ends ns at (at + 1)
  ends_lost is f t h = omega (arith, ap nodes (view f ns at _ is t h))

  pub ends_done : get_or ns at node.Lost ≡ node.Done → Ends ns at (at + 1)
  ends_done is f t h = omega (arith, ap nodes (view f ns at _ is t h))

  pub ends_leaf : (e : ℕ) (row : Row) (base : ℕ) → get_or ns at node.Lost ≡ node.Leaf e row base → Ends ns at (at + 1)
  ends_leaf e row base is f t h = omega (arith, ap nodes (view f ns at _ is t h).is)

  pub ends_follow : (e : ℕ) (row : Row) (end : ℕ) → get_or ns at node.Lost ≡ node.Follow e row → Ends ns (at + 1) end → Ends ns at end
  ends_follow e row end is more f t h =
      let v = view f ns at _ is t h in
      omega (arith, ap nodes v.is, more f v.term v.held)

  module _ (middle end : ℕ) (left : Ends ns (at + 1) middle) (right : Ends ns middle end) where
    two : (f : File) (join : Term → Term → Term) → ((l r : Term) → nodes (join l r) ≡ 1 + (nodes l + nodes r)) → (t : Term) → Sides f ns at join t → end ≡ at + nodes t
    two f join size t v =
        let first = left f v.left v.left_held in
        let second = right f v.right (subst (λ k. Holds f ns k v.right) (sym first) v.right_held) in
        omega (arith, ap nodes v.is, size v.left v.right, first, second)

    pub ends_choice : get_or ns at node.Lost ≡ node.Choice → Ends ns at end
    ends_choice is f t h = two f Choice (λ l r. omega arith) t (view f ns at _ is t h)

    pub ends_both : get_or ns at node.Lost ≡ node.Both → Ends ns at end
    ends_both is f t h = two f Both (λ l r. omega arith) t (view f ns at _ is t h)

-- a term is held by its own nodes
pub held_by_its_nodes : (f : File) (ns own : List Node) (t : Term) → own ≡ take (nodes t) ns → Holds f ns 0 t → Holds f own 0 t
held_by_its_nodes f ns own t is h = subst (λ (ms : List Node). Holds f ms 0 t) (sym is) (moved f ns (take (nodes t) ns) 0 0 t h
    (λ k inside. (omega (arith, length-take (nodes t) ns, held_within f ns 0 t h), get_or-take (nodes t) ns (0 + k) node.Lost (omega arith))))
