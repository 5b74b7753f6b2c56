-- What a node says of the term that it is the root of.
use Rattle.std.proofs.Common.{◌≡◌, ℕ, ◌+◌, List, get_or, sym, refl, subst}
use Rattle.kinds.specs.declared.fields.Conditions.{Conditions}
use Rattle.kinds.specs.Rows.{Row}
use Rattle.language.specs.Clauses.{Window, Clause, step}
use Rattle.language.specs.Terms.{Term, Done, Lost, Leaf, Choice, Both, Follow, nodes}
use Rattle.contract_file.specs.declared.files.File.{File}
use Rattle.terms.specs.declared.nodes.Node.{Node}
use Rattle.terms.specs.declared.nodes.Node.TheVariants as node
use Rattle.openings.specs.Clauses.{clause_at}
use Rattle.terms.specs.Tables.{Holds}

module _ (f : File) (ns : List Node) (at : ℕ) where
  pub record Sides (join : Term → Term → Term) (t : Term) : Type 0 where
    pub left : Term
    pub right : Term
    pub is : t ≡ join left right
    pub left_held : Holds f ns (at + 1) left
    pub right_held : Holds f ns (at + 1 + nodes left) right

  pub record Under (e : ℕ) (row : Row) (t : Term) : Type 0 where
    pub term : Term
    pub clause : Clause
    pub is : t ≡ Follow term clause row
    pub clause_is : clause_at f e ≡ clause
    pub held : Holds f ns (at + 1) term

  pub record Open (e : ℕ) (row : Row) (base : ℕ) (t : Term) : Type 0 where
    pub when : Window
    pub asks : Conditions
    pub tail : Clause
    pub is : t ≡ Leaf e when asks tail row base
    pub step_is : clause_at f e ≡ step e when asks tail

  abbrev pub View : Node → Term → Type 0
  View node.Done t = t ≡ Done
  View node.Lost t = t ≡ Lost
  View (node.Leaf e row base) t = Open e row base t
  View node.Choice t = Sides Choice t
  View node.Both t = Sides Both t
  View (node.Follow e row) t = Under e row t

  view_held : (t : Term) → Holds f ns at t → View (get_or ns at node.Lost) t
  view_held Done h = subst (λ n. View n Done) (sym h.1) refl
  view_held Lost h = subst (λ n. View n Lost) (sym h.1) refl
  view_held (Leaf e w cs tail row base) h = subst (λ n. View n (Leaf e w cs tail row base)) (sym h.0.1) (record { when = w; asks = cs; tail = tail; is = refl; step_is = h.1 })
  view_held (Choice l r) h = subst (λ n. View n (Choice l r)) (sym h.0.1) (record { left = l; right = r; is = refl; left_held = h.1; right_held = h.2 })
  view_held (Both l r) h = subst (λ n. View n (Both l r)) (sym h.0.1) (record { left = l; right = r; is = refl; left_held = h.1; right_held = h.2 })
  view_held (Follow t c row) h = subst (λ n. View n (Follow t c row)) (sym h.1.1) (record { term = t; clause = c; is = refl; clause_is = h.2; held = h.3 })

  pub view : (n : Node) → get_or ns at node.Lost ≡ n → (t : Term) → Holds f ns at t → View n t
  view n e t h = subst (λ n. View n t) e (view_held t h)
