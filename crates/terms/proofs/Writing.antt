-- What nodes hold after pushes and writes.
use Rattle.std.proofs.Common.{◌≡◌, ℕ, ◌+◌, ◌<◌, ◌≤◌, List, [], ◌∷◌, ◌++◌, length, get_or, sym, refl, ap, ◌∙◌, subst, append_assoc, append-nil, arith, length-append}
use Rattle.std.proofs.Math.Seq.{get_or-append_seam}
use Rattle.std.proofs.lemmas.List.{get_or_append_left}
use Rattle.kinds.specs.Rows.{Row}
use Rattle.kinds.specs.declared.fields.Conditions.{Conditions}
use Rattle.language.specs.Clauses.{Window, Clause, step}
use Rattle.language.specs.Terms.{Term, Done, Lost, Leaf, Choice, Both, Follow, nodes}
use Rattle.contract_file.specs.declared.files.File.{File}
use Rattle.terms.specs.declared.nodes.Node.{Node}
use Rattle.terms.specs.declared.nodes.Node.TheVariants as node
use Rattle.openings.specs.Clauses.{clause_at}
use Rattle.terms.specs.Tables.{Is, Holds, Wrote}

pub some_nodes : (t : Term) → 0 < nodes t
some_nodes Done = omega arith
some_nodes Lost = omega arith
some_nodes (Leaf e w cs tail row base) = omega arith
some_nodes (Choice l r) = omega arith
some_nodes (Both l r) = omega arith
some_nodes (Follow t c row) = omega arith

-- where a term fits there is room for its first node
pub first_fits : (k : ℕ) (t : Term) → k + nodes t ≤ 256 → k < 256
first_fits k t fits = omega (arith, some_nodes t)

-- the same nodes, at another place too, hold the same term
module _ (f : File) (ns ms : List Node) where
  abbrev pub Moved : ℕ → ℕ → ℕ → Type 0
  Moved at to n = (k : ℕ) → k < n → (to + k < length ms) × (get_or ms (to + k) node.Lost ≡ get_or ns (at + k) node.Lost)

  first_moved : (at to n : ℕ) (x : Node) → 0 < n → Moved at to n → Is ns at x → Is ms to x
  first_moved at to n x some m h =
      let z = m 0 some in
      let a : at + 0 ≡ at = omega arith in
      let b : to + 0 ≡ to = omega arith in
      (omega arith, rw b at (rw a at z.1) ∙ h.1)

  part : (at to n by p : ℕ) → by + p ≤ n → Moved at to n → Moved (at + by) (to + by) p
  part at to n by p small m k h =
      let z = m (by + k) (omega arith) in
      let a : at + (by + k) ≡ at + by + k = omega arith in
      let b : to + (by + k) ≡ to + by + k = omega arith in
      (omega arith, rw b at (rw a at z.1))

  pub moved : (at to : ℕ) (t : Term) → Holds f ns at t → Moved at to (nodes t) → Holds f ms to t
  moved at to Done h m = first_moved at to 1 _ (omega arith) m h
  moved at to Lost h m = first_moved at to 1 _ (omega arith) m h
  moved at to (Leaf e w cs tail row base) h m = (first_moved at to 1 _ (omega arith) m h.0, h.1)
  moved at to (Choice l r) h m = (
    first_moved at to _ _ (omega arith) m h.0,
    moved (at + 1) (to + 1) l h.1 (part at to _ 1 (nodes l) (omega arith) m),
    moved (at + 1 + nodes l) (to + 1 + nodes l) r h.2 (later l (nodes r) (omega arith) m),
  )
    where
      later : (l : Term) (p : ℕ) → 1 + nodes l + p ≤ 1 + (nodes l + p) → Moved at to (1 + (nodes l + p)) → Moved (at + 1 + nodes l) (to + 1 + nodes l) p
      later l p small m = part (at + 1) (to + 1) (nodes l + p) (nodes l) p (omega arith) (part at to _ 1 (nodes l + p) (omega arith) m)
  moved at to (Both l r) h m = (
    first_moved at to _ _ (omega arith) m h.0,
    moved (at + 1) (to + 1) l h.1 (part at to _ 1 (nodes l) (omega arith) m),
    moved (at + 1 + nodes l) (to + 1 + nodes l) r h.2
        (part (at + 1) (to + 1) (nodes l + nodes r) (nodes l) (nodes r) (omega arith) (part at to _ 1 (nodes l + nodes r) (omega arith) m)),
  )
  moved at to (Follow t c row) h m =
      (h.0, first_moved at to _ _ (omega arith) m h.1, h.2, moved (at + 1) (to + 1) t h.3 (part at to _ 1 (nodes t) (omega arith) m))

pub held_within : (f : File) (ns : List Node) (at : ℕ) (t : Term) → Holds f ns at t → at + nodes t ≤ length ns
held_within f ns at Done h = omega arith
held_within f ns at Lost h = omega arith
held_within f ns at (Leaf e w cs tail row base) h = omega arith
held_within f ns at (Choice l r) h = omega (arith, held_within f ns (at + 1 + nodes l) r h.2)
held_within f ns at (Both l r) h = omega (arith, held_within f ns (at + 1 + nodes l) r h.2)
held_within f ns at (Follow t c row) h = omega (arith, held_within f ns (at + 1) t h.3)

-- nodes behind those of a term change nothing of it
pub held_before : (f : File) (ns behind : List Node) (at : ℕ) (t : Term) → Holds f ns at t → Holds f (ns ++ behind) at t
held_before f ns behind at t h =
    let w = held_within f ns at t h in
    moved f ns (ns ++ behind) at at t h (λ k less. (simp length-append (omega arith), get_or_append_left ns behind node.Lost (at + k) (omega arith)))

pub longer : (f : File) (before after : List Node) (t : Term) → Wrote f before after t → length after ≡ length before + nodes t
longer f before after t w = ap length w.is ∙ length-append before w.behind ∙ ap (λ n. length before + n) w.long

pub retold : (f : File) (a b : List Node) (t u : Term) → t ≡ u → Wrote f a b u → Wrote f a b t
retold f a b t u e w = subst (Wrote f a b) (sym e) w

-- one node pushed
module _ (f : File) (a b : List Node) (n : Node) (e : b ≡ a ++ n ∷ []) where
  pub one_longer : length b ≡ length a + 1
  one_longer = ap length e ∙ length-append a (n ∷ [])

  onward : (c ys : List Node) → c ≡ b ++ ys → c ≡ a ++ n ∷ ys
  onward c ys is = is ∙ ap (λ x. x ++ ys) e ∙ append_assoc a (n ∷ []) ys

  first : (c ys : List Node) → c ≡ b ++ ys → Is c (length a) n
  first c ys is =
      let long : length c ≡ length a + length (n ∷ ys) = ap length (onward c ys is) ∙ length-append a (n ∷ ys) in
      (omega arith, ap (λ x. get_or x (length a) node.Lost) (onward c ys is) ∙ get_or-append_seam a n ys node.Lost)

  -- one node
  write_node : (t : Term) → nodes t ≡ 1 → ((ns : List Node) → Is ns (length a) n → Holds f ns (length a) t) → Wrote f a b t
  write_node t one by = record { behind = n ∷ []; is = e; long = sym one; held = by b (first b [] (sym (append-nil b))) }

  -- a node over a term
  write_under : (c : List Node) (u t : Term) → nodes t ≡ 1 + nodes u
      → ((ns : List Node) → Is ns (length a) n → Holds f ns (length a + 1) u → Holds f ns (length a) t) → Wrote f b c u → Wrote f a c t
  write_under c u t size by w = record {
    behind = n ∷ w.behind;
    is = onward c w.behind w.is;
    long = omega (arith, w.long, size);
    held = by c (first c w.behind w.is) (rw one_longer at w.held);
  }

  -- a node over two terms
  write_join : (c d : List Node) (l r t : Term) → nodes t ≡ 1 + (nodes l + nodes r)
      → ((ns : List Node) → Is ns (length a) n → Holds f ns (length a + 1) l → Holds f ns (length a + 1 + nodes l) r → Holds f ns (length a) t)
      → Wrote f b c l → Wrote f c d r → Wrote f a d t
  write_join c d l r t size by v w =
      let is : d ≡ b ++ (v.behind ++ w.behind) = w.is ∙ ap (λ x. x ++ w.behind) v.is ∙ append_assoc b v.behind w.behind in
      let there : length c ≡ length a + 1 + nodes l = longer f b c l v ∙ ap (λ k. k + nodes l) one_longer in
      let left : Holds f c (length a + 1) l = rw one_longer at v.held in
      record {
        behind = n ∷ (v.behind ++ w.behind);
        is = onward d _ is;
        long = omega (arith, length-append v.behind w.behind, v.long, w.long, size);
        held = by d (first d _ is) (subst (λ (x : List Node). Holds f x (length a + 1) l) (sym w.is) (held_before f c w.behind (length a + 1) l left)) (rw there at w.held);
      }

-- each sort of node
module _ (f : File) (a b : List Node) where
  pub write_lost : b ≡ a ++ node.Lost ∷ [] → Wrote f a b Lost
  write_lost e = write_node f a b node.Lost e Lost refl (λ ns h. h)

  pub write_done : b ≡ a ++ node.Done ∷ [] → Wrote f a b Done
  write_done e = write_node f a b node.Done e Done refl (λ ns h. h)

  pub write_leaf : (s : ℕ) (w : Window) (cs : Conditions) (tail : Clause) (row : Row) (base : ℕ) → clause_at f s ≡ step s w cs tail → b ≡ a ++ node.Leaf s row base ∷ []
      → Wrote f a b (Leaf s w cs tail row base)
  write_leaf s w cs tail row base is e = write_node f a b (node.Leaf s row base) e (Leaf s w cs tail row base) refl (λ ns h. (h, is))

  pub write_choice : (c d : List Node) (l r : Term) → b ≡ a ++ node.Choice ∷ [] → Wrote f b c l → Wrote f c d r → Wrote f a d (Choice l r)
  write_choice c d l r e v w = write_join f a b node.Choice e c d l r (Choice l r) refl (λ ns x y z. (x, y, z)) v w

  pub write_both : (c d : List Node) (l r : Term) → b ≡ a ++ node.Both ∷ [] → Wrote f b c l → Wrote f c d r → Wrote f a d (Both l r)
  write_both c d l r e v w = write_join f a b node.Both e c d l r (Both l r) refl (λ ns x y z. (x, y, z)) v w

  pub write_follow : (c : List Node) (t : Term) (k : ℕ) (cl : Clause) (row : Row) → clause_at f k ≡ cl → b ≡ a ++ node.Follow k row ∷ [] → Wrote f b c t → Wrote f a c (Follow t cl row)
  write_follow c t k cl row is e w = write_under f a b (node.Follow k row) e c t (Follow t cl row) refl (λ ns x y. (k, x, is, y)) w
