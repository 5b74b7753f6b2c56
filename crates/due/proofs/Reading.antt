-- The nodes of a term in their order have its leaves, and their numbers are what is due.
use Rattle.std.proofs.Common.{◌≡◌, ℕ, ◌+◌, ◌*◌, ◌/◌, ◌<◌, ◌≤◌, List, [], ◌∷◌, ◌++◌, length, take, drop, cond, count_by, Ok, Err, sym, refl, ap, ◌∙◌, ap₂, append-nil, arith, length-append}
use Rattle.std.proofs.lemmas.List.{take_all, drop_more, drop-drop}
use Rattle.std.proofs.lemmas.List.Sums.{sum_by-cons}
use Rattle.std.proofs.Math.Seq.{take-add}
use Rattle.std.specs.List.{filter_map, flat_map}
use Rattle.std.proofs.lemmas.List.Elements.{filter_map-append}
use Rattle.std.proofs.lemmas.Grind.{flat_map-append}
use Rattle.kinds.specs.declared.fields.Conditions.{Conditions}
use Rattle.language.specs.Clauses.{Window, Clause, step, first, last}
use Rattle.language.specs.Terms.{Term, Done, Lost, Leaf, Choice, Both, Follow, nodes}
use Rattle.days.specs.Windows.{meant}
use Rattle.entries.specs.declared.entries.Entry.{Entry}
use Rattle.entries.specs.declared.entries.Entry.TheVariants as entries
use Rattle.entries.specs.Parts.{at}
use Rattle.contract_file.specs.declared.files.File.{File}
use Rattle.openings.specs.Clauses.{clause_by, clause_at}
use Rattle.openings.proofs.Unfolding.{Leading, unfolds}
use Rattle.terms.specs.declared.nodes.Node.{Node}
use Rattle.terms.specs.declared.nodes.Node.TheVariants as node
use Rattle.terms.specs.Tables.{Is, Holds}
use Rattle.due.specs.Dues.{leaves, dues}
use Rattle.due.specs.Items.{Item, item_by, due_item, numbers, is_leaf, node_due, over}
use Rattle.due.specs.Lists.{Listed}
use Rattle.due.proofs.Writing.{numbers_long}

-- so many nodes from a place on
abbrev part : List Node → ℕ → ℕ → List Node
part ns at n = take n (drop at ns)

root : (ns : List Node) (at : ℕ) (n : Node) → Is ns at n → part ns at 1 ≡ n ∷ []
root ns at n h = ap (take 1) (drop_more ns at node.Lost h.0) ∙ ap (λ x. x ∷ []) h.1

-- a node and what stands under it
under : (ns : List Node) (at k : ℕ) (n : Node) → Is ns at n → part ns at (1 + k) ≡ n ∷ part ns (at + 1) k
under ns at k n h = take-add 1 k (drop at ns) ∙ ap₂ ◌++◌ (root ns at n h) (ap (take k) (drop-drop 1 at ns))

-- and the two sides of a node
sides : (ns : List Node) (at k m : ℕ) (n : Node) → Is ns at n → part ns at (1 + (k + m)) ≡ n ∷ (part ns (at + 1) k ++ part ns (at + 1 + k) m)
sides ns at k m n h =
    under ns at (k + m) n h ∙ ap (λ l. n ∷ l) (take-add k m (drop (at + 1) ns) ∙ ap (λ l. part ns (at + 1) k ++ take m l) (drop-drop k (at + 1) ns))

module _ (f : File) where
  abbrev pub items : List Node → List Item
  items ns = filter_map (node_due f) ns

  -- as many items as leaves
  one_item : (n : Node) (ns : List Node) → length (items ns) ≡ count_by is_leaf ns → length (items (n ∷ ns)) ≡ count_by is_leaf (n ∷ ns)
  one_item node.Lost ns h = rw (sum_by-cons (λ x. cond (is_leaf x) 1 0) node.Lost ns) (omega arith)
  one_item node.Done ns h = rw (sum_by-cons (λ x. cond (is_leaf x) 1 0) node.Done ns) (omega arith)
  one_item (node.Leaf e row base) ns h = rw (sum_by-cons (λ x. cond (is_leaf x) 1 0) (node.Leaf e row base) ns) (omega arith)
  one_item node.Choice ns h = rw (sum_by-cons (λ x. cond (is_leaf x) 1 0) node.Choice ns) (omega arith)
  one_item node.Both ns h = rw (sum_by-cons (λ x. cond (is_leaf x) 1 0) node.Both ns) (omega arith)
  one_item (node.Follow e row) ns h = rw (sum_by-cons (λ x. cond (is_leaf x) 1 0) (node.Follow e row) ns) (omega arith)

  pub item_count : (ns : List Node) → length (items ns) ≡ count_by is_leaf ns
  item_count [] = refl
  item_count (n ∷ ns) = one_item n ns (item_count ns)

  pub counted : (ns : List Node) (at : ℕ) (t : Term) → Holds f ns at t → length (items (part ns at (nodes t))) ≡ leaves t
  counted ns at Done h = ap (λ l. length (items l)) (root ns at _ h)
  counted ns at Lost h = ap (λ l. length (items l)) (root ns at _ h)
  counted ns at (Leaf e w cs tail row base) h = ap (λ l. length (items l)) (root ns at _ h.0)
  counted ns at (Choice l r) h =
      ap (λ l. length (items l)) (sides ns at (nodes l) (nodes r) _ h.0) ∙ ap length (filter_map-append (node_due f) (part ns (at + 1) (nodes l)) (part ns (at + 1 + nodes l) (nodes r)))
      ∙ length-append (items (part ns (at + 1) (nodes l))) (items (part ns (at + 1 + nodes l) (nodes r)))
      ∙ ap₂ ◌+◌ (counted ns (at + 1) l h.1) (counted ns (at + 1 + nodes l) r h.2)
  counted ns at (Both l r) h =
      ap (λ l. length (items l)) (sides ns at (nodes l) (nodes r) _ h.0) ∙ ap length (filter_map-append (node_due f) (part ns (at + 1) (nodes l)) (part ns (at + 1 + nodes l) (nodes r)))
      ∙ length-append (items (part ns (at + 1) (nodes l))) (items (part ns (at + 1 + nodes l) (nodes r)))
      ∙ ap₂ ◌+◌ (counted ns (at + 1) l h.1) (counted ns (at + 1 + nodes l) r h.2)
  counted ns at (Follow t c row) h = ap (λ l. length (items l)) (under ns at (nodes t) _ h.1) ∙ counted ns (at + 1) t h.3

  abbrev pub due_numbers : List Node → List ℕ
  due_numbers ns = flat_map numbers (items ns)

  due_append : (xs ys : List Node) → due_numbers (xs ++ ys) ≡ due_numbers xs ++ due_numbers ys
  due_append xs ys = ap (flat_map numbers) (filter_map-append (node_due f) xs ys) ∙ flat_map-append numbers (items xs) (items ys)

module _ (f : File) (up : Leading f) where
  leaf_item : (e base : ℕ) (w : Window) (cs : Conditions) (tail : Clause) → clause_at f e ≡ step e w cs tail → numbers (due_item f e base) ≡ e ∷ first w base ∷ last w base ∷ []
  leaf_item e base w cs tail is = by (at f.entries e) (sym (unfolds f up e) ∙ is)
    where
      by : (x : Entry) → clause_by f (clause_at f) e x ≡ step e w cs tail → numbers (item_by e base x) ≡ e ∷ first w base ∷ last w base ∷ []
      by entries.Lost q = cc
      by entries.Done q = cc
      by (entries.Step days t c) q = (let same : meant days ≡ w = cc in ap (λ w. e ∷ first w base ∷ last w base ∷ []) same)
      by (entries.Choice l r) q = cc
      by (entries.Both l r) q = cc
      by (entries.Then l r) q = cc
      by (entries.Call k a) q = cc
      by (entries.Template k b x) q = cc
      by (entries.Condition k t x) q = cc
      by (entries.Argument s v x) q = cc

  pub due : (ns : List Node) (at : ℕ) (t : Term) → Holds f ns at t → due_numbers f (part ns at (nodes t)) ≡ dues t
  due ns at Done h = ap (due_numbers f) (root ns at _ h)
  due ns at Lost h = ap (due_numbers f) (root ns at _ h)
  due ns at (Leaf e w cs tail row base) h = ap (due_numbers f) (root ns at _ h.0) ∙ append-nil (numbers (due_item f e base)) ∙ leaf_item e base w cs tail h.1
  due ns at (Choice l r) h =
      ap (due_numbers f) (sides ns at (nodes l) (nodes r) _ h.0) ∙ due_append f (part ns (at + 1) (nodes l)) (part ns (at + 1 + nodes l) (nodes r))
      ∙ ap₂ ◌++◌ (due ns (at + 1) l h.1) (due ns (at + 1 + nodes l) r h.2)
  due ns at (Both l r) h =
      ap (due_numbers f) (sides ns at (nodes l) (nodes r) _ h.0) ∙ due_append f (part ns (at + 1) (nodes l)) (part ns (at + 1 + nodes l) (nodes r))
      ∙ ap₂ ◌++◌ (due ns (at + 1) l h.1) (due ns (at + 1 + nodes l) r h.2)
  due ns at (Follow t c row) h = ap (due_numbers f) (under ns at (nodes t) _ h.1) ∙ due ns (at + 1) t h.3

module _ (f : File) (ns : List Node) (before : List ℕ) (count : ℕ) (is : count ≡ count_by is_leaf ns) (t : Term) (held : Holds f ns 0 t) (long : length ns ≡ nodes t) where
  whole : ns ≡ part ns 0 (nodes t)
  whole = sym (take_all (nodes t) ns (omega arith))

  leaves_are : count ≡ leaves t
  leaves_are = is ∙ sym (item_count f ns) ∙ ap (λ l. length (items f l)) whole ∙ counted f ns 0 t held

  pub refused : length before / 3 < count → Listed t before before (Err (record {}))
  refused few = record { enough = λ fits. absurd (omega (arith, leaves_are)); short = λ _. (refl, refl) }

  pub listed : Leading f → (after : List ℕ) → count ≤ length before / 3 → after ≡ over (flat_map numbers (items f ns)) before → Listed t before after (Ok count)
  listed up after fits wrote = record {
    enough = λ _. (
      ap Ok leaves_are,
      wrote ∙ ap₂ (λ front n. front ++ drop n before) (ap (due_numbers f) whole ∙ due f up ns 0 t held) (numbers_long (items f ns) ∙ ap (λ n. 3 * n) (item_count f ns ∙ sym is ∙ leaves_are)),
    );
    short = λ few. absurd (omega (arith, leaves_are));
  }
