-- Nodes that are copied hold the term that they held.
use Rattle.std.proofs.Common.{◌≡◌, ℕ, ◌+◌, ◌-◌, ◌<◌, List, ◌++◌, length, get_or, slice_range, ap, ◌∙◌, arith, length-append, length-take, length-drop, get_or-take, get_or-drop}
use Rattle.std.proofs.lemmas.List.{get_or-append-add}
use Rattle.language.specs.Terms.{Term, nodes}
use Rattle.contract_file.specs.declared.files.File.{File}
use Rattle.terms.specs.declared.nodes.Node.{Node}
use Rattle.terms.specs.declared.nodes.Node.TheVariants as node
use Rattle.terms.specs.Tables.{Holds, Wrote}
use Rattle.terms.proofs.Writing.{held_within, moved}

-- the nodes of a term are as many as it has
pub copied_long : (f : File) (ns : List Node) (from to : ℕ) (t : Term) → Holds f ns from t → to ≡ from + nodes t → length (slice_range ns from to) ≡ nodes t
copied_long f ns from to t h ends = (let room = held_within f ns from t h in simp (length-take, length-drop) (omega arith))

-- the nodes of a term, behind others
module _ (f : File) (ns before after : List Node) (from to : ℕ) (t : Term) (h : Holds f ns from t) (ends : to ≡ from + nodes t) (is : after ≡ before ++ slice_range ns from to) where
  long : length (slice_range ns from to) ≡ nodes t
  long = copied_long f ns from to t h ends

  same : (k : ℕ) → k < nodes t → get_or after (length before + k) node.Lost ≡ get_or ns (from + k) node.Lost
  same k less =
      let inside : k < to - from = omega arith in
      ap (λ xs. get_or xs (length before + k) node.Lost) is ∙ get_or-append-add before (slice_range ns from to) k node.Lost ∙ rw (get_or-take, get_or-drop)

  pub copied : Wrote f before after t
  copied = record {
    behind = slice_range ns from to;
    is = is;
    long = long;
    held = moved f ns after from (length before) t h (λ k less. (omega (arith, ap length is, length-append before (slice_range ns from to), long), same k less));
  }
