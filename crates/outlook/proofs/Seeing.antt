-- What is seen at a node, from what is seen of its parts.
use Rattle.std.proofs.Common.{◌≡◌, ℕ, ◌+◌, ◌<◌, ◌≤◌, false, List, length, get_or, Option, sym, refl, ap, ◌∙◌, subst, ap₂, arith}
use Rattle.kinds.specs.Rows.{Row}
use Rattle.language.specs.Terms.{Term, Choice, Both, nodes}
use Rattle.contract_file.specs.declared.files.File.{File}
use Rattle.openings.proofs.Unfolding.{Leading}
use Rattle.terms.specs.declared.nodes.Node.{Node}
use Rattle.terms.specs.declared.nodes.Node.TheVariants as node
use Rattle.terms.specs.Tables.{Holds}
use Rattle.terms.proofs.Viewing.{Sides, view}
use Rattle.terms.proofs.Writing.{some_nodes, held_within}
use Rattle.horizon.specs.declared.horizon.Horizon.{Horizon}
use Rattle.outlook.specs.declared.outlooks.Outlook.{Outlook}
use Rattle.outlook.specs.Outlooks.{Foretold, outlook_of, lost_outlook, done_outlook, leaf_outlook, choice_outlook, both_outlook, follow_outlook, Seen}
use Rattle.outlook.proofs.Timely.{leaf_told, follow_told}

module _ (f : File) (ns : List Node) (clock place : ℕ) where
  inside : (t : Term) → Holds f ns place t → place < length ns
  inside t h = omega (arith, held_within f ns place t h, some_nodes t)

  -- past the end nothing stands
  pub see_past : (o : Outlook) → length ns ≤ place → Seen f ns clock place o place
  see_past o past = record {
    ends = λ t h. (let within = inside t h in absurd (omega arith));
    tells = λ t h. (let within = inside t h in absurd (omega arith));
  }

  pub see_lost : (o : Outlook) → get_or ns place node.Lost ≡ node.Lost → o ≡ lost_outlook → Seen f ns clock place o (place + 1)
  see_lost o at is = record { ends = λ t h. ap (λ u. place + nodes u) (sym (view f ns place _ at t h)); tells = λ t h. is ∙ sym (ap (λ u. outlook_of f u clock) (view f ns place _ at t h)) }

  pub see_done : (o : Outlook) → get_or ns place node.Lost ≡ node.Done → o ≡ done_outlook → Seen f ns clock place o (place + 1)
  see_done o at is = record { ends = λ t h. ap (λ u. place + nodes u) (sym (view f ns place _ at t h)); tells = λ t h. is ∙ sym (ap (λ u. outlook_of f u clock) (view f ns place _ at t h)) }

  module _ (left right o : Outlook) (middle behind : ℕ) (a : Seen f ns clock (place + 1) left middle) (b : Seen f ns clock middle right behind) where
    two : (join : Term → Term → Term) (by : Outlook → Outlook → Outlook) → ((l r : Term) → nodes (join l r) ≡ 1 + (nodes l + nodes r))
        → ((l r : Term) → by (outlook_of f l clock) (outlook_of f r clock) ≡ outlook_of f (join l r) clock)
        → ((t : Term) → Holds f ns place t → Sides f ns place join t) → o ≡ by left right → Seen f ns clock place o behind
    two join by size made sides is = record {
      ends = λ t h.
          let v = sides t h in
          let l = a.ends v.left v.left_held in
          let r = b.ends v.right (subst (λ (i : ℕ). Holds f ns i v.right) (sym l) v.right_held) in
          omega (arith, ap nodes v.is, size v.left v.right);
      tells = λ t h.
          let v = sides t h in
          let l = a.ends v.left v.left_held in
          let there : Holds f ns middle v.right = subst (λ (i : ℕ). Holds f ns i v.right) (sym l) v.right_held in
          is ∙ ap₂ by (a.tells v.left v.left_held) (b.tells v.right there) ∙ made v.left v.right ∙ sym (ap (λ u. outlook_of f u clock) v.is);
    }

    pub see_choice : get_or ns place node.Lost ≡ node.Choice → o ≡ choice_outlook left right → Seen f ns clock place o behind
    see_choice at is = two Choice choice_outlook (λ l r. refl) (λ l r. refl) (view f ns place _ at) is

    pub see_both : get_or ns place node.Lost ≡ node.Both → o ≡ both_outlook left right clock → Seen f ns clock place o behind
    see_both at is = two Both (λ l r. both_outlook l r clock) (λ l r. refl) (λ l r. refl) (view f ns place _ at) is

  module _ (h : Horizon) (told : Foretold f h) where
    -- an outlook that cannot end as it stands, by its end with more records
    waiting : (x y : Option ℕ) → x ≡ y → ◌≡◌ {A = Outlook} (record { ends = false; next = x }) (record { ends = false; next = y })
    waiting x y e = ap (λ (n : Option ℕ). record { ends = false; next = n }) e

    pub see_leaf : Leading f → (step base : ℕ) (row : Row) (o : Outlook) → get_or ns place node.Lost ≡ node.Leaf step row base → o ≡ leaf_outlook f h step base clock → Seen f ns clock place o (place + 1)
    see_leaf up step base row o at is = record {
      ends = λ t held. (let v = view f ns place _ at t held in ap (λ u. place + nodes u) (sym v.is));
      tells = λ t held.
          let v = view f ns place _ at t held in
          is ∙ waiting _ _ (leaf_told f h told up step base clock v.when v.asks v.tail v.step_is) ∙ sym (ap (λ u. outlook_of f u clock) v.is);
    }

    pub see_follow : (clause : ℕ) (row : Row) (term o : Outlook) (behind : ℕ) → Seen f ns clock (place + 1) term behind → get_or ns place node.Lost ≡ node.Follow clause row
        → o ≡ follow_outlook h term clause → Seen f ns clock place o behind
    see_follow clause row term o behind a at is = record {
      ends = λ t held. (let v = view f ns place _ at t held in omega (arith, ap nodes v.is, a.ends v.term v.held));
      tells = λ t held.
          let v = view f ns place _ at t held in
          is ∙ ap (λ x. follow_outlook h x clause) (a.tells v.term v.held) ∙ waiting _ _ (follow_told f h told v.term clock clause v.clause v.clause_is) ∙ sym (ap (λ u. outlook_of f u clock) v.is);
    }
