-- The links of a chain, one by one.
use Rattle.std.proofs.Common.{◌≡◌, ℕ, zero, suc, ◌+◌, List, [], ◌∷◌, Some, None, Option, refl, ap, add-one}
use Rattle.entries.specs.declared.entries.Entry.{Entry}
use Rattle.entries.specs.Parts.{at}
use Rattle.contract_file.specs.Links.{link_and, links_from}

module _ {L : Type 0} (of : Entry → Option (L × ℕ)) (es : List Entry) (i : ℕ) where
  -- none is left to come
  pub links_none : (n : ℕ) → n ≡ 0 → links_from of es n i ≡ []
  unfolding links_from
  links_none n e = rw e refl

  -- the entry is no link
  pub links_ended : (n : ℕ) → of (at es i) ≡ None → links_from of es n i ≡ []
  unfolding links_from
  links_ended zero e = refl
  links_ended (suc n) e = ap (link_and (links_from of es n)) e

  -- the entry is a link
  pub links_more : (n m : ℕ) (link : L) (next : ℕ) → n ≡ m + 1 → of (at es i) ≡ Some (link, next) → links_from of es n i ≡ link ∷ links_from of es m next
  unfolding links_from
  links_more n m link next more e = rw (more, add-one m) (ap (link_and (links_from of es m)) e)
