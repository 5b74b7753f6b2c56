-- Steps along the templates' chain.
use Rattle.std.proofs.Common.{◌≡◌, ℕ, zero, suc, ◌+◌, ◌<◌, List, [], ◌∷◌, ◌++◌, length, sym, refl, ap, ◌∙◌, add-one, arith}
use Rattle.std.proofs.lemmas.List.{length_push}
use Rattle.contract_file.specs.declared.files.File.{File}
use Rattle.entries.specs.Parts.{at, next_template}
use Rattle.contract_file.specs.Chains.{chain}

module _ (f : File) where
  pub chain_more : (k : ℕ) → 0 < k → chain f (k + 1) ≡ next_template (at f.entries (chain f k))
  unfolding chain
  chain_more zero h = absurd (omega arith)
  chain_more (suc k) h = rw add-one

  -- a template reached behind as many links as a list has items
  abbrev pub Along : List ℕ → ℕ → Type 0
  Along links template = template ≡ chain f (length links + 1)

  pub along_none : Along [] f.templates
  unfolding chain
  along_none = refl

  pub along_more : (links : List ℕ) (template k : ℕ) → Along links template → Along (links ++ k ∷ []) (next_template (at f.entries template))
  along_more links template k is = rw length_push (ap (λ (t : ℕ). next_template (at f.entries t)) is ∙ sym (chain_more (length links + 1) (omega arith)))
