-- The links of a chain: what its entries hold, each with the number of the next.
use Rattle.std.specs.Prelude.{ℕ, zero, suc, List, [], ◌∷◌, Some, None, Option}
use Rattle.kinds.specs.declared.rows.Filling.{Filling}
use Rattle.entries.specs.declared.entries.Entry.{Entry}
use Rattle.entries.specs.declared.entries.Entry.TheVariants as entries
use Rattle.entries.specs.Parts.{at}
use Rattle.contract_file.specs.declared.links.Condition.{Condition}

-- the condition that an entry is, and the number of the next
abbrev pub condition_link : Entry → Option (Condition × ℕ)
condition_link (entries.Condition field test next) = Some (record { field = field; test = test }, next)
condition_link _ = None

-- the argument that an entry is, and the number of the next
abbrev pub argument_link : Entry → Option (Filling × ℕ)
argument_link (entries.Argument slot value next) = Some (record { slot = slot; value = value }, next)
argument_link _ = None

-- a link with those behind it, or none
abbrev pub link_and : {L : Type 0} → (ℕ → List L) → Option (L × ℕ) → List L
link_and behind None = []
link_and behind (Some link) = link.0 ∷ behind link.1

-- the links from entry i on, at most n; the chain ends at the first entry that is no link
unfoldable pub links_from : {L : Type 0} → (Entry → Option (L × ℕ)) → List Entry → ℕ → ℕ → List L
links_from of es zero i = []
links_from of es (suc n) i = link_and (links_from of es n) (of (at es i))
