-- The arguments along a chain, link by link.
use Rattle.std.proofs.Common.{◌≡◌, ℕ, zero, suc, List, ◌∷◌, refl, ap}
use Rattle.kinds.specs.declared.rows.Filling.{Filling}
use Rattle.kinds.specs.Rows.{Arguments}
use Rattle.entries.specs.declared.entries.Entry.{Entry}
use Rattle.entries.specs.declared.entries.Entry.TheVariants.{Lost, Done, Step, Choice, Both, Then, Call, Template, Condition, Argument}
use Rattle.entries.specs.Parts.{at}
use Rattle.contract_file.specs.declared.files.File.{File}
use Rattle.contract_file.specs.Links.{argument_link, link_and, links_from}
use Rattle.openings.specs.Clauses.{listed_by, listed_from}

-- one link, where the rest of the chain is alike
one_link : (more : ℕ → Arguments) (behind : ℕ → List Filling) → ((i : ℕ) → more i ≡ behind i) → (e : Entry) → listed_by more e ≡ link_and behind (argument_link e)
one_link more behind alike Lost = refl
one_link more behind alike Done = refl
one_link more behind alike (Step w t cs) = refl
one_link more behind alike (Choice l r) = refl
one_link more behind alike (Both l r) = refl
one_link more behind alike (Then l r) = refl
one_link more behind alike (Call k a) = refl
one_link more behind alike (Template k b x) = refl
one_link more behind alike (Condition k t x) = refl
one_link more behind alike (Argument s v x) = ap (λ rest. record { slot = s; value = v } ∷ rest) (alike x)

-- the arguments listed along a chain are its links
pub listed_links : (f : File) (n i : ℕ) → listed_from f n i ≡ links_from argument_link f.entries n i
unfolding listed_from links_from
listed_links f zero i = refl
listed_links f (suc n) i = one_link (listed_from f n) (links_from argument_link f.entries n) (listed_links f n) (at f.entries i)
