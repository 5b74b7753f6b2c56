-- The conditions along a chain, link by link.
use Rattle.std.proofs.Common.{◌≡◌, ℕ, zero, suc, ◌-◌, List, [], ◌∷◌, set, Some, Option, refl}
use Rattle.kinds.specs.declared.fields.Test.{Test}
use Rattle.entries.specs.declared.entries.Entry.{Entry}
use Rattle.entries.specs.declared.entries.Entry.TheVariants.{Lost, Done, Step, Choice, Both, Then, Call, Template, Condition, Argument}
use Rattle.entries.specs.Parts.{at}
use Rattle.contract_file.specs.declared.files.File.{File}
use Rattle.contract_file.specs.declared.links.Condition as links
use Rattle.contract_file.specs.Links.{condition_link, link_and, links_from}
use Rattle.openings.specs.Clauses.{gathered_by, gathered}

-- tests with those of a list of conditions put, one after the other
abbrev pub with_tests : List links.Condition → List (Option Test) → List (Option Test)
with_tests [] tests = tests
with_tests (c ∷ rest) tests = with_tests rest (set tests (c.field - 1) (Some c.test))

-- one link, where the rest of the chain is alike
one_link : (more : ℕ → List (Option Test) → List (Option Test)) (behind : ℕ → List links.Condition) → ((i : ℕ) (tests : List (Option Test)) → more i tests ≡ with_tests (behind i) tests)
    → (e : Entry) (tests : List (Option Test)) → gathered_by more e tests ≡ with_tests (link_and behind (condition_link e)) tests
one_link more behind alike Lost tests = refl
one_link more behind alike Done tests = refl
one_link more behind alike (Step w t cs) tests = refl
one_link more behind alike (Choice l r) tests = refl
one_link more behind alike (Both l r) tests = refl
one_link more behind alike (Then l r) tests = refl
one_link more behind alike (Call k a) tests = refl
one_link more behind alike (Template k b x) tests = refl
one_link more behind alike (Condition k t x) tests = alike x (set tests (k - 1) (Some t))
one_link more behind alike (Argument s v x) tests = refl

-- what is gathered along a chain is what its conditions put
pub gathered_links : (f : File) (n i : ℕ) (tests : List (Option Test)) → gathered f n i tests ≡ with_tests (links_from condition_link f.entries n i) tests
unfolding gathered links_from
gathered_links f zero i tests = refl
gathered_links f (suc n) i tests = one_link (gathered f n) (links_from condition_link f.entries n) (gathered_links f n) (at f.entries i) tests
