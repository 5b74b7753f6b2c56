-- The term that nodes hold, as something to compute. Assumes nothing.
use Rattle.std.specs.Prelude.{◌≡◌, ℕ, zero, suc, ◌+◌, cond, List, length, Some, None, Option, ◌==◌, nat_lt, slice_index_or}
use Rattle.kinds.specs.Rows.{Row}
use Rattle.language.specs.Clauses.{Clause, done, lost, step, choice, both, then, call}
use Rattle.language.specs.Terms as term
use Rattle.language.specs.Terms.{Term, nodes}
use Rattle.contract_file.specs.declared.files.File.{File}
use Rattle.openings.specs.Clauses.{clause_at}
use Rattle.terms.specs.declared.nodes.Node.{Node}
use Rattle.terms.specs.declared.nodes.Node.TheVariants.{Lost, Done, Leaf, Choice, Both, Follow}

-- The term that nodes hold from a place on, if they hold one.
abbrev pub bind : Option Term → (Term → Option Term) → Option Term
bind None more = None
bind (Some t) more = more t

abbrev pub leaf_by : ℕ → Row → ℕ → Clause → Option Term
leaf_by e row base done = None
leaf_by e row base lost = None
leaf_by e row base (step own w cs tail) = cond (own == e) (Some (term.Leaf e w cs tail row base)) None
leaf_by e row base (choice l r) = None
leaf_by e row base (both l r) = None
leaf_by e row base (then l r) = None
leaf_by e row base (call k args) = None

abbrev pub sides_by : (Term → Term → Term) → (ℕ → Option Term) → ℕ → Option Term
sides_by make held at = bind (held (at + 1)) (λ l. bind (held (at + 1 + nodes l)) (λ r. Some (make l r)))

abbrev pub node_by : File → (ℕ → Option Term) → ℕ → Node → Option Term
node_by f held at Lost = Some term.Lost
node_by f held at Done = Some term.Done
node_by f held at (Leaf e row base) = leaf_by e row base (clause_at f e)
node_by f held at Choice = sides_by term.Choice held at
node_by f held at Both = sides_by term.Both held at
node_by f held at (Follow e row) = bind (held (at + 1)) (λ t. Some (term.Follow t (clause_at f e) row))

-- By at most n nodes below one another.
unfoldable pub term_at : File → List Node → ℕ → ℕ → Option Term
term_at f ns zero at = None
term_at f ns (suc n) at =
    let found : Option Term = node_by f (term_at f ns n) at (slice_index_or ns at Lost) in
    cond (nat_lt at (length ns)) found None

abbrev pub Long : ℕ → Option Term → Type 0
Long len None = ⊥
Long len (Some t) = len ≡ nodes t

-- The nodes hold some term, and nothing else.
abbrev pub SomeWhole : File → List Node → Type 0
SomeWhole f ns = Long (length ns) (term_at f ns 256 0)
