-- Lists of nodes, and the term that one holds. Assumes nothing.
use Rattle.std.specs.Prelude.{◌≡◌, ℕ, ◌+◌, ◌<◌, ◌≤◌, List, ◌++◌, length, replicate, slice_index_or}
use Rattle.language.specs.Clauses.{step}
use Rattle.language.specs.Terms.{Term, Done, Lost, Leaf, Choice, Both, Follow, nodes}
use Rattle.contract_file.specs.declared.files.File.{File}
use Rattle.openings.specs.Clauses.{clause_at}
use Rattle.terms.specs.declared.nodes.Node.{Node}
use Rattle.terms.specs.declared.nodes.Node.TheVariants as node

-- What a contract sees of a table: its nodes in order, and what the unused places behind them hold.
pub record Table : Type 0 where
  pub items : List Node
  pub spare : List Node

-- All places in order, the unused ones behind the nodes.
abbrev pub places : Table → List Node
places t = t.items ++ t.spare

-- What the places hold of a table with no nodes yet.
unfoldable pub all_lost : List Node
all_lost = replicate 256 node.Lost

-- A node stands at a place.
abbrev pub Is : List Node → ℕ → Node → Type 0
Is ns at n = (at < length ns) × (slice_index_or ns at node.Lost ≡ n)

-- The nodes hold a term from a place on. A leaf's node names its step's entry, and a follow's node the entry of its clause.
abbrev pub Holds : File → List Node → ℕ → Term → Type 0
Holds f ns at Done = Is ns at node.Done
Holds f ns at Lost = Is ns at node.Lost
Holds f ns at (Leaf e w cs tail row base) = Is ns at (node.Leaf e row base) × (clause_at f e ≡ step e w cs tail)
Holds f ns at (Choice l r) = Is ns at node.Choice × Holds f ns (at + 1) l × Holds f ns (at + 1 + nodes l) r
Holds f ns at (Both l r) = Is ns at node.Both × Holds f ns (at + 1) l × Holds f ns (at + 1 + nodes l) r
Holds f ns at (Follow t c row) = (e : ℕ) × Is ns at (node.Follow e row) × (clause_at f e ≡ c) × Holds f ns (at + 1) t

-- Whatever term the nodes hold from a place on, it ends there.
abbrev pub Ends : List Node → ℕ → ℕ → Type 0
Ends ns at end = (f : File) (t : Term) → Holds f ns at t → end ≡ at + nodes t

-- The nodes are those of a term, node for node, and no others.
abbrev pub Whole : File → List Node → Term → Type 0
Whole f ns t = Holds f ns 0 t × (length ns ≡ nodes t)

-- The nodes after are those before with a term's behind them.
pub record Wrote (f : File) (before after : List Node) (t : Term) : Type 0 where
  pub behind : List Node
  pub is : after ≡ before ++ behind
  pub long : length behind ≡ nodes t
  pub held : Holds f after (length before) t

-- A term is written if it fits.
abbrev pub Writes : File → List Node → List Node → Term → Type 0
Writes f before after t = length before + nodes t ≤ 256 → Wrote f before after t

-- The nodes hold some term from a place on.
pub record SomeTerm (f : File) (ns : List Node) (at : ℕ) : Type 0 where
  pub term : Term
  pub held : Holds f ns at term
