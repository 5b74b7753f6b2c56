-- What is due by the nodes of a table: the items of its leaves, their numbers, and how these stand in a list. Assumes nothing.
use Rattle.std.specs.Prelude.{ℕ, Bool, true, false, List, [], ◌∷◌, ◌++◌, length, drop, Some, None, Option}
use Rattle.language.specs.Clauses.{first, last}
use Rattle.days.specs.Windows.{meant}
use Rattle.entries.specs.declared.entries.Entry.{Entry}
use Rattle.entries.specs.declared.entries.Entry.TheVariants as entries
use Rattle.entries.specs.Parts.{at}
use Rattle.contract_file.specs.declared.files.File.{File}
use Rattle.terms.specs.declared.nodes.Node.{Node}
use Rattle.terms.specs.declared.nodes.Node.TheVariants.{Lost, Done, Leaf, Choice, Both, Follow}

-- An item: a step, its first day and its last day.
abbrev pub Item : Type 0
Item = ℕ × ℕ × ℕ

-- A leaf's item, by its step's entry and its base. An entry that is no step has no days.
abbrev pub item_by : ℕ → ℕ → Entry → Item
item_by step base entries.Lost = (step, 0, 0)
item_by step base entries.Done = (step, 0, 0)
item_by step base (entries.Step w tail conditions) = (step, first (meant w) base, last (meant w) base)
item_by step base (entries.Choice left right) = (step, 0, 0)
item_by step base (entries.Both left right) = (step, 0, 0)
item_by step base (entries.Then left right) = (step, 0, 0)
item_by step base (entries.Call template arguments) = (step, 0, 0)
item_by step base (entries.Template number body next) = (step, 0, 0)
item_by step base (entries.Condition field test next) = (step, 0, 0)
item_by step base (entries.Argument slot value next) = (step, 0, 0)

abbrev pub due_item : File → ℕ → ℕ → Item
due_item f step base = item_by step base (at f.entries step)

-- The three numbers of an item.
abbrev pub numbers : Item → List ℕ
numbers i = i.0 ∷ i.1 ∷ i.2 ∷ []

abbrev pub is_leaf : Node → Bool
is_leaf Lost = false
is_leaf Done = false
is_leaf (Leaf step row base) = true
is_leaf Choice = false
is_leaf Both = false
is_leaf (Follow clause row) = false

-- The item of one node: only a leaf has one.
abbrev pub node_due : File → Node → Option Item
node_due f Lost = None
node_due f Done = None
node_due f (Leaf step row base) = Some (due_item f step base)
node_due f Choice = None
node_due f Both = None
node_due f (Follow clause row) = None

-- Numbers in the front of a list, with what stood behind them.
abbrev pub over : List ℕ → List ℕ → List ℕ
over front list = front ++ drop (length front) list
