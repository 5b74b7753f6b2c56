-- What can be told of the ends of a term, part by part, where the ends of clauses are looked up. Assumes nothing.
use Rattle.std.specs.Prelude.{◌≡◌, ℕ, ◌+◌, true, false, cond, ◌&&◌, ◌||◌, List, Some, None, vec_items, Option}
use Rattle.language.specs.Terms.{Term, may_end, nodes}
use Rattle.language.specs.Ends.{earlier, later, after, reach, durations, next_end}
use Rattle.days.specs.Windows.{meant}
use Rattle.entries.specs.declared.entries.Entry.{Entry}
use Rattle.entries.specs.declared.entries.Entry.TheVariants.{Lost, Done, Step, Choice, Both, Then, Call, Template, Condition, Argument}
use Rattle.entries.specs.Parts.{at}
use Rattle.contract_file.specs.declared.files.File.{File}
use Rattle.openings.specs.Clauses.{templates_of}
use Rattle.terms.specs.declared.nodes.Node.{Node}
use Rattle.terms.specs.Tables.{Holds}
use Rattle.horizon.specs.declared.horizon.Horizon.{Horizon}
use Rattle.horizon.specs.Foretelling.{end_by, Foretells}
use Rattle.outlook.specs.declared.outlooks.Outlook.{Outlook}

-- The end of an entry's clause from a base day, as the horizon has it.
abbrev pub horizon_end : Horizon → ℕ → ℕ → Option ℕ
horizon_end h clause base = end_by h.spans (vec_items h.rows) clause base

-- The horizon tells the ends of the file's clauses.
abbrev pub Foretold : File → Horizon → Type 0
Foretold f h = Foretells f h.spans (vec_items h.rows)

-- The outlook of a term at a clock.
abbrev pub outlook_of : File → Term → ℕ → Outlook
outlook_of f t clock = record { ends = may_end t; next = next_end (durations (templates_of f)) t clock }

-- The earliest end by an outlook: the clock itself, if the term may end as it stands.
abbrev pub end_of : Outlook → ℕ → Option ℕ
end_of o clock = cond o.ends (Some clock) o.next

-- The end of a leaf by its step's entry: the tail's, from the first day of the window that the clock leaves.
abbrev pub leaf_end : Horizon → ℕ → ℕ → Entry → Option ℕ
leaf_end h base clock Lost = None
leaf_end h base clock Done = None
leaf_end h base clock (Step w tail conditions) = after (reach (meant w) base clock) (horizon_end h tail)
leaf_end h base clock (Choice left right) = None
leaf_end h base clock (Both left right) = None
leaf_end h base clock (Then left right) = None
leaf_end h base clock (Call template arguments) = None
leaf_end h base clock (Template number body next) = None
leaf_end h base clock (Condition field test next) = None
leaf_end h base clock (Argument slot value next) = None

-- The outlooks of the sorts of terms, by those of their parts.
abbrev pub lost_outlook : Outlook
lost_outlook = record { ends = false; next = None }

abbrev pub done_outlook : Outlook
done_outlook = record { ends = true; next = None }

abbrev pub leaf_outlook : File → Horizon → ℕ → ℕ → ℕ → Outlook
leaf_outlook f h step base clock = record { ends = false; next = leaf_end h base clock (at f.entries step) }

abbrev pub choice_outlook : Outlook → Outlook → Outlook
choice_outlook l r = record { ends = l.ends || r.ends; next = earlier l.next r.next }

abbrev pub both_outlook : Outlook → Outlook → ℕ → Outlook
both_outlook l r clock = record { ends = l.ends && r.ends; next = earlier (later l.next (end_of r clock)) (later (end_of l clock) r.next) }

abbrev pub follow_outlook : Horizon → Outlook → ℕ → Outlook
follow_outlook h t clause = record { ends = false; next = after t.next (horizon_end h clause) }

-- Whatever term the nodes hold from a place on, this is its outlook, and this the place behind it.
pub record Seen (f : File) (ns : List Node) (clock place : ℕ) (o : Outlook) (behind : ℕ) : Type 0 where
  pub ends : (t : Term) → Holds f ns place t → behind ≡ place + nodes t
  pub tells : (t : Term) → Holds f ns place t → o ≡ outlook_of f t clock
