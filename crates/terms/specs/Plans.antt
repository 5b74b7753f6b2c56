-- What an entry opens to, and what is written for it, by the table of what each entry opens to: nothing that tidies away is
-- named. Assumes nothing.
use Rattle.std.specs.Prelude.{ℕ, List}
use Rattle.kinds.specs.Rows.{Row}
use Rattle.language.specs.Terms.{Term, opened}
use Rattle.contract_file.specs.declared.files.File.{File}
use Rattle.entries.specs.declared.entries.Entry.{Entry}
use Rattle.entries.specs.declared.entries.Entry.TheVariants.{Lost, Done, Step, Choice, Both, Then, Call, Template, Condition, Argument}
use Rattle.openings.specs.declared.shapes.Shape.{Shape}
use Rattle.terms.specs.declared.plans.Plan.{Plan}
use Rattle.terms.specs.declared.plans.Plan.TheVariants as plan
use Rattle.openings.specs.Clauses.{clause_at, templates_of}
use Rattle.openings.specs.Shapes.{tidied_choice, tidied_both, followed, by_sides, by_both, by_followed}
use Rattle.openings.specs.Rounds.{of}

-- What the clause of entry i opens to, from a row and on a base day.
abbrev pub opens : File → Row → ℕ → ℕ → Term
opens f row base i = opened (templates_of f) (clause_at f i) row base

-- by what tidying leaves of an entry with two parts
abbrev pub choice_plan : List Shape → ℕ → ℕ → Plan
choice_plan s l r = by_sides (plan.Only l) (plan.Only r) (plan.Choice l r) (tidied_choice (of s l) (of s r))

abbrev pub both_plan : List Shape → ℕ → ℕ → Plan
both_plan s l r = by_both plan.Lost (plan.Only l) (plan.Only r) (plan.Both l r) (tidied_both (of s l) (of s r))

abbrev pub then_plan : List Shape → ℕ → ℕ → Plan
then_plan s l r = by_followed plan.Lost (plan.Only r) (plan.Follow l r) (plan.Skip l r) (followed (of s l) (of s r))

-- an entry that is no clause is lost
abbrev pub plan_by : List Shape → Entry → Plan
plan_by s Lost = plan.Lost
plan_by s Done = plan.Done
plan_by s (Step w tail conditions) = plan.Leaf
plan_by s (Choice left right) = choice_plan s left right
plan_by s (Both left right) = both_plan s left right
plan_by s (Then left right) = then_plan s left right
plan_by s (Call template arguments) = plan.Call template arguments
plan_by s (Template number body next) = plan.Lost
plan_by s (Condition field test next) = plan.Lost
plan_by s (Argument slot value next) = plan.Lost
