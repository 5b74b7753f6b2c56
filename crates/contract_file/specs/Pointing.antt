-- What a right pointer is: it leads up, to an entry of the right sort; some may be 0, which is none.
use Rattle.std.specs.Prelude.{◌≡◌, ℕ, ◌<◌, ◌≤◌}
use Rattle.entries.specs.declared.parts.Sort.{Sort}
use Rattle.entries.specs.declared.parts.Sort.TheVariants as sort
use Rattle.entries.specs.declared.entries.Entry.{Entry}
use Rattle.entries.specs.declared.entries.Entry.TheVariants.{Lost, Done, Step, Choice, Both, Then, Call, Template, Condition, Argument}
use Rattle.contract_file.specs.declared.files.File.{File}
use Rattle.entries.specs.Parts.{sort_of, at}
use Rattle.contract_file.specs.Asking.{Question}

module _ (f : File) where
  -- from an entry, or from the head as entry 0, up to an entry of a sort
  pub record Leads (from to : ℕ) (s : Sort) : Type 0 where
    pub up : from < to
    pub there : to ≤ f.count
    pub right : sort_of (at f.entries to) ≡ s

  -- the same, unless it is none
  abbrev pub EndsOrLeads : ℕ → ℕ → Sort → Type 0
  EndsOrLeads from to s = 0 < to → Leads from to s

  abbrev pub SidesLead : ℕ → ℕ → ℕ → Type 0
  SidesLead from left right = Leads from left sort.Clause × Leads from right sort.Clause

  abbrev pub EntryLeads : ℕ → Entry → Type 0
  EntryLeads from Lost = Unit {0}
  EntryLeads from Done = Unit {0}
  EntryLeads from (Step w tail conditions) = Leads from tail sort.Clause × EndsOrLeads from conditions sort.Condition
  EntryLeads from (Choice left right) = SidesLead from left right
  EntryLeads from (Both left right) = SidesLead from left right
  EntryLeads from (Then left right) = SidesLead from left right
  EntryLeads from (Call template arguments) = EndsOrLeads from arguments sort.Argument
  EntryLeads from (Template number body next) = Leads from body sort.Clause × EndsOrLeads from next sort.Template
  EntryLeads from (Condition field test next) = EndsOrLeads from next sort.Condition
  EntryLeads from (Argument slot value next) = EndsOrLeads from next sort.Argument

  abbrev pub HeadLeads : Type 0
  HeadLeads = Leads 0 f.contract sort.Clause × EndsOrLeads 0 f.templates sort.Template

  -- the question: does each pointer of the head and of entry i lead where it should?
  abbrev pub Pointers : Question
  Pointers i = (i ≡ 0 → HeadLeads) × EntryLeads i (at f.entries i)
