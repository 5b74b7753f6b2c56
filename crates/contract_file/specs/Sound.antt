-- What is known of a file that passed the questions of reading.
use Rattle.std.specs.Prelude.{◌≡◌, ℕ, ◌<◌, ◌≤◌, length}
use Rattle.entries.specs.declared.entries.Entry.TheVariants.{Lost}
use Rattle.contract_file.specs.declared.files.File.{File}
use Rattle.contract_file.specs.Asking.{Passed}
use Rattle.entries.specs.Parts.{at, Listed}
use Rattle.contract_file.specs.Pointing.{Pointers}
use Rattle.contract_file.specs.Chains.{Chained}
use Rattle.contract_file.specs.Clauses.{Calls, Windows}

-- behind the questions of length, version and listing: 1 to 256 entries in a table of 257 places, each at its number,
-- with listed values, and the other places lost
pub record Parsed (f : File) : Type 0 where
  pub some : 1 ≤ f.count
  pub few : f.count ≤ 256
  pub long : length f.entries ≡ 257
  pub nowhere : at f.entries 0 ≡ Lost
  pub past : (i : ℕ) → f.count < i → at f.entries i ≡ Lost
  pub values : (i : ℕ) → Listed (at f.entries i)

-- behind all questions of reading
pub record Sound (f : File) : Type 0 where
  pub parsed : Parsed f
  -- pointers lead up, to entries of the right sort
  pub pointers : Passed (Pointers f)
  -- templates are numbered along their chain with none off it; fields and slots rise along theirs
  pub chains : Passed (Chained f)
  -- calls name templates on the chain, and bare ones a lower template
  pub calls : Passed (Calls f)
  -- steps have windows, and no body reaches a calendar window
  pub windows : Passed (Windows f)
