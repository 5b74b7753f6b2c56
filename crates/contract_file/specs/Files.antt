-- What a contract file holds, by its bytes. Entries are numbered from 1, and stand at their numbers.
use Rattle.std.specs.Prelude.{ℕ, ◌-◌, ◌*◌, cond, ◌&&◌, List, map, take, drop, Some, None, Option, nat_le, slice_index}
use Rattle.std.specs.List.{range_with_len}
use Rattle.entries.specs.declared.entries.Entry.{Entry}
use Rattle.entries.specs.declared.entries.Entry.TheVariants.{Lost}
use Rattle.contract_file.specs.declared.files.File.{File}
use Rattle.entries.specs.Layout.{two_at, entry_of}

-- the number of entries that the head tells
abbrev pub count_of : List ℕ → ℕ
count_of b = two_at b 2

-- the sixteen bytes of entry i, behind the head's eight and the entries before it
abbrev pub bytes_of : List ℕ → ℕ → List ℕ
bytes_of b i = take 16 (drop (16 * i - 8) b)

-- an entry, or lost where none is listed
abbrev pub or_lost : Option Entry → Entry
or_lost None = Lost
or_lost (Some e) = e

-- what stands at place i of the table: entry i, and lost at the places that are no entry's
abbrev pub placed : List ℕ → ℕ → Entry
placed b i = cond (nat_le 1 i && nat_le i (count_of b)) (or_lost (entry_of (bytes_of b i))) Lost

unfoldable pub table_of : List ℕ → List Entry
table_of b = map (placed b) (range_with_len 0 257)

-- the file that the bytes hold
abbrev pub decoded : List ℕ → File
decoded b = record { kind = slice_index b 0; count = count_of b; templates = two_at b 4; contract = two_at b 6; entries = table_of b }
