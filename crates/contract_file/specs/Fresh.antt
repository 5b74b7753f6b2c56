-- The file of a new place: of kind 1, with one entry, lost.
use Rattle.std.specs.Prelude.{replicate}
use Rattle.entries.specs.declared.entries.Entry.TheVariants.{Lost}
use Rattle.contract_file.specs.declared.files.File.{File}

abbrev pub fresh : File
fresh = record { kind = 1; count = 1; templates = 0; contract = 1; entries = replicate 257 Lost }
