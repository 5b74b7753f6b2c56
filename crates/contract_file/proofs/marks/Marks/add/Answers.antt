use Rattle.std.proofs.Common.{None, sym, refl, arith}
use Rattle.std.proofs.lemmas.List.{get_or_past, set_past}
use Rattle.contract_file.proofs.marks.Marks.add.Goals as goal

pub returns-else-place-lt-PLACES : goal.returns-else-place-lt-PLACES
returns-else-place-lt-PLACES g c =
    let marks = c.args.self.now.marks in
    (c.args.number, sym (set_past marks c.args.entry _ (omega arith)), rw (get_or_past marks c.args.entry None (omega arith)) refl)
