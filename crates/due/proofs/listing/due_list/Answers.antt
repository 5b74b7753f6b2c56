use Rattle.std.proofs.Common.{◌≡◌, arith}
use Rattle.contract_file.proofs.Facts.{known_sound}
use Rattle.openings.proofs.Unfolding.{leading}
use Rattle.due.proofs.Reading.{item_count, refused, listed}
use Rattle.due.proofs.listing.due_list.Goals as goal

pub write_dues-requires : goal.write_dues-requires
write_dues-requires c = omega (arith, item_count c.file.result.now c.as_slice-nodes.result.now)

pub returns-then-list-leaves : goal.returns-then-list-leaves
returns-then-list-leaves c t held long =
    let ns = c.as_slice-nodes.result.now in
    let same : ns ≡ c.args.table.now.items = cc in
    let f = c.args.openings.now.read.file in
    refused f ns c.args.list.now c.leaf_count-leaves.result c.leaf_count-leaves.ensures t (rw same held) (rw same long) (omega arith)

pub returns : goal.returns
returns c t held long =
    let ns = c.as_slice-nodes.result.now in
    let same : ns ≡ c.args.table.now.items = cc in
    let f = c.file.result.now in
    listed f ns c.args.list.now c.leaf_count-leaves.result c.leaf_count-leaves.ensures t (rw (same, c.file.ensures.same) held) (rw same long)
    (leading f (known_sound f c.file.ensures.sound)) c.write_dues.new.list (omega arith) c.write_dues.ensures
