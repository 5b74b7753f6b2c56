use Rattle.std.proofs.Common.{take_all, rules}
use Rattle.entries.proofs.layout.by_tag.Goals as goal

pub returns-in-4 : goal.returns-in-4
returns-in-4 c = search (rules, take_all)

pub returns-in-5 : goal.returns-in-5
returns-in-5 c = search (rules, take_all)

pub returns-in-6 : goal.returns-in-6
returns-in-6 c = search (rules, take_all)

pub returns-in-10 : goal.returns-in-10
returns-in-10 c = search (rules, take_all)
