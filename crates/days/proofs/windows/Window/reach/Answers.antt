use Rattle.std.proofs.Common.{arith}
use Rattle.days.proofs.Reaching.{reached, missed}
use Rattle.days.proofs.windows.Window.reach.Goals as goal

pub returns-then-day-last : goal.returns-then-day-last
returns-then-day-last c = reached _ c.args.base c.args.clock c.max-day.result (omega (arith, c.max-day.ensures, c.first_day.ensures, c.from.ensures)) (omega (arith, c.last_day.ensures, c.min-last.ensures, c.if-day-last.true))

pub returns-else-day-last : goal.returns-else-day-last
returns-else-day-last c = missed _ c.args.base c.args.clock c.max-day.result (omega (arith, c.max-day.ensures, c.first_day.ensures, c.from.ensures)) (omega (arith, c.last_day.ensures, c.min-last.ensures, c.if-day-last.false))
