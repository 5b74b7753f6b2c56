use Rattle.std.proofs.Common.{arith}
use Rattle.std.proofs.lemmas.Grind.{common_steps}
use Rattle.lines.proofs.Digits.{number_of-long, number_of-other, parsed, utf8}
use Rattle.lines.proofs.number.Goals as goal

pub returns-then-text-gt-MOST_DIGITS : goal.returns-then-text-gt-MOST_DIGITS
returns-then-text-gt-MOST_DIGITS c = grind (arith, common_steps, number_of-long c.args.text.now, number_of-other c.args.text.now)

pub returns-in_err-ok : goal.returns-in_err-ok
returns-in_err-ok c = grind (arith, common_steps, utf8 c.args.text.now)

pub returns : goal.returns
returns c = grind (arith, common_steps, parsed c.in_ok-ok.field-0.now c.parse.result)
