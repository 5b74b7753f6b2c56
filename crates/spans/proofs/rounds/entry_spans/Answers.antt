use Rattle.spans.proofs.Telling.{told_is}
use Rattle.spans.proofs.rounds.entry_spans.Goals as goal

pub returns : goal.returns
returns c = told_is _ _ _ _ c.durations.ensures c.pass-lasts.ensures c.told.ensures
