-- No bytes are a history, the empty one.
use Rattle.std.proofs.Common.{ap, refl, arith}
use Rattle.paper.specs.Lists.{is_some}
use Rattle.mvcc.proofs.Reading.{history-empty}
use Rattle.mvcc.proofs.tests.entries_fill_the_room.Goals as goal

pub enter-requires : goal.enter-requires
enter-requires g c = (omega arith, omega arith, omega arith, refl, ap is_some history-empty)
