use Rattle.std.proofs.Common.{arith}
use Rattle.std.proofs.lemmas.Grind.{common_steps}
use Rattle.txn.specs.Checks.{parts_sound, own_sound}
use Rattle.txn.proofs.Rooms.parts_check.Goals as goal

pub returns-then-set_check : goal.returns-then-set_check
unfolding parts_sound own_sound
returns-then-set_check c = grind (arith, common_steps)

pub returns-else-set_check : goal.returns-else-set_check
unfolding parts_sound own_sound
returns-else-set_check c = grind (arith, common_steps)
