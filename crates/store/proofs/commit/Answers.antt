-- 9, and nothing else changes.
use mathlib.Core.Path.{refl}
use Rattle.std.proofs.lemmas.Result.{err_from_is_err_and}
use Rattle.paper.specs.Calls.{Call}
use Rattle.layout.specs.Runs.{is_opening}
use Rattle.store.proofs.Unsound.{refused}
use Rattle.store.proofs.commit.Goals as goal

pub returns-in_err-sound : goal.returns-in_err-sound
unfolding is_opening
returns-in_err-sound c =
    let p = err_from_is_err_and c.from_residual.result c.from_residual.ensures.1 in
    rw (p.1, p.2) (refused (Call.commit c.args.handle) c.args.state.now refl _ c.in_err-sound.ensures)
