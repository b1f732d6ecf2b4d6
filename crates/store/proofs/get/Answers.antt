-- 9, and nothing else changes.
use mathlib.Core.Path.{refl}
use Rattle.std.proofs.lemmas.Result.{err_from_is_err_and}
use Rattle.layout.specs.Runs.{is_opening}
use Rattle.store.specs.Asked.{get_of}
use Rattle.store.proofs.Unsound.{refused, refused-value}
use Rattle.store.proofs.get.Goals as goal

pub returns-in_err-sound : goal.returns-in_err-sound
unfolding is_opening
returns-in_err-sound c =
    let p = err_from_is_err_and c.from_residual.result c.from_residual.ensures.1 in
    let asked = get_of c.args.handle c.args.key.now c.args.out.now in
    let refusal = refused asked c.args.state.now refl _ c.in_err-sound.ensures in
    let value = refused-value asked c.args.state.now refl _ c.in_err-sound.ensures c.args.out.now in
    rw (p.1, p.2) (refusal, value)
