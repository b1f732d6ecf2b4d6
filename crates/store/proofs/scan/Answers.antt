-- 9, and nothing else changes.
use mathlib.Core.Path.{refl}
use Rattle.std.proofs.lemmas.Result.{err_from_is_err_and}
use Rattle.layout.specs.Runs.{is_opening}
use Rattle.lsm.specs.Edges.{bound_of}
use Rattle.store.specs.Asked.{scan_of}
use Rattle.store.proofs.Unsound.{refused, refused-value, refused-key}
use Rattle.store.proofs.scan.Goals as goal

pub returns-in_err-sound : goal.returns-in_err-sound
unfolding is_opening
returns-in_err-sound c =
    let p = err_from_is_err_and c.from_residual.result c.from_residual.ensures.1 in
    let asked = scan_of c.args.handle (bound_of c.args.low) (bound_of c.args.high) c.args.key_out.now c.args.value_out.now in
    let refusal = refused asked c.args.state.now refl _ c.in_err-sound.ensures in
    let key = refused-key asked c.args.state.now refl _ c.in_err-sound.ensures c.args.key_out.now in
    let value = refused-value asked c.args.state.now refl _ c.in_err-sound.ensures c.args.value_out.now in
    rw (p.1, p.2) (refusal, key, value)
