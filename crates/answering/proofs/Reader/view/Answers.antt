-- The own writes lie 32 bytes into the place, behind the number of their bytes.
use Rattle.answering.proofs.Viewing.{sited, own-inside, shows}
use Rattle.seat.proofs.Finding.{bytes_known}
use native.Mathlib.Omega.{arith}
use Rattle.answering.proofs.Reader.view.Goals as goal

pub cursors_of-runs-requires : goal.cursors_of-runs-requires
cursors_of-runs-requires c = sited c.args.state.now c.args.self.shape c.requires.0 c.requires.1

pub overflow_add-stop : goal.overflow_add-stop
overflow_add-stop c =
    omega (arith, own-inside c.args.self.shape c.args.state.now (bytes_known _ c.type_inv.state) c.args.self.place c.requires.2 c.number.result c.number.ensures.value, c.requires.2.inside)

pub returns : goal.returns
returns c =
    shows c.args.self.shape c.args.state.now (bytes_known _ c.type_inv.state) c.args.self.place c.requires.2 c.number.result c.number.ensures.value c.args.self.read c.cursors_of-runs.result c.cursors_of-runs.ensures
