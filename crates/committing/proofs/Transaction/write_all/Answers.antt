-- The history, the active run, the mark and the clock are written, one after the other.
use native.Mathlib.Omega.{arith}
use Rattle.std.proofs.Common.{rules}
use Rattle.seat.proofs.Finding.{bytes_known}
use Rattle.committing.proofs.Writing.{join-ready, mark-inside, head-inside, all-written}
use Rattle.committing.proofs.Transaction.write_all.Goals as goal

pub write_active-requires : goal.write_active-requires
write_active-requires c = join-ready c.args.state.now (bytes_known _ (search rules)) c.args.self.shape c.args.self.place c.args.number c.requires _ c.enter_history.ensures

pub close-requires : goal.close-requires
close-requires c = mark-inside c.args.state.now (bytes_known _ (search rules)) c.args.self.shape c.args.self.place c.args.number c.requires _ c.enter_history.ensures _ c.write_active.ensures

pub put_number-requires-clause-there : goal.put_number-requires-clause-there
put_number-requires-clause-there c =
    omega (arith, head-inside c.args.state.now (bytes_known _ (search rules)) c.args.self.shape c.args.self.place c.args.number c.requires _ c.enter_history.ensures _ c.write_active.ensures _ c.close.ensures)

pub returns : goal.returns
returns c =
    all-written c.args.state.now (bytes_known _ (search rules)) c.args.self.shape c.args.self.place c.args.number c.requires _ c.enter_history.ensures _ c.write_active.ensures _ c.close.ensures _ c.put_number.ensures
