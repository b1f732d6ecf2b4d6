-- What the scan told is told by numbers; the store has filled the out buffers.
-- For the number the last step is a tactic's, so that the proof can also hold where the code passes it through one more step.
use native.Mathlib.Omega.{arith}
use Rattle.reply.specs.Told.{scanned_told}
use Rattle.reply.proofs.Numbers.{scanned-number}
use Rattle.store.specs.Asked.{scan_of}
use Rattle.lsm.specs.Edges.{bound_by}
use Rattle.host.proofs.Calling.{scan-by, numbers_on_lem}
use Rattle.host.proofs.ngalovuki_scan.Goals as goal

pub returns : goal.returns
returns c =
    let asked = scan_of c.args.handle (bound_by c.args.low c.args.lo.now) (bound_by c.args.high c.args.hi.now) c.args.key_out.now c.args.value_out.now in
    let same = scan-by c.args.handle _ _ _ _ c.args.key_out.now c.args.value_out.now c.bound_by-from.ensures c.bound_by-upto.ensures in
    let told = rw same at c.scan.ensures in
    let said = numbers_on_lem scanned_told scanned-number _ asked c.args.state.now _ _ c.args.reply.now _ told.0 c.tell.ensures in
    (grind (arith, said), told.1, told.2)
