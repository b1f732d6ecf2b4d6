-- Another mode is refused; else the settings are made, and what the opening told is told by numbers.
use mathlib.Core.Path.{refl}
use Rattle.host.specs.Numbers.{settings_by}
use Rattle.host.proofs.Calling.{opened-not, opened-by}
use Rattle.host.proofs.ngalovuki_open.Goals as goal

pub returns-then-serializable-gt1 : goal.returns-then-serializable-gt1
returns-then-serializable-gt1 c = opened-not c.args.serializable (settings_by c.args.serializable c.args.transactions c.args.overlay c.args.reads c.args.writes c.args.entries c.args.hashes c.args.active c.args.area) c.args.images.now c.args.lengths.now c.args.state.now c.args.reply.now _ _ _ c.tell.ensures c.if-serializable-gt1.true refl

pub returns : goal.returns
returns c = opened-by c.args.serializable (settings_by c.args.serializable c.args.transactions c.args.overlay c.args.reads c.args.writes c.args.entries c.args.hashes c.args.active c.args.area) c.args.images.now c.args.lengths.now c.args.state.now c.args.reply.now _ _ _ c.tell-2.ensures _ _ c.if-serializable-gt1.false c.settings_by-st.ensures c.open.ensures
