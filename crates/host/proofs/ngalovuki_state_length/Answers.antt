-- Another mode, or a setting outside its range, gives 0; else the length.
use mathlib.Core.Path.{sym, ◌∙◌}
use Rattle.host.specs.Numbers.{settings_by}
use Rattle.host.proofs.Calling.{length-no-mode, length-out, length-in}
use Rattle.host.proofs.ngalovuki_state_length.Goals as goal

pub returns-then-serializable-gt1 : goal.returns-then-serializable-gt1
returns-then-serializable-gt1 c =
    length-no-mode c.args.serializable (settings_by c.args.serializable c.args.transactions c.args.overlay c.args.reads c.args.writes c.args.entries c.args.hashes c.args.active c.args.area) c.if-serializable-gt1.true

pub returns-then-not-in_ranges : goal.returns-then-not-in_ranges
returns-then-not-in_ranges c =
    length-out c.args.serializable (settings_by c.args.serializable c.args.transactions c.args.overlay c.args.reads c.args.writes c.args.entries c.args.hashes c.args.active c.args.area) _ c.if-serializable-gt1.false c.settings_by-st.ensures _ c.in_ranges.ensures c.if-not-in_ranges.true

pub state_length-requires : goal.state_length-requires
state_length-requires c = sym c.in_ranges.ensures ∙ c.if-not-in_ranges.false

pub returns : goal.returns
returns c =
    length-in c.args.serializable (settings_by c.args.serializable c.args.transactions c.args.overlay c.args.reads c.args.writes c.args.entries c.args.hashes c.args.active c.args.area) _ c.if-serializable-gt1.false c.settings_by-st.ensures _ _ c.in_ranges.ensures c.if-not-in_ranges.false c.state_length.ensures.0
