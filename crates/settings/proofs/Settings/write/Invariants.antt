-- The invariant: the numbers before the next one stand in front, one after the other.
use Rattle.std.proofs.Common.{◌≡◌, take}
use Rattle.layout.specs.Layout.{n8}
use Rattle.layout.specs.Codec.{put_all}
use Rattle.raw.specs.Bytes.{over}
use Rattle.settings.proofs.Settings.write.Given as goal

abbrev pub invariant-loop-i : goal.invariant-loop-i
invariant-loop-i l = l.state ≡ over l.initial.state 0 (put_all n8 (take l.i l.n-items))
