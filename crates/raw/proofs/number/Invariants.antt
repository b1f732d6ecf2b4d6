-- The number of the bytes passed so far, which fits as many bytes.
use mathlib.Core.Path.{◌≡◌}
use lib.ListN.{take}
use Prim.Native.Nat.{◌^◌, ◌<◌}
use Rattle.paper.specs.Image.{number_from}
use Rattle.raw.proofs.number.Given as goal

abbrev pub invariant-loop-b : goal.invariant-loop-b
invariant-loop-b g l = (l.n ≡ number_from 0 (take l.b-index l.b-items)) × (l.n < 256 ^ l.b-index)
