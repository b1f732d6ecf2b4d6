-- What a comparison's answer says.
-- Assumes nothing.
use Prim.Native.Nat as nat
use Rattle.std.specs.declared.cmp.Ordering.{Ordering}
use Rattle.std.specs.declared.cmp.Ordering.TheVariants.{Less, Equal, Greater}

abbrev pub ordering : Ordering → nat.Ordering
ordering Less = nat.Ordering.lt
ordering Equal = nat.Ordering.eq
ordering Greater = nat.Ordering.gt
