-- What an answer says that may be missing.
-- Assumes nothing.
use Rattle.std.proofs.Math.Option as math
use Rattle.std.specs.declared.option.Option.{Option}
use Rattle.std.specs.declared.option.Option.TheVariants.{None, Some}

abbrev pub said : {A : Type 0} → Option A → math.Option A
said None = math.none
said (Some x) = math.some x
