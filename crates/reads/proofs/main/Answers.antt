use mathlib.Core.Path.{refl}
use Rattle.paper.specs.Computing.{definitions}
use Rattle.key.specs.Packing.{pack_all}
use Rattle.lsm.specs.Pairs.{pair_bytes}
use Rattle.reads.specs.Packed.{sheet_bytes}
use Rattle.reads.proofs.main.Goals as goal

pub cases-requires : goal.cases-requires
unfolding definitions pack_all pair_bytes sheet_bytes
cases-requires c = refl
