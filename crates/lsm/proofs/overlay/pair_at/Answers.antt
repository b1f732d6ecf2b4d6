use Rattle.lsm.proofs.PairLaws.{pair-here, pair-placed}
use native.Mathlib.Omega.{arith}
use Rattle.lsm.proofs.overlay.pair_at.Goals as goal

pub length_at-requires : goal.length_at-requires
length_at-requires c = omega (arith, pair-here c.args.s.now c.args.at c.args.end c.requires.0 c.requires.1)

pub length_at-requires-2 : goal.length_at-requires-2
length_at-requires-2 c = omega (arith, pair-here c.args.s.now c.args.at c.args.end c.requires.0 c.requires.1)

pub returns : goal.returns
returns c =
    pair-placed c.args.s.now c.args.at c.args.end c.requires.0 c.requires.1 _ _ c.length_at.ensures.0 c.length_at-2.ensures.0
