use Rattle.std.proofs.Common.{arith}
use Rattle.versions.proofs.Absorbing.{seek-whole, none-parted, first-parted, own-rise}
use Rattle.versions.proofs.first_place.Goals as goal

pub seek-requires : goal.seek-requires
seek-requires c = (omega arith, omega arith, seek-whole c.args.records.now c.requires.0)

pub returns-in_default : goal.returns-in_default
returns-in_default c = none-parted c.args.records.now c.requires.0 c.args.number c.requires.1 _ c.in_default.ensures.steps.0

pub returns : goal.returns
returns c =
    first-parted c.args.records.now c.requires.0 c.args.number c.requires.1 _ _ _ c.in-Some.ensures.steps (own-rise c.args.own) c.seek.result (rw c.new.ensures at c.seek.ensures)
