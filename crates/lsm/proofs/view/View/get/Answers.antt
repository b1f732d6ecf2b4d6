use mathlib.Core.List.{map}
use Rattle.merge.specs.Cursors.{left}
use Rattle.lsm.specs.Views.{cursors_in, writes_in}
use Rattle.lsm.proofs.NewestLaws.{seen-own, seen-newest}
use Rattle.lsm.proofs.view.View.get.Goals as goal

pub returns-in-Some : goal.returns-in-Some
returns-in-Some c =
    seen-own c.args.s.now c.args.key.now c.args.self.now.read (writes_in c.args.s.now c.args.self.now) (map (left c.args.s.now) (cursors_in c.args.self.now)) c.own_write.result c.present.result c.own_write.ensures.0 _ c.in-Some.is c.own_write.ensures.1 c.present.ensures

pub returns-in-None : goal.returns-in-None
returns-in-None c =
    seen-newest c.args.s.now c.args.key.now c.args.self.now.read (writes_in c.args.s.now c.args.self.now) (map (left c.args.s.now) (cursors_in c.args.self.now)) c.own_write.result c.shown.result c.own_write.ensures.0 c.newest_of.result c.in-None.is c.newest_of.ensures.0 c.newest_of.ensures.1 c.shown.ensures
