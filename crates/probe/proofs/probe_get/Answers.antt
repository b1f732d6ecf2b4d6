-- `probe::probe_get` meets its contract: what the read path answers of the view is told.
use Rattle.probe.proofs.Telling.{readable-same, get-told}
use Rattle.probe.proofs.probe_get.Goals as goal

pub get-requires : goal.get-requires
get-requires c = readable-same _ _ _ c.view_of-v.ensures c.requires.2

pub returns : goal.returns
returns c = get-told _ c.args.key.now c.view_of-v.result _ c.get.result _ _ _ c.view_of-v.ensures c.get.ensures c.tell.ensures
