use Rattle.overlay.proofs.Putting.{hole-hit, hole-miss}
use Rattle.overlay.proofs.own.Own.hole.Goals as goal

pub returns-in-Ok : goal.returns-in-Ok
returns-in-Ok c = hole-hit c.args.self.bytes.now c.args.self.octets c.args.self.whole c.args.key.now c.in-Ok.found c.in-Ok.ensures

pub returns-in-Err : goal.returns-in-Err
returns-in-Err c = hole-miss c.args.self.bytes.now c.args.self.octets c.args.self.whole c.args.key.now c.in-Err.gap c.in-Err.ensures
