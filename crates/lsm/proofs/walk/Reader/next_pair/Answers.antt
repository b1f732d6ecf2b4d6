use mathlib.Core.Path.{◌≡◌}
use Rattle.std.proofs.Common.{rules}
use Rattle.std.specs.Option.{option_map_or}
use Rattle.lsm.specs.declared.walk.Mark.TheVariants.{Looking, Leaving}
use Rattle.lsm.proofs.Walking.{begun}
use Rattle.lsm.proofs.walk.Reader.next_pair.Goals as goal

pub loop-mark-init : goal.loop-mark-init
loop-mark-init c =
    let e : c.map_or-mark.result ≡ option_map_or Leaving c.args.after Looking = search rules in
    let b = begun c.args.self.s.now _ _ c.args.heap.now c.args.after _ c.requires.1 e in
    record { sound = c.requires.0; inside = b.0; same = b.1; over = b.2 }
