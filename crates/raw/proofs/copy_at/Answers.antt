use mathlib.Core.Path.{ap, ◌∙◌}
use lib.ListN.{length}
use Rattle.raw.specs.Bytes.{over}
use Rattle.raw.proofs.Moves.{over-mid}
use Rattle.raw.proofs.copy_at.Goals as goal

pub returns : goal.returns
returns c =
    over-mid c.args.s.now c.args.at (length c.args.src.now) c.copy_from_slice.new.self (ap length c.copy_from_slice.ensures.after)
    ∙ ap (over c.args.s.now c.args.at) c.copy_from_slice.ensures.after
