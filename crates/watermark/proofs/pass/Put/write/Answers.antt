use Rattle.std.proofs.Common.{ap, ◌∙◌}
use lib.ListN.{set}
use Rattle.watermark.proofs.Writes.{put-shifted}
use Rattle.watermark.proofs.pass.Put.write.Goals as goal

pub returns : goal.returns
returns g c =
    ap (λ l. set l c.args.self.from c.args.x) c.copy_within.ensures.after
    ∙ put-shifted c.args.slice.now c.args.self.from c.args.self.to c.args.x c.args.x c.requires.from c.requires.to
