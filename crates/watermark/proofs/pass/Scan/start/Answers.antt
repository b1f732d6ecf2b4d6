use Rattle.watermark.proofs.OnePass.{scan-start}
use Rattle.watermark.proofs.pass.Scan.start.Goals as goal

pub returns : goal.returns
returns c = scan-start c.args.time
