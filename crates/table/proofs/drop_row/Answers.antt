-- The two writes one after the other are the rows without that one.
use mathlib.Core.Path.{◌≡◌, ap, ◌∙◌}
use native.Mathlib.Omega.{arith}
use Rattle.raw.proofs.Octets.{octets-of}
use Rattle.table.proofs.RowBytes.{region, dropped, gone}
use Rattle.table.proofs.drop_row.Goals as goal

pub returns : goal.returns
returns c =
    let b = c.args.region.now in
    let R = region b (octets-of b (λ i. omega (arith, c.slice_known-1.given i))) c.requires.0.reads in
    let e : c.put_number.new.s ≡ dropped b c.args.k c.args.n = cc in
    e ∙ ap (dropped b c.args.k) c.requires.0.many ∙ gone b R c.args.k (omega arith)
