-- The four writes one after the other are the rows with the new one among them.
use mathlib.Core.Path.{◌≡◌, ap, ◌∙◌}
use Prim.Native.Nat.{ℕ}
use native.Mathlib.Omega.{arith}
use Rattle.raw.proofs.Octets.{octets-of}
use Rattle.table.proofs.RowBytes.{region, inserted, come}
use Rattle.table.proofs.insert_row.Goals as goal

pub returns : goal.returns
returns c =
    let b = c.args.region.now in
    let R = region b (octets-of b (λ i. omega (arith, c.slice_known-1.given i))) c.requires.0.reads in
    let e : c.put_number-3.new.s ≡ inserted b c.args.gap.k c.args.gap.n c.args.t = cc in
    e ∙ ap (λ (n : ℕ). inserted b c.args.gap.k n c.args.t) c.requires.0.many ∙ come b R c.args.gap.k c.args.t (omega arith) (omega arith)
