use mathlib.Core.Path.{ap, ◌∙◌}
use lib.ListN.{length, take, drop}
use Prim.Native.Nat.{◌-◌}
use Rattle.paper.specs.Keys.{Bytes}
use Rattle.paper.proofs.ImageLaws.{length-big_endian}
use Rattle.raw.specs.Bytes.{over}
use Rattle.raw.proofs.Moves.{over-mid}
use Rattle.raw.proofs.Numbers.{low-bytes}
use Rattle.raw.proofs.put_number.Goals as goal

pub returns : goal.returns
returns g c =
    let e = c.copy_from_slice.ensures.after ∙ ap (λ (b : Bytes). take (8 - (8 - g.row.N)) (drop (8 - g.row.N) b)) c.to_be_bytes.ensures ∙ low-bytes g.row.N c.args.v c.requires.narrow in
    over-mid c.args.s.now c.args.at g.row.N c.copy_from_slice.new.self (ap {A = Bytes} length e ∙ length-big_endian g.row.N c.args.v) ∙ ap (over c.args.s.now c.args.at) e
