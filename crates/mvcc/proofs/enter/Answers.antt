-- Four writes side by side: what stays, the number, the size, the hashes.
use Rattle.std.proofs.Common.{length, ap, sym, ◌∙◌, arith, rules, Fits, w8}
use lib.ListN.{get_or}
use Prim.Native.Nat.{ℕ, ◌+◌, ◌-◌}
use Rattle.paper.specs.Image.{big_endian}
use Rattle.paper.specs.Keys.{Bytes}
use Rattle.raw.specs.Bytes.{part, over}
use Rattle.raw.proofs.Parts.{length_part}
use Rattle.raw.proofs.Octets.{octets-of, octets-part}
use Rattle.mvcc.proofs.Entering.{after-long, entering}
use Rattle.mvcc.proofs.enter.Goals as goal

pub returns : goal.returns
returns c =
    let room : Bytes = c.args.room.now in
    let hs : Bytes = c.args.hashes.now in
    let kept : ℕ = c.args.end - c.args.cut in
    let stays : Bytes = part room c.args.cut kept in
    let fits : (i : ℕ) → Fits w8 (get_or room i 0) = search rules in
    let o = octets-part room c.args.cut kept (octets-of room (λ i. omega (arith, fits i))) in
    let p = octets-of hs (λ i. omega (arith, c.type_inv.hashes i)) in
    let n = length_part room c.args.cut kept (omega arith) in (
      omega (arith, after-long stays o c.requires.4 c.args.number hs p c.requires.3),
      c.copy_at.ensures
          ∙ ap (λ (t : Bytes). over t (kept + 16) hs)
          (c.put_number-2.ensures
          ∙ ap (λ (t : Bytes). over t (kept + 8) (big_endian 8 (length hs))) (c.put_number.ensures ∙ ap (λ (t : Bytes). over t kept (big_endian 8 c.args.number)) c.shift.ensures))
          ∙ entering stays o c.requires.4 c.args.number hs p c.requires.3 room kept (sym n) (omega arith),
    )
