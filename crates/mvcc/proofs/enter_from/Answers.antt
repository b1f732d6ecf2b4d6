-- Four writes side by side: what stays, the number, the size, the hashes.
use Rattle.std.proofs.Common.{◌≡◌, length, ap, refl, sym, ◌∙◌, arith, rules, Fits, w8}
use lib.ListN.{get_or}
use Prim.Native.Nat.{ℕ, ◌+◌, ◌*◌, ◌-◌, ◌%◌}
use Rattle.paper.specs.Image.{big_endian}
use Rattle.paper.specs.Keys.{Bytes}
use Rattle.raw.specs.Bytes.{part, over}
use Rattle.raw.proofs.Parts.{length_part}
use Rattle.raw.proofs.Octets.{octets-of, octets-part}
use Rattle.mvcc.proofs.Entering.{after-long, entering-from}
use Rattle.mvcc.proofs.enter_from.Goals as goal

pub returns : goal.returns
returns c =
    let room : Bytes = c.args.room.now in
    let kept : ℕ = c.args.end - c.args.cut in
    let size : ℕ = 4 * c.args.count in
    let stays : Bytes = part room c.args.cut kept in
    let hs : Bytes = part room c.args.from size in
    let fits : (i : ℕ) → Fits w8 (get_or room i 0) = search rules in
    let y = octets-of room (λ i. omega (arith, fits i)) in
    let o = octets-part room c.args.cut kept y in
    let p = octets-part room c.args.from size y in
    let n = length_part room c.args.cut kept (omega arith) in
    let m = length_part room c.args.from size (omega arith) in
    let whole : length hs % 4 ≡ 0 = omega (arith, m) in (
      omega (arith, after-long stays o c.requires.4 c.args.number hs p whole, n, m),
      c.shift-2.ensures
          ∙ ap (λ (t : Bytes). over t (kept + 16) (part t c.args.from size))
          (c.put_number-2.ensures
          ∙ ap (λ (t : Bytes). over t (kept + 8) (big_endian 8 size)) (c.put_number.ensures ∙ ap (λ (t : Bytes). over t kept (big_endian 8 c.args.number)) c.shift.ensures))
          ∙ entering-from stays o c.requires.4 c.args.number hs p whole room kept c.args.from size (sym n) (sym m) c.requires.2 c.requires.3 refl,
    )
