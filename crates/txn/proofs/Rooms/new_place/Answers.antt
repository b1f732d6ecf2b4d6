use Prim.Native.Nat.{ℕ}
use mathlib.Core.Path.{ap, ap₂, ◌∙◌}
use Rattle.paper.specs.Image.{big_endian}
use Rattle.paper.specs.Keys.{Bytes}
use Rattle.raw.specs.Bytes.{over}
use Rattle.txn.proofs.Changing.{new_is}
use Rattle.txn.proofs.Rooms.new_place.Goals as goal

pub returns : goal.returns
returns c =
    let e₂ = c.put_number-2.ensures ∙ ap (λ (t : Bytes). over t 8 (big_endian 8 c.args.read)) c.put_number.ensures in
    let e₃ = c.put_number-3.ensures ∙ ap (λ (t : Bytes). over t 16 (big_endian 8 1)) e₂ in
    let e₄ = c.put_number-4.ensures ∙ ap (λ (t : Bytes). over t 24 (big_endian 8 0)) e₃ in
    let e₅ = c.put_number-5.ensures ∙ ap (λ (t : Bytes). over t c.reads_at.result (big_endian 8 0)) e₄ in
    let x : Bytes = over (over (over (over c.args.place.now 0 (big_endian 8 c.args.handle)) 8 (big_endian 8 c.args.read)) 16 (big_endian 8 1)) 24 (big_endian 8 0) in
    c.put_number-6.ensures ∙ ap (λ (t : Bytes). over t c.writes_at.result (big_endian 8 0)) e₅
    ∙ ap₂ (λ (m n : ℕ). over (over x m (big_endian 8 0)) n (big_endian 8 0)) c.reads_at.ensures c.writes_at.ensures
    ∙ new_is c.args.self c.args.place.now c.args.handle c.args.read c.requires
