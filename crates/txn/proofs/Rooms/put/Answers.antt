use native.Mathlib.Omega.{arith}
use lib.ListN.{length}
use Prim.Native.Nat.{ℕ, ◌+◌, ◌*◌, ◌≤◌, compare}
use mathlib.Core.Option.{some}
use mathlib.Core.Bool.{Bool, true}
use mathlib.Core.Path.{◌≡◌, sym, ap, ◌∙◌, subst}
use Rattle.txn.specs.Place.{place_of, txn_in, set_of, set_held}
use Rattle.raw.proofs.Octets.{octets-of}
use Rattle.raw.specs.Bytes.{over}
use Rattle.paper.specs.Room.{set_fits}
use Rattle.paper.specs.Store.{set_add, with_writes}
use Rattle.paper.specs.Lists.{insert}
use Rattle.paper.specs.Keys.{octets, cmp_pair}
use Rattle.overlay.specs.Overlay.{pair}
use Rattle.layout.specs.Layout.{hashes_stream}
use Rattle.txn.proofs.Changing.{own_room, same-long, write-held, write-room, put-added, put-kept}
use Rattle.txn.proofs.Holding.{Held, held, own_held_lem}
use Rattle.txn.proofs.Rooms.put.Goals as goal

pub put_own-requires : goal.put_own-requires
put_own-requires c =
    let known : octets c.args.place.now ≡ true = octets-of c.args.place.now (λ i. omega (arith, c.slice_known-1.given i)) in
    let inside : Held c.args.self c.args.place.now = held c.args.self c.args.place.now known c.requires.0 c.requires.1 in
    let H = inside in
    (omega arith, own_held_lem c.args.self c.args.place.now c.requires.0 H, own_room c.args.self c.args.place.now known c.requires.0 (omega arith) H c.args.key.now c.args.value.now c.requires.2 c.requires.3 c.requires.5)

pub add_hash-requires : goal.add_hash-requires
add_hash-requires c =
    let known : octets c.args.place.now ≡ true = octets-of c.args.place.now (λ i. omega (arith, c.slice_known-1.given i)) in
    let inside : Held c.args.self c.args.place.now = held c.args.self c.args.place.now known c.requires.0 c.requires.1 in
    let room : set_fits c.args.self.writes (set_add true c.args.hash (txn_in c.args.self c.args.place.now).writes) ≡ true = ap (λ (b : Bool). set_fits c.args.self.writes (set_add b c.args.hash (txn_in c.args.self c.args.place.now).writes)) (sym c.if-self.true) ∙ c.requires.6 in
    let H = inside in
    let m = sym c.writes_at.ensures in
    let l = same-long c.args.self c.args.place.now known c.requires.0 (omega arith) H c.args.key.now c.args.value.now c.requires.2 c.requires.3 c.requires.5 c.put_own.new.place c.put_own.ensures in (
      omega (arith, l, c.writes_at.ensures),
      subst (λ (n : ℕ). set_held c.put_own.new.place n ≡ true) m (write-held c.args.self c.args.place.now known c.requires.0 (omega arith) H c.args.key.now c.args.value.now c.requires.2 c.requires.3 c.requires.5 c.put_own.new.place c.put_own.ensures),
      subst (λ (n : ℕ). n + 8 + 4 * length (insert compare c.args.hash (set_of c.put_own.new.place n)) ≤ length c.put_own.new.place) m (write-room c.args.self c.args.place.now known c.requires.0 (omega arith) H c.args.key.now c.args.value.now c.requires.2 c.requires.3 c.requires.5 c.put_own.new.place c.put_own.ensures c.args.hash c.requires.4 room),
    )

pub returns-then-self : goal.returns-then-self
returns-then-self c =
    let known : octets c.args.place.now ≡ true = octets-of c.args.place.now (λ i. omega (arith, c.slice_known-1.given i)) in
    let inside : Held c.args.self c.args.place.now = held c.args.self c.args.place.now known c.requires.0 c.requires.1 in
    let room : set_fits c.args.self.writes (set_add true c.args.hash (txn_in c.args.self c.args.place.now).writes) ≡ true = ap (λ (b : Bool). set_fits c.args.self.writes (set_add b c.args.hash (txn_in c.args.self c.args.place.now).writes)) (sym c.if-self.true) ∙ c.requires.6 in
    let H = inside in
    c.add_hash.ensures ∙ ap (λ (n : ℕ). over c.put_own.new.place n (hashes_stream.put (insert compare c.args.hash (set_of c.put_own.new.place n)))) c.writes_at.ensures
    ∙ put-added c.args.self c.args.place.now known c.requires.0 (omega arith) H c.args.key.now c.args.value.now c.requires.2 c.requires.3 c.requires.5 c.put_own.new.place c.put_own.ensures c.args.hash c.requires.4 room
    ∙ ap (λ (b : Bool). (place_of c.args.self).write (some (with_writes (insert cmp_pair (pair c.args.key.now c.args.value.now) (txn_in c.args.self c.args.place.now).own) (set_add b c.args.hash (txn_in c.args.self c.args.place.now).writes) (txn_in c.args.self c.args.place.now))) c.args.place.now) (sym c.if-self.true)

pub returns-else-self : goal.returns-else-self
returns-else-self c =
    let known : octets c.args.place.now ≡ true = octets-of c.args.place.now (λ i. omega (arith, c.slice_known-1.given i)) in
    let inside : Held c.args.self c.args.place.now = held c.args.self c.args.place.now known c.requires.0 c.requires.1 in
    let H = inside in
    put-kept c.args.self c.args.place.now known c.requires.0 (omega arith) H c.args.key.now c.args.value.now c.requires.2 c.requires.3 c.requires.5 c.put_own.new.place c.put_own.ensures c.args.hash c.requires.4
    ∙ ap (λ (b : Bool). (place_of c.args.self).write (some (with_writes (insert cmp_pair (pair c.args.key.now c.args.value.now) (txn_in c.args.self c.args.place.now).own) (set_add b c.args.hash (txn_in c.args.self c.args.place.now).writes) (txn_in c.args.self c.args.place.now))) c.args.place.now) (sym c.if-self.false)
