use native.Mathlib.Omega.{arith}
use lib.ListN.{length}
use Prim.Native.Nat.{ℕ, ◌+◌, ◌*◌, ◌≤◌, compare}
use mathlib.Core.Option.{some}
use mathlib.Core.Bool.{Bool, true}
use mathlib.Core.Path.{◌≡◌, sym, ap, ◌∙◌, subst}
use Rattle.txn.specs.Place.{place_of, txn_in, set_of, set_held}
use Rattle.raw.proofs.Octets.{octets-of}
use Rattle.raw.specs.Bytes.{over}
use Rattle.paper.specs.Room.{set_fits}
use Rattle.paper.specs.Store.{set_add, with_reads}
use Rattle.paper.specs.Lists.{insert}
use Rattle.paper.specs.Keys.{octets}
use Rattle.layout.specs.Layout.{hashes_stream}
use Rattle.txn.proofs.Changing.{read-added, read_kept, read-room}
use Rattle.txn.proofs.Holding.{Held, held, reads_held}
use Rattle.txn.proofs.Rooms.add_read.Goals as goal

pub add_hash-requires : goal.add_hash-requires
add_hash-requires c =
    let known : octets c.args.place.now ≡ true = octets-of c.args.place.now (λ i. omega (arith, c.slice_known-1.given i)) in
    let inside : Held c.args.self c.args.place.now = held c.args.self c.args.place.now known c.requires.0 c.requires.1 in
    let room : set_fits c.args.self.reads (set_add true c.args.hash (txn_in c.args.self c.args.place.now).reads) ≡ true = ap (λ (b : Bool). set_fits c.args.self.reads (set_add b c.args.hash (txn_in c.args.self c.args.place.now).reads)) (sym c.if-self.true) ∙ c.requires.3 in
    let H = inside in
    let m = sym c.reads_at.ensures in
    (omega (arith, c.reads_at.ensures), subst (λ (n : ℕ). set_held c.args.place.now n ≡ true) m (reads_held c.args.self c.args.place.now c.requires.0 H), subst (λ (n : ℕ). n + 8 + 4 * length (insert compare c.args.hash (set_of c.args.place.now n)) ≤ length c.args.place.now) m (read-room c.args.self c.args.place.now known c.requires.0 (omega arith) H c.args.hash c.requires.2 room))

pub returns-then-self : goal.returns-then-self
returns-then-self c =
    let known : octets c.args.place.now ≡ true = octets-of c.args.place.now (λ i. omega (arith, c.slice_known-1.given i)) in
    let inside : Held c.args.self c.args.place.now = held c.args.self c.args.place.now known c.requires.0 c.requires.1 in
    let room : set_fits c.args.self.reads (set_add true c.args.hash (txn_in c.args.self c.args.place.now).reads) ≡ true = ap (λ (b : Bool). set_fits c.args.self.reads (set_add b c.args.hash (txn_in c.args.self c.args.place.now).reads)) (sym c.if-self.true) ∙ c.requires.3 in
    let H = inside in
    c.add_hash.ensures ∙ ap (λ (n : ℕ). over c.args.place.now n (hashes_stream.put (insert compare c.args.hash (set_of c.args.place.now n)))) c.reads_at.ensures
    ∙ read-added c.args.self c.args.place.now known c.requires.0 (omega arith) H c.args.hash c.requires.2 room
    ∙ ap (λ (b : Bool). (place_of c.args.self).write (some (with_reads (set_add b c.args.hash (txn_in c.args.self c.args.place.now).reads) (txn_in c.args.self c.args.place.now))) c.args.place.now) (sym c.if-self.true)

pub returns-else-self : goal.returns-else-self
returns-else-self c =
    let known : octets c.args.place.now ≡ true = octets-of c.args.place.now (λ i. omega (arith, c.type_inv.place i)) in
    let inside : Held c.args.self c.args.place.now = held c.args.self c.args.place.now known c.requires.0 c.requires.1 in
    read_kept c.args.self c.args.place.now known c.requires.0 (omega arith) inside c.args.hash c.requires.2
    ∙ ap (λ (b : Bool). (place_of c.args.self).write (some (with_reads (set_add b c.args.hash (txn_in c.args.self c.args.place.now).reads) (txn_in c.args.self c.args.place.now))) c.args.place.now) (sym c.if-self.false)
