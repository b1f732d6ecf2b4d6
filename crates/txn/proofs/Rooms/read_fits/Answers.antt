use native.Mathlib.Omega.{arith}
use lib.ListN.{length}
use Prim.Native.Nat.{ℕ, ◌≤◌}
use mathlib.Core.List.{List}
use mathlib.Core.Bool.{true}
use mathlib.Core.Path.{◌≡◌, sym, ap, ◌∙◌, subst}
use Rattle.txn.specs.Place.{set_of, set_held}
use Rattle.raw.proofs.Octets.{octets-of}
use Rattle.paper.specs.Room.{set_fits}
use Rattle.paper.specs.Store.{set_add}
use Rattle.txn.proofs.Holding.{held, reads-there, reads_held}
use Rattle.txn.proofs.Rooms.read_fits.Goals as goal

pub set_fits-requires : goal.set_fits-requires
set_fits-requires c =
    let H = held c.args.self c.args.place.now (octets-of c.args.place.now (λ i. omega (arith, c.type_inv.place i))) c.requires.0 c.requires.1 in
    let s = reads-there c.args.self c.args.place.now c.requires.0 H in
    let m = sym c.reads_at.ensures in
    (omega (arith, c.reads_at.ensures), subst (λ (n : ℕ). set_held c.args.place.now n ≡ true) m (reads_held c.args.self c.args.place.now c.requires.0 H), subst (λ (n : ℕ). length (set_of c.args.place.now n) ≤ c.args.self.reads) m (omega (arith, ap length s.set, s.count)))

pub returns : goal.returns
returns c =
    let H = held c.args.self c.args.place.now (octets-of c.args.place.now (λ i. omega (arith, c.type_inv.place i))) c.requires.0 c.requires.1 in
    c.set_fits.ensures ∙ ap (λ (n : ℕ). set_fits c.args.self.reads (set_add c.args.self.serializable c.args.hash (set_of c.args.place.now n))) c.reads_at.ensures
    ∙ ap (λ (t : List ℕ). set_fits c.args.self.reads (set_add c.args.self.serializable c.args.hash t)) (reads-there c.args.self c.args.place.now c.requires.0 H).set
