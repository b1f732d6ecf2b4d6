use Rattle.std.proofs.Common.{sym, ap, ◌∙◌, arith}
use Rattle.std.proofs.lemmas.Grind.{common_steps}
use Rattle.raw.proofs.Octets.{octets-of}
use Prim.Native.Nat.{compare}
use Rattle.paper.specs.Lists.{rises}
use Rattle.txn.specs.Place.{writes_at, used_at, set_of, set_held}
use Rattle.txn.proofs.Holding.{set-parts}
use Rattle.txn.proofs.Judging.{place_verdict, match-ready}
use Rattle.txn.proofs.Rooms.place_check.Goals as goal

pub own-requires : goal.own-requires
own-requires c =
    let m = match-ready c.args.self c.args.self.serializable c.args.counter c.args.clock c.args.place.now (octets-of c.args.place.now (λ i. omega (arith, c.type_inv.place i))) c.requires.0 c.number-handle.result c.number-handle.ensures.value (sym c.if-parts_check.ensures) in
    (m.0, m.1)

pub set-requires : goal.set-requires
set-requires c =
    let m = match-ready c.args.self c.args.self.serializable c.args.counter c.args.clock c.args.place.now (octets-of c.args.place.now (λ i. omega (arith, c.type_inv.place i))) c.requires.0 c.number-handle.result c.number-handle.ensures.value (sym c.if-parts_check.ensures) in
    (omega (arith, m.2, c.writes_at.ensures), ap (set_held c.args.place.now) c.writes_at.ensures ∙ m.3)

pub writes_match-requires : goal.writes_match-requires
writes_match-requires c =
    let m = match-ready c.args.self c.args.self.serializable c.args.counter c.args.clock c.args.place.now (octets-of c.args.place.now (λ i. omega (arith, c.type_inv.place i))) c.requires.0 c.number-handle.result c.number-handle.ensures.value (sym c.if-parts_check.ensures) in
    let u = ap (used_at c.args.place.now) c.writes_at.ensures in
    (ap (rises compare) (c.set.ensures.0 ∙ ap (set_of c.args.place.now) c.writes_at.ensures) ∙ (set-parts c.args.place.now (writes_at c.args.self) m.3).1, omega (arith, c.set.ensures.1, u, m.4, c.requires.1))

pub returns-then-handle-eq0 : goal.returns-then-handle-eq0
returns-then-handle-eq0 c =
    rw (place_verdict c.args.self c.args.self.serializable c.args.counter c.args.clock c.args.place.now (octets-of c.args.place.now (λ i. omega (arith, c.type_inv.place i))) c.requires.0) (grind (arith, common_steps))

pub returns-then-number-eq0 : goal.returns-then-number-eq0
returns-then-number-eq0 c =
    rw (place_verdict c.args.self c.args.self.serializable c.args.counter c.args.clock c.args.place.now (octets-of c.args.place.now (λ i. omega (arith, c.type_inv.place i))) c.requires.0) (grind (arith, common_steps))

pub returns-else-number-eq0 : goal.returns-else-number-eq0
returns-else-number-eq0 c =
    rw (place_verdict c.args.self c.args.self.serializable c.args.counter c.args.clock c.args.place.now (octets-of c.args.place.now (λ i. omega (arith, c.type_inv.place i))) c.requires.0) (grind (arith, common_steps))

pub returns-else-parts_check : goal.returns-else-parts_check
returns-else-parts_check c =
    rw (place_verdict c.args.self c.args.self.serializable c.args.counter c.args.clock c.args.place.now (octets-of c.args.place.now (λ i. omega (arith, c.type_inv.place i))) c.requires.0) (grind (arith, common_steps))
