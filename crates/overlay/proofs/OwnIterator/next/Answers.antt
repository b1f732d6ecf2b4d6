use Rattle.std.proofs.Common.{◌≡◌, ◌∷◌, length, sym, ap, rules}
use Rattle.layout.proofs.LayoutLaws.{pair-laws}
use Rattle.layout.proofs.Many.{rest-less}
use Rattle.overlay.specs.Overlay.{pairs_in}
use Rattle.overlay.specs.Entries.{written}
use Rattle.overlay.proofs.Pairs.{none-left, first-is}
use Rattle.overlay.proofs.OwnIterator.next.Goals as goal

pub returns-in_err-entry-clause-steps : goal.returns-in_err-entry-clause-steps
returns-in_err-entry-clause-steps c =
    let own = c.args.self.now in
    let n = none-left own.bytes.now own.octets own.whole (sym c.in_err-entry.ensures) in
    rw c.from_residual.ensures (n, n)

pub invariant_of-self : goal.invariant_of-self
invariant_of-self c =
    let own = c.args.self.now in
    let e = sym c.in_ok-entry.ensures in
    record {
      octets = (rest-less pair-laws own.bytes.now (written c.in_ok-entry.entry) c.in_ok-entry.bytes.now own.octets e).0;
      whole = (first-is own.bytes.now own.octets own.whole (written c.in_ok-entry.entry) c.in_ok-entry.bytes.now e).rest;
    }

pub returns-clause-steps : goal.returns-clause-steps
returns-clause-steps c =
    let own = c.args.self.now in
    (first-is own.bytes.now own.octets own.whole (written c.in_ok-entry.entry) c.in_ok-entry.bytes.now (sym c.in_ok-entry.ensures)).pairs

pub returns-clause-goes : goal.returns-clause-goes
returns-clause-goes c =
    let own = c.args.self.now in
    let e : pairs_in own.bytes.now ≡ written c.in_ok-entry.entry ∷ pairs_in c.in_ok-entry.bytes.now = (first-is own.bytes.now own.octets own.whole (written c.in_ok-entry.entry) c.in_ok-entry.bytes.now (sym c.in_ok-entry.ensures)).pairs in
    let shorter = ap length e in
    search rules
