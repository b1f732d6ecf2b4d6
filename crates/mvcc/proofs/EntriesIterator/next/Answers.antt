-- What is left of a history is its first entry, and what is left behind it.
use Rattle.std.proofs.Common.{length, ap, arith}
use Rattle.mvcc.specs.Histories.{commit_of}
use Rattle.mvcc.proofs.Reading.{in-end, in-on, still-reads}
use Rattle.mvcc.proofs.EntriesIterator.next.Goals as goal

pub returns-in_err-entry-clause-steps : goal.returns-in_err-entry-clause-steps
returns-in_err-entry-clause-steps c =
    let e = in-end c.args.self.now.rest.now c.args.self.now.whole c.in_err-entry.ensures in
    rw c.from_residual.ensures (e, e)

pub invariant_of-self : goal.invariant_of-self
invariant_of-self c =
    record { whole = still-reads c.args.self.now.rest.now (commit_of c.in_ok-entry.entry) c.in_ok-entry.behind.now c.args.self.now.whole c.in_ok-entry.ensures }

pub returns-clause-steps : goal.returns-clause-steps
returns-clause-steps c =
    in-on c.args.self.now.rest.now (commit_of c.in_ok-entry.entry) c.in_ok-entry.behind.now c.args.self.now.whole c.in_ok-entry.ensures

pub returns-clause-goes : goal.returns-clause-goes
returns-clause-goes c =
    let e = ap length (in-on c.args.self.now.rest.now (commit_of c.in_ok-entry.entry) c.in_ok-entry.behind.now c.args.self.now.whole c.in_ok-entry.ensures) in
    grind (arith, e)
