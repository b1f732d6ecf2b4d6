-- Each way out is one case of what is read off the front of the bytes.
use Rattle.std.proofs.lemmas.Bool.{eqb-false}
use Rattle.std.proofs.Common.{eqb-true}
use Rattle.mvcc.proofs.Commits.{head-cut}
use Rattle.mvcc.proofs.Reading.{told, split-long, split-odd, split-whole}
use Rattle.mvcc.proofs.split_entry.Goals as goal

pub returns-in_err-head : goal.returns-in_err-head
returns-in_err-head c = rw c.from_residual.ensures (head-cut c.args.history.now c.in_err-head.ensures.cases)

pub returns-in_err-hashes : goal.returns-in_err-hashes
returns-in_err-hashes c =
    let h = c.in_ok-head.ensures.cases in
    rw c.from_residual-in_err-hashes.ensures
    (split-long c.args.history.now c.in_ok-head.head.now c.in_ok-head.rest.now h.0 h.1 h.2 c.number-size.result c.number-size.ensures.value c.in_err-hashes.ensures.cases)

pub returns : goal.returns
returns c =
    let h = c.in_ok-head.ensures.cases in
    let n = c.in_ok-hashes.ensures.cases in
    rw c.then_some.ensures
    (told _ _ _ _
    (λ e. split-odd c.args.history.now c.in_ok-head.head.now c.in_ok-head.rest.now h.0 h.1 h.2 c.number-size.result c.number-size.ensures.value n.0 (eqb-false _ 0 e))
    (λ e. split-whole c.args.history.now c.in_ok-head.head.now c.in_ok-head.rest.now h.0 h.1 h.2 c.number-size.result c.number-size.ensures.value n.0 (eqb-true _ 0 e) c.number-number.result c.number-number.ensures.value c.in_ok-hashes.hashes.now c.in_ok-hashes.behind.now n.1 n.2))
