use Rattle.std.proofs.Common.{length, sym, ◌∙◌, arith, eqb-true}
use Rattle.std.proofs.lemmas.Bool.{eqb-false}
use Rattle.mvcc.specs.Histories.{commit_of}
use Rattle.mvcc.proofs.Reading.{front}
use Rattle.mvcc.proofs.Checking.{check-start, check-end, check_cut, check-wrong, check-on}
use Rattle.mvcc.proofs.history_check.Goals as goal

pub loop-rest-init : goal.loop-rest-init
loop-rest-init c = check-start c.args.history.now c.args.clock c.args.entries c.args.hashes

pub returns-in_default : goal.returns-in_default
returns-in_default c =
    check_cut c.args.history.now c.args.clock c.args.entries c.args.hashes c.loop-rest.rest.now c.loop-rest.left c.loop-rest.invariant
    (eqb-false (length c.loop-rest.rest.now) 0 (sym c.is_empty.ensures ∙ c.loop-rest-test.true)) c.in_default.ensures

pub returns-in_default-after : goal.returns-in_default-after
returns-in_default-after c =
    check-wrong c.args.history.now c.args.clock c.args.entries c.args.hashes c.loop-rest.rest.now c.loop-rest.left c.loop-rest.invariant
    (commit_of c.in-Some.entry) c.in-Some.behind.now c.in-Some.ensures c.in_default-after.ensures

pub loop-rest-smaller : goal.loop-rest-smaller
loop-rest-smaller c =
    omega (arith, (front c.loop-rest.rest.now (commit_of c.in-Some.entry) c.in-Some.behind.now c.in-Some.ensures).long)

pub loop-rest-preserved : goal.loop-rest-preserved
loop-rest-preserved c =
    check-on c.args.history.now c.args.clock c.args.entries c.args.hashes c.loop-rest.rest.now c.loop-rest.left c.loop-rest.invariant
    (commit_of c.in-Some.entry) c.in-Some.behind.now c.in-Some.ensures c.in-Some-after.after c.in-Some-after.ensures

pub returns : goal.returns
returns c =
    check-end c.args.history.now c.args.clock c.args.entries c.args.hashes c.loop-rest.rest.now c.loop-rest.left c.loop-rest.invariant
    (eqb-true (length c.loop-rest.rest.now) 0 (sym c.is_empty.ensures ∙ c.loop-rest-test.false))
