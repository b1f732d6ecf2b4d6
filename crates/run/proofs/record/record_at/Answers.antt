use native.Mathlib.Omega.{arith}
use lib.ListN.{length}
use Rattle.run.proofs.Recording.{cut_short, cut-key, cut-value, within, value_there}
use Rattle.run.proofs.record.record_at.Goals as goal

pub returns-in_err-rest : goal.returns-in_err-rest
returns-in_err-rest c = rw c.from_residual.ensures (cut_short c.args.s.now c.args.at (length c.args.s.now) (omega arith) (omega (arith, c.in_err-rest.ensures)))

pub returns-in_err-rest-2 : goal.returns-in_err-rest-2
returns-in_err-rest-2 c =
    rw c.from_residual-in_err-rest-2.ensures
    (cut-key c.args.s.now c.args.at (length c.args.s.now) (omega arith) (omega (arith, c.in_ok-rest.ensures)) (omega (arith, c.in_ok-rest.ensures, c.in_err-rest-2.ensures, c.length_at-n.ensures.0)))

pub returns-then-rest-m : goal.returns-then-rest-m
returns-then-rest-m c =
    let w = value_there c.args.s.now c.args.at _ _ c.length_at-n.ensures.0 c.length_at-m.ensures.0 in
    cut-value c.args.s.now c.args.at (length c.args.s.now) (omega arith) (omega (arith, c.in_ok-rest.ensures, c.in_ok-rest-2.ensures)) (omega (arith, c.in_ok-rest.ensures, c.in_ok-rest-2.ensures))

pub returns : goal.returns
returns c =
    within c.args.s.now c.args.at (length c.args.s.now) (omega arith) _ _ _ c.length_at-n.ensures.0 c.number-time.ensures.value c.length_at-m.ensures.0 (omega (arith, c.in_ok-rest.ensures, c.in_ok-rest-2.ensures))
