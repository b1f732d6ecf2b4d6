-- Each test is one of the paper's.
use native.Mathlib.Omega.{arith}
use Rattle.seat.proofs.Lengths.{key-empty, lengths-bad, lengths-good}
use Rattle.seat.proofs.check_lengths.Goals as goal

pub returns-then-is_empty : goal.returns-then-is_empty
returns-then-is_empty c = key-empty c.args.key.now c.args.value.now (grind arith)

pub returns-then-max-gt-LONGEST : goal.returns-then-max-gt-LONGEST
returns-then-max-gt-LONGEST c = lengths-bad c.args.key.now c.args.value.now (λ e. grind arith) (omega arith)

pub returns : goal.returns
returns c = lengths-good c.args.key.now c.args.value.now (λ e. grind arith) (omega arith)
