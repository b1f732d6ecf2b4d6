use Rattle.lsm.specs.Answers.{InAnswer}
use Rattle.reads.proofs.scan.Given as goal

abbrev pub invariant-loop : goal.invariant-loop
invariant-loop l = InAnswer l.s l.answer
