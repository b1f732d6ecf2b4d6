-- `answers::reading::scan` is safe: each answer's place lies in the bytes.
use Rattle.lsm.specs.Answers.{InAnswer}
use Rattle.answers.proofs.reading.scan.Given as goal

abbrev pub invariant-loop : goal.invariant-loop
invariant-loop l = InAnswer l.s l.answer
