-- The line number, and behind it the answer, by the cases of the command.
use Rattle.script.proofs.Answers.{answer-none}
use Rattle.script.proofs.Dispatch.{some-call, line-answer}
use Rattle.script.proofs.line.Goals as goal

pub returns-in_default : goal.returns-in_default
returns-in_default c =
    line-answer c.args.number c.args.line.now c.args.state.now c.in_default.ensures.0 c.decimal.ensures (answer-none c.args.state.now c.only.ensures)

pub returns-in-Begin : goal.returns-in-Begin
returns-in-Begin c =
    line-answer c.args.number c.args.line.now c.args.state.now (some-call c.in-Begin.is c.in-Some.ensures.0) c.decimal.ensures c.begin.ensures

pub returns-in-Get : goal.returns-in-Get
returns-in-Get c =
    line-answer c.args.number c.args.line.now c.args.state.now (some-call c.in-Get.is c.in-Some.ensures.0) c.decimal.ensures c.get.ensures

pub returns-in-Put : goal.returns-in-Put
returns-in-Put c =
    line-answer c.args.number c.args.line.now c.args.state.now (some-call c.in-Put.is c.in-Some.ensures.0) c.decimal.ensures c.put.ensures

pub returns-in-Delete : goal.returns-in-Delete
returns-in-Delete c =
    line-answer c.args.number c.args.line.now c.args.state.now (some-call c.in-Delete.is c.in-Some.ensures.0) c.decimal.ensures c.delete.ensures

pub returns-in-First : goal.returns-in-First
returns-in-First c =
    line-answer c.args.number c.args.line.now c.args.state.now (some-call c.in-First.is c.in-Some.ensures.0) c.decimal.ensures c.scan.ensures

pub returns-in-Above : goal.returns-in-Above
returns-in-Above c =
    line-answer c.args.number c.args.line.now c.args.state.now (some-call c.in-Above.is c.in-Some.ensures.0) c.decimal.ensures c.scan-in-Above.ensures

pub returns-in-Commit : goal.returns-in-Commit
returns-in-Commit c =
    line-answer c.args.number c.args.line.now c.args.state.now (some-call c.in-Commit.is c.in-Some.ensures.0) c.decimal.ensures c.commit.ensures

pub returns-in-End : goal.returns-in-End
returns-in-End c =
    line-answer c.args.number c.args.line.now c.args.state.now (some-call c.in-End.is c.in-Some.ensures.0) c.decimal.ensures c.end.ensures

pub returns-in-Freeze : goal.returns-in-Freeze
returns-in-Freeze c =
    line-answer c.args.number c.args.line.now c.args.state.now (some-call c.in-Freeze.is c.in-Some.ensures.0) c.decimal.ensures c.freeze.ensures
