-- What was shown, and the lines that are left, make up the whole output.
use Rattle.std.proofs.Common.{◌≡◌, length}
use Rattle.words.specs.Lines.{lines_in}
use Rattle.script.proofs.Running.{Running}
use Rattle.script.proofs.lines.Given as goal

abbrev pub invariant-loop-before : goal.invariant-loop-before
invariant-loop-before l = record {
  running : Running (lines_in l.input) l.initial.state l.initial.page l.before-iterator.count l.state l.page (lines_in l.before-iterator.iter.rest.now);
  state_kept : length l.state ≡ length l.initial.state;
}
