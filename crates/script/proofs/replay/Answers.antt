-- An input that is too long, and one whose lines are read.
use Rattle.std.proofs.Common.{rules}
use Prim.Native.Nat.{ℕ}
use lib.ListN.{replicate, length-replicate}
use Rattle.printing.proofs.Showing.{shows_as}
use Rattle.script.proofs.Whole.{long-enough, too_long, run-whole}
use Rattle.script.proofs.replay.Goals as goal

pub returns-then-input-gt32768 : goal.returns-then-input-gt32768
returns-then-input-gt32768 c =
    let s = shows_as (too_long c.args.input.now c.if-input-gt32768.true) c.text.ensures in
    search rules

pub open-requires : goal.open-requires
open-requires c = long-enough (replicate 54776 0) (length-replicate {A = ℕ} 54776 0)

pub returns : goal.returns
returns c =
    let s = shows_as (run-whole c.args.input.now c.open.new.state c.if-input-gt32768.false c.open.ensures) c.lines.ensures in
    search rules
