use native.Mathlib.Omega.{arith}
use mathlib.Core.Path.{sym, ap, ◌∙◌}
use lib.ListN.{length}
use Rattle.paper.specs.Keys.{Bytes}
use Rattle.key.specs.Stamps.{stamped}
use Rattle.run.proofs.Seeking.{seek-none, seek-at, seek-on}
use Rattle.run.proofs.seek.seek.Goals as goal

pub returns-then-not-is_before : goal.returns-then-not-is_before
returns-then-not-is_before c =
    seek-at c.args.s.now c.args.from c.args.end (stamped c.args.key.now c.args.stamp) c.requires.1 c.loop-place.place-iterator.at c.loop-place.invariant.so c.loop-place.place-iterator.records.now c.loop-place.invariant.same c.in-Some.place c.in-Some.ensures.steps.1.0 c.requires.0 (sym c.is_before.ensures ∙ c.if-not-is_before.true)

pub loop-place-preserved : goal.loop-place-preserved
loop-place-preserved c =
    record {
      same = ap (λ r. r.now) c.in-Some.ensures.steps.0 ∙ c.loop-place.invariant.same;
      so = seek-on c.args.s.now c.args.from c.args.end (stamped c.args.key.now c.args.stamp) c.requires.1 c.loop-place.place-iterator.at c.loop-place.invariant.so c.loop-place.place-iterator.records.now c.loop-place.invariant.same c.in-Some.place c.in-Some.ensures.steps.1.0 (sym c.is_before.ensures ∙ c.if-not-is_before.false) c.next.new.self.at c.in-Some.ensures.steps.1.1;
    }

pub returns : goal.returns
returns c =
    seek-none c.args.s.now c.args.from c.args.end (stamped c.args.key.now c.args.stamp) c.requires.1 c.loop-place.place-iterator.at c.requires.0 c.loop-place.invariant.so
    (omega (arith, c.in-None.ensures.steps.1, ap (λ (b : Bytes). length b) c.loop-place.invariant.same))
