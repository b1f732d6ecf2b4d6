use native.Mathlib.Omega.{arith}
use mathlib.Core.Path.{sym, ap, ◌∙◌, subst}
use lib.ListN.{length}
use Rattle.paper.specs.Keys.{Bytes}
use Rattle.run.proofs.Tallying.{Tallied, tally-start, tally-done, placed-fits, placed-next}
use Rattle.run.proofs.tally.Tally.of.Goals as goal

pub loop-place-init : goal.loop-place-init
loop-place-init c =
    let a = c.into_iter-place-iterator.ensures.into_iter_gives in
    record {
      same = ap (λ r. r.records.now) a ∙ ap (λ r. r.now) c.new-place-items.ensures.0;
      so = subst (Tallied c.args.records.now c.none-tally.result) (sym (ap (λ r. r.at) a ∙ c.new-place-items.ensures.1)) (tally-start c.args.records.now c.none-tally.result c.requires c.none-tally.ensures);
    }

pub with_record-tally-requires : goal.with_record-tally-requires
with_record-tally-requires c =
    omega (arith, placed-fits c.args.records.now c.loop-place.tally c.loop-place.place-iterator.at c.loop-place.invariant.so c.loop-place.place-iterator.records.now c.loop-place.invariant.same c.in-Some.place c.in-Some.ensures.steps.1.0)

pub loop-place-preserved : goal.loop-place-preserved
loop-place-preserved c =
    record {
      same = ap (λ r. r.now) c.in-Some.ensures.steps.0 ∙ c.loop-place.invariant.same;
      so = placed-next c.args.records.now c.loop-place.tally c.loop-place.place-iterator.at c.loop-place.invariant.so c.loop-place.place-iterator.records.now c.loop-place.invariant.same c.in-Some.place c.in-Some.ensures.steps.1.0 c.with_record-tally.result c.with_record-tally.ensures c.next.new.self.at c.in-Some.ensures.steps.1.1;
    }

pub returns : goal.returns
returns c =
    tally-done c.args.records.now c.loop-place.tally c.loop-place.place-iterator.at c.loop-place.invariant.so
    (omega (arith, c.in-None.ensures.steps.1, ap (λ (b : Bytes). length b) c.loop-place.invariant.same))
