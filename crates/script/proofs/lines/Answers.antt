-- Line by line, each with its number.
use Rattle.std.proofs.Common.{◌≡◌, ◌+◌, inl, refl, length, ap, arith}
use Rattle.words.specs.Lines.{lines_in}
use Rattle.words.proofs.ByLine.{lines-count}
use Rattle.script.proofs.Running.{start, step, finish}
use Rattle.script.proofs.lines.Goals as goal

pub loop-before-init-derived : goal.loop-before-init-derived
loop-before-init-derived c =
    let count : c.into_iter-before-iterator.result.count ≡ 0 = cc in
    let left : c.into_iter-before-iterator.result.iter.rest.now ≡ c.args.input.now = cc in
    ((tt, tt, inl (omega (arith, ap (λ s. length (lines_in s)) left, lines-count c.args.input.now))), tt)

pub loop-before-init : goal.loop-before-init
loop-before-init c =
    let count : c.into_iter-before-iterator.result.count ≡ 0 = cc in
    let left : c.into_iter-before-iterator.result.iter.rest.now ≡ c.args.input.now = cc in
    record { running = rw (count, left) (start (lines_in c.args.input.now) c.args.state.now c.args.page.now); state_kept = refl }

pub loop-before-preserved : goal.loop-before-preserved
loop-before-preserved c =
    let number : c.in-Some.before ≡ c.loop-before.before-iterator.count = c.in-Some.ensures.steps.1 in
    let counted : c.next.new.self.count ≡ c.loop-before.before-iterator.count + 1 = c.in-Some.ensures.steps.2 in
    record {
      running = rw counted (step (lines_in c.args.input.now) c.args.state.now c.args.page.now c.loop-before.invariant.running c.in-Some.text.now (lines_in c.next.new.self.iter.rest.now) c.in-Some.ensures.steps.0 (rw number at c.line.ensures));
      state_kept = omega (arith, c.loop-before.invariant.state_kept);
    }

pub returns : goal.returns
unfolding lines_in
returns c = finish (lines_in c.args.input.now) c.args.state.now c.args.page.now c.loop-before.invariant.running c.in-None.ensures.steps.0.0
