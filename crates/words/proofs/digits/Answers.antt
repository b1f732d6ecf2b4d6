-- A byte at a time: one that is no digit, or a number that is too large, ends it.
use Rattle.std.proofs.Common.{sym, ◌∙◌, ap, arith}
use Prim.Native.Nat.{ℕ, ◌+◌}
use lib.ListN.{drop}
use Rattle.words.specs.Fields.{digits_from}
use Rattle.words.proofs.Handles.{digits-stop, digits-on, digits-many, digits-end}
use Rattle.words.proofs.digits.Goals as goal

pub returns-then-not-is_ascii_digit : goal.returns-then-not-is_ascii_digit
returns-then-not-is_ascii_digit c =
    sym (c.loop-b.invariant.sofar ∙ digits-stop c.loop-b.n c.args.s.now c.loop-b.b-index c.loop-b-test.true (sym c.is_ascii_digit.ensures.value ∙ c.if-not-is_ascii_digit.true))

pub returns-in_err-checked_mul : goal.returns-in_err-checked_mul
returns-in_err-checked_mul c =
    c.from_residual.ensures
    ∙ sym (c.loop-b.invariant.sofar ∙ digits-many c.loop-b.n c.args.s.now c.loop-b.b-index c.loop-b-test.true (sym c.is_ascii_digit.ensures.value ∙ c.if-not-is_ascii_digit.false) (omega (arith, c.in_err-checked_mul.ensures)))

pub returns-in_err-n : goal.returns-in_err-n
returns-in_err-n c =
    c.from_residual-in_err-n.ensures
    ∙ sym (c.loop-b.invariant.sofar ∙ digits-many c.loop-b.n c.args.s.now c.loop-b.b-index c.loop-b-test.true (sym c.is_ascii_digit.ensures.value ∙ c.if-not-is_ascii_digit.false) (omega (arith, c.in_err-n.ensures, c.in_ok-checked_mul.ensures)))

pub loop-b-preserved : goal.loop-b-preserved
loop-b-preserved c = record {
  sofar =
      c.loop-b.invariant.sofar ∙ digits-on c.loop-b.n c.args.s.now c.loop-b.b-index c.loop-b-test.true (sym c.is_ascii_digit.ensures.value ∙ c.if-not-is_ascii_digit.false)
      ∙ ap (λ (n : ℕ). digits_from n (drop (c.loop-b.b-index + 1) c.args.s.now)) (omega (arith, c.in_ok-n.ensures, c.in_ok-checked_mul.ensures));
  fits = omega (arith, c.in_ok-n.ensures);
}

pub returns : goal.returns
returns c = sym (c.loop-b.invariant.sofar ∙ digits-end c.loop-b.n c.args.s.now c.loop-b.b-index (omega arith) c.loop-b-test.false)
