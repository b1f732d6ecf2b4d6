-- By the number of bytes, and the first.
use Rattle.std.proofs.Common.{◌∙◌, arith}
use Rattle.std.proofs.lemmas.Bool.Decides.{nat_tests}
use Rattle.words.proofs.Handles.{empty-no-handle, led, not-led, handle-led, handle-not-led}
use Rattle.words.proofs.handle_in.Goals.{then-is_empty-via-then-is_empty, then-is_empty-via-else-is_empty+then-s-eq48, then-s-gt1, else-s-gt1}
use Rattle.words.proofs.handle_in.Goals as goal

pub returns-then-is_empty : goal.returns-then-is_empty
returns-then-is_empty c = grind (arith, nat_tests, empty-no-handle, not-led, handle-not-led)

pub returns : goal.returns
returns c = c.digits.ensures ∙ handle-led c.args.s.now (led c.args.s.now (grind (arith, nat_tests)) (λ h e. grind (arith, nat_tests)))
