-- A line: its number, and behind it the answer of the call that its command is.
-- Assumes nothing.
use mathlib.Core.Path.{◌≡◌, sym, ap, ◌∙◌}
use mathlib.Core.List.{◌++◌}
use mathlib.Core.Option.{Option, some}
use Prim.Native.Nat.{ℕ}
use Rattle.paper.specs.Keys.{Bytes}
use Rattle.paper.specs.Calls.{Call}
use Rattle.paper.specs.Replay.{decimal_of, pieces, line_call, output_line}
use Rattle.words.specs.Commands.{call_is}
use Rattle.words.specs.declared.Command.{Command}
use Rattle.printing.specs.Shows.{Shows}
use Rattle.printing.specs.declared.Page.{Page}
use Rattle.printing.proofs.Showing.{shows_both, shows_as}
use Rattle.script.specs.OnLines.{on_call, on_line, behind_number}
use Rattle.script.specs.OnPages.{Answers, AnswersLine}

-- the command is the case d of its enum
pub some-call : {r d : Command} {c : Option Call} → r ≡ d → some (call_is r) ≡ c → some (call_is d) ≡ c
some-call e q = sym (ap (λ (x : Command). some (call_is x)) e) ∙ q

-- the command means the line's call
pub line-answer : (n : ℕ) (l b : Bytes) {c : Option Call} → c ≡ line_call (pieces 32 l) → {p q r : Page} → Shows p q (decimal_of n) → {a : Bytes} → Answers c b q a r → AnswersLine n l b p a r
unfolding on_line output_line behind_number
line-answer n l b {c} t s e =
    record {
      state = e.state ∙ ap (λ (d : Option Call). (on_call d b).1) t;
      page = shows_as (ap (λ (d : Option Call). decimal_of n ++ behind_number (on_call d b).0) t) (shows_both (decimal_of n) (behind_number (on_call c b).0) s e.page);
    }
