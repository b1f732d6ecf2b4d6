-- What a call and a line leave: the state's bytes, and a page with the answer behind what was shown.
-- Assumes nothing.
use Rattle.std.specs.Prelude.{ℕ, ◌≡◌}
use Rattle.std.proofs.Math.Option.{Option}
use Rattle.paper.specs.Keys.{Bytes}
use Rattle.paper.specs.Calls.{Call}
use Rattle.paper.specs.Replay.{output_line}
use Rattle.printing.specs.Shows.{Shows}
use Rattle.printing.specs.declared.Page.{Page}
use Rattle.script.specs.OnLines.{on_call, on_line, behind_number}

-- the call on the bytes b leaves the bytes a, and what stands behind the line number is shown on the page p, which has become q
pub record Answers (c : Option Call) (b : Bytes) (p : Page) (a : Bytes) (q : Page) : Type 0 where
  pub state : a ≡ (on_call c b).1
  pub page : Shows p q (behind_number (on_call c b).0)

-- the same of line n, which is l, with the whole line shown
pub record AnswersLine (n : ℕ) (l b : Bytes) (p : Page) (a : Bytes) (q : Page) : Type 0 where
  pub state : a ≡ (on_line l b).1
  pub page : Shows p q (output_line n (on_line l b).0)
