-- A script on the bytes of a state: what each line answers, what it leaves, and what is shown of it in an out buffer.
-- Assumes nothing.
use Rattle.std.specs.Prelude.{ℕ, suc, List, [], ◌∷◌, ◌++◌}
use Rattle.std.proofs.Math.Option.{Option, none, some}
use Rattle.paper.specs.Keys.{Bytes}
use Rattle.paper.specs.Refusals.{not_understood}
use Rattle.paper.specs.Calls.{Reply, refused, Call, reply_number}
use Rattle.paper.specs.Replay.{pieces, line_call, decimal_of, fields_of, spaced, output_line}
use Rattle.layout.specs.Layout.{on_bytes}

-- 'script line not understood (program only; the next line is still read)': 13, and nothing is written
unfoldable pub on_call : Option Call → Bytes → Reply × Bytes
on_call none b = (refused not_understood, b)
on_call (some c) b = on_bytes c b

-- a line on a state's bytes: the reply, and the bytes after it
unfoldable pub on_line : Bytes → Bytes → Reply × Bytes
on_line l b = on_call (line_call (pieces 32 l)) b

-- the output from line n on
unfoldable pub lines_on : ℕ → Bytes → List Bytes → Bytes
lines_on n b [] = []
lines_on n b (l ∷ ls) = let further = lines_on (suc n) (on_line l b).1 ls in output_line n (on_line l b).0 ++ further

-- ---- what is shown
-- what stands behind the line number: 'return number, then only on 0: ..'
unfoldable pub behind_number : Reply → Bytes
behind_number r = spaced (decimal_of (reply_number r) ∷ fields_of r)
