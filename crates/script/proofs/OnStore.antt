-- The lines of a script on the bytes of a state answer as the paper's do on the store in them.
-- Assumes nothing.
use mathlib.Core.Path.{◌≡◌, refl, ap, ap₂, ◌∙◌}
use mathlib.Core.List.{List, [], ◌∷◌, ◌++◌}
use mathlib.Core.Option.{Option, none, some}
use Prim.Native.Nat.{ℕ, suc}
use Rattle.paper.specs.Keys.{Bytes}
use Rattle.paper.specs.Store.{Store}
use Rattle.paper.specs.Calls.{Call}
use Rattle.paper.specs.Replay.{pieces, line_call, output_line, line_outcome, replay_lines}
use Rattle.layout.specs.Layout.{store_in}
use Rattle.layout.proofs.CallBytes.{on_bytes-reply, on_bytes-store, lent_other}
use Rattle.script.specs.OnLines.{on_call, on_line, lines_on}
use Rattle.script.proofs.Lendable.{Lendable, line-lendable}

-- the reply is the paper's
call-reply : (c : Option Call) (b : Bytes) → (on_call c b).0 ≡ (line_outcome (store_in b) c).reply
unfolding on_call
call-reply none b = refl
call-reply (some c) b = on_bytes-reply b c

-- and so is the store in the bytes after the call
call-store : (c : Option Call) (b : Bytes) → Lendable c → store_in (on_call c b).1 ≡ (line_outcome (store_in b) c).store
unfolding on_call
call-store none b f = refl
call-store (some c) b f = on_bytes-store b c (lent_other b c f.0 f.1)

pub lines-on : (n : ℕ) (b : Bytes) (ls : List Bytes) → lines_on n b ls ≡ replay_lines n (store_in b) ls
unfolding lines_on replay_lines on_line
lines-on n b [] = refl
lines-on n b (l ∷ ls) =
    let c : Option Call = line_call (pieces 32 l) in
    ap₂ (λ (x y : Bytes). x ++ y) (ap (output_line n) (call-reply c b))
    (lines-on (suc n) (on_call c b).1 ls ∙ ap (λ (s : Store). replay_lines (suc n) s ls) (call-store c b (line-lendable (pieces 32 l))))
