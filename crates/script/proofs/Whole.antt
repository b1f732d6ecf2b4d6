-- The whole run: an input that is too long, and one whose lines are read over the empty store.
-- Assumes nothing.
use native.Mathlib.Omega.{arith}
use mathlib.Core.Path.{◌≡◌, sym, ap, ◌∙◌}
use mathlib.Core.Bool.{Bool, cond}
use mathlib.Core.List.{[], ◌∷◌}
use Prim.Native.Nat.{◌≤◌, ◌<◌}
use lib.ListN.{length}
use borrow.Author.Tests.{le-leb, lt-leb}
use Rattle.paper.specs.Keys.{Bytes}
use Rattle.paper.specs.Refusals.{not_understood, refusal_number}
use Rattle.paper.specs.Settings.{state_length}
use Rattle.paper.specs.Store.{Store}
use Rattle.paper.specs.Calls.{refused, opened, reply_number}
use Rattle.paper.specs.Replay.{pieces, lines_of, decimal, fields_of, spaced, output_line, replay_lines, replay_settings, replayed}
use Rattle.layout.specs.Layout.{store_in}
use Rattle.script.specs.OnLines.{lines_on}
use Rattle.script.proofs.OnStore.{lines-on}

-- the state is as long as the settings ask for
pub long-enough : (b : Bytes) → length b ≡ 54_776 → state_length replay_settings ≤ length b
unfolding state_length replay_settings
long-enough b e = omega arith

module _ (input : Bytes) where
  pub too_long : 32_768 < length input → 48 ∷ 32 ∷ 49 ∷ 51 ∷ 10 ∷ [] ≡ replayed input
  unfolding replayed output_line decimal spaced reply_number refusal_number fields_of
  too_long h =
      sym (ap (λ (t : Bool). cond t (replay_lines 1 (opened replay_settings []) (lines_of (pieces 10 input))) (output_line 0 (refused not_understood))) (lt-leb (length input) 32_768 h))

  pub run-whole : (b : Bytes) → length input ≤ 32_768 → store_in b ≡ opened replay_settings [] → lines_on 1 b (lines_of (pieces 10 input)) ≡ replayed input
  unfolding replayed
  run-whole b h e =
      lines-on 1 b (lines_of (pieces 10 input))
      ∙ ap (λ (s : Store). replay_lines 1 s (lines_of (pieces 10 input))) e
      ∙ sym (ap (λ (t : Bool). cond t (replay_lines 1 (opened replay_settings []) (lines_of (pieces 10 input))) (output_line 0 (refused not_understood))) (le-leb (length input) 32_768 h))
