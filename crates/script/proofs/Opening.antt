-- An opening without runs over a buffer that is long enough leaves the empty store in it.
-- Assumes nothing.
use mathlib.Core.Path.{◌≡◌, refl, ap, ◌∙◌}
use mathlib.Core.List.{[]}
use Prim.Native.Nat.{◌≤◌}
use lib.ListN.{length}
use borrow.Author.Tests.{le-leb}
use Rattle.paper.specs.Lists.{all, total}
use Rattle.paper.specs.Keys.{Bytes, octets}
use Rattle.paper.specs.Refusals.{Try, go, must, ◌>>=◌, ◌>>◌, no_room, state_buffer}
use Rattle.paper.specs.Settings.{ranges, in_ranges, state_length}
use Rattle.paper.specs.Calls.{done, Outcome, Call, opening, tried, called, settle, opened, open_store, open_runs, images_in, try_open, outcome}
use Rattle.paper.specs.Replay.{replay_settings}
use Rattle.layout.specs.Layout.{store_in}
use Rattle.layout.proofs.CallBytes.{on_bytes-store, lent-opening}
use Rattle.reply.specs.Told.{Told}
use Rattle.reply.specs.OnBytes.{told_on}
use Rattle.reply.proofs.Reading.{bytes_left}

module _ (b : Bytes) (h : state_length replay_settings ≤ length b) where
  opens : tried (store_in b) (opening replay_settings [] [] (length b)) ≡ outcome done (opened replay_settings [])
  unfolding tried try_open open_store images_in open_runs in_ranges ranges all total replay_settings must ◌>>=◌ ◌>>◌
  opens = ap (λ t. (must t (no_room state_buffer) >> go (opened replay_settings [])) >>= λ s. outcome done s) (le-leb (state_length replay_settings) (length b) h)

  -- t is what the opening's reply tells, and a what it leaves
  pub opened_in : (t : Told) (a : Bytes) → ◌≡◌ {A = Told × Bytes} (t, a) (told_on (opening replay_settings [] [] (length b)) b)
      → store_in a ≡ opened replay_settings []
  unfolding called settle octets all
  opened_in t a e =
      let c : Call = opening replay_settings [] [] (length b) in
      ap store_in (bytes_left c b a t e)
      ∙ on_bytes-store b c (lent-opening b replay_settings [] [] refl)
      ∙ ap (λ (m : Try Outcome). (settle (store_in b) m).store) opens
