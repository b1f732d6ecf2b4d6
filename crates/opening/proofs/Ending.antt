-- How an opening ends: each return of its code, in the order of the checks.
-- Assumes nothing.
use Rattle.std.specs.Prelude.{Result, Ok, Err, MatchResult}
use Rattle.std.specs.Result.{IsErrAnd}
use Prim.Native.Nat.{ℕ, ◌≤◌, ◌<◌}
use mathlib.Core.Path.{◌≡◌, sym, ap, ◌∙◌}
use mathlib.Core.Bool.{true, false}
use mathlib.Core.List.{List}
use lib.ListN.{length}
use borrow.Author.Tests.{le-leb, lt-leb}
use Rattle.paper.specs.Keys.{Bytes}
use Rattle.paper.specs.Settings.{Settings, in_ranges, state_length}
use Rattle.paper.specs.Refusals.{Refusal, bad_setting, no_room, run_area, state_buffer, stop, go, must, ◌>>◌, ◌>>=◌}
use Rattle.paper.specs.Room.{images_fit}
use Rattle.paper.specs.Calls.{Call, opening, done, opened, open_runs, open_store, images_in, try_open, tried}
use Rattle.layout.specs.Layout.{write_store}
use Rattle.reply.specs.declared.Refusal.{Refusal as Given}
use Rattle.reply.specs.Told.{Told, nothing, why, told, refusal_of, try_of}
use Rattle.reply.specs.OnBytes.{told_on}
use Rattle.reply.proofs.Ends.{refused-told, done-told}
use Rattle.area.specs.declared.opening.BadRun.{BadRun}
use Rattle.area.specs.Opening.{refused_for, open_answer, clock_of, runs_in}
use Rattle.area.proofs.OpeningLaws.{opened-good, opened-bad}
use Rattle.opening.specs.Opening.{Passed}
use Rattle.opening.proofs.Writing.{passed-opens}

-- the check of the runs, its error told as a refusal
pub checked : (r : Result ℕ BadRun) (m : Result ℕ Given) → MatchResult r (λ x. m ≡ Ok x) (λ e. IsErrAnd m (λ w. refusal_of w ≡ refused_for e.place e.why)) → try_of m ≡ open_answer r
checked (Ok x) m h = ap try_of h
checked (Err e) (Ok y) h = absurd h
checked (Err e) (Err w) h = ap stop h

module _ (st : Settings) (images : Bytes) (lengths : List ℕ) (b : Bytes) where
  abbrev call : Call
  call = opening st images lengths (length b)

  -- refused: 'refusals write nothing to any lent buffer'
  refused_as : (r : Refusal) → open_store st (images_in images lengths) (length b) ≡ stop r → ◌≡◌ {A = Told × Bytes} (why r, b) (told_on call b)
  unfolding tried try_open ◌>>=◌
  refused_as r e = sym (refused-told call b r (simp e))

  -- 12
  pub ends-setting : in_ranges st ≡ false → ◌≡◌ {A = Told × Bytes} (why bad_setting, b) (told_on (opening st images lengths (length b)) b)
  unfolding open_store must ◌>>◌
  ends-setting h = refused_as bad_setting (simp h)

  module _ (h : in_ranges st ≡ true) where
    -- 10 or 11
    pub ends-bad : (r : Refusal) → stop r ≡ clock_of (open_runs 1 (images_in images lengths)) → ◌≡◌ {A = Told × Bytes} (why r, b) (told_on (opening st images lengths (length b)) b)
    unfolding open_store must ◌>>◌ ◌>>=◌
    ends-bad r e = refused_as r (simp (h, opened-bad images lengths r e))

    module _ (clock : ℕ) (e : go clock ≡ clock_of (open_runs 1 (images_in images lengths))) where
      -- 5, for the run area
      pub ends-area : images_fit st (images_in images lengths) ≡ false → ◌≡◌ {A = Told × Bytes} (why (no_room run_area), b) (told_on (opening st images lengths (length b)) b)
      unfolding open_store must ◌>>◌ ◌>>=◌
      ends-area f = refused_as (no_room run_area) (simp (h, (opened-good images lengths clock e).0, f))

      -- 5, for the state buffer
      pub ends-buffer : images_fit st (images_in images lengths) ≡ true → length b < state_length st
          → ◌≡◌ {A = Told × Bytes} (why (no_room state_buffer), b) (told_on (opening st images lengths (length b)) b)
      unfolding open_store must ◌>>◌ ◌>>=◌
      ends-buffer f l = refused_as (no_room state_buffer) (simp (h, (opened-good images lengths clock e).0, f, lt-leb (state_length st) (length b) l))

      -- nothing refuses
      pub all-passed : images_fit st (images_in images lengths) ≡ true → state_length st ≤ length b → Passed st images lengths (length b) clock
      all-passed f l =
          let g = opened-good images lengths clock e in
          record { ranges = h; good = g.1; time = g.2; area = f; buffer = le-leb (state_length st) (length b) l }

  -- 0: the opened store is written
  pub ends-done : (clock : ℕ) → Passed st images lengths (length b) clock → (a : Bytes) → a ≡ write_store (opened st (runs_in images lengths)) b
      → ◌≡◌ {A = Told × Bytes} (nothing, a) (told_on (opening st images lengths (length b)) b)
  unfolding tried try_open ◌>>=◌ told
  ends-done clock p a e =
      ap {B = Told × Bytes} (λ (u : Bytes). (nothing, u)) e
      ∙ sym (done-told call b (record { reply = done; store = opened st (runs_in images lengths) }) (simp (passed-opens st images lengths (length b) clock p)))
