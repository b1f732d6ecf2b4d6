-- The reader table as lent slices hold it: which rows they hold, what a call leaves in them, and what each reply says in the paper.
-- Assumes nothing.
use Rattle.std.specs.Prelude.{ℕ, zero, suc, min, ◌≡◌, List, [], ◌∷◌, ◌++◌, map, length, drop, get_or, Result, Ok, Err}
use Rattle.std.specs.Prelude as std
use Rattle.std.proofs.Math.Option.{Option, none, some}
use Rattle.paper.specs.Readers.{Row, row, sound_rows, watermark}
use Rattle.paper.specs.Refusals.{Refusal, unsound, no_room, reader_table, counter_full, no_reader, refusal_number, Try, stop, go, must, ◌>>◌}
use Rattle.watermark.specs.declared.pass.Row as Lent
use Rattle.watermark.specs.declared.reply.Unsound.{Unsound}
use Rattle.watermark.specs.declared.reply.AddRefusal.{AddRefusal}
use Rattle.watermark.specs.declared.reply.RemoveRefusal.{RemoveRefusal}

-- what f gives at 0, at 1, and so on: n of them
unfoldable pub up_to : {A : Type 0} → ℕ → (ℕ → A) → List A
up_to zero f = []
up_to (suc n) f = up_to n f ++ (f n ∷ [])

-- ---- the rows
-- Row i of two slices is the i-th timestamp with the i-th count. Past an end there are no readers, so a table that goes there is not sound.
abbrev pub rows_in : ℕ → List ℕ → List ℕ → List Row
rows_in used times counts = up_to used (λ i. row (get_or times i 0) (get_or counts i 0))

-- the room of two slices is that of the shorter
abbrev pub room_in : List ℕ → List ℕ → ℕ
room_in times counts = min (length times) (length counts)

-- a row as the code has it, and as the paper has it
abbrev pub as_row : Lent.Row → Row
as_row r = row r.time r.count

abbrev pub as_lent : Row → Lent.Row
as_lent r = record { time = r.time; count = r.count }

abbrev pub no_row : Lent.Row
no_row = record { time = 0; count = 0 }

abbrev pub rows_of : ℕ → List Lent.Row → List Row
rows_of used rows = up_to used (λ i. as_row (get_or rows i no_row))

-- ---- what the replies say, and their numbers
abbrev pub add_refused : AddRefusal → Refusal
add_refused AddRefusal.Unsound = unsound
add_refused AddRefusal.Full = no_room reader_table
add_refused AddRefusal.CountFull = counter_full

abbrev pub remove_refused : RemoveRefusal → Refusal
remove_refused RemoveRefusal.Unsound = unsound
remove_refused RemoveRefusal.Missing = no_reader

abbrev pub added_says : Result ℕ AddRefusal → Try ℕ
added_says (Ok used) = go used
added_says (Err why) = stop (add_refused why)

abbrev pub removed_says : Result ℕ RemoveRefusal → Try ℕ
removed_says (Ok used) = go used
removed_says (Err why) = stop (remove_refused why)

abbrev pub smallest_says : Result (std.Option ℕ) Unsound → Try (Option ℕ)
smallest_says (Ok (std.Some time)) = go (some time)
smallest_says (Ok std.None) = go none
smallest_says (Err why) = stop unsound

abbrev pub timestamps_says : Result ℕ Unsound → Try ℕ
timestamps_says (Ok count) = go count
timestamps_says (Err why) = stop unsound

abbrev pub mark_says : Result ℕ Unsound → Try ℕ
mark_says (Ok time) = go time
mark_says (Err why) = stop unsound

-- the table 'numbers returned'; 0 is 'done'
abbrev pub number_of : {A : Type 0} → Try A → ℕ
number_of (stop r) = refusal_number r
number_of (go a) = 0

-- ---- what a call leaves
-- how many rows there are after a call that leaves these
abbrev pub sized : Try (List Row) → Try ℕ
sized (stop r) = stop r
sized (go rows) = go (length rows)

-- 'refusals write nothing'; else a slice has its part of the new rows in front, and past them what it had
unfoldable pub written : {A : Type 0} → (Row → A) → Try (List Row) → List A → List A
written f (stop r) old = old
written f (go rows) old = map f rows ++ drop (length rows) old

-- A call on two slices said this, where the paper has it leave those rows, and left the slices so.
pub record Left (said : Try ℕ) (meant : Try (List Row)) (ts cs ts' cs' : List ℕ) : Type 0 where
  pub reply : said ≡ sized meant
  pub times : ts' ≡ written (λ r. r.time) meant ts
  pub counts : cs' ≡ written (λ r. r.count) meant cs

-- the same on a slice of rows
pub record LeftRows (said : Try ℕ) (meant : Try (List Row)) (rs rs' : List Lent.Row) : Type 0 where
  pub reply : said ≡ sized meant
  pub rows : rs' ≡ written as_lent meant rs

-- 'the smallest timestamp with a reader; with no reader, the clock', of a table called alone
unfoldable pub try_watermark : ℕ → List Row → ℕ → Try ℕ
try_watermark room rows clock = do
  must (sound_rows room rows) unsound
  go (watermark clock rows)
