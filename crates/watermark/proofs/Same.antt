-- The two tables answer the same: on equal rows and in equal room, each call gives the same reply on both, and leaves equal rows.
-- Assumes nothing.
use Prim.Native.Nat.{ℕ}
use mathlib.Core.Path.{◌≡◌, refl, sym, ap, ap₂, ◌∙◌}
use mathlib.Core.List.{List}
use lib.ListN.{length}
use Rattle.paper.specs.Readers.{Row}
use Rattle.paper.specs.Refusals.{Try, stop, go}
use Rattle.paper.specs.Calls.{try_add_row, try_remove_row, try_smallest, try_timestamps}
use Rattle.watermark.specs.Table.{rows_in, room_in, rows_of, added_says, removed_says, smallest_says, timestamps_says, number_of, written, Left, LeftRows, add_refused, remove_refused}
use Rattle.std.specs.Prelude.{Option, Some, None, Result, Ok, Err}
use Rattle.watermark.specs.declared.pass.Row as Lent
use Rattle.watermark.specs.declared.reply.Unsound.{Unsound}
use Rattle.watermark.specs.declared.reply.AddRefusal.{AddRefusal}
use Rattle.watermark.specs.declared.reply.RemoveRefusal.{RemoveRefusal}
use Rattle.watermark.proofs.Fronts.{read-in, read_of}

-- how many rows there are after a call that said this
abbrev pub used_after : ℕ → Try ℕ → ℕ
used_after used (stop r) = used
used_after used (go n) = n

-- two tables that hold the same rows in the same room
pub record Alike (used : ℕ) (ts cs : List ℕ) (rs : List Lent.Row) : Type 0 where
  pub rows : rows_in used ts cs ≡ rows_of used rs
  pub room : room_in ts cs ≡ length rs

-- what two calls said is the same, has the same number, and left the same rows
pub record Agree (used : ℕ) (said said' : Try ℕ) (ts' cs' : List ℕ) (rs' : List Lent.Row) : Type 0 where
  pub reply : said ≡ said'
  pub number : number_of said ≡ number_of said'
  pub rows : rows_in (used_after used said) ts' cs' ≡ rows_of (used_after used said') rs'

-- calls for which the paper means the same
agree : (used : ℕ) (ts cs ts' cs' : List ℕ) (rs rs' : List Lent.Row) (said said' : Try ℕ) (meant : Try (List Row)) → Alike used ts cs rs
    → Left said meant ts cs ts' cs' → LeftRows said' meant rs rs' → Agree used said said' ts' cs' rs'
unfolding written
agree used ts cs ts' cs' rs rs' said said' (stop r) a l m =
    record {
      reply = l.reply ∙ sym m.reply;
      number = ap number_of (l.reply ∙ sym m.reply);
      rows = ap (λ (s : Try ℕ). rows_in (used_after used s) ts' cs') l.reply ∙ ap₂ (rows_in used) l.times l.counts ∙ a.rows ∙ sym (ap₂ (λ (s : Try ℕ). rows_of (used_after used s)) m.reply m.rows);
    }
agree used ts cs ts' cs' rs rs' said said' (go new) a l m =
    record {
      reply = l.reply ∙ sym m.reply;
      number = ap number_of (l.reply ∙ sym m.reply);
      rows =
          ap (λ (s : Try ℕ). rows_in (used_after used s) ts' cs') l.reply ∙ ap₂ (rows_in (length new)) l.times l.counts ∙ read-in new ts cs ∙ sym (read_of new rs)
          ∙ sym (ap₂ (λ (s : Try ℕ). rows_of (used_after used s)) m.reply m.rows);
    }

-- the same reply
added-same : (r r' : Result ℕ AddRefusal) → added_says r ≡ added_says r' → r ≡ r'
added-same (Ok n) (Ok m) e = let h : n ≡ m = cc in ap Ok h
added-same (Ok n) (Err w) e = cc
added-same (Err w) (Ok m) e = cc
added-same (Err w) (Err v) e = ap Err (at w v (let h : add_refused w ≡ add_refused v = cc in h))
  where
    at : (w v : AddRefusal) → add_refused w ≡ add_refused v → w ≡ v
    at AddRefusal.Unsound AddRefusal.Unsound e = refl
    at AddRefusal.Unsound AddRefusal.Full e = cc
    at AddRefusal.Unsound AddRefusal.CountFull e = cc
    at AddRefusal.Full AddRefusal.Unsound e = cc
    at AddRefusal.Full AddRefusal.Full e = refl
    at AddRefusal.Full AddRefusal.CountFull e = cc
    at AddRefusal.CountFull AddRefusal.Unsound e = cc
    at AddRefusal.CountFull AddRefusal.Full e = cc
    at AddRefusal.CountFull AddRefusal.CountFull e = refl

removed-same : (r r' : Result ℕ RemoveRefusal) → removed_says r ≡ removed_says r' → r ≡ r'
removed-same (Ok n) (Ok m) e = let h : n ≡ m = cc in ap Ok h
removed-same (Ok n) (Err w) e = cc
removed-same (Err w) (Ok m) e = cc
removed-same (Err w) (Err v) e = ap Err (at w v (let h : remove_refused w ≡ remove_refused v = cc in h))
  where
    at : (w v : RemoveRefusal) → remove_refused w ≡ remove_refused v → w ≡ v
    at RemoveRefusal.Unsound RemoveRefusal.Unsound e = refl
    at RemoveRefusal.Unsound RemoveRefusal.Missing e = cc
    at RemoveRefusal.Missing RemoveRefusal.Unsound e = cc
    at RemoveRefusal.Missing RemoveRefusal.Missing e = refl

smallest-same : (r r' : Result (Option ℕ) Unsound) → smallest_says r ≡ smallest_says r' → r ≡ r'
smallest-same (Ok (Some n)) (Ok (Some m)) e = let h : n ≡ m = cc in ap (λ (k : ℕ). Ok (Some k)) h
smallest-same (Ok (Some n)) (Ok None) e = cc
smallest-same (Ok None) (Ok (Some m)) e = cc
smallest-same (Ok None) (Ok None) e = refl
smallest-same (Ok (Some n)) (Err u) e = cc
smallest-same (Ok None) (Err u) e = cc
smallest-same (Err u) (Ok (Some m)) e = cc
smallest-same (Err u) (Ok None) e = cc
smallest-same (Err u) (Err v) e = refl

timestamps-same : (r r' : Result ℕ Unsound) → timestamps_says r ≡ timestamps_says r' → r ≡ r'
timestamps-same (Ok n) (Ok m) e = let h : n ≡ m = cc in ap Ok h
timestamps-same (Ok n) (Err u) e = cc
timestamps-same (Err u) (Ok m) e = cc
timestamps-same (Err u) (Err v) e = refl

-- each premise after the first is what the function's contract ensures
module _ (used : ℕ) (ts cs : List ℕ) (rs : List Lent.Row) (a : Alike used ts cs rs) where
  pub add-alike : (t : ℕ) (r r' : Result ℕ AddRefusal) (ts' cs' : List ℕ) (rs' : List Lent.Row)
      → Left (added_says r) (try_add_row (room_in ts cs) (rows_in used ts cs) t) ts cs ts' cs'
      → LeftRows (added_says r') (try_add_row (length rs) (rows_of used rs) t) rs rs'
      → (r ≡ r') × Agree used (added_says r) (added_says r') ts' cs' rs'
  add-alike t r r' ts' cs' rs' l m =
      let l' : Left (added_says r) (try_add_row (length rs) (rows_of used rs) t) ts cs ts' cs' = rw (a.room, a.rows) at l in
      let g = agree used ts cs ts' cs' rs rs' (added_says r) (added_says r') (try_add_row (length rs) (rows_of used rs) t) a l' m in
      (added-same r r' g.reply, g)

  pub remove-alike : (t : ℕ) (r r' : Result ℕ RemoveRefusal) (ts' cs' : List ℕ) (rs' : List Lent.Row)
      → Left (removed_says r) (try_remove_row (room_in ts cs) (rows_in used ts cs) t) ts cs ts' cs'
      → LeftRows (removed_says r') (try_remove_row (length rs) (rows_of used rs) t) rs rs'
      → (r ≡ r') × Agree used (removed_says r) (removed_says r') ts' cs' rs'
  remove-alike t r r' ts' cs' rs' l m =
      let l' : Left (removed_says r) (try_remove_row (length rs) (rows_of used rs) t) ts cs ts' cs' = rw (a.room, a.rows) at l in
      let g = agree used ts cs ts' cs' rs rs' (removed_says r) (removed_says r') (try_remove_row (length rs) (rows_of used rs) t) a l' m in
      (removed-same r r' g.reply, g)

  pub smallest-alike : (r r' : Result (Option ℕ) Unsound) → smallest_says r ≡ try_smallest (room_in ts cs) (rows_in used ts cs) → smallest_says r' ≡ try_smallest (length rs) (rows_of used rs) → r ≡ r'
  smallest-alike r r' e g = smallest-same r r' (e ∙ ap₂ try_smallest a.room a.rows ∙ sym g)

  pub timestamps-alike : (r r' : Result ℕ Unsound) → timestamps_says r ≡ try_timestamps (room_in ts cs) (rows_in used ts cs) → timestamps_says r' ≡ try_timestamps (length rs) (rows_of used rs) → r ≡ r'
  timestamps-alike r r' e g = timestamps-same r r' (e ∙ ap₂ try_timestamps a.room a.rows ∙ sym g)
