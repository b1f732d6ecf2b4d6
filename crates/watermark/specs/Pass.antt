-- What the functions of `pass` do, a row or a call at a time. No promise rests on these definitions: the laws tie them to the paper's calls.
-- Assumes nothing.
use Rattle.std.specs.Prelude.{ℕ, ◌+◌, ◌-◌, Bool, true, false, ◌&&◌, List, [], ◌∷◌, length, drop, leb, ltb, eqb, Option, Some, None, Result, Ok, Err}
use Rattle.std.proofs.Math.Seq.{paste}
use Rattle.paper.specs.Lists.{all, keep, rises}
use Rattle.paper.specs.Readers.{Row, cmp_row, readers_at}
use Rattle.paper.specs.Settings.{most_number}
use Rattle.watermark.specs.declared.pass.Row as Lent
use Rattle.watermark.specs.declared.pass.Scan.{Scan}
use Rattle.watermark.specs.declared.pass.Put.{Put}
use Rattle.watermark.specs.declared.pass.Removing.{Removing}
use Rattle.watermark.specs.declared.reply.Unsound.{Unsound}
use Rattle.watermark.specs.declared.reply.AddRefusal.{AddRefusal}
use Rattle.watermark.specs.declared.reply.RemoveRefusal.{RemoveRefusal}

abbrev pub pick : {A : Type 0} → Bool → A → A → A
pick true a b = a
pick false a b = b

-- ---- what one pass finds
-- the last timestamp of r and the rows behind it
abbrev pub last_from : ℕ → List Row → ℕ
last_from t [] = t
last_from t (r ∷ rs) = last_from r.time rs

-- the last timestamp, if there is one
abbrev pub last_of : List Row → Option ℕ
last_of [] = None
last_of (r ∷ rs) = Some (last_from r.time rs)

-- how many rows stand below t, and how many up to it
unfoldable pub below : ℕ → List Row → ℕ
below t rows = length (keep (λ r. ltb r.time t) rows)

unfoldable pub upto : ℕ → List Row → ℕ
upto t rows = length (keep (λ r. leb r.time t) rows)

-- the readers at t, if it has a row
unfoldable pub count_at : ℕ → List Row → Option ℕ
count_at t rows = pick (ltb (below t rows) (upto t rows)) (Some (readers_at t rows)) None

abbrev pub found : ℕ → List Row → Scan
found t rows = record { time = t; last = last_of rows; below = below t rows; count = count_at t rows }

abbrev pub unsound_table : Unsound
unsound_table = record {}

-- what a pass for t knows after these rows, where the table ends within the room or doesn't
unfoldable pub scanned : Bool → ℕ → List Row → Result Scan Unsound
scanned fits t rows = pick (fits && (rises cmp_row rows && all (λ r. ltb 0 r.count) rows)) (Ok (found t rows)) (Err unsound_table)

-- ---- a row more
-- the timestamp t may come behind the last
abbrev pub follows : Option ℕ → ℕ → Bool
follows None t = true
follows (Some last) t = ltb last t

abbrev pub passed_of : Scan → Lent.Row → Scan
passed_of s r =
    record {
      time = s.time;
      last = Some r.time;
      below = pick (ltb r.time s.time) (s.below + 1) s.below;
      count = pick (eqb r.time s.time) (Some r.count) s.count;
    }

unfoldable pub see_of : Scan → Lent.Row → Result Scan Unsound
see_of s r = pick (ltb 0 r.count && follows s.last r.time) (Ok (passed_of s r)) (Err unsound_table)

-- ---- what is written to a slice
-- x is put in at `from`, and what stood from there to before `to` goes one further
abbrev pub put_in : {A : Type 0} → List A → ℕ → ℕ → A → List A
put_in zs from to x = paste zs from (x ∷ drop from zs) (to - from)

-- what stands from `next` to before `to` moves down to `from`
abbrev pub moved_down : {A : Type 0} → List A → ℕ → ℕ → ℕ → List A
moved_down zs from next to = paste zs from (drop next zs) (to - next)

-- ---- what a call then does
abbrev pub put_at : ℕ → ℕ → ℕ → ℕ → Put
put_at from to t n = record { from = from; to = to; row = record { time = t; count = n } }

abbrev pub counted_more : Scan → ℕ → Result Put AddRefusal
counted_more s n = pick (ltb n most_number) (Ok (put_at s.below (s.below + 1) s.time (n + 1))) (Err AddRefusal.CountFull)

abbrev pub rowed_more : Scan → ℕ → ℕ → Result Put AddRefusal
rowed_more s used room = pick (ltb used room) (Ok (put_at s.below (used + 1) s.time 1)) (Err AddRefusal.Full)

abbrev pub adding : Scan → ℕ → ℕ → Option ℕ → Result Put AddRefusal
adding s used room (Some n) = counted_more s n
adding s used room None = rowed_more s used room

unfoldable pub adding_of : Scan → ℕ → ℕ → Result Put AddRefusal
adding_of s used room = adding s used room s.count

abbrev pub counted_less : Scan → ℕ → Removing
counted_less s n = pick (leb n 1) (Removing.Gone s.below) (Removing.Fewer (put_at s.below (s.below + 1) s.time (n - 1)))

abbrev pub removing : Scan → Option ℕ → Result Removing RemoveRefusal
removing s (Some n) = Ok (counted_less s n)
removing s None = Err RemoveRefusal.Missing

unfoldable pub removing_of : Scan → Result Removing RemoveRefusal
removing_of s = removing s s.count
