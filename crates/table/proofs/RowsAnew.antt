-- Rows laid in a buffer, the rows of read numbers made anew one by one, and whether a region holds these rows.
-- Assumes nothing.
use Prim.Native.Nat.{ℕ, suc, ◌+◌, ◌*◌, ◌-◌, ◌/◌, ◌^◌, ◌<◌, ◌≤◌, Ordering}
use native.Mathlib.Omega.{arith}
use mathlib.Core.Path.{◌≡◌, refl, sym, ap, ◌∙◌, subst}
use mathlib.Core.Bool.{Bool, true, false, cond}
use mathlib.Core.List.{List, [], ◌∷◌, ◌++◌}
use mathlib.Core.Option.{Option, none, some, none-ne-some, some-injective}
use lib.ListN.{length, take, drop, length-append, length-drop, take-append-drop}
use lib.Seq.{take_at}
use lib.Dec.{eqb}
use borrow.Author.Tests.{le-leb, lt-ltb}
use Rattle.paper.specs.Keys.{Bytes, octets}
use Rattle.paper.specs.Lists.{is_some, insert, place, rises}
use Rattle.paper.specs.Readers.{Row, row, cmp_row, readers_at, add_reader}
use Rattle.paper.specs.Settings.{most_number}
use Rattle.paper.specs.Store.{rows_of}
use Rattle.paper.specs.Sound.{same_rows}
use Rattle.paper.specs.Image.{big_endian}
use Rattle.paper.proofs.ReaderLaws.{readers_at-one}
use Rattle.paper.proofs.PlaceLaws.{rows_of-sound, same_rows-eq, same_rows-refl}
use Rattle.raw.specs.Bytes.{over}
use Rattle.raw.proofs.Over.{over-front, over-again}
use Rattle.layout.specs.Codec.{room, first_of}
use Rattle.layout.specs.Layout.{listed, row_stream}
use Rattle.layout.proofs.Streams.{All}
use Rattle.layout.proofs.LayoutLaws.{OkRow}
use Rattle.layout.proofs.Sizes.{listed-none, rows-form, rows_long}
use Rattle.table.specs.Rows.{region_slot, read_in, or_empty, rows_in, lay_rows, Rowed, checked, are_rows}
use Rattle.std.specs.Prelude.{Ok}
use Rattle.table.proofs.RowBytes.{RowsFit, rows-laws, region, region-long, lay-none}

-- ---- rows laid in a buffer
pub lay-over : (rs : List Row) (b : Bytes) → lay_rows rs b ≡ over b 0 ((listed row_stream).put rs)
unfolding lay_rows region_slot room
lay-over rs b = sym (over-front b ((listed row_stream).put rs))

-- no rows
pub lay-zero : (b : Bytes) → over b 0 (big_endian 8 0) ≡ lay_rows [] b
lay-zero b = sym (lay-over [] b ∙ ap (over b 0) (listed-none row_stream))

pub none_rows : (b : Bytes) → lay_rows (rows_of []) b ≡ lay_rows [] b
unfolding rows_of
none_rows b = refl

-- over others, that took up no more
pub lay-again : (new old : List Row) (b : Bytes) → length old ≤ length new → lay_rows new (lay_rows old b) ≡ lay_rows new b
lay-again new old b h =
    ap (lay_rows new) (lay-over old b) ∙ lay-over new (over b 0 ((listed row_stream).put old))
    ∙ over-again b 0 ((listed row_stream).put old) (omega arith) ((listed row_stream).put new) (omega (arith, rows_long old, rows_long new))
    ∙ sym (lay-over new b)

module _ (rs : List Row) (b : Bytes) where
  pub lay-long : 8 + 16 * length rs ≤ length b → length (lay_rows rs b) ≡ length b
  unfolding lay_rows region_slot room
  lay-long h =
      length-append ((listed row_stream).put rs) (drop (length ((listed row_stream).put rs)) b)
      ∙ ap (λ (m : ℕ). length ((listed row_stream).put rs) + m) (length-drop (length ((listed row_stream).put rs)) b) ∙ omega (arith, rows_long rs)

  pub lay-front : take (8 + 16 * length rs) (lay_rows rs b) ≡ (listed row_stream).put rs
  unfolding lay_rows region_slot room
  lay-front = take_at ((listed row_stream).put rs) (drop (length ((listed row_stream).put rs)) b) (8 + 16 * length rs) (rows_long rs)

  pub lay-read : RowsFit rs → read_in (lay_rows rs b) ≡ some rs
  unfolding read_in lay_rows region_slot room
  lay-read k = ap first_of (rows-laws.back rs (drop (length ((listed row_stream).put rs)) b) k)

pub rows-some : (b : Bytes) (rs : List Row) → read_in b ≡ some rs → rows_in b ≡ rs
unfolding rows_in
rows-some b rs e = ap or_empty e

-- ---- rows of few readers
all_insert : (P : Row → Type 0) (x : Row) (rs : List Row) → P x → All P rs → All P (insert cmp_row x rs)
unfolding insert
all_insert P x [] p a = (p, tt)
all_insert P x (r ∷ rs) p a = go (cmp_row x r) (all_insert P x rs p a.1)
  where
    go : (o : Ordering) → All P (insert cmp_row x rs) → All P (place o x r rs (insert cmp_row x rs))
    go Ordering.lt k = (p, a)
    go Ordering.eq k = (p, a.1)
    go Ordering.gt k = (a.0, k)

insert-long : (x : Row) (rs : List Row) → (length rs ≤ length (insert cmp_row x rs)) × (length (insert cmp_row x rs) ≤ suc (length rs))
unfolding insert
insert-long x [] = (omega arith, omega arith)
insert-long x (r ∷ rs) = go (cmp_row x r) (insert-long x rs)
  where
    go : (o : Ordering) → (length rs ≤ length (insert cmp_row x rs)) × (length (insert cmp_row x rs) ≤ suc (length rs))
        → (suc (length rs) ≤ length (place o x r rs (insert cmp_row x rs))) × (length (place o x r rs (insert cmp_row x rs)) ≤ suc (suc (length rs)))
    go Ordering.lt k = (omega arith, omega arith)
    go Ordering.eq k = (omega arith, omega arith)
    go Ordering.gt k = (omega arith, omega arith)

add-long : (t : ℕ) (rs : List Row) → (length rs ≤ length (add_reader t rs)) × (length (add_reader t rs) ≤ suc (length rs))
unfolding add_reader
add-long t rs = insert-long (row t (readers_at t rs + 1)) rs

-- no more rows than readers, no row with more, and all in their fields
pub record Few (rs : List Row) (n : ℕ) : Type 0 where
  pub rows : length rs ≤ n
  pub counts : (t : ℕ) → readers_at t rs ≤ n
  pub fits : All OkRow rs

abbrev pub Numbers : List ℕ → Type 0
Numbers ts = All (λ t. t < 256 ^ 8) ts

pub few : (ts : List ℕ) → length ts < 256 ^ 8 → Numbers ts → Few (rows_of ts) (length ts)
unfolding rows_of readers_at add_reader
few [] l a = record { rows = omega arith; counts = λ t. omega arith; fits = tt }
few (t ∷ ts) l a = more (few ts (omega arith) a.1)
  where
    more : Few (rows_of ts) (length ts) → Few (add_reader t (rows_of ts)) (suc (length ts))
    more f =
        record {
          rows = omega (arith, (add-long t (rows_of ts)).1, f.rows);
          counts = λ u. go u (eqb u t) (readers_at-one u t (rows_of ts));
          fits = all_insert OkRow (row t (readers_at t (rows_of ts) + 1)) (rows_of ts) (a.0, omega (arith, f.counts t)) f.fits;
        }
      where
        go : (u : ℕ) (p : Bool) → readers_at u (add_reader t (rows_of ts)) ≡ readers_at u (rows_of ts) + cond p 1 0 → readers_at u (add_reader t (rows_of ts)) ≤ suc (length ts)
        go u true e = omega (arith, e, f.counts u)
        go u false e = omega (arith, e, f.counts u)

-- such rows can be held
few-fit : (rs : List Row) (n : ℕ) → Few rs n → 16 * n < 256 ^ 8 → RowsFit rs
few-fit rs n f l = (f.fits, omega (arith, rows-form rs, f.rows))

pub reads-fit-rows : (ts : List ℕ) → 16 * length ts < 256 ^ 8 → Numbers ts → RowsFit (rows_of ts)
reads-fit-rows ts l a = few-fit (rows_of ts) (length ts) (few ts (omega arith) a) l

-- ---- one reader more in a buffer with the rows of the read numbers ts, laid over the bytes b
module _ (b : Bytes) (ts : List ℕ) (t : ℕ) (long : 8 + 16 * suc (length ts) ≤ length b) (fits : length b < 256 ^ 8) (a : Numbers ts) (buf : Bytes) (is : buf ≡ lay_rows (rows_of ts) b) where
  small : Few (rows_of ts) (length ts)
  small = few ts (omega arith) a

  reads : read_in buf ≡ some (rows_of ts)
  reads = ap read_in is ∙ lay-read (rows_of ts) b (few-fit (rows_of ts) (length ts) small (omega arith))

  these : rows_in buf ≡ rows_of ts
  these = rows-some buf (rows_of ts) reads

  same-long : length buf ≡ length b
  same-long = ap length is ∙ lay-long (rows_of ts) b (omega (arith, small.rows))

  pub made-rowed : Rowed buf
  made-rowed = record { reads = ap is_some reads; rise = ap (rises cmp_row) these ∙ (rows_of-sound ts).rising }

  pub made-fine : checked buf t ≡ Ok tt
  unfolding checked
  made-fine =
      let m = (add-long t (rows_of ts)).1 in
      let p = small.rows in
      let c = small.counts t in
      let w = same-long in
      let l : length (add_reader t (rows_of ts)) ≤ (length buf - 8) / 16 = omega arith in
      rw these (simp (le-leb (length (add_reader t (rows_of ts))) ((length buf - 8) / 16) l, lt-ltb (readers_at t (rows_of ts)) most_number (omega arith)))

  pub made_more : lay_rows (add_reader t (rows_in buf)) buf ≡ lay_rows (rows_of (t ∷ ts)) b
  unfolding rows_of
  made_more =
      ap (λ (u : List Row). lay_rows (add_reader t u) buf) these ∙ ap (lay_rows (add_reader t (rows_of ts))) is
      ∙ lay-again (add_reader t (rows_of ts)) (rows_of ts) b (add-long t (rows_of ts)).0

-- ---- whether a region holds these rows
-- its front is theirs
front_of : (q : Bytes) → octets q ≡ true → (rs : List Row) → read_in q ≡ some rs → (take (8 + 16 * length rs) q ≡ (listed row_stream).put rs) × (8 + 16 * length rs ≤ length q)
front_of q y rs e =
    let R = region q y (ap is_some e) in
    let i : rows_in q ≡ rs = rows-some q rs e in
    let k : take (8 + 16 * length (rows_in q)) q ≡ (listed row_stream).put (rows_in q) =
    ap (take (8 + 16 * length (rows_in q))) (sym (lay-none q R)) ∙ lay-front (rows_in q) q in
    (subst (λ (u : List Row). take (8 + 16 * length u) q ≡ (listed row_stream).put u) i k, subst (λ (u : List Row). 8 + 16 * length u ≤ length q) i (region-long q R))

-- and what has their front holds them
of-front : (q : Bytes) (rs : List Row) → RowsFit rs → take (8 + 16 * length rs) q ≡ (listed row_stream).put rs → read_in q ≡ some rs
unfolding read_in region_slot room
of-front q rs k e =
    ap (λ (u : Bytes). first_of ((listed row_stream).get u)) (sym (take-append-drop (8 + 16 * length rs) q) ∙ ap (λ (u : Bytes). u ++ drop (8 + 16 * length rs) q) e)
    ∙ ap first_of (rows-laws.back rs (drop (8 + 16 * length rs) q) k)

-- a test that is true exactly when the rows are these
verdict : (r : Bool) (o : Option (List Row)) (made : List Row) → (r ≡ true → o ≡ some made) → (o ≡ some made → r ≡ true) → r ≡ are_rows o made
verdict true none made f g = absurd (none-ne-some made (f refl))
verdict false none made f g = refl
verdict true (some rs) made f g =
    let e : rs ≡ made = some-injective rs made (f refl) in
    sym (ap (λ (u : List Row). same_rows rs u) (sym e) ∙ same_rows-refl rs)
verdict false (some rs) made f g = go (same_rows rs made) refl
  where
    go : (p : Bool) → same_rows rs made ≡ p → false ≡ p
    go true e = g (ap some (same_rows-eq rs made e))
    go false e = refl

module _ (q : Bytes) (y : octets q ≡ true) (made : List Row) (k : RowsFit made) where
  pub match-front : (r : Bool) → (r ≡ true → take (8 + 16 * length made) q ≡ (listed row_stream).put made) → (take (8 + 16 * length made) q ≡ (listed row_stream).put made → r ≡ true)
      → r ≡ are_rows (read_in q) made
  match-front r f g = verdict r (read_in q) made (λ z. of-front q made k (f z)) (λ z. g (front_of q y made z).0)
