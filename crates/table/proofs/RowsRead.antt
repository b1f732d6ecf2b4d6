-- When a region reads as rows: its number of used bytes is within it, and is that of whole rows.
-- Assumes nothing.
use Prim.Native.Nat.{ℕ, zero, suc, ◌-◌, ◌%◌, ◌<◌, ◌≤◌}
use native.Mathlib.Omega.{arith}
use native.Mathlib.Nat.{not-suc-le-zero}
use mathlib.Core.Path.{◌≡◌, refl, sym, ap, ◌∙◌}
use mathlib.Core.Bool.{Bool, true, false}
use mathlib.Core.List.{List, [], ◌∷◌}
use mathlib.Core.Option.{Option, none, some}
use lib.ListN.{length, take, drop, length-drop}
use lib.Seq.{length-take-le}
use lib.Dec.{leb, eqb}
use borrow.Author.Tests.{le-leb, lt-leb, leb-true, leb-false, ne_eqb}
use Rattle.paper.specs.Keys.{Bytes}
use Rattle.paper.specs.Lists.{is_some}
use Rattle.paper.specs.Readers.{Row, row}
use Rattle.paper.specs.Image.{bytes, number, number_from}
use Rattle.raw.specs.Bytes.{part}
use Rattle.layout.specs.Codec.{num, both, via, cons_of, further, get_all, lift, sized, many, room, first_of}
use Rattle.layout.specs.Layout.{row_stream}
use Rattle.layout.proofs.Reading.{number-taken}
use Rattle.table.specs.Rows.{region_slot, read_in}

number_short : (s : Bytes) → length s < 8 → number 8 s ≡ none
unfolding number bytes
number_short s h = simp (lt-leb 8 (length s) h)

-- ---- one row
row_get : (s : Bytes) → 16 ≤ length s → row_stream.get s ≡ some (row (number_from 0 (take 8 s)) (number_from 0 (take 8 (drop 8 s))), drop 8 (drop 8 s))
unfolding row_stream via both num
row_get s h =
    let l : 8 ≤ length (drop 8 s) = rw length-drop (omega arith) in
    simp (number-taken s 8 (omega arith), number-taken (drop 8 s) 8 l)

row-short : (s : Bytes) → length s < 16 → row_stream.get s ≡ none
unfolding row_stream via both num
row-short s h = go (leb 8 (length s)) refl
  where
    go : (p : Bool) → leb 8 (length s) ≡ p → row_stream.get s ≡ none
    go true e =
        let k : 8 ≤ length s = leb-true 8 (length s) e in
        let l : length (drop 8 s) < 8 = rw length-drop (omega arith) in
        simp (number-taken s 8 k, number_short (drop 8 s) l)
    go false e = simp (number_short s (leb-false 8 (length s) e))

-- ---- rows to the end
more : (r : Row) (o : Option (List Row)) → is_some (cons_of (some r) o) ≡ is_some o
more r none = refl
more r (some rs) = refl

sixteen : (n : ℕ) → 16 ≤ n → (n - 16) % 16 ≡ n % 16
sixteen n h = omega arith

pub rows_fill : (n : ℕ) (s : Bytes) → length s ≤ n → is_some (get_all row_stream n s) ≡ eqb (length s % 16) 0
unfolding get_all
rows_fill zero [] h = refl
rows_fill zero (x ∷ s) h = absurd (not-suc-le-zero h)
rows_fill (suc n) [] h = refl
rows_fill (suc n) (x ∷ s) h = go (leb 16 (suc (length s))) refl (λ z l. rows_fill n z l)
  where
    go : (p : Bool) → leb 16 (suc (length s)) ≡ p → ((z : Bytes) → length z ≤ n → is_some (get_all row_stream n z) ≡ eqb (length z % 16) 0)
        → is_some (further (λ z. get_all row_stream n z) (row_stream.get (x ∷ s))) ≡ eqb (suc (length s) % 16) 0
    go true e ih =
        let k : 16 ≤ suc (length s) = leb-true 16 (suc (length s)) e in
        let z : Bytes = drop 8 (drop 8 (x ∷ s)) in
        let r : Row = row (number_from 0 (take 8 (x ∷ s))) (number_from 0 (take 8 (drop 8 (x ∷ s)))) in
        let l : length z ≡ suc (length s) - 16 = length-drop 8 (drop 8 (x ∷ s)) ∙ ap (λ (m : ℕ). m - 8) (length-drop 8 (x ∷ s)) ∙ omega arith in
        ap (λ (o : Option (Row × Bytes)). is_some (further (λ z. get_all row_stream n z) o)) (row_get (x ∷ s) k)
        ∙ more r (get_all row_stream n z)
        ∙ ih z (omega arith)
        ∙ ap (λ (m : ℕ). eqb (m % 16) 0) l
        ∙ ap (λ (m : ℕ). eqb m 0) (sixteen (suc (length s)) k)
    go false e ih =
        let k : suc (length s) < 16 = leb-false 16 (suc (length s)) e in
        ap (λ (o : Option (Row × Bytes)). is_some (further (λ z. get_all row_stream n z) o)) (row-short (x ∷ s) k) ∙ partial (suc (length s)) k (omega arith)
      where
        partial : (m : ℕ) → m < 16 → 0 < m → false ≡ eqb (m % 16) 0
        partial m l p = sym (ne_eqb (m % 16) 0 (λ q. omega arith))

-- ---- a region
module _ (b : Bytes) where
  pub unread-short : length b < 8 → false ≡ is_some (read_in b)
  unfolding read_in region_slot room sized
  unread-short h = simp (number_short b h)

  lifted : (o : Option (List Row)) (s : Bytes) → is_some (first_of (lift o s)) ≡ is_some o
  lifted none s = refl
  lifted (some rs) s = refl

  pub unread-past : 8 ≤ length b → length b - 8 < number_from 0 (part b 0 8) → false ≡ is_some (read_in b)
  unfolding read_in region_slot room sized bytes
  unread-past h k =
      let l : length (drop 8 b) < number_from 0 (take 8 b) = rw length-drop k in
      simp (number-taken b 8 h, lt-leb (number_from 0 (take 8 b)) (length (drop 8 b)) l)

  pub read_whole : 8 ≤ length b → number_from 0 (part b 0 8) ≤ length b - 8 → eqb (number_from 0 (part b 0 8) % 16) 0 ≡ is_some (read_in b)
  unfolding read_in region_slot room sized bytes many
  read_whole h k =
      let u : ℕ = number_from 0 (take 8 b) in
      let l : u ≤ length (drop 8 b) = rw length-drop k in
      let x : Bytes = take u (drop 8 b) in
      let w : length x ≡ u = length-take-le u (drop 8 b) l in
      simp (number-taken b 8 h, le-leb u (length (drop 8 b)) l)
      (ap (λ (m : ℕ). eqb (m % 16) 0) (sym w) ∙ sym (rows_fill (length x) x (omega arith)) ∙ sym (lifted (get_all row_stream (length x) x) (drop u (drop 8 b))))
