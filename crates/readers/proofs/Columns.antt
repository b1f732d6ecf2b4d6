-- Rows and their two columns, the timestamps and the counts: what a call says of the columns and leaves in them, it says of the rows and leaves in them.
-- Assumes nothing.
use Prim.Native.Nat.{ℕ, zero, suc, ◌<◌}
use native.Mathlib.Omega.{arith}
use mathlib.Core.Path.{◌≡◌, refl, sym, ap, ap₂, subst, ◌∙◌}
use mathlib.Core.List.{List, [], ◌∷◌, ◌++◌, map, map-append}
use lib.ListN.{length, drop, get_or, length-map, get_or-map}
use Rattle.std.specs.Array.{IsMapOf}
use Rattle.std.specs.Fn.{Called, Mut}
use Rattle.std.proofs.lemmas.List.{ext_get_or}
use Rattle.paper.specs.Readers.{Row, row}
use Rattle.paper.specs.Refusals.{Try, stop, go}
use Rattle.watermark.specs.Table.{up_to, rows_in, room_in, as_lent, no_row, rows_of, written, Left, LeftRows}
use Rattle.watermark.specs.declared.pass.Row as Lent

abbrev pub times : List Lent.Row → List ℕ
times rs = map (λ r. r.time) rs

abbrev pub counts : List Lent.Row → List ℕ
counts rs = map (λ r. r.count) rs

-- rows with the same columns are the same
pub same-rows : (rs qs : List Lent.Row) → times rs ≡ times qs → counts rs ≡ counts qs → rs ≡ qs
same-rows [] [] t n = refl
same-rows [] (q ∷ qs) t n = cc
same-rows (r ∷ rs) [] t n = cc
same-rows (r ∷ rs) (q ∷ qs) t n =
    let time : r.time ≡ q.time = cc in
    let count : r.count ≡ q.count = cc in
    let rest : rs ≡ qs = same-rows rs qs (cc) (cc) in
    ap₂ {C = List Lent.Row} (λ x l. x ∷ l) (ap₂ {C = Lent.Row} (λ x y. record { time = x; count = y }) time count) rest

-- ---- what a call is asked of the columns
rows-in-columns : (used : ℕ) (rs : List Lent.Row) → rows_in used (times rs) (counts rs) ≡ rows_of used rs
unfolding up_to
rows-in-columns zero rs = refl
rows-in-columns (suc n) rs =
    ap₂ {C = List Row} (λ p x. p ++ (x ∷ [])) (rows-in-columns n rs)
    (ap₂ row (get_or-map (λ (r : Lent.Row). r.time) rs n no_row) (get_or-map (λ (r : Lent.Row). r.count) rs n no_row))

room-in-columns : (rs : List Lent.Row) → room_in (times rs) (counts rs) ≡ length rs
room-in-columns rs = omega (arith, length-map rs (λ (r : Lent.Row). r.time), length-map rs (λ (r : Lent.Row). r.count))

-- the columns of four rows are asked what the four rows are
pub asked-alike : {A : Type 0} (call : ℕ → List Row → A) (used : ℕ) (rs : List Lent.Row) {ts cs : List ℕ} → length rs ≡ 4 → ts ≡ times rs → cs ≡ counts rs
    → call (room_in ts cs) (rows_in used ts cs) ≡ call 4 (rows_of used rs)
asked-alike call used rs four t n =
    ap₂ call (ap₂ room_in t n ∙ room-in-columns rs ∙ four) (ap₂ (rows_in used) t n ∙ rows-in-columns used rs)

-- ---- what a call leaves
module _ (f : Lent.Row → ℕ) where
  map-drop : (n : ℕ) (rs : List Lent.Row) → map f (drop n rs) ≡ drop n (map f rs)
  map-drop zero rs = refl
  map-drop (suc n) [] = refl
  map-drop (suc n) (r ∷ rs) = map-drop n rs

  map-lent : (new : List Row) → map f (map as_lent new) ≡ map (λ r. f (as_lent r)) new
  map-lent [] = refl
  map-lent (r ∷ rs) = ap (λ l. f (as_lent r) ∷ l) (map-lent rs)

  written-column : (meant : Try (List Row)) (rs : List Lent.Row) → map f (written as_lent meant rs) ≡ written (λ r. f (as_lent r)) meant (map f rs)
  unfolding written
  written-column (stop why) rs = refl
  written-column (go new) rs = map-append f (map as_lent new) (drop (length new) rs) ∙ ap₂ {C = List ℕ} (λ p q. p ++ q) (map-lent new) (map-drop (length new) rs)

left-in-rows : {said : Try ℕ} {meant : Try (List Row)} {rs rs' : List Lent.Row} {ts cs ts' cs' : List ℕ} → ts ≡ times rs → cs ≡ counts rs
    → Left said meant ts cs ts' cs' → times rs' ≡ ts' → counts rs' ≡ cs' → LeftRows said meant rs rs'
left-in-rows {said} {meant} {rs} {rs'} t n left t' n' =
    record {
      reply = left.reply;
      rows =
          same-rows rs' (written as_lent meant rs) (t' ∙ left.times ∙ ap (written (λ r. r.time) meant) t ∙ sym (written-column (λ r. r.time) meant rs))
          (n' ∙ left.counts ∙ ap (written (λ r. r.count) meant) n ∙ sym (written-column (λ r. r.count) meant rs));
    }

-- a call on the columns of four rows leaves them as it leaves the four rows
pub left-alike : (call : ℕ → List Row → Try (List Row)) (used : ℕ) {said : Try ℕ} {rs rs' : List Lent.Row} {ts cs ts' cs' : List ℕ}
    → length rs ≡ 4 → ts ≡ times rs → cs ≡ counts rs → Left said (call (room_in ts cs) (rows_in used ts cs)) ts cs ts' cs'
    → times rs' ≡ ts' → counts rs' ≡ cs' → LeftRows said (call 4 (rows_of used rs)) rs rs'
left-alike call used {said} {rs} {rs'} {ts} {cs} {ts'} {cs'} four t n left t' n' =
    left-in-rows t n (subst (λ (m : Try (List Row)). Left said m ts cs ts' cs') (asked-alike call used rs four t n) left) t' n'

-- ---- columns as they are made
-- what calls gave that each give h of a row
pub mapped : {F : Type 0} (g : Mut F (Lent.Row × Unit {0}) ℕ) (h : Lent.Row → ℕ) {f : F} {rs : List Lent.Row} {ns : List ℕ} {n : ℕ} → length rs ≡ n → IsMapOf g f rs ns n
    → ((p : F) (r : Lent.Row) (y : ℕ) (q : F) → Called g p (r, tt) y q → y ≡ h r) → ns ≡ map h rs
mapped g h {f} {rs} {ns} {n} long m gives =
    ext_get_or (h no_row) ns (map h rs) (m.long ∙ sym (length-map rs h ∙ long))
    (λ i l. let one = m.at i no_row (h no_row) (omega (arith, m.long)) in gives one.0 (get_or rs i no_row) (get_or ns i (h no_row)) one.1 one.2 ∙ sym (get_or-map h rs i no_row))

-- the columns of rows that were filled one by one
pub filled : (h : Lent.Row → ℕ) (rs : List Lent.Row) (ns : List ℕ) → length rs ≡ length ns → ((k : ℕ) → k < length rs → h (get_or rs k no_row) ≡ get_or ns k (h no_row)) → map h rs ≡ ns
filled h rs ns long each =
    ext_get_or (h no_row) (map h rs) ns (length-map rs h ∙ long) (λ i l. get_or-map h rs i no_row ∙ each i (omega (arith, length-map rs h)))
