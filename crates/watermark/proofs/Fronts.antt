-- The rows that slices hold and the slices' fronts: each part of the rows is a front, and rows that were written are read back.
-- Assumes nothing.
use Prim.Native.Nat.{ℕ, zero, suc, ◌≤◌, ◌<◌}
use native.Mathlib.Omega.{arith}
use mathlib.Core.Path.{◌≡◌, refl, sym, ap, ap₂, ◌∙◌}
use mathlib.Core.List.{List, [], ◌∷◌, ◌++◌, map, map-append}
use lib.ListN.{length, take, drop, get_or, length-map, get_or-append, get_or-map}
use lib.Seq.{take-suc, take-length}
use Rattle.paper.specs.Readers.{Row, row}
use Rattle.paper.specs.Refusals.{go}
use Rattle.watermark.specs.Table.{up_to, rows_in, room_in, as_row, as_lent, no_row, rows_of, written}
use Rattle.watermark.specs.declared.pass.Row as Lent
use Rattle.watermark.proofs.OnePass.{length-up_to}

up_to-take : {A : Type 0} (l : List A) (d : A) (n : ℕ) → n ≤ length l → up_to n (λ i. get_or l i d) ≡ take n l
unfolding up_to
up_to-take l d zero h = refl
up_to-take l d (suc n) h = ap (λ (p : List _). p ++ (get_or l n d ∷ [])) (up_to-take l d n (omega arith)) ∙ sym (take-suc l n d h)

map-up_to : {A B : Type 0} (g : A → B) (f : ℕ → A) (n : ℕ) → map g (up_to n f) ≡ up_to n (λ i. g (f i))
unfolding up_to
map-up_to g f zero = refl
map-up_to g f (suc n) = map-append g (up_to n f) (f n ∷ []) ∙ ap (λ (p : List _). p ++ (g (f n) ∷ [])) (map-up_to g f n)

up_to-same : {A : Type 0} (f g : ℕ → A) (n : ℕ) → ((i : ℕ) → i < n → f i ≡ g i) → up_to n f ≡ up_to n g
unfolding up_to
up_to-same f g zero h = refl
up_to-same f g (suc n) h = ap₂ {C = List _} (λ p x. p ++ (x ∷ [])) (up_to-same f g n (λ i l. h i (omega arith))) (h n (omega arith))

-- ---- fronts
pub times-front : (n : ℕ) (times counts : List ℕ) → n ≤ room_in times counts → map (λ r. r.time) (rows_in n times counts) ≡ take n times
times-front n times counts h = map-up_to (λ r. r.time) (λ i. row (get_or times i 0) (get_or counts i 0)) n ∙ up_to-take times 0 n (omega arith)

counts-front : (n : ℕ) (times counts : List ℕ) → n ≤ room_in times counts → map (λ r. r.count) (rows_in n times counts) ≡ take n counts
counts-front n times counts h = map-up_to (λ r. r.count) (λ i. row (get_or times i 0) (get_or counts i 0)) n ∙ up_to-take counts 0 n (omega arith)

pub rows-front : (n : ℕ) (rows : List Lent.Row) → n ≤ length rows → map as_lent (rows_of n rows) ≡ take n rows
rows-front n rows h = map-up_to as_lent (λ i. as_row (get_or rows i no_row)) n ∙ up_to-take rows no_row n h

-- ---- what was written is read back
in-front : {A : Type 0} (f : Row → A) (new : List Row) (z : List A) (i : ℕ) → i < length new → get_or (map f new ++ z) i (f (row 0 0)) ≡ f (get_or new i (row 0 0))
in-front f new z i h = get_or-append (map f new) z (f (row 0 0)) i (omega (arith, length-map new f)) ∙ get_or-map f new i (row 0 0)

pub read-in : (new : List Row) (times counts : List ℕ) → rows_in (length new) (written (λ r. r.time) (go new) times) (written (λ r. r.count) (go new) counts) ≡ new
unfolding written
read-in new times counts =
    up_to-same (λ i. row (get_or (map (λ r. r.time) new ++ drop (length new) times) i 0) (get_or (map (λ r. r.count) new ++ drop (length new) counts) i 0)) (λ i. get_or new i (row 0 0)) (length new)
    (λ i h. ap₂ row (in-front (λ r. r.time) new (drop (length new) times) i h) (in-front (λ r. r.count) new (drop (length new) counts) i h))
    ∙ up_to-take new (row 0 0) (length new) (omega arith) ∙ take-length new

pub read_of : (new : List Row) (rows : List Lent.Row) → rows_of (length new) (written as_lent (go new) rows) ≡ new
unfolding written
read_of new rows =
    up_to-same (λ i. as_row (get_or (map as_lent new ++ drop (length new) rows) i no_row)) (λ i. get_or new i (row 0 0)) (length new)
    (λ i h. ap as_row (in-front as_lent new (drop (length new) rows) i h))
    ∙ up_to-take new (row 0 0) (length new) (omega arith) ∙ take-length new

-- ---- the same for as many rows as there are
pub times-in : (n : ℕ) (times counts : List ℕ) → length (rows_in n times counts) ≤ room_in times counts → map (λ r. r.time) (rows_in n times counts) ≡ take (length (rows_in n times counts)) times
times-in n times counts h =
    let e = length-up_to n (λ i. row (get_or times i 0) (get_or counts i 0)) in
    times-front n times counts (omega arith) ∙ ap (λ (k : ℕ). take k times) (sym e)

pub counts-in : (n : ℕ) (times counts : List ℕ) → length (rows_in n times counts) ≤ room_in times counts → map (λ r. r.count) (rows_in n times counts) ≡ take (length (rows_in n times counts)) counts
counts-in n times counts h =
    let e = length-up_to n (λ i. row (get_or times i 0) (get_or counts i 0)) in
    counts-front n times counts (omega arith) ∙ ap (λ (k : ℕ). take k counts) (sym e)

pub rows_in_lem : (n : ℕ) (rows : List Lent.Row) → length (rows_of n rows) ≤ length rows → map as_lent (rows_of n rows) ≡ take (length (rows_of n rows)) rows
rows_in_lem n rows h =
    let e = length-up_to n (λ i. as_row (get_or rows i no_row)) in
    rows-front n rows (omega arith) ∙ ap (λ (k : ℕ). take k rows) (sym e)
