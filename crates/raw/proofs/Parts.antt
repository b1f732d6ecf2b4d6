-- Laws of a part of some bytes: its length, its bytes, one byte more at either end, parts side by side, and a part of a part.
-- Assumes nothing.
use native.Mathlib.Omega.{arith}
use native.Mathlib.Nat.{sub-zero, zero-sub, suc-sub-suc}
use native.Mathlib.Numerals.{add-one}
use mathlib.Core.Path.{◌≡◌, sym, ap, ◌∙◌}
use mathlib.Core.List.{[], ◌∷◌, ◌++◌}
use Prim.Native.Nat.{ℕ, zero, suc, ◌+◌, ◌-◌, ◌≤◌, ◌<◌}
use lib.ListN.{length, take, drop, get_or, length-drop, take-append-drop}
use lib.Seq.{take-nil, take-suc, drop-cons, get_or-take, get_or-drop, length-take-le, take-take, drop-drop, take-add, take_all, drop-append-add, drop-append-le, take-append-le}
use Rattle.paper.specs.Keys.{Bytes}
use Rattle.raw.specs.Bytes.{part}

pub length_part : (l : Bytes) (at n : ℕ) → at + n ≤ length l → length (part l at n) ≡ n
length_part l at n h = length-take-le n (drop at l) (rw length-drop (omega arith))

pub get_d_part : (l : Bytes) (at n i : ℕ) → i < n → get_or (part l at n) i 0 ≡ get_or l (at + i) 0
get_d_part l at n i h = get_or-take n (drop at l) i 0 h ∙ get_or-drop at l i 0

-- ---- one byte more

pub part-cons : (l : Bytes) (at n : ℕ) → at < length l → part l at (suc n) ≡ get_or l at 0 ∷ part l (suc at) n
part-cons l at n h = ap (take (suc n)) (drop-cons l at 0 h)

pub part-snoc : (l : Bytes) (at n : ℕ) → at + n < length l → part l at (n + 1) ≡ part l at n ++ (get_or l (at + n) 0 ∷ [])
part-snoc l at n h =
    let k : n < length (drop at l) = rw length-drop (omega arith) in
    rw add-one (take-suc (drop at l) n 0 k ∙ ap (λ (y : ℕ). part l at n ++ (y ∷ [])) (get_or-drop at l n 0))

pub part-one : (l : Bytes) (at : ℕ) → at < length l → part l at 1 ≡ get_or l at 0 ∷ []
part-one l at h = part-cons l at 0 h

-- ---- parts side by side

pub part-append : (l : Bytes) (at n m : ℕ) → part l at (n + m) ≡ part l at n ++ part l (at + n) m
part-append l at n m = take-add n m (drop at l) ∙ ap (λ (t : Bytes). part l at n ++ take m t) (drop-drop n at l)

-- a part, and what follows it
pub part-drop : (l : Bytes) (at n : ℕ) → part l at n ++ drop (at + n) l ≡ drop at l
part-drop l at n = ap (λ (t : Bytes). part l at n ++ t) (sym (drop-drop n at l)) ∙ take-append-drop n (drop at l)

-- to an end at or after the start
pub part-to : (l : Bytes) (at end : ℕ) → at ≤ end → part l at (end - at) ++ drop end l ≡ drop at l
part-to l at end h =
    let e : at + (end - at) ≡ end = omega arith in
    ap (λ (i : ℕ). part l at (end - at) ++ drop i l) (sym e) ∙ part-drop l at (end - at)

-- what stands before a part, the part, and what follows it
pub part-whole : (l : Bytes) (at n : ℕ) → take at l ++ (part l at n ++ drop (at + n) l) ≡ l
part-whole l at n = ap (λ (t : Bytes). take at l ++ t) (part-drop l at n) ∙ take-append-drop at l

-- all of it
pub part-all : (l : Bytes) (n : ℕ) → length l ≡ n → part l 0 n ≡ l
part-all l n e = take_all n l (omega arith)

-- ---- parts of a part

pub drop-take : (e u : ℕ) (l : Bytes) → drop e (take u l) ≡ part l e (u - e)
drop-take zero u l = ap (λ (n : ℕ). take n l) (sym (sub-zero u))
drop-take (suc e) zero l = ap (λ (n : ℕ). take n (drop (suc e) l)) (sym (zero-sub (suc e)))
drop-take (suc e) (suc u) [] = sym (take-nil (suc u - suc e))
drop-take (suc e) (suc u) (x ∷ l) = drop-take e u l ∙ ap (λ (n : ℕ). take n (drop e l)) (sym (suc-sub-suc u e))

pub drop-part : (l : Bytes) (at n j : ℕ) → drop j (part l at n) ≡ part l (at + j) (n - j)
drop-part l at n j = drop-take j n (drop at l) ∙ ap (take (n - j)) (drop-drop j at l)

pub take_part : (l : Bytes) (at n m : ℕ) → m ≤ n → take m (part l at n) ≡ part l at m
take_part l at n m h = take-take m n (drop at l) h

pub part-part : (l : Bytes) (at n j m : ℕ) → j + m ≤ n → part (part l at n) j m ≡ part l (at + j) m
part-part l at n j m h = ap (take m) (drop-part l at n j) ∙ take_part l (at + j) (n - j) m (omega arith)

pub part-take : (l : Bytes) (n j m : ℕ) → j + m ≤ n → part (take n l) j m ≡ part l j m
part-take l n j m h = ap (take m) (drop-take j n l) ∙ take-take m (n - j) (drop j l) (omega arith)

pub part-of-drop : (l : Bytes) (n j m : ℕ) → part (drop n l) j m ≡ part l (n + j) m
part-of-drop l n j m = ap (take m) (drop-drop j n l)

-- ---- parts of two byte strings, one behind the other

pub part_right : (p r : Bytes) (k n : ℕ) → part (p ++ r) (length p + k) n ≡ part r k n
part_right p r k n = ap (take n) (drop-append-add p r k)

pub part_left : (p r : Bytes) (j n : ℕ) → j + n ≤ length p → part (p ++ r) j n ≡ part p j n
part_left p r j n h =
    ap (take n) (drop-append-le j p r (omega arith)) ∙ take-append-le n (drop j p) r (rw length-drop (omega arith))
