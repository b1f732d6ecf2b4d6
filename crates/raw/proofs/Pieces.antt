-- Bytes as pieces one after the other: what is written within a piece changes that piece alone.
-- Assumes nothing.
use Prim.Native.Nat.{ℕ, zero, suc, ◌+◌, ◌<◌, ◌≤◌}
use native.Mathlib.Omega.{arith}
use native.Mathlib.Nat.{zero-add, not-suc-le-zero}
use mathlib.Core.Path.{◌≡◌, ap, ◌∙◌}
use mathlib.Core.List.{List, [], ◌∷◌, ◌++◌}
use lib.ListN.{length, drop, get_or, set}
use Rattle.paper.specs.Keys.{Bytes}
use Rattle.paper.specs.Lists.{join}
use Rattle.raw.specs.Bytes.{part, over}
use Rattle.raw.proofs.Parts.{part_left, part_right}
use Rattle.raw.proofs.Over.{over-left, over-right, over-front, over-whole}

-- where a piece starts
abbrev pub start : List Bytes → ℕ → ℕ
start [] i = 0
start (x ∷ xs) zero = 0
start (x ∷ xs) (suc i) = length x + start xs i

-- what is written within a piece
pub lay-in : (xs : List Bytes) (i j : ℕ) (x : Bytes) → i < length xs → j + length x ≤ length (get_or xs i [])
    → over (join xs) (start xs i + j) x ≡ join (set xs i (over (get_or xs i []) j x))
unfolding join
lay-in [] i j x h k = absurd (not-suc-le-zero h)
lay-in (y ∷ ys) zero j x h k = rw zero-add (over-left y (join ys) j x k)
lay-in (y ∷ ys) (suc i) j x h k =
    let e : length y + start ys i + j ≡ length y + (start ys i + j) = omega arith in
    rw e (over-right y (join ys) (start ys i + j) x ∙ ap (λ (u : Bytes). y ++ u) (lay-in ys i j x (omega arith) k))

-- a piece replaced whole
pub lay-whole : (xs : List Bytes) (i at : ℕ) (x : Bytes) → i < length xs → length x ≡ length (get_or xs i []) → at ≡ start xs i → over (join xs) at x ≡ join (set xs i x)
lay-whole xs i at x h k e =
    let z : at ≡ start xs i + 0 = omega arith in
    ap (λ (n : ℕ). over (join xs) n x) z ∙ lay-in xs i 0 x h (omega arith) ∙ ap (λ (u : Bytes). join (set xs i u)) (over-whole (get_or xs i []) x k)

-- the front of a piece
pub lay-front : (xs : List Bytes) (i at : ℕ) (x : Bytes) → i < length xs → length x ≤ length (get_or xs i []) → at ≡ start xs i
    → over (join xs) at x ≡ join (set xs i (x ++ drop (length x) (get_or xs i [])))
lay-front xs i at x h k e =
    let z : at ≡ start xs i + 0 = omega arith in
    ap (λ (n : ℕ). over (join xs) n x) z ∙ lay-in xs i 0 x h (omega arith) ∙ ap (λ (u : Bytes). join (set xs i u)) (over-front (get_or xs i []) x)

-- what is read within a piece
pub part_in : (xs : List Bytes) (i j n : ℕ) → i < length xs → j + n ≤ length (get_or xs i []) → part (join xs) (start xs i + j) n ≡ part (get_or xs i []) j n
unfolding join
part_in [] i j n h k = absurd (not-suc-le-zero h)
part_in (y ∷ ys) zero j n h k = rw zero-add (part_left y (join ys) j n k)
part_in (y ∷ ys) (suc i) j n h k =
    let e : length y + start ys i + j ≡ length y + (start ys i + j) = omega arith in
    rw e (part_right y (join ys) (start ys i + j) n ∙ part_in ys i j n (omega arith) k)
