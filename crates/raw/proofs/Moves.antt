-- What std's copies and moves leave, as bytes with a part replaced.
-- Assumes nothing.
use native.Mathlib.Omega.{arith}
use mathlib.Core.Path.{◌≡◌, sym, ap, ◌∙◌}
use mathlib.Core.List.{◌++◌, append_assoc}
use Prim.Native.Nat.{ℕ, ◌+◌, ◌-◌, ◌≤◌}
use lib.ListN.{length, take, drop}
use lib.Seq.{drop-drop}
use borrow.Rule.Slice.PartMut.{put_mid}
use Rattle.std.specs.List.{copy_within}
use Rattle.paper.specs.Keys.{Bytes}
use Rattle.raw.specs.Bytes.{part, over}
use Rattle.raw.proofs.Parts.{length_part}

-- a part of a slice replaced by as many bytes
pub over-mid : (l : Bytes) (at n : ℕ) (x : Bytes) → length x ≡ n → put_mid at (at + n - at) l x ≡ over l at x
unfolding over
over-mid l at n x e =
    let k : at + n - at ≡ n = omega arith in
    ap (λ (j : ℕ). take at l ++ (x ++ drop j (drop at l))) k
    ∙ ap (λ (t : Bytes). take at l ++ (x ++ t)) (drop-drop n at l ∙ ap (λ (j : ℕ). drop (at + j) l) (sym e))

-- n bytes copied within a slice
pub over-within-copy : (l : Bytes) (from to n : ℕ) → from + n ≤ length l → copy_within l from (from + n) to ≡ over l to (part l from n)
unfolding over
over-within-copy l from to n h =
    let k : from + n - from ≡ n = omega arith in
    append_assoc (take to l) (take (from + n - from) (drop from l)) (drop (to + (from + n - from)) l)
    ∙ ap (λ (j : ℕ). take to l ++ (take j (drop from l) ++ drop (to + j) l)) k
    ∙ ap (λ (j : ℕ). take to l ++ (part l from n ++ drop (to + j) l)) (sym (length_part l from n h))
