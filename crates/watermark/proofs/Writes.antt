-- What a plan leaves in a slice.
-- Assumes nothing.
use Rattle.std.proofs.Common.{arith}
use mathlib.Core.Path.{◌≡◌, sym, ap, ap₂, ◌∙◌}
use mathlib.Core.List.{List, [], ◌∷◌, ◌++◌, append_assoc}
use Prim.Native.Nat.{ℕ, suc, ◌+◌, ◌-◌, ◌≤◌, ◌<◌}
use native.Mathlib.Numerals.{add-one}
use lib.ListN.{length, take, drop, get_or, set}
use lib.Seq.{paste, take-suc, length-take-le, set_at}
use Rattle.watermark.specs.Pass.{put_in}

-- what stands from `from` on goes one further, and x takes its place
pub put-shifted : {A : Type 0} (zs : List A) (from to : ℕ) (d x : A) → from < to → to ≤ length zs
    → set (paste zs (from + 1) (drop from zs) (to - 1 - from)) from x ≡ put_in zs from to x
put-shifted zs from to d x h k =
    let n = to - 1 - from in
    let m : to - from ≡ suc (to - 1 - from) = omega arith in
    let e : from + 1 + (to - 1 - from) ≡ from + suc (to - 1 - from) = omega arith in
    let t : take (from + 1) zs ≡ take from zs ++ (get_or zs from d ∷ []) = rw add-one (take-suc zs from d (omega arith)) in
    ap₂ {C = List _} (λ (l : List _) (i : ℕ). set (l ++ take (to - 1 - from) (drop from zs) ++ drop i zs) from x) t e
    ∙ ap (λ (l : List _). set l from x) (ap (λ (l : List _). l ++ drop (from + suc (to - 1 - from)) zs) (append_assoc (take from zs) (get_or zs from d ∷ []) (take (to - 1 - from) (drop from zs))) ∙ append_assoc (take from zs) (get_or zs from d ∷ take (to - 1 - from) (drop from zs)) (drop (from + suc (to - 1 - from)) zs))
    ∙ set_at (take from zs) (get_or zs from d) (take (to - 1 - from) (drop from zs) ++ drop (from + suc (to - 1 - from)) zs) x from (length-take-le from zs (omega arith))
    ∙ sym (append_assoc (take from zs) (x ∷ take (to - 1 - from) (drop from zs)) (drop (from + suc (to - 1 - from)) zs))
    ∙ ap (paste zs from (x ∷ drop from zs)) (sym m)
