-- Byte strings that differ at a byte, and at none before it, are in the order of these bytes.
-- Assumes nothing.
use native.Mathlib.Omega.{arith}
use mathlib.Core.Path.{◌≡◌, sym, ap, ap₂, ◌∙◌}
use mathlib.Core.List.{[], ◌∷◌, ◌++◌}
use Prim.Native.Nat.{ℕ, zero, suc, ◌+◌, ◌<◌, compare}
use native.Mathlib.Numerals.{add-one}
use lib.ListN.{length, take, get_or}
use lib.Seq.{take-suc}
use Rattle.std.specs.declared.cmp.Ordering.{Ordering}
use Rattle.std.specs.declared.cmp.Ordering.TheVariants.{Less, Equal, Greater}
use Rattle.paper.specs.Lists.{then_by}
use Rattle.paper.specs.Keys.{Bytes, cmp_key}
use Rattle.paper.proofs.Order.{compare_same, compare-eq}
use Rattle.raw.specs.Orders.{ordering}

-- the first byte of a list, and what follows it
head : ℕ → Bytes → ℕ
head d [] = d
head d (x ∷ xs) = x

tail : Bytes → Bytes
tail [] = []
tail (x ∷ xs) = xs

-- one equal byte more
pub alike-on : (a b : Bytes) (i : ℕ) → i < length a → i < length b → take i a ≡ take i b → get_or a i 0 ≡ get_or b i 0 → take (i + 1) a ≡ take (i + 1) b
alike-on a b i h k e f =
    let g : (s : Bytes) → i < length s → take (i + 1) s ≡ take i s ++ (get_or s i 0 ∷ []) = λ s l. ap (λ n. take n s) (add-one i) ∙ take-suc s i 0 l in
    g a h ∙ ap₂ (λ s n. s ++ (n ∷ [])) e f ∙ sym (g b k)

-- the bytes there decide, where they are not equal
pub decided : (a b : Bytes) (i : ℕ) → i < length a → i < length b → take i a ≡ take i b
    → (o : Ordering) → ordering o ≡ compare (get_or a i 0) (get_or b i 0) → (get_or a i 0 ≡ get_or b i 0 → ⊥) → ordering o ≡ cmp_key a b
unfolding cmp_key tail head
decided [] b i h k e o f n = absurd (omega arith)
decided (x ∷ xs) [] i h k e o f n = absurd (omega arith)
decided (x ∷ xs) (y ∷ ys) zero h k e Less f n = ap (λ q. then_by q (cmp_key xs ys)) f
decided (x ∷ xs) (y ∷ ys) zero h k e Equal f n = absurd (n (compare-eq x y (sym f)))
decided (x ∷ xs) (y ∷ ys) zero h k e Greater f n = ap (λ q. then_by q (cmp_key xs ys)) f
decided (x ∷ xs) (y ∷ ys) (suc i) h k e o f n =
    decided xs ys i (omega arith) (omega arith) (ap tail e) o f n
    ∙ ap (λ q. then_by q (cmp_key xs ys)) (sym (ap (compare x) (sym (ap (head 0) e)) ∙ compare_same x))
