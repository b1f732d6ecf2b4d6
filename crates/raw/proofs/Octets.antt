-- The numbers of a slice are bytes, and so are those of its parts and of what is written over it.
-- Assumes nothing.
use mathlib.Core.Path.{◌≡◌, refl, ap, ◌∙◌}
use mathlib.Core.Bool.{true}
use mathlib.Core.List.{[], ◌∷◌, ◌++◌}
use Prim.Native.Nat.{ℕ, zero, suc, ◌+◌, ◌^◌, ◌%◌, ◌/◌, ◌<◌}
use native.Mathlib.Nat.{mod-lt}
use borrow.Author.Tests.{lt-ltb, ltb-true}
use lib.Dec.{ltb, lit<}
use lib.ListN.{length, take, drop, get_or, take-append-drop}
use Rattle.paper.specs.Lists.{all}
use Rattle.paper.specs.Keys.{Bytes, octets}
use Rattle.paper.specs.Image.{big_endian}
use Rattle.paper.proofs.Bools.{and_intro}
use Rattle.paper.proofs.Alls.{all_head, all_tail, all_append}
use Rattle.paper.proofs.ImageBack.{octets-left, octets-right}
use Rattle.raw.specs.Bytes.{part, over}

-- from what is known of a slice of bytes
pub octets-of : (s : Bytes) → ((i : ℕ) → get_or s i 0 < 256) → octets s ≡ true
unfolding octets all
octets-of [] h = refl
octets-of (x ∷ xs) h = and_intro (lt-ltb x 256 (h 0)) (octets-of xs (λ i. h (suc i)))

-- and back
pub octets-at : (s : Bytes) → octets s ≡ true → (i : ℕ) → get_or s i 0 < 256
unfolding octets
octets-at [] h i = lit< tt
octets-at (x ∷ xs) h zero = ltb-true x 256 (all_head (λ b. ltb b 256) x xs h)
octets-at (x ∷ xs) h (suc i) = octets-at xs (all_tail (λ b. ltb b 256) x xs h) i

pub octets-append : (a b : Bytes) → octets a ≡ true → octets b ≡ true → octets (a ++ b) ≡ true
unfolding octets
octets-append a b h k = all_append (λ n. ltb n 256) a b h k

pub octets-take : (n : ℕ) (s : Bytes) → octets s ≡ true → octets (take n s) ≡ true
octets-take n s h = octets-left (take n s) (drop n s) (ap octets (take-append-drop n s) ∙ h)

pub octets-drop : (n : ℕ) (s : Bytes) → octets s ≡ true → octets (drop n s) ≡ true
octets-drop n s h = octets-right (take n s) (drop n s) (ap octets (take-append-drop n s) ∙ h)

pub octets-part : (s : Bytes) (at n : ℕ) → octets s ≡ true → octets (part s at n) ≡ true
octets-part s at n h = octets-take n (drop at s) (octets-drop at s h)

pub octets-over : (s : Bytes) (at : ℕ) (x : Bytes) → octets s ≡ true → octets x ≡ true → octets (over s at x) ≡ true
unfolding over
octets-over s at x h k = octets-append (take at s) (x ++ drop (at + length x) s) (octets-take at s h) (octets-append x (drop (at + length x) s) k (octets-drop (at + length x) s h))

pub octets-big_endian : (w n : ℕ) → octets (big_endian w n) ≡ true
unfolding octets all big_endian
octets-big_endian zero n = refl
octets-big_endian (suc w) n = and_intro (lt-ltb (n / 256 ^ w % 256) 256 (mod-lt (n / 256 ^ w) (lit< tt))) (octets-big_endian w n)
