-- The checks of a key and a value, one after the other.
-- Assumes nothing.
use Prim.Native.Nat.{ℕ, ◌≤◌, ◌<◌}
use native.Mathlib.Omega.{arith}
use mathlib.Core.Path.{◌≡◌, refl, sym, ap, ap₂}
use mathlib.Core.Bool.{Bool, true, false, not, ◌&&◌}
use mathlib.Core.List.{[], ◌∷◌}
use lib.ListN.{length}
use lib.Dec.{leb}
use borrow.Author.Tests.{le-leb, lt-leb, leb-true}
use Rattle.std.specs.Prelude.{max}
use Rattle.paper.specs.Lists.{is_empty}
use Rattle.paper.specs.Keys.{Bytes}
use Rattle.paper.specs.Refusals.{empty_key, too_long, stop, go, must, ◌>>◌}
use Rattle.paper.specs.Settings.{longest}
use Rattle.paper.specs.Calls.{good_key_value}
use Rattle.paper.proofs.Bools.{and_intro}

empty-none : (k : Bytes) → length k ≡ 0 → not (is_empty k) ≡ false
empty-none [] e = refl
empty-none (x ∷ xs) e = absurd (omega (arith, e))

empty-some : (k : Bytes) → (length k ≡ 0 → ⊥) → not (is_empty k) ≡ true
empty-some [] e = absurd (e refl)
empty-some (x ∷ xs) e = refl

some-long : (m n : ℕ) → longest < max m n → (leb m longest && leb n longest) ≡ false
some-long m n l = go (leb m longest) refl
  where
    go : (x : Bool) → leb m longest ≡ x → (x && leb n longest) ≡ false
    go true e = lt-leb n longest (omega (arith, leb-true m longest e))
    go false e = refl

module _ (k v : Bytes) where
  abbrev short : Bool
  short = leb (length k) longest && leb (length v) longest

  pub key-empty : length k ≡ 0 → stop empty_key ≡ good_key_value k v
  unfolding good_key_value must ◌>>◌
  key-empty e = sym (ap (λ (x : Bool). must x empty_key >> must short too_long) (empty-none k e))

  module _ (e : length k ≡ 0 → ⊥) where
    pub lengths-bad : longest < max (length k) (length v) → stop too_long ≡ good_key_value k v
    unfolding good_key_value must ◌>>◌
    lengths-bad l = sym (ap₂ (λ (x y : Bool). must x empty_key >> must y too_long) (empty-some k e) (some-long (length k) (length v) l))

    pub lengths-good : max (length k) (length v) ≤ longest → go tt ≡ good_key_value k v
    unfolding good_key_value must ◌>>◌
    lengths-good l = sym (ap₂ (λ (x y : Bool). must x empty_key >> must y too_long) (empty-some k e) (and_intro (le-leb (length k) longest (omega arith)) (le-leb (length v) longest (omega arith))))
