-- What a test that was turned says, and what a value's length says of it.
-- Assumes nothing.
use native.Mathlib.Omega.{arith}
use mathlib.Core.Path.{◌≡◌, refl, sym}
use mathlib.Core.Bool.{Bool, true, false, not}
use mathlib.Core.Option.{none, some}
use mathlib.Core.List.{[], ◌∷◌}
use Prim.Native.Nat.{◌<◌}
use lib.ListN.{length}
use Rattle.paper.specs.Keys.{Bytes}
use Rattle.paper.specs.Seen.{unless_empty}

pub not-true : (b : Bool) → not b ≡ true → b ≡ false
not-true true h = sym h
not-true false h = refl

pub not-false : (b : Bool) → not b ≡ false → b ≡ true
not-false true h = refl
not-false false h = sym h

-- 'an empty value is a deletion'
pub some-value : (b : Bytes) → 0 < length b → unless_empty b ≡ some b
unfolding unless_empty
some-value [] h = absurd (omega arith)
some-value (x ∷ xs) h = refl

pub no_value : (b : Bytes) → length b ≡ 0 → unless_empty b ≡ none
unfolding unless_empty
no_value [] h = refl
no_value (x ∷ xs) h = absurd (omega arith)
