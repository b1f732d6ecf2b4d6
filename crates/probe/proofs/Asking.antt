-- What is asked by numbers: the cursors filled one after the other.
-- Assumes nothing.
use native.Mathlib.Omega.{arith}
use native.Mathlib.Numerals.{add-one}
use Prim.Native.Nat.{ℕ, ◌+◌, ◌<◌}
use mathlib.Core.Path.{◌≡◌, refl, sym, ap, ◌∙◌}
use mathlib.Core.List.{List, [], ◌∷◌, ◌++◌}
use lib.ListN.{length, take, set}
use lib.Seq.{take-suc-set, take_all}
use Rattle.merge.specs.declared.heap.Cursor.{Cursor}
use Rattle.probe.specs.Asked.{cursor_at, placed}

-- ---- the cursors
pub placed-none : (ps : List ℕ) → [] ≡ placed ps 0
unfolding placed
placed-none ps = refl

pub placed-next : (ps : List ℕ) (cs : List Cursor) (i : ℕ) (c : Cursor) → i < length cs → c ≡ cursor_at ps i → take i cs ≡ placed ps i → take (i + 1) (set cs i c) ≡ placed ps (i + 1)
unfolding placed
placed-next ps cs i c l e q = rw add-one (take-suc-set cs i c l ∙ ap (λ (xs : List Cursor). xs ++ (c ∷ [])) q ∙ ap (λ (d : Cursor). placed ps i ++ (d ∷ [])) e)

pub placed-all : (ps : List ℕ) (cs : List Cursor) (i : ℕ) → length cs ≡ 17 → i ≡ 17 → take i cs ≡ placed ps i → cs ≡ placed ps 17
placed-all ps cs i l e q = sym (take_all i cs (omega arith)) ∙ q ∙ ap (placed ps) e
