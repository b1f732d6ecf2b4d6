-- The walk in key order: what a reader sees of versions in order, one after the other.
-- Assumes nothing.
use Rattle.std.specs.Prelude.{ℕ, ◌+◌, ◌*◌, ◌≤◌, ◌≡◌, Bool, true, false, cond, List, [], ◌∷◌, leb, length, None, Some}
use Rattle.std.specs.Prelude as std
use Rattle.std.proofs.Math.Option.{Option, none, some}
use Rattle.paper.specs.Keys.{Bytes, Version, Pair, same_key}
use Rattle.paper.specs.Bounds.{Bound, below}
use Rattle.paper.specs.Runs.{Run}
use Rattle.paper.specs.Seen.{unless_empty, with_value}
use Rattle.merge.specs.Unread.{unread, Sound}
use Rattle.merge.specs.declared.heap.Heap.{Heap}
use Rattle.lsm.specs.Pairs.{pair_at, InBytes}
use Rattle.lsm.specs.Answers.{InAnswer}
use Rattle.lsm.specs.declared.answer.Span.{Span}
use Rattle.lsm.specs.declared.walk.Mark.{Mark}
use Rattle.lsm.specs.declared.walk.Mark.TheVariants.{Found, Ended, Looking, Leaving}

-- whether the version is passed over: where a key is being left, a version of that key
abbrev pub passes : Option Bytes → Version → Bool
passes none v = false
passes (some k) v = same_key k v.key

-- the pairs that a reader at r sees of versions in order, up to an upper bound; with a key to leave, the versions of that key in front are passed over
unfoldable pub shown : ℕ → Bound → Option Bytes → Run → List Pair
shown r hi m [] = []
shown r hi m (v ∷ vs) =
    let same = shown r hi m vs in
    let further = shown r hi none vs in
    let past = shown r hi (some v.key) vs in
    let visible = with_value v.key (unless_empty v.value) past in
    let seen = cond (leb v.time r) visible further in
    let inside = cond (below hi v.key) seen [] in
    cond (passes m v) same inside

-- ---- what a walk that stopped says, over the heap that it left
-- the pairs that are still to come
abbrev pub coming : Mark → Bytes → ℕ → Bound → Heap → List Pair
coming (Found p) s r hi h = pair_at s p ∷ shown r hi (some (pair_at s p).key) (unread s h)
coming Ended s r hi h = []
coming Looking s r hi h = shown r hi none (unread s h)
coming (Leaving p) s r hi h = shown r hi (some (pair_at s p).key) (unread s h)

-- what is left to do, by the number of unread versions
abbrev pub to_do : Mark → Bytes → Heap → ℕ
to_do (Found p) s h = 0
to_do Ended s h = 0
to_do Looking s h = 2 * length (unread s h)
to_do (Leaving p) s h = 2 * length (unread s h) + 1

-- a walk that stopped for want of depth has gone n steps on
abbrev pub GoneOn : Mark → Bytes → Heap → ℕ → ℕ → Type 0
GoneOn (Found p) s h n start = Unit {0}
GoneOn Ended s h n start = Unit {0}
GoneOn Looking s h n start = to_do Looking s h + n ≤ start
GoneOn (Leaving p) s h n start = to_do (Leaving p) s h + n ≤ start

-- the place that a walk gives lies in s
abbrev pub Inside : Bytes → Mark → Type 0
Inside s (Found p) = InBytes s p
Inside s Ended = Unit {0}
Inside s Looking = Unit {0}
Inside s (Leaving p) = InBytes s p

-- where a walk ended, the heap that it left shows no pair either, so that a walk that is begun on it ends at once
abbrev pub Over : Mark → Bytes → ℕ → Bound → Heap → Type 0
Over (Found p) s r hi h = Unit {0}
Over Ended s r hi h = shown r hi none (unread s h) ≡ []
Over Looking s r hi h = Unit {0}
Over (Leaving p) s r hi h = Unit {0}

-- a walk at read number r up to hi, of the pairs ps and with so much to do, by n steps at least
pub record Walked (s : Bytes) (r : ℕ) (hi : Bound) (ps : List Pair) (start n : ℕ) (h : Heap) (m : Mark) : Type 0 where
  pub sound : Sound s h
  pub inside : Inside s m
  pub same : coming m s r hi h ≡ ps
  pub on : GoneOn m s h n start
  pub over : Over m s r hi h

-- ---- from one pair to the next
-- the key that is left first, where a walk goes on after a pair
abbrev pub left_in : Bytes → std.Option Span → Option Bytes
left_in s None = none
left_in s (Some p) = some (pair_at s p).key

-- the pair has the key, if there is one
abbrev pub same_key_at : Bytes → std.Option Span → Bytes → Bool
same_key_at s None k = false
same_key_at s (Some p) k = same_key k (pair_at s p).key

-- from the pair that was found on, or none where that is none
abbrev pub coming_from : Bytes → ℕ → Bound → std.Option Span → Heap → List Pair
coming_from s r hi None h = []
coming_from s r hi (Some p) h = pair_at s p ∷ shown r hi (left_in s (Some p)) (unread s h)

-- the same of an answer
abbrev pub OverAfter : std.Option Span → Bytes → ℕ → Bound → Heap → Type 0
OverAfter None s r hi h = shown r hi none (unread s h) ≡ []
OverAfter (Some p) s r hi h = Unit {0}

-- of the pairs ps the first is found, or there is none
pub record Answered (s : Bytes) (r : ℕ) (hi : Bound) (ps : List Pair) (h : Heap) (o : std.Option Span) : Type 0 where
  pub sound : Sound s h
  pub inside : InAnswer s o
  pub same : coming_from s r hi o h ≡ ps
  pub over : OverAfter o s r hi h
