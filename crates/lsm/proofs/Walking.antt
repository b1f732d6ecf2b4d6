-- Steps of the visibility walk over a heap.
-- Assumes nothing.
use native.Mathlib.Omega.{arith}
use mathlib.Core.Path.{◌≡◌, refl, sym, ap, ◌∙◌, subst}
use mathlib.Core.Bool.{Bool, true, false}
use mathlib.Core.Option.{Option, none, some}
use mathlib.Core.List.{List, [], ◌∷◌}
use Prim.Native.Nat.{ℕ, ◌+◌, ◌-◌, ◌≤◌, ◌<◌}
use borrow.Author.Tests.{le-leb, lt-leb}
use lib.ListN.{length, drop, get_or, length-drop, length-take}
use Rattle.paper.specs.Lists.{is_same}
use Rattle.paper.specs.Keys.{Bytes, Version, Pair, same_key}
use Rattle.paper.specs.Bounds.{Bound, below}
use Rattle.paper.specs.Runs.{Run}
use Rattle.paper.specs.Seen.{unless_empty, with_value}
use Rattle.paper.proofs.KeyOrder.{key-order}
use Rattle.key.specs.Places.{Placed}
use Rattle.std.specs.Prelude as std
use Rattle.std.specs.Prelude.{None, Some}
use Rattle.std.specs.Option.{option_map_or}
use Rattle.lsm.specs.Answers.{InAnswer}
use Rattle.lsm.specs.Pairs.{pair_at, InBytes}
use Rattle.lsm.specs.Newest.{span_of}
use Rattle.lsm.specs.declared.answer.Span.{Span}
use Rattle.merge.specs.Cursors.{nowhere}
use Rattle.merge.specs.Unread.{unread, Sound, least}
use Rattle.merge.specs.Steps.{Passed}
use Rattle.lsm.specs.Shown.{shown, coming, to_do, GoneOn, Inside, Over, Walked, left_in}
use Rattle.merge.specs.declared.heap.Heap.{Heap}
use Rattle.key.specs.declared.Place.{Place}
use Rattle.lsm.specs.declared.walk.Mark.{Mark}
use Rattle.lsm.specs.declared.walk.Mark.TheVariants.{Found, Ended, Looking, Leaving}
use Rattle.key.proofs.Placing.{version-placed}
use Rattle.merge.proofs.Handing.{empty, begins}
use Rattle.lsm.proofs.Basics.{some-value, no_value}
use Rattle.lsm.proofs.NewestLaws.{placed-in}

-- ---- what is shown, version by version
module _ (r : ℕ) (hi : Bound) where
  pub shown-nil : (m : Option Bytes) → shown r hi m [] ≡ []
  unfolding shown
  shown-nil m = refl

  module _ (v : Version) (vs : Run) where
    pub leave_same : (k : Bytes) → same_key k v.key ≡ true → shown r hi (some k) vs ≡ shown r hi (some k) (v ∷ vs)
    unfolding shown
    leave_same k e = sym (simp e)

    pub leave-other : (k : Bytes) → same_key k v.key ≡ false → shown r hi none (v ∷ vs) ≡ shown r hi (some k) (v ∷ vs)
    unfolding shown
    leave-other k e = sym (simp e)

    pub look-end : below hi v.key ≡ false → shown r hi none (v ∷ vs) ≡ []
    unfolding shown
    look-end e = simp e

    pub look-later : below hi v.key ≡ true → r < v.time → shown r hi none (v ∷ vs) ≡ shown r hi none vs
    unfolding shown
    look-later e l = simp (e, lt-leb v.time r l)

    pub look-here : below hi v.key ≡ true → v.time ≤ r → shown r hi none (v ∷ vs) ≡ with_value v.key (unless_empty v.value) (shown r hi (some v.key) vs)
    unfolding shown
    look-here e l = simp (e, le-leb v.time r l)

-- ---- the walk at the root of a heap
module _ (s : Bytes) (r : ℕ) (hi : Bound) (h : Heap) (ok : Sound s h) where
  pub nothing-shown : (m : Option Bytes) → h.len ≡ 0 → shown r hi m (unread s h) ≡ []
  nothing-shown m z = ap (shown r hi m) (empty s h ok z) ∙ shown-nil r hi m

  pub leaves-on : (g : Heap) (k : Bytes) → Passed s h g → same_key k (least s h).key ≡ true → shown r hi (some k) (unread s g) ≡ shown r hi (some k) (unread s h)
  leaves-on g k p e = leave_same r hi (least s h) (unread s g) k e ∙ ap (shown r hi (some k)) (sym p.handed)

  pub fewer-unread : (g : Heap) → Passed s h g → length (unread s g) + 1 ≡ length (unread s h)
  fewer-unread g p = omega (arith, ap (λ (l : Run). length l) p.handed)

  module _ (n : 0 < h.len) where
    pub leaves-off : (k : Bytes) → same_key k (least s h).key ≡ false → shown r hi none (unread s h) ≡ shown r hi (some k) (unread s h)
    leaves-off k e =
        let (vs, b) = begins s h ok n in
        ap (shown r hi none) b ∙ leave-other r hi (least s h) vs k e ∙ ap (shown r hi (some k)) (sym b)

    -- the least version lies at a place, and its pair at q
    module _ (p : Place) (at : Placed s (get_or h.cursors 0 nowhere).at p) (q : Span) (is : q ≡ span_of p) where
      it : least s h ≡ record { key = (pair_at s q).key; time = p.time; value = (pair_at s q).value }
      it = version-placed s (get_or h.cursors 0 nowhere).at p at ∙ sym (ap (λ (x : Span). record { key = (pair_at s x).key; time = p.time; value = (pair_at s x).value }) is)

      pub inside-it : InBytes s q
      inside-it = subst (λ (x : Span). InBytes s x) (sym is) (placed-in s (get_or h.cursors 0 nowhere).at p at)

      its-below : (b : Bool) → b ≡ below hi (pair_at s q).key → below hi (least s h).key ≡ b
      its-below b e = ap (λ (v : Version). below hi v.key) it ∙ sym e

      its-value : length (least s h).value ≡ q.ve - q.vs
      its-value = ap (λ (v : Version). length v.value) it ∙ length-take (q.ve - q.vs) (drop q.vs s) ∙ omega (arith, length-drop q.vs s, inside-it.value_in, inside-it.value)

      its-time : (least s h).time ≡ p.time
      its-time = ap (λ (v : Version). v.time) it

      its-key : (least s h).key ≡ (pair_at s q).key
      its-key = ap (λ (v : Version). v.key) it

      pub key-is : (k : Bytes) → same_key k (pair_at s q).key ≡ same_key k (least s h).key
      key-is k = ap (same_key k) (sym its-key)

      pub seek-end : false ≡ below hi (pair_at s q).key → shown r hi none (unread s h) ≡ []
      seek-end e = let (vs, b) = begins s h ok n in ap (shown r hi none) b ∙ look-end r hi (least s h) vs (its-below false e)

      module _ (e : true ≡ below hi (pair_at s q).key) where
        pub seek-later : (g : Heap) → Passed s h g → r < p.time → shown r hi none (unread s g) ≡ shown r hi none (unread s h)
        seek-later g x l = sym (ap (shown r hi none) x.handed ∙ look-later r hi (least s h) (unread s g) (its-below true e) (omega (arith, its-time)))

        seek-here : (vs : Run) → unread s h ≡ least s h ∷ vs → p.time ≤ r → shown r hi none (unread s h) ≡ with_value (least s h).key (unless_empty (least s h).value) (shown r hi (some (least s h).key) vs)
        seek-here vs b l = ap (shown r hi none) b ∙ look-here r hi (least s h) vs (its-below true e) (omega (arith, its-time))

        pub seek-gone : (g : Heap) → Passed s h g → p.time ≤ r → q.ve ≤ q.vs → shown r hi (some (pair_at s q).key) (unread s g) ≡ shown r hi none (unread s h)
        seek-gone g x l z =
            sym
            (seek-here (unread s g) x.handed l
            ∙ ap (λ (o : Option Bytes). with_value (least s h).key o (shown r hi (some (least s h).key) (unread s g))) (no_value (least s h).value (omega (arith, its-value)))
            ∙ ap (λ (k : Bytes). shown r hi (some k) (unread s g)) its-key)

        pub seek_found : p.time ≤ r → q.vs < q.ve → ◌≡◌ {A = List Pair} (pair_at s q ∷ shown r hi (some (pair_at s q).key) (unread s h)) (shown r hi none (unread s h))
        seek_found l z =
            let (vs, b) = begins s h ok n in
            let k = (pair_at s q).key in
            let same : same_key k (least s h).key ≡ true = ap (λ (x : Bytes). same_key k x) its-key ∙ ap is_same (key-order.same k) in
            let past : shown r hi (some k) (unread s h) ≡ shown r hi (some k) vs = ap (shown r hi (some k)) b ∙ sym (leave_same r hi (least s h) vs k same) in
            sym
            (seek-here vs b l
            ∙ ap (λ (o : Option Bytes). with_value (least s h).key o (shown r hi (some (least s h).key) vs)) (some-value (least s h).value (omega (arith, its-value)))
            ∙ ap {B = List Pair} (λ (v : Version). record { key = v.key; value = v.value } ∷ shown r hi (some v.key) vs) it
            ∙ ap {B = List Pair} (λ (l : List Pair). pair_at s q ∷ l) (sym past))

-- ---- where a walk stops
gone-on : (m : Mark) (s : Bytes) (h : Heap) (n start n' start' : ℕ) → start' + 1 ≤ start → n ≤ n' + 1 → GoneOn m s h n' start' → GoneOn m s h n start
gone-on (Found p) s h n start n' start' a b g = tt
gone-on Ended s h n start n' start' a b g = tt
gone-on Looking s h n start n' start' a b g = omega arith
gone-on (Leaving p) s h n start n' start' a b g = omega arith

-- a walk from one step on is a walk from here
pub from : (s : Bytes) (r : ℕ) (hi : Bound) (ps ps' : List Pair) (start start' n n' : ℕ) (h : Heap) (m : Mark) → Walked s r hi ps' start' n' h m → ps' ≡ ps → start' + 1 ≤ start → n ≤ n' + 1
    → Walked s r hi ps start n h m
from s r hi ps ps' start start' n n' h m k e a b =
    record { sound = k.sound; inside = k.inside; same = k.same ∙ e; on = gone-on m s h n start n' start' a b k.on; over = k.over }

-- ---- a loop over walks
-- where it begins, at the first pair or after one
pub begun : (s : Bytes) (r : ℕ) (hi : Bound) (h : Heap) (o : std.Option Span) (m : Mark) → InAnswer s o → m ≡ option_map_or Leaving o Looking
    → Inside s m × (coming m s r hi h ≡ shown r hi (left_in s o) (unread s h)) × Over m s r hi h
begun s r hi h None m i e = rw e (tt, refl, tt)
begun s r hi h (Some p) m i e = rw e (i, refl, tt)

abbrev pub turns : Mark → Bytes → Heap → ℕ
turns (Found p) s h = 0
turns Ended s h = 0
turns Looking s h = 1 + to_do Looking s h
turns (Leaving p) s h = 1 + to_do (Leaving p) s h

-- 64 steps on there is less to do
pub fewer-turns : (m : Mark) (s : Bytes) (h : Heap) (start : ℕ) → GoneOn m s h 64 start → turns m s h < 1 + start
fewer-turns (Found p) s h start g = omega arith
fewer-turns Ended s h start g = omega arith
fewer-turns Looking s h start g = omega arith
fewer-turns (Leaving p) s h start g = omega arith
