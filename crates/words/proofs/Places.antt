-- Where the key and the value of a line's command stand in the line.
-- Assumes nothing.
use native.Mathlib.Omega.{arith}
use mathlib.Core.Path.{◌≡◌, refl, sym, ap, ap₂, ◌∙◌, subst}
use mathlib.Core.Bool.{Bool, true, false, cond, ◌&&◌, ◌||◌}
use mathlib.Core.List.{List, [], ◌∷◌}
use mathlib.Core.Option as maths
use Prim.Native.Nat.{ℕ, suc, ◌+◌, ◌-◌, ◌≤◌, ◌<◌}
use lib.ListN.{length, take, drop, length-drop}
use lib.Seq.{drop-drop}
use lib.Dec.{ltb}
use borrow.Author.Tests.{ltb-true, ltb-false}
use Rattle.std.specs.Prelude.{Option, Some, None}
use Rattle.paper.specs.Keys.{Bytes}
use Rattle.paper.specs.Bounds.{Bound, included, excluded, unbounded}
use Rattle.paper.specs.Settings.{longest}
use Rattle.paper.specs.Calls.{Call, opening, begin, get, scan, put, delete, commit, end, freeze}
use Rattle.paper.specs.Replay.{pieces, is, is_word, is_handle, decimal_from, given, either, from_of, line_call}
use Rattle.raw.specs.Bytes.{part}
use Rattle.raw.proofs.Parts.{length_part}
use Rattle.words.specs.Fields.{up_to}
use Rattle.words.specs.Commands.{call_of, Rest, Within, last_place, place_before, places}
use Rattle.words.specs.declared.Command.{Command}
use Rattle.words.specs.declared.Command.TheVariants as command
use Rattle.words.proofs.Ends.{up_to-short, up_to-front, pieces-last, pieces_more, pieces-some}

-- ---- a piece of a line, and what is behind it
-- a piece in front of others ends at the separator, and the others are the pieces of the bytes behind that
pub piece-before : (sep : ℕ) (s p q : Bytes) (ps : List Bytes) → pieces sep s ≡ p ∷ (q ∷ ps)
    → (length p < length s) × (p ≡ take (length p) s) × (pieces sep (drop (suc (length p)) s) ≡ q ∷ ps)
piece-before sep s p q ps e = go (ltb (length (up_to sep s)) (length s)) refl
  where
    go : (t : Bool) → ltb (length (up_to sep s)) (length s) ≡ t → (length p < length s) × (p ≡ take (length p) s) × (pieces sep (drop (suc (length p)) s) ≡ q ∷ ps)
    go true f =
        let h = ltb-true (length (up_to sep s)) (length s) f in
        let m = pieces_more sep s h in
        let a : up_to sep s ≡ p = cc in
        let b : pieces sep (drop (suc (length (up_to sep s))) s) ≡ q ∷ ps = cc in
        subst (λ (x : Bytes). (length x < length s) × (x ≡ take (length x) s) × (pieces sep (drop (suc (length x)) s) ≡ q ∷ ps)) a (h, sym (up_to-front sep s), b)
    go false f =
        let m = pieces-last sep s (omega (arith, ltb-false (length (up_to sep s)) (length s) f, up_to-short sep s)) in
        cc

-- a piece alone is all of them
pub piece-alone : (sep : ℕ) (s p : Bytes) → pieces sep s ≡ p ∷ [] → p ≡ s
piece-alone sep s p e = go (ltb (length (up_to sep s)) (length s)) refl
  where
    go : (t : Bool) → ltb (length (up_to sep s)) (length s) ≡ t → p ≡ s
    go true f =
        let m = pieces_more sep s (ltb-true (length (up_to sep s)) (length s) f) in
        let n = pieces-some sep (drop (suc (length (up_to sep s))) s) in
        cc
    go false f =
        let m = pieces-last sep s (omega (arith, ltb-false (length (up_to sep s)) (length s) f, up_to-short sep s)) in
        cc

-- ---- the fields behind the handle
-- a field from an index on, in front of others
field-before : (l : Bytes) (at : ℕ) (p q : Bytes) (ps : List Bytes) → pieces 32 (drop at l) ≡ p ∷ (q ∷ ps)
    → (at + suc (length p) ≤ length l) × (p ≡ part l at (length p)) × (pieces 32 (drop (at + suc (length p)) l) ≡ q ∷ ps)
field-before l at p q ps e =
    let a = piece-before 32 (drop at l) p q ps e in
    (omega (arith, a.0, length-drop at l), a.1, sym (ap (pieces 32) (drop-drop (suc (length p)) at l)) ∙ a.2)

module _ (l f h : Bytes) where
  -- where the third starts
  abbrev third_at : ℕ
  third_at = 0 + suc (length f) + suc (length h)

  third-on : (k : Bytes) (ps : List Bytes) → pieces 32 l ≡ f ∷ (h ∷ (k ∷ ps)) → (third_at ≤ length l) × (pieces 32 (drop third_at l) ≡ k ∷ ps)
  third-on k ps e =
      let a = field-before l 0 f h (k ∷ ps) e in
      let b = field-before l (0 + suc (length f)) h k ps a.2 in
      (b.0, b.2)

  -- a key that is the last field
  key-last : (k : Bytes) → pieces 32 l ≡ f ∷ (h ∷ (k ∷ [])) → (i : ℕ) × Rest l i k
  key-last k e = let a = third-on k [] e in (third_at, (a.0, piece-alone 32 (drop third_at l) k a.1))

  -- a key in front of a value
  key-value : (k v : Bytes) → pieces 32 l ≡ f ∷ (h ∷ (k ∷ (v ∷ []))) → (i : ℕ) × (j : ℕ) × (suc i ≤ j) × (k ≡ part l i (j - 1 - i)) × Rest l j v
  key-value k v e =
      let a = third-on k (v ∷ []) e in
      let b = field-before l third_at k v [] a.1 in
      let n : length k ≡ third_at + suc (length k) - 1 - third_at = omega arith in
      (third_at, third_at + suc (length k), omega arith, b.1 ∙ ap (part l third_at) n, (b.0, piece-alone 32 (drop (third_at + suc (length k)) l) v b.2))

-- ---- the call of a line: its key and value start somewhere in the line
abbrev FromWithin : Bytes → Bound → Type 0
FromWithin l (included k) = Unit {0}
FromWithin l (excluded k) = (i : ℕ) × Rest l i k
FromWithin l unbounded = Unit {0}

abbrev CallWithin : Bytes → maths.Option Call → Type 0
CallWithin l maths.none = Unit {0}
CallWithin l (maths.some (opening s i g r)) = Unit {0}
CallWithin l (maths.some begin) = Unit {0}
CallWithin l (maths.some (get h k r)) = (i : ℕ) × Rest l i k
CallWithin l (maths.some (scan h lo hi r q)) = FromWithin l lo
CallWithin l (maths.some (put h k v)) = (i : ℕ) × (j : ℕ) × (suc i ≤ j) × (k ≡ part l i (j - 1 - i)) × Rest l j v
CallWithin l (maths.some (delete h k)) = (i : ℕ) × Rest l i k
CallWithin l (maths.some (commit h)) = Unit {0}
CallWithin l (maths.some (end h)) = Unit {0}
CallWithin l (maths.some freeze) = Unit {0}

of-letter : (l : Bytes) (a b : Bool) → CallWithin l (either (given a begin) (given b freeze))
of-letter l true b = tt
of-letter l false true = tt
of-letter l false false = tt

of-handle : (l : Bytes) (n : ℕ) (a b : Bool) → CallWithin l (either (given a (commit n)) (given b (end n)))
of-handle l n true b = tt
of-handle l n false true = tt
of-handle l n false false = tt

of-key : (l k : Bytes) (n : ℕ) → ((i : ℕ) × Rest l i k) → (a b c d : Bool)
    → CallWithin l (either (given a (get n k longest)) (either (given b (delete n k)) (given c (scan n (cond d unbounded (excluded k)) unbounded longest longest))))
of-key l k n w true b c d = w
of-key l k n w false true c d = w
of-key l k n w false false true true = tt
of-key l k n w false false true false = w
of-key l k n w false false false d = tt

of-value : (l k v : Bytes) (n : ℕ) → ((i : ℕ) × (j : ℕ) × (suc i ≤ j) × (k ≡ part l i (j - 1 - i)) × Rest l j v) → (a : Bool) → CallWithin l (given a (put n k v))
of-value l k v n w true = w
of-value l k v n w false = tt

call-within : (l : Bytes) (fs : List Bytes) → pieces 32 l ≡ fs → CallWithin l (line_call fs)
unfolding line_call from_of
call-within l [] e = tt
call-within l (f ∷ []) e = of-letter l (is f 98) (is f 122)
call-within l (f ∷ (h ∷ [])) e = of-handle l (decimal_from 0 h) (is f 99 && is_handle h) (is f 101 && is_handle h)
call-within l (f ∷ (h ∷ (k ∷ []))) e =
    of-key l k (decimal_from 0 h) (key-last l f h k e) (is f 103 && (is_handle h && is_word k)) (is f 100 && (is_handle h && is_word k))
    (is f 102 && (is_handle h && (is_word k || is k 45))) (is k 45)
call-within l (f ∷ (h ∷ (k ∷ (v ∷ [])))) e =
    of-value l k v (decimal_from 0 h) (key-value l f h k v e) (is f 112 && ((is_handle h && is_word k) && is_word v))
call-within l (f ∷ (h ∷ (k ∷ (v ∷ (x ∷ xs))))) e = tt

-- ---- the places are told by the lengths
last-is : (l : Bytes) (i : ℕ) (b : Bytes) → Rest l i b → last_place l b ≡ i
last-is l i b r = omega (arith, r.0, ap length r.1 ∙ length-drop i l)

before-is : (l : Bytes) (i j : ℕ) (k v : Bytes) → suc i ≤ j → k ≡ part l i (j - 1 - i) → Rest l j v → place_before l k v ≡ i
before-is l i j k v h e r =
    omega (arith, r.0, ap length r.1 ∙ length-drop j l, ap length e ∙ length_part l i (j - 1 - i) (omega (arith, r.0)))

-- a command's key and value start at no other indices
pub places-are : (l : Bytes) (c : Option Command) (ps : List ℕ) → Within l c ps → ps ≡ places l c
places-are l None ps w = w
places-are l (Some command.Begin) ps w = w
places-are l (Some (command.Get h k)) ps w = w.1 ∙ ap (λ (m : ℕ). m ∷ []) (sym (last-is l w.0 k.now w.2))
places-are l (Some (command.Put h k v)) ps w =
    w.2 ∙ ap₂ (λ (m n : ℕ). m ∷ (n ∷ [])) (sym (before-is l w.0 w.1 k.now v.now w.3 w.4 w.5)) (sym (last-is l w.1 v.now w.5))
places-are l (Some (command.Delete h k)) ps w = w.1 ∙ ap (λ (m : ℕ). m ∷ []) (sym (last-is l w.0 k.now w.2))
places-are l (Some (command.First h)) ps w = w
places-are l (Some (command.Above h k)) ps w = w.1 ∙ ap (λ (m : ℕ). m ∷ []) (sym (last-is l w.0 k.now w.2))
places-are l (Some (command.Commit h)) ps w = w
places-are l (Some (command.End h)) ps w = w
places-are l (Some command.Freeze) ps w = w

within-call : (l : Bytes) (c : Option Command) → CallWithin l (call_of c) → Within l c (places l c)
within-call l None w = refl
within-call l (Some command.Begin) w = refl
within-call l (Some (command.Get h k)) w = (w.0, ap (λ (m : ℕ). m ∷ []) (last-is l w.0 k.now w.1), w.1)
within-call l (Some (command.Put h k v)) w =
    (w.0, w.1, ap₂ (λ (m n : ℕ). m ∷ (n ∷ [])) (before-is l w.0 w.1 k.now v.now w.2 w.3 w.4) (last-is l w.1 v.now w.4), w.2, w.3, w.4)
within-call l (Some (command.Delete h k)) w = (w.0, ap (λ (m : ℕ). m ∷ []) (last-is l w.0 k.now w.1), w.1)
within-call l (Some (command.First h)) w = refl
within-call l (Some (command.Above h k)) w = (w.0, ap (λ (m : ℕ). m ∷ []) (last-is l w.0 k.now w.1), w.1)
within-call l (Some (command.Commit h)) w = refl
within-call l (Some (command.End h)) w = refl
within-call l (Some command.Freeze) w = refl

-- ---- a line's command lies within the line
pub line-within : (l : Bytes) (c : Option Command) → call_of c ≡ line_call (pieces 32 l) → (call_of c ≡ line_call (pieces 32 l)) × Within l c (places l c)
line-within l c e = (e, within-call l c (subst (CallWithin l) (sym e) (call-within l (pieces 32 l) refl)))
