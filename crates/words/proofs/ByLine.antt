-- The lines of a script, one after the other, each by the place of the LF behind it.
-- Assumes nothing.
use Rattle.std.proofs.Common.{arith}
use mathlib.Core.Path.{◌≡◌, refl, sym, ap, ◌∙◌}
use mathlib.Core.Bool.{Bool, true, false, cond, not}
use mathlib.Core.List.{List, [], ◌∷◌}
use Prim.Native.Nat.{ℕ, ◌+◌, ◌-◌, ◌≤◌, ◌<◌}
use lib.ListN.{length, take, drop, length-drop}
use lib.Seq.{take_all}
use lib.Dec.{ltb, eqb}
use borrow.Author.Tests.{ltb-true, ltb-false}
use Rattle.std.specs.Prelude.{Option, Some, None}
use Rattle.std.specs.List.{slice_split, position_or_len, prefix_len}
use Rattle.std.proofs.lemmas.List.Splits.{slice_split_first}
use Rattle.paper.specs.Lists.{is_empty}
use Rattle.paper.specs.Keys.{Bytes}
use Rattle.paper.specs.Replay.{prepended, pieces, lines_of}
use Rattle.words.specs.Lines.{lines_in}
use Rattle.words.proofs.Pieces.{pieces-are}

abbrev pub is_end : ℕ → Bool
is_end b = eqb b 10

-- what the library's `position` of an LF answers
abbrev pub end_of : Bytes → Option ℕ
end_of s = cond (ltb (position_or_len is_end s) (length s)) (Some (position_or_len is_end s)) None

found : (t : Bool) (n e : ℕ) → cond t (Some n) None ≡ Some e → (t ≡ true) × (n ≡ e)
found true n e h = (refl, cc)
found false n e h = (cc, cc)

missed : (t : Bool) (n : ℕ) → cond t (Some n) None ≡ None → t ≡ false
missed true n h = cc
missed false n h = refl

-- there is always a piece
pieces-some : (s : Bytes) → is_empty (pieces 10 s) ≡ false
unfolding pieces
pieces-some [] = refl
pieces-some (b ∷ bs) = go (eqb b 10) (pieces 10 bs)
  where
    go : (t : Bool) (ps : List Bytes) → is_empty (cond t ([] ∷ ps) (prepended b ps)) ≡ false
    go true ps = refl
    go false [] = refl
    go false (p ∷ ps) = refl

-- and one alone where there is no LF
pieces-only : (s : Bytes) → length s ≤ position_or_len is_end s → pieces 10 s ≡ s ∷ []
unfolding pieces
pieces-only [] h = refl
pieces-only (b ∷ bs) h = go (eqb b 10) (pieces-only bs) h
  where
    go : (t : Bool) → (length bs ≤ position_or_len is_end bs → pieces 10 bs ≡ bs ∷ []) → length (b ∷ bs) ≤ cond (not t) (1 + prefix_len (λ x. not (is_end x)) bs) 0
        → cond t ([] ∷ pieces 10 bs) (prepended b (pieces 10 bs)) ≡ (b ∷ bs) ∷ []
    go true ih h = absurd (omega arith)
    go false ih h = ap (prepended b) (ih (omega arith))

-- a piece in front of others is a line
before : (l : Bytes) (ps : List Bytes) → is_empty ps ≡ false → lines_of (l ∷ ps) ≡ l ∷ lines_of ps
unfolding lines_of
before l [] e = cc
before [] (m ∷ ms) e = refl
before (b ∷ bs) (m ∷ ms) e = refl

-- a last piece is a line where it is not empty
only : (l : Bytes) → 0 < length l → lines_of (l ∷ []) ≡ l ∷ []
unfolding lines_of
only [] h = absurd (omega arith)
only (b ∷ bs) h = refl

-- ---- what is left to read
pub lines-none : (s : Bytes) → length s ≡ 0 → lines_in s ≡ []
unfolding lines_in lines_of pieces
lines-none [] e = refl
lines-none (b ∷ bs) e = absurd (omega arith)

pub lines-more : (s : Bytes) (e : ℕ) → end_of s ≡ Some e → lines_in s ≡ take e s ∷ lines_in (take (length s - (e + 1)) (drop (e + 1) s))
unfolding lines_in
lines-more s e q =
    let w = found (ltb (position_or_len is_end s) (length s)) (position_or_len is_end s) e q in
    let p : pieces 10 s ≡ take e s ∷ pieces 10 (drop (e + 1) s) =
    sym (pieces-are 10 s) ∙ slice_split_first is_end s 0 (ltb-true (position_or_len is_end s) (length s) w.0)
    ∙ ap (λ (n : ℕ). take n s ∷ slice_split is_end (drop (n + 1) s)) w.1
    ∙ ap (λ (ps : List Bytes). take e s ∷ ps) (pieces-are 10 (drop (e + 1) s)) in
    ap lines_of p ∙ before (take e s) (pieces 10 (drop (e + 1) s)) (pieces-some (drop (e + 1) s))
    ∙ ap (λ (x : Bytes). take e s ∷ lines_of (pieces 10 x)) (sym (take_all (length s - (e + 1)) (drop (e + 1) s) (simp length-drop (omega arith))))

pub lines-last : (s : Bytes) → 0 < length s → end_of s ≡ None → lines_in s ≡ s ∷ lines_in []
unfolding lines_in
lines-last s h q =
    let t = ltb-false (position_or_len is_end s) (length s) (missed (ltb (position_or_len is_end s) (length s)) (position_or_len is_end s) q) in
    ap lines_of (pieces-only s t) ∙ only s h ∙ ap (λ (ls : List Bytes). s ∷ ls) (sym (lines-none [] refl))

-- ---- how many there are
pieces-count : (s : Bytes) → length (pieces 10 s) ≤ length s + 1
unfolding pieces
pieces-count [] = omega arith
pieces-count (b ∷ bs) = go (eqb b 10) (pieces 10 bs) (pieces-count bs)
  where
    go : (t : Bool) (ps : List Bytes) → length ps ≤ length bs + 1 → length (cond t ([] ∷ ps) (prepended b ps)) ≤ length (b ∷ bs) + 1
    go true ps h = omega arith
    go false [] h = omega arith
    go false (p ∷ ps) h = omega arith

no-more-lines : (ps : List Bytes) → length (lines_of ps) ≤ length ps
unfolding lines_of
no-more-lines [] = omega arith
no-more-lines ([] ∷ []) = omega arith
no-more-lines ((b ∷ bs) ∷ []) = omega arith
no-more-lines (l ∷ (m ∷ ms)) = omega (arith, no-more-lines (m ∷ ms))

-- no more than there are bytes, and one
pub lines-count : (s : Bytes) → length (lines_in s) ≤ length s + 1
unfolding lines_in
lines-count s = omega (arith, no-more-lines (pieces 10 s), pieces-count s)
