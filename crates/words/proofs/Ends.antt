-- The pieces between separators and the lines of a script, each by the place of its end.
-- Assumes nothing.
use native.Mathlib.Omega.{arith}
use mathlib.Core.Path.{◌≡◌, refl, sym, ap, ◌∙◌}
use mathlib.Core.Bool.{Bool, true, false, cond}
use mathlib.Core.List.{List, [], ◌∷◌}
use Prim.Native.Nat.{ℕ, suc, ◌+◌, ◌-◌, ◌≤◌, ◌<◌}
use lib.ListN.{length, take, drop, length-drop, drop_of_length-le}
use lib.Seq.{take_all, drop-drop}
use lib.Dec.{eqb, ltb}
use borrow.Author.Tests.{ltb-true, ltb-false}
use Rattle.paper.specs.Lists.{is_empty}
use Rattle.paper.specs.Keys.{Bytes}
use Rattle.paper.specs.Replay.{prepended, pieces, lines_of}
use Rattle.raw.specs.Bytes.{part}
use Rattle.words.specs.Fields.{up_to}

-- ---- the bytes before the first separator
pub up_to-short : (sep : ℕ) (s : Bytes) → length (up_to sep s) ≤ length s
unfolding up_to
up_to-short sep [] = omega arith
up_to-short sep (b ∷ bs) = go (eqb b sep) (up_to-short sep bs)
  where
    go : (t : Bool) → length (up_to sep bs) ≤ length bs → length (cond t [] (b ∷ up_to sep bs)) ≤ suc (length bs)
    go true h = omega arith
    go false h = omega arith

pub up_to-front : (sep : ℕ) (s : Bytes) → take (length (up_to sep s)) s ≡ up_to sep s
unfolding up_to
up_to-front sep [] = refl
up_to-front sep (b ∷ bs) = go (eqb b sep) (up_to-front sep bs)
  where
    go : (t : Bool) → take (length (up_to sep bs)) bs ≡ up_to sep bs → take (length (cond t [] (b ∷ up_to sep bs))) (b ∷ bs) ≡ cond t [] (b ∷ up_to sep bs)
    go true e = refl
    go false e = ap (λ (x : Bytes). b ∷ x) e

pub up_to-whole : (sep : ℕ) (s : Bytes) → length s ≤ length (up_to sep s) → up_to sep s ≡ s
up_to-whole sep s h = sym (up_to-front sep s) ∙ take_all (length (up_to sep s)) s h

-- ---- the pieces
-- the first piece is what stands before the first separator
pub pieces-first : (sep : ℕ) (s : Bytes) → (ps : List Bytes) × (pieces sep s ≡ up_to sep s ∷ ps)
unfolding pieces up_to
pieces-first sep [] = ([], refl)
pieces-first sep (b ∷ bs) = go (eqb b sep) (pieces-first sep bs)
  where
    go : (t : Bool) → ((ps : List Bytes) × (pieces sep bs ≡ up_to sep bs ∷ ps))
        → (ps : List Bytes) × (cond t ([] ∷ pieces sep bs) (prepended b (pieces sep bs)) ≡ cond t [] (b ∷ up_to sep bs) ∷ ps)
    go true h = (pieces sep bs, refl)
    go false h = (h.0, ap (prepended b) h.1)

-- there is no separator
pub pieces-only : (sep : ℕ) (s : Bytes) → length s ≤ length (up_to sep s) → pieces sep s ≡ up_to sep s ∷ []
unfolding pieces up_to
pieces-only sep [] h = refl
pieces-only sep (b ∷ bs) h = go (eqb b sep) (pieces-only sep bs) h
  where
    go : (t : Bool) → (length bs ≤ length (up_to sep bs) → pieces sep bs ≡ up_to sep bs ∷ []) → suc (length bs) ≤ length (cond t [] (b ∷ up_to sep bs))
        → cond t ([] ∷ pieces sep bs) (prepended b (pieces sep bs)) ≡ cond t [] (b ∷ up_to sep bs) ∷ []
    go true ih h = absurd (omega arith)
    go false ih h = ap (prepended b) (ih (omega arith))

pub pieces-last : (sep : ℕ) (s : Bytes) → length (up_to sep s) ≡ length s → pieces sep s ≡ s ∷ []
pieces-last sep s e =
    let h : length s ≤ length (up_to sep s) = omega arith in
    pieces-only sep s h ∙ ap (λ (x : Bytes). x ∷ []) (up_to-whole sep s h)

-- there is one
pub pieces_more : (sep : ℕ) (s : Bytes) → length (up_to sep s) < length s → pieces sep s ≡ up_to sep s ∷ pieces sep (drop (suc (length (up_to sep s))) s)
unfolding pieces up_to
pieces_more sep [] h = absurd (omega arith)
pieces_more sep (b ∷ bs) h = go (eqb b sep) (pieces_more sep bs) h
  where
    go : (t : Bool) → (length (up_to sep bs) < length bs → pieces sep bs ≡ up_to sep bs ∷ pieces sep (drop (suc (length (up_to sep bs))) bs))
        → length (cond t [] (b ∷ up_to sep bs)) < suc (length bs)
        → cond t ([] ∷ pieces sep bs) (prepended b (pieces sep bs)) ≡ cond t [] (b ∷ up_to sep bs) ∷ pieces sep (drop (suc (length (cond t [] (b ∷ up_to sep bs)))) (b ∷ bs))
    go true ih h = refl
    go false ih h = ap (prepended b) (ih (omega arith))

pub pieces-some : (sep : ℕ) (s : Bytes) → is_empty (pieces sep s) ≡ false
pieces-some sep s = ap is_empty (pieces-first sep s).1

-- ---- the pieces from index at on, where e is the end of the first
module _ (sep : ℕ) (s : Bytes) (at e : ℕ) (q : e ≡ at + length (up_to sep (drop at s))) where
  pub from-part : part s at (e - at) ≡ up_to sep (drop at s)
  from-part = let p : e - at ≡ length (up_to sep (drop at s)) = omega arith in ap (λ (n : ℕ). part s at n) p ∙ up_to-front sep (drop at s)

  pub from_last : length s ≤ e → pieces sep (drop at s) ≡ drop at s ∷ []
  from_last h =
      let k : length (drop at s) ≡ length s - at = length-drop at s in
      let l : length (up_to sep (drop at s)) ≤ length (drop at s) = up_to-short sep (drop at s) in
      pieces-last sep (drop at s) (omega arith)

  pub from_more : e < length s → pieces sep (drop at s) ≡ up_to sep (drop at s) ∷ pieces sep (drop (suc e) s)
  from_more h =
      let k : length (drop at s) ≡ length s - at = length-drop at s in
      let f : at + suc (length (up_to sep (drop at s))) ≡ suc e = omega arith in
      pieces_more sep (drop at s) (omega arith)
      ∙ ap (λ (x : Bytes). up_to sep (drop at s) ∷ pieces sep x) (drop-drop (suc (length (up_to sep (drop at s)))) at s ∙ ap (λ (i : ℕ). drop i s) f)

-- ---- the lines

-- a piece in front of others is a line
before : (l : Bytes) (ps : List Bytes) → is_empty ps ≡ false → lines_of (l ∷ ps) ≡ l ∷ lines_of ps
unfolding lines_of
before l [] e = cc
before [] (m ∷ ms) e = refl
before (b ∷ bs) (m ∷ ms) e = refl

-- a last piece is a line where it is not empty
only : (l : Bytes) → 0 < length l → lines_of (l ∷ []) ≡ l ∷ []
unfolding lines_of
only [] h = absurd (omega arith)
only (b ∷ bs) h = refl

-- nothing is no line
none_left : lines_of (pieces 10 []) ≡ []
unfolding lines_of pieces
none_left = refl

pub lines_end : (s : Bytes) (at : ℕ) → length s ≤ at → lines_of (pieces 10 (drop at s)) ≡ []
lines_end s at h = ap (λ (x : Bytes). lines_of (pieces 10 x)) (drop_of_length-le s h) ∙ none_left

-- the line that starts at index at, where e is its end, and the lines behind it
pub lines_next : (s : Bytes) (at e : ℕ) → at < length s → e ≡ at + length (up_to 10 (drop at s))
    → lines_of (pieces 10 (drop at s)) ≡ part s at (e - at) ∷ lines_of (pieces 10 (drop (suc e) s))
lines_next s at e h q = go (ltb e (length s)) refl
  where
    line : (l : Bytes) → l ≡ up_to 10 (drop at s) → ◌≡◌ {A = List Bytes} (l ∷ lines_of (pieces 10 (drop (suc e) s))) (part s at (e - at) ∷ lines_of (pieces 10 (drop (suc e) s)))
    line l r = ap (λ (x : Bytes). x ∷ lines_of (pieces 10 (drop (suc e) s))) (r ∙ sym (from-part 10 s at e q))

    go : (t : Bool) → ltb e (length s) ≡ t → lines_of (pieces 10 (drop at s)) ≡ part s at (e - at) ∷ lines_of (pieces 10 (drop (suc e) s))
    go true r =
        ap lines_of (from_more 10 s at e q (ltb-true e (length s) r)) ∙ before (up_to 10 (drop at s)) (pieces 10 (drop (suc e) s)) (pieces-some 10 (drop (suc e) s))
        ∙ line (up_to 10 (drop at s)) refl
    -- the last line lacks its LF
    go false r =
        let n : length s ≤ e = ltb-false e (length s) r in
        let k : length (drop at s) ≡ length s - at = length-drop at s in
        ap lines_of (from_last 10 s at e q n) ∙ only (drop at s) (omega arith)
        ∙ ap (λ (ls : List Bytes). drop at s ∷ ls) (sym (lines_end s (suc e) (omega arith)))
        ∙ line (drop at s) (sym (up_to-whole 10 (drop at s) (omega arith)))
