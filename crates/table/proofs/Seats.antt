-- Places one after the other, as `chunks_exact` cuts them off a slice: the same places as the slice's own words count.
-- Assumes nothing.
use Prim.Native.Nat.{ℕ, zero, suc, ◌+◌, ◌*◌, ◌/◌, ◌%◌, ◌<◌, ◌≤◌}
use native.Mathlib.Omega.{arith}
use native.Mathlib.Nat.{suc-mul, zero-mul}
use mathlib.Core.Path.{◌≡◌, refl, sym, ap, ap₂, ◌∙◌, subst}
use mathlib.Core.Bool.{Bool, true, false, not, cond}
use mathlib.Core.List.{List, [], ◌∷◌, ◌++◌, map}
use mathlib.Core.Option.{Option, none, some}
use lib.ListN.{length, drop, length-append}
use lib.Seq.{take_at, drop_at, drop-drop}
use lib.Dec.{ltb, eqb}
use borrow.Author.Tests.{lt-ltb, le-ltb, ltb-true, ltb-false, eq-eqb, ne_eqb}
use Rattle.std.specs.Prelude.{Some, None}
use Rattle.std.specs.List.{position_or_len}
use Rattle.std.specs.Simd.{first_chunks}
use Rattle.std.specs.Slice.Iter.{chunks_exact_rest, chunks_exact_size, chunks_exact_steps}
use Rattle.std.specs.declared.slice.ChunksExact.{ChunksExact}
use Rattle.std.proofs.lemmas.Nat.{div-add-mod', div-mul-add}
use Rattle.std.proofs.lemmas.Iterator.{YieldsList}
use Rattle.std.proofs.lemmas.Iterator.Splits.{YieldsList-from_shown_while}
use Rattle.paper.specs.Keys.{Bytes}
use Rattle.paper.specs.Lists.{keep, among}
use Rattle.paper.specs.Sound.{distinct}
use Rattle.paper.specs.Image.{number_from}
use Rattle.raw.specs.Bytes.{part}
use Rattle.raw.proofs.Parts.{take_part, part-part}
use Rattle.layout.specs.Codec.{map_option}
use Rattle.table.specs.Places.{tag_at, tags_in, handles_in, reads_in, first_with, placed, found_in}

-- the places that fill b, w bytes each
abbrev pub seats : ℕ → Bytes → List Bytes
seats w b = first_chunks w (length b / w) b

-- ---- one place, and the others
module _ (w : ℕ) (z : 0 < w) where
  pub seats-none : (b : Bytes) → length b < w → seats w b ≡ []
  seats-none b l =
      let e : 0 * w + length b ≡ length b = omega (arith, zero-mul w) in
      ap (λ (n : ℕ). first_chunks w n b) (ap (λ (n : ℕ). n / w) (sym e) ∙ div-mul-add 0 w (length b) l)

  -- how many there are where b is n of them and some bytes that fill none
  many : (b : Bytes) (n r : ℕ) → length b ≡ n * w + r → r < w → length b / w ≡ n
  many b n r e l = ap (λ (m : ℕ). m / w) e ∙ div-mul-add n w r l

  pub seats-more : (x b : Bytes) → length x ≡ w → seats w (x ++ b) ≡ x ∷ seats w b
  seats-more x b e =
      let m : ℕ = length b / w in
      let r : ℕ = length b % w in
      let d : m * w + r ≡ length b = div-add-mod' (length b) w in
      let k : length (x ++ b) ≡ suc m * w + r = omega (arith, length-append x b, suc-mul m w) in
      ap (λ (n : ℕ). first_chunks w n (x ++ b)) (many (x ++ b) (suc m) r k (omega arith))
      ∙ ap₂ (λ (u : Bytes) (v : Bytes). u ∷ first_chunks w m v) (take_at x b w e) (drop_at x b w e)

-- ---- what `chunks_exact` gives
module _ (w : ℕ) (b : Bytes) (z : 0 < w) where
  pub seats-yielded : {s : ChunksExact ℕ} → chunks_exact_size s ≡ w → chunks_exact_rest s ≡ b → YieldsList chunks_exact_steps (λ x. x.now) s (seats w b)
  seats-yielded {s} e f =
      subst (YieldsList chunks_exact_steps (λ x. x.now) s) (ap₂ seats e f)
      (YieldsList-from_shown_while chunks_exact_steps (λ x. x.now) (λ s. seats (chunks_exact_size s) (chunks_exact_rest s)) (λ s. 0 < chunks_exact_size s)
      (λ s t p h. ap length (seats-none (chunks_exact_size s) p (chunks_exact_rest s) h.1.0))
      (λ s x t p h. (
        omega (arith, h.0),
        ap (seats (chunks_exact_size s)) h.1.0 ∙ seats-more (chunks_exact_size s) p x.now (chunks_exact_rest t) h.1.1 ∙ ap (λ (n : ℕ). x.now ∷ seats n (chunks_exact_rest t)) (sym h.0),
      ))
      s (omega (arith, e)))

-- ---- their first bytes
abbrev pub tag_of : Bytes → ℕ
tag_of q = tag_at q 0

same-reads : (t u r s : ℕ) (xs ys : List ℕ) → t ≡ u → r ≡ s → xs ≡ ys → cond (eqb t 0) xs (r ∷ xs) ≡ cond (eqb u 0) ys (s ∷ ys)
same-reads t u r s xs ys e f g = cc

module _ (b : Bytes) (w : ℕ) where
  pub tags-seats : 8 ≤ w → (n at : ℕ) → tags_in b at w n ≡ map tag_of (first_chunks w n (drop at b))
  unfolding tags_in
  tags-seats l zero at = refl
  tags-seats l (suc n) at =
      ap₂ (λ (t : ℕ) (ts : List ℕ). t ∷ ts) (ap (number_from 0) (sym (take_part b at w 8 l)))
      (tags-seats l n (at + w) ∙ ap (λ (u : Bytes). map tag_of (first_chunks w n u)) (sym (drop-drop w at b)))

-- ---- a slice of a state has the state's own places
module _ (b : Bytes) (p m w : ℕ) where
  onward : (j : ℕ) → p + (j + w) ≡ p + j + w
  onward j = omega arith

  pub tags-part : 8 ≤ w → (n j : ℕ) → j + n * w ≤ m → tags_in (part b p m) j w n ≡ tags_in b (p + j) w n
  unfolding tags_in
  tags-part l zero j h = refl
  tags-part l (suc n) j h =
      ap₂ (λ (t : ℕ) (ts : List ℕ). t ∷ ts) (ap (number_from 0) (part-part b p m j 8 (omega (arith, suc-mul n w))))
      (tags-part l n (j + w) (omega (arith, suc-mul n w)) ∙ ap (λ (i : ℕ). tags_in b i w n) (onward j))

  pub reads-part : 16 ≤ w → (n j : ℕ) → j + n * w ≤ m → reads_in (part b p m) j w n ≡ reads_in b (p + j) w n
  unfolding reads_in
  reads-part l zero j h = refl
  reads-part l (suc n) j h =
      same-reads _ _ _ _ _ _ (ap (number_from 0) (part-part b p m j 8 (omega (arith, suc-mul n w))))
      (ap (number_from 0) (part-part b p m (j + 8) 8 (omega (arith, suc-mul n w)) ∙ ap (λ (i : ℕ). part b i 8) (omega arith)))
      (reads-part l n (j + w) (omega (arith, suc-mul n w)) ∙ ap (λ (i : ℕ). reads_in b i w n) (onward j))

-- ---- the first place with a tag is where `position` finds it
module _ (tag : ℕ) where
  abbrev pub with_tag : Bytes → Bool
  with_tag q = eqb (tag_of q) tag

  further : (o : Option ℕ) (c : Bool) (p : ℕ) → placed o ≡ cond c (Some p) None → placed (map_option suc o) ≡ cond c (Some (1 + p)) None
  further none true p e = cc
  further none false p e = refl
  further (some i) true p e = let f : i ≡ p = cc in ap Some (omega (arith, f))
  further (some i) false p e = cc

  past-one : (p n : ℕ) → ltb (1 + p) (suc n) ≡ ltb p n
  past-one p n = go (ltb p n) refl
    where
      go : (c : Bool) → ltb p n ≡ c → ltb (1 + p) (suc n) ≡ c
      go true e = lt-ltb _ _ (omega (arith, ltb-true p n e))
      go false e = le-ltb _ _ (omega (arith, ltb-false p n e))

  first-seat : (qs : List Bytes) → placed (first_with tag (map tag_of qs)) ≡ cond (ltb (position_or_len with_tag qs) (length qs)) (Some (position_or_len with_tag qs)) None
  unfolding first_with
  first-seat [] = refl
  first-seat (q ∷ qs) = go (eqb (tag_of q) tag) (first-seat qs)
    where
      go : (c : Bool) → placed (first_with tag (map tag_of qs)) ≡ cond (ltb (position_or_len with_tag qs) (length qs)) (Some (position_or_len with_tag qs)) None
          → placed (cond c (some 0) (map_option suc (first_with tag (map tag_of qs))))
          ≡ cond (ltb (cond (not c) (1 + position_or_len with_tag qs) 0) (suc (length qs))) (Some (cond (not c) (1 + position_or_len with_tag qs) 0)) None
      go true e = simp (lt-ltb 0 (suc (length qs)) (omega arith))
      go false e = simp (past-one (position_or_len with_tag qs) (length qs)) (further (first_with tag (map tag_of qs)) _ _ e)

  pub found-seat : (b : Bytes) (w : ℕ) → 8 ≤ w
      → cond (ltb (position_or_len with_tag (seats w b)) (length (seats w b))) (Some (position_or_len with_tag (seats w b))) None ≡ found_in b 0 w (length b / w) tag
  unfolding found_in
  found-seat b w l = sym (ap (λ (ts : List ℕ). placed (first_with tag ts)) (tags-seats b w l (length b / w) 0) ∙ first-seat (seats w b))

-- ---- the handles
-- those of the first place and of the others
module _ (w : ℕ) (x b : Bytes) (e : length x ≡ w) (l : 8 ≤ w) where
  abbrev handles : Bytes → List ℕ
  handles q = handles_in q 0 w (length q / w)

  tags-here : (q : Bytes) → tags_in q 0 w (length q / w) ≡ map tag_of (seats w q)
  tags-here q = tags-seats q w l (length q / w) 0

  tags-more : tags_in (x ++ b) 0 w (length (x ++ b) / w) ≡ tag_of x ∷ tags_in b 0 w (length b / w)
  tags-more = tags-here (x ++ b) ∙ ap (map tag_of) (seats-more w (omega arith) x b e) ∙ ap (λ (ts : List ℕ). tag_of x ∷ ts) (sym (tags-here b))

  -- the first is free
  pub distinct-free : tag_of x ≡ 0 → distinct (handles (x ++ b)) ≡ distinct (handles b)
  unfolding handles_in keep
  distinct-free z = ap (λ (ts : List ℕ). distinct (keep (λ t. not (eqb t 0)) ts)) tags-more ∙ simp (eq-eqb (tag_of x) 0 z)

  taken : (tag_of x ≡ 0 → ⊥) → handles (x ++ b) ≡ tag_of x ∷ handles b
  unfolding handles_in keep
  taken z = ap (keep (λ t. not (eqb t 0))) tags-more ∙ simp (ne_eqb (tag_of x) 0 z)

  -- its handle is no other's, or it is
  pub distinct-on : (tag_of x ≡ 0 → ⊥) → among (tag_of x) (handles b) ≡ false → distinct (handles (x ++ b)) ≡ distinct (handles b)
  unfolding distinct
  distinct-on z f = ap distinct (taken z) ∙ simp f

  pub distinct-not : (tag_of x ≡ 0 → ⊥) → among (tag_of x) (handles b) ≡ true → distinct (handles (x ++ b)) ≡ false
  unfolding distinct
  distinct-not z f = ap distinct (taken z) ∙ simp f

pub distinct-none : (w : ℕ) (b : Bytes) → 8 ≤ w → length b < w → distinct (handles_in b 0 w (length b / w)) ≡ true
unfolding distinct handles_in keep
distinct-none w b l h =
    ap (λ (ts : List ℕ). distinct (keep (λ t. not (eqb t 0)) ts)) (tags-seats b w l (length b / w) 0 ∙ ap (map tag_of) (seats-none w (omega arith) b h))
