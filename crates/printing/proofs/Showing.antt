-- Laws of a text in an out buffer: the buffer keeps its length, texts shown one behind the other are one text, and a text that fits is shown whole.
-- Assumes nothing.
use native.Mathlib.Omega.{arith}
use native.Mathlib.Nat.{suc-sub-suc, sub-zero, add-zero, zero-min, suc-min-suc}
use mathlib.Core.Path.{◌≡◌, refl, sym, ap, ap₂, ◌∙◌}
use mathlib.Core.Bool.{Bool, true, false}
use mathlib.Core.List.{[], ◌∷◌, ◌++◌}
use Prim.Native.Nat.{ℕ, zero, suc, ◌+◌, ◌-◌, ◌≤◌, min}
use borrow.Author.Tests.{leb-true, leb-false}
use lib.Dec.{leb}
use lib.ListN.{length, take, length-append, length-take}
use lib.Seq.{take_all, take-nil}
use Rattle.paper.specs.Keys.{Bytes}
use Rattle.raw.specs.Bytes.{over}
use Rattle.raw.proofs.Over.{over_none, over-after, length_over}
use Rattle.printing.specs.Shown.{fitting, shown}
use Rattle.printing.specs.Shows.{Shows}
use Rattle.printing.specs.declared.Page.{Page}

-- ---- the first bytes of a text

-- no more than there are
take-least : (n : ℕ) (x : Bytes) → take (min n (length x)) x ≡ take n x
take-least zero x = ap (λ (m : ℕ). take m x) (zero-min (length x))
take-least (suc n) [] = take-nil (min (suc n) 0)
take-least (suc n) (b ∷ x) = ap (λ (m : ℕ). take m (b ∷ x)) (suc-min-suc n (length x)) ∙ ap {B = Bytes} (λ t. b ∷ t) (take-least n x)

-- of two texts: of the second as many as the first leaves over
take-both : (n : ℕ) (x y : Bytes) → take n (x ++ y) ≡ take n x ++ take (n - length (take n x)) y
take-both zero x y = ap (λ (m : ℕ). take m y) (sym (sub-zero 0))
take-both (suc n) [] y = ap (λ (m : ℕ). take m y) (sym (sub-zero (suc n)))
take-both (suc n) (b ∷ x) y =
    ap {B = Bytes} (λ t. b ∷ t) (take-both n x y ∙ ap (λ (m : ℕ). take n x ++ take m y) (sym (suc-sub-suc n (length (take n x)))))

-- ---- what fits

-- past the end nothing
none-fits : (out : Bytes) (at : ℕ) (x : Bytes) → length out ≤ at → fitting out at x ≡ []
unfolding fitting
none-fits out at x h =
    let z : length out - at ≡ 0 = omega arith in
    ap (λ (n : ℕ). take n x) z

length-fitting : (out : Bytes) (at : ℕ) (x : Bytes) → length (fitting out at x) ≤ length out - at
unfolding fitting
length-fitting out at x = rw length-take (omega arith)

-- of two texts: of the second as much as the first leaves room for, in any buffer that is as long
fitting-both : (out l : Bytes) (at : ℕ) (x y : Bytes) → length l ≡ length out
    → fitting out at x ++ fitting l (at + length (fitting out at x)) y ≡ fitting out at (x ++ y)
unfolding fitting
fitting-both out l at x y e =
    let f : Bytes = take (length out - at) x in
    let n : length l - (at + length f) ≡ length out - at - length f = omega arith in
    ap (λ (m : ℕ). f ++ take m y) n ∙ sym (take-both (length out - at) x y)

-- ---- what is shown

both : {a b : Bytes} {m n : ℕ} → a ≡ b → m ≡ n → ◌≡◌ {A = Bytes × ℕ} (a, m) (b, n)
both e f = ap₂ {C = Bytes × ℕ} (λ a m. (a, m)) e f

module _ (out : Bytes) (at : ℕ) where
  -- where nothing fits
  shown-none : (x : Bytes) → fitting out at x ≡ [] → shown out at x ≡ (out, at)
  unfolding shown
  shown-none x e = both (ap (over out at) e ∙ sym (over_none out at)) (ap (λ (t : Bytes). at + length t) e ∙ add-zero at)

  pub shown-nothing : shown out at [] ≡ (out, at)
  unfolding fitting
  shown-nothing = shown-none [] (take-nil (length out - at))

  -- past the end
  pub shown-past : (x : Bytes) → length out ≤ at → shown out at x ≡ (out, at)
  shown-past x h = shown-none x (none-fits out at x h)

  -- a text that fits
  pub shown-whole : (x : Bytes) → at + length x ≤ length out → shown out at x ≡ (over out at x, at + length x)
  unfolding shown fitting
  shown-whole x h =
      let e : take (length out - at) x ≡ x = take_all (length out - at) x (omega arith) in
      both (ap (over out at) e) (ap (λ (t : Bytes). at + length t) e)

  -- as many bytes as there is room for, copied
  pub shown-copied : (l x : Bytes) (n : ℕ) → n ≡ min (length out - at) (length x) → l ≡ over out at (take n x) → ◌≡◌ {A = Bytes × ℕ} (l, at + n) (shown out at x)
  unfolding shown fitting
  shown-copied l x n e f =
      both (f ∙ ap (over out at) (ap (λ (m : ℕ). take m x) e ∙ take-least (length out - at) x)) (ap (λ (m : ℕ). at + m) (e ∙ sym (length-take (length out - at) x)))

  pub shown-length : (x : Bytes) → length (shown out at x).0 ≡ length out
  unfolding shown
  shown-length x = go (leb at (length out)) refl
    where
      go : (b : Bool) → leb at (length out) ≡ b → length (shown out at x).0 ≡ length out
      go true e =
          let h : at ≤ length out = leb-true at (length out) e in
          length_over out at (fitting out at x) (omega (arith, length-fitting out at x))
      go false e =
          let h : length out ≤ at = omega (arith, leb-false at (length out) e) in
          ap (λ (p : Bytes × ℕ). length p.0) (shown-past x h)

  -- two texts, one behind the other
  pub shown-more : (x y : Bytes) → shown (shown out at x).0 (shown out at x).1 y ≡ shown out at (x ++ y)
  unfolding shown
  shown-more x y = go (leb at (length out)) refl
    where
      go : (b : Bool) → leb at (length out) ≡ b → shown (shown out at x).0 (shown out at x).1 y ≡ shown out at (x ++ y)
      go true e =
          let f : Bytes = fitting out at x in
          let g : Bytes = fitting (over out at f) (at + length f) y in
          let w : f ++ g ≡ fitting out at (x ++ y) = fitting-both out (over out at f) at x y (shown-length x) in
          let n : at + length f + length g ≡ at + length (f ++ g) = omega (arith, length-append f g) in
          both (over-after out at f (leb-true at (length out) e) (at + length f) g refl ∙ ap (over out at) w) (n ∙ ap (λ (t : Bytes). at + length t) w)
      go false e =
          let h : length out ≤ at = omega (arith, leb-false at (length out) e) in
          ap (λ (p : Bytes × ℕ). shown p.0 p.1 y) (shown-past x h) ∙ shown-past y h ∙ sym (shown-past (x ++ y) h)

  -- what a call leaves that shows y behind what an earlier call showed
  pub shown-then : (x y l k : Bytes) (m n : ℕ) → ◌≡◌ {A = Bytes × ℕ} (l, m) (shown out at x) → ◌≡◌ {A = Bytes × ℕ} (k, n) (shown l m y) → ◌≡◌ {A = Bytes × ℕ} (k, n) (shown out at (x ++ y))
  shown-then x y l k m n e f = f ∙ ap (λ (p : Bytes × ℕ). shown p.0 p.1 y) e ∙ shown-more x y

-- ---- the same of a page
pub shows_both : {p q r : Page} (x y : Bytes) → Shows p q x → Shows q r y → Shows p r (x ++ y)
shows_both {p} x y a b = record { same_buffer = b.same_buffer ∙ a.same_buffer; text = shown-then p.out.now p.at x y _ _ _ _ a.text b.text }

pub shows_as : {p q : Page} {x y : Bytes} → x ≡ y → Shows p q x → Shows p q y
shows_as {p} e a = record { same_buffer = a.same_buffer; text = a.text ∙ ap (shown p.out.now p.at) e }
