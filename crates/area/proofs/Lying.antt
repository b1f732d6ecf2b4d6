-- Images that lie one after the other in a buffer, each with its length in front: the first, and those behind it.
-- Assumes nothing.
use native.Mathlib.Omega.{arith}
use mathlib.Core.Path.{◌≡◌, refl, sym, ap, ap₂, ◌∙◌, subst}
use mathlib.Core.Bool.{true}
use mathlib.Core.Option.{Option, none, some}
use mathlib.Core.List.{List, ◌∷◌, ◌++◌, append_assoc, reverse}
use Prim.Native.Nat.{ℕ, ◌+◌, ◌-◌, ◌≤◌}
use lib.ListN.{length, take, drop, length-append}
use lib.Seq.{take_at, drop_at}
use Rattle.paper.specs.Keys.{Bytes, octets}
use Rattle.paper.specs.Runs.{Run}
use Rattle.paper.specs.Image.{big_endian, image_of, number_from}
use Rattle.paper.proofs.ImageLaws.{length-big_endian}
use Rattle.raw.specs.Bytes.{part}
use Rattle.raw.proofs.Parts.{length_part, take_part, part-part, drop-part, part_right}
use Rattle.raw.proofs.Octets.{octets-part}
use Rattle.layout.specs.Codec.{put_all, many, sized, whole_via}
use Rattle.layout.specs.Layout.{image, images_whole}
use Rattle.layout.proofs.Streams.{All, Formed}
use Rattle.layout.proofs.LayoutLaws.{OkSized}
use Rattle.layout.proofs.Places.{number_of}
use Rattle.layout.proofs.Sizes.{sized-put}
use Rattle.area.proofs.AreaLaws.{whole-images}

-- the images of ys, as they lie from i to end
pub record Lying (s : Bytes) (i end : ℕ) (ys : List Run) : Type 0 where
  pub ahead : i ≤ end
  pub inside : end ≤ length s
  pub bytes : part s i (end - i) ≡ put_all (sized 8 image) ys
  pub good : All OkSized ys

-- the first of them, and the others
pub record Foremost (s : Bytes) (i end : ℕ) (y : Run) (ys : List Run) : Type 0 where
  pub size : number_from 0 (part s i 8) ≡ length (image_of y)
  pub fits : i + 8 + length (image_of y) ≤ end
  pub here : part s (i + 8) (length (image_of y)) ≡ image_of y
  pub behind : Lying s (i + 8 + length (image_of y)) end ys

-- a number, that many bytes, and others
module _ (q n f r : Bytes) (e : q ≡ (n ++ f) ++ r) (l : length n ≡ 8) where
  long : length q ≡ 8 + length f + length r
  long = omega (arith, ap (λ (b : Bytes). length b) e, length-append (n ++ f) r, length-append n f)

  number-front : take 8 q ≡ n
  number-front = ap (take 8) (e ∙ append_assoc n f r) ∙ take_at n (f ++ r) 8 l

  bytes_next : part q 8 (length f) ≡ f
  bytes_next =
      let z : 8 ≡ length n + 0 = omega arith in
      ap₂ (λ (b : Bytes) (j : ℕ). part b j (length f)) (e ∙ append_assoc n f r) z ∙ part_right n (f ++ r) 0 (length f) ∙ take_at f r (length f) refl

  others-last : drop (8 + length f) q ≡ r
  others-last = ap (drop (8 + length f)) e ∙ drop_at (n ++ f) r (8 + length f) (length-append n f ∙ ap (λ (m : ℕ). m + length f) l)

module _ (s : Bytes) (i end : ℕ) where
  pub foremost : (y : Run) (ys : List Run) → Lying s i end (y ∷ ys) → Foremost s i end y ys
  unfolding put_all image
  foremost y ys h =
      let f : Bytes = image_of y in
      let n : Bytes = big_endian 8 (length f) in
      let r : Bytes = put_all (sized 8 image) ys in
      let q : Bytes = part s i (end - i) in
      let e : q ≡ (n ++ f) ++ r = h.bytes ∙ ap (λ (b : Bytes). b ++ r) (sized-put image 8 y) in
      let l : length n ≡ 8 = length-big_endian 8 (length f) in
      let a = h.ahead in
      let w : length q ≡ end - i = length_part s i (end - i) (omega (arith, h.inside)) in
      let v : length q ≡ 8 + length f + length r = long q n f r e l in
      let d : i + (8 + length f) ≡ i + 8 + length f = omega arith in
      let m : end - i - (8 + length f) ≡ end - (i + 8 + length f) = omega arith in
      record {
        size =
            ap (number_from 0) (sym (take_part s i (end - i) 8 (omega arith)) ∙ number-front q n f r e l) ∙ number_of (length f) h.good.0.1;
        fits = omega arith;
        here = sym (part-part s i (end - i) 8 (length f) (omega arith)) ∙ bytes_next q n f r e l;
        behind =
            record {
              ahead = omega arith;
              inside = h.inside;
              bytes = ap₂ (λ (j k : ℕ). part s j k) (sym d) (sym m) ∙ sym (drop-part s i (end - i) (8 + length f)) ∙ others-last q n f r e l;
              good = h.good.1;
            };
      }

  -- images that read: the last in run order lies first
  pub lying-read : octets s ≡ true → i ≤ end → end ≤ length s → (fs : List Run) → images_whole.parse (part s i (end - i)) ≡ some fs → Lying s i end (reverse fs)
  unfolding images_whole whole_via many
  lying-read o a b fs e = go (images_whole.parse (part s i (end - i))) (whole-images.again (part s i (end - i)) (octets-part s i (end - i) o)) e
    where
      go : (q : Option (List Run)) → Formed images_whole.form (λ rs. All OkSized (reverse rs)) (part s i (end - i)) q → q ≡ some fs → Lying s i end (reverse fs)
      go none f e = cc
      go (some rs) f e = let g : rs ≡ fs = cc in subst (λ (xs : List Run). Lying s i end (reverse xs)) g (record { ahead = a; inside = b; bytes = f.0; good = f.1 })
