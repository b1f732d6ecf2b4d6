-- A value with the number of its bytes in front, in a buffer that may end before it does.
-- Assumes nothing.
use native.Mathlib.Omega.{arith}
use Rattle.std.specs.Prelude as std
use Rattle.std.specs.Prelude.{MatchOption}
use Rattle.std.specs.List.{IsSplitAt}
use denote.Bor.{Bor}
use mathlib.Core.Path.{◌≡◌, refl, sym, ap, ap₂, ◌∙◌}
use mathlib.Core.Option.{Option, none, some}
use Prim.Native.Nat.{ℕ, ◌+◌, ◌-◌, ◌≤◌, ◌<◌}
use lib.ListN.{length, take, drop, length-take, length-drop}
use lib.Seq.{take_all, drop-drop}
use Rattle.paper.specs.Keys.{Bytes}
use Rattle.paper.specs.Image.{number, bytes, number_from, after, ◌>>=◌}
use Rattle.raw.specs.Bytes.{part}
use Rattle.raw.proofs.Parts.{length_part, take_part, part-part, drop-part}
use Rattle.key.proofs.Records.{bytes-here, bytes_cut, number-here, number_cut}
use Rattle.layout.specs.Codec.{Whole, lift, sized, plain, first_of}
use Rattle.run.proofs.Reading.{part-rest}
use Rattle.area.specs.Told.{Split}

-- what was read, without the bytes after it
pub first-lift : {A : Type 0} (o : Option A) (r : Bytes) → first_of (lift o r) ≡ o
first-lift none r = refl
first-lift (some a) r = refl

module _ {A : Type 0} (W : Whole A) (s : Bytes) (at end : ℕ) (fit : end ≤ length s) where
  q : Bytes
  q = part s at (end - at)

  long : at ≤ end → length q ≡ end - at
  unfolding q
  long h = length_part s at (end - at) (omega arith)

  -- the number is not all there
  pub sized-short : at ≤ end → end - at < 8 → (sized 8 W).get (part s at (end - at)) ≡ none
  unfolding sized q
  sized-short h l = ap (λ o. after o (λ n. bytes n >>= λ x. lift (W.parse x))) (number_cut q 0 8 (omega (arith, long h)))

  module _ (h : at + 8 ≤ end) (n : ℕ) (e : n ≡ number_from 0 (part s at 8)) where
    read_number : number 8 (part s at (end - at)) ≡ some (n, drop 8 (part s at (end - at)))
    unfolding q
    read_number =
        number-here q 0 8 (omega (arith, long (omega arith)))
        ∙ ap (λ (m : ℕ). some (m, drop 8 q)) (ap (number_from 0) (take_part s at (end - at) 8 (omega arith)) ∙ sym e)

    read-sized : (sized 8 W).get (part s at (end - at)) ≡ after (bytes n (drop 8 (part s at (end - at)))) (λ x. lift (W.parse x))
    unfolding sized
    read-sized = ap (λ o. after o (λ m. bytes m >>= λ x. lift (W.parse x))) read_number

    -- the bytes end before the value does
    pub sized-cut : end - (at + 8) < n → (sized 8 W).get (part s at (end - at)) ≡ none
    unfolding q
    sized-cut l = read-sized ∙ ap (λ o. after o (λ x. lift (W.parse x))) (bytes_cut q 8 n (omega (arith, long (omega arith))))

    -- the value, and the bytes after it
    pub sized-here : at + 8 + n ≤ end → (sized 8 W).get (part s at (end - at)) ≡ lift (W.parse (part s (at + 8) n)) (part s (at + 8 + n) (end - (at + 8 + n)))
    unfolding q
    sized-here l =
        let d : at + (8 + n) ≡ at + 8 + n = omega arith in
        let m : end - at - (8 + n) ≡ end - (at + 8 + n) = omega arith in
        read-sized
        ∙ ap (λ o. after o (λ x. lift (W.parse x))) (bytes-here q 8 n (omega (arith, long (omega arith))))
        ∙ ap₂ (λ (x r : Bytes). lift (W.parse x) r) (part-part s at (end - at) 8 n (omega arith)) (drop-part s at (end - at) (8 + n) ∙ ap₂ (λ (i j : ℕ). part s i j) d m)

-- ---- the bytes themselves, and what they read as
sized-of : {A : Type 0} (W : Whole A) (b : Bytes) → (sized 8 W).get b ≡ after ((sized 8 plain).get b) (λ x. lift (W.parse x))
unfolding sized plain
sized-of W b = go (number 8 b)
  where
    go : (o : Option (ℕ × Bytes)) → after o (λ n. bytes n >>= λ x. lift (W.parse x)) ≡ after (after o (λ n. bytes n >>= λ x. lift (some x))) (λ x. lift (W.parse x))
    go none = refl
    go (some (n, r)) = read (bytes n r)
      where
        read : (o : Option (Bytes × Bytes)) → after o (λ x. lift (W.parse x)) ≡ after (after o (λ x. lift (some x))) (λ x. lift (W.parse x))
        read none = refl
        read (some (x, s)) = refl

module _ {A : Type 0} (W : Whole A) (b : Bytes) where
  pub sized-none : (sized 8 plain).get b ≡ none → (sized 8 W).get b ≡ none
  sized-none e = sized-of W b ∙ ap (λ o. after o (λ x. lift (W.parse x))) e

  pub sized-some : (x r : Bytes) → (sized 8 plain).get b ≡ some (x, r) → (sized 8 W).get b ≡ lift (W.parse x) r
  sized-some x r e = sized-of W b ∙ ap (λ o. after o (λ y. lift (W.parse y))) e

-- ---- bytes split behind their number
module _ (b : Bytes) where
  pub split-short : length b < 8 → (sized 8 plain).get b ≡ none
  split-short h = ap (sized 8 plain).get (sym (part-rest b 0)) ∙ sized-short plain b 0 (length b) (omega arith) (omega arith) (omega arith)

  module _ (size rest : Bytes) (s : size ≡ take 8 b) (t : rest ≡ drop 8 b) (h : 8 ≤ length b) (n : ℕ) (e : n ≡ number_from 0 (part size 0 8)) where
    count : n ≡ number_from 0 (part b 0 8)
    count = e ∙ ap (number_from 0) (ap (take 8) s ∙ take_all 8 (take 8 b) (omega (arith, length-take 8 b)))

    pub split-cut : length rest < n → (sized 8 plain).get b ≡ none
    split-cut l = ap (sized 8 plain).get (sym (part-rest b 0)) ∙ sized-cut plain b 0 (length b) (omega arith) (omega arith) n count (omega (arith, ap (λ (u : Bytes). length u) t, length-drop 8 b))

    pub split-here : n ≤ length rest → (x r : Bytes) → x ≡ take n rest → r ≡ drop n rest → Split b x r
    unfolding plain
    split-here l x r f g =
        let k : length rest ≡ length b - 8 = ap (λ (u : Bytes). length u) t ∙ length-drop 8 b in
        let p : x ≡ part b 8 n = f ∙ ap (take n) t in
        let q : r ≡ drop (8 + n) b = g ∙ ap (drop n) t ∙ drop-drop n 8 b in
        let m : length x ≡ n = ap (λ (u : Bytes). length u) p ∙ length_part b 8 n (omega arith) in
        let z : 0 + 8 + n ≡ 8 + n = omega arith in
        record {
          read =
              ap (sized 8 plain).get (sym (part-rest b 0)) ∙ sized-here plain b 0 (length b) (omega arith) (omega arith) n count (omega (arith, k))
              ∙ ap₂ (λ (u v : Bytes). some (u, v)) (sym p) (ap (λ (i : ℕ). part b i (length b - i)) z ∙ part-rest b (8 + n) ∙ sym q);
          here = p ∙ ap (part b 8) (sym m);
          behind = q ∙ ap (λ (i : ℕ). drop (8 + i) b) (sym m);
          count = m ∙ count;
          size = omega (arith, m, ap (λ (u : Bytes). length u) q, length-drop (8 + n) b, k);
        }

    pub split-told : (r : std.Option (Bor Bytes × Bor Bytes)) → MatchOption r (length rest < n) (λ p. IsSplitAt rest n p.0.now p.1.now)
        → MatchOption r ((sized 8 plain).get b ≡ none) (λ p. Split b p.0.now p.1.now)
    split-told std.None l = split-cut l
    split-told (std.Some p) f = split-here f.0 p.0.now p.1.now f.1 f.2
