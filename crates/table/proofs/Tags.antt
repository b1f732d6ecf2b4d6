-- The places by their first bytes, one after the other: the first place with a tag, the handles, and the read numbers.
-- Assumes nothing.
use Prim.Native.Nat.{ℕ, zero, suc, ◌+◌, ◌*◌, ◌-◌, ◌^◌, ◌<◌, ◌≤◌}
use native.Mathlib.Omega.{arith}
use native.Mathlib.Nat.{suc-mul, zero-mul, add-mul, mul-le-mul_right}
use mathlib.Core.Path.{◌≡◌, refl, sym, ap, ap₂, ◌∙◌}
use mathlib.Core.Bool.{Bool, true, false, not, cond}
use mathlib.Core.List.{List, [], ◌∷◌}
use mathlib.Core.Option.{Option, none, some}
use lib.ListN.{length}
use lib.Dec.{eqb}
use borrow.Author.Tests.{eq-eqb, ne_eqb, eqb-true}
use Rattle.paper.specs.Keys.{Bytes, octets}
use Rattle.paper.specs.Lists.{is_some, keep, among}
use Rattle.paper.specs.Image.{number_from}
use Rattle.raw.specs.Bytes.{part}
use Rattle.raw.proofs.Parts.{take_part, part-part}
use Rattle.raw.proofs.Numbers.{number_fits}
use Rattle.layout.specs.Codec.{map_option}
use Rattle.layout.proofs.Streams.{All}
use Rattle.table.specs.Places.{tag_at, read_at, tags_in, handles_in, reads_in, first_with, placed, found_in}
use Rattle.std.specs.Option.{is_some as is_found}

-- ---- a handle among those of the places
among_first : (h : ℕ) → 0 < h → (ts : List ℕ) → among h (keep (λ t. not (eqb t 0)) ts) ≡ is_some (first_with h ts)
unfolding keep among first_with
among_first h z [] = refl
among_first h z (t ∷ ts) = go (eqb t 0) refl (eqb t h) refl (among_first h z ts)
  where
    suc-some : (o : Option ℕ) → is_some (map_option suc o) ≡ is_some o
    suc-some none = refl
    suc-some (some i) = refl

    go : (p : Bool) → eqb t 0 ≡ p → (q : Bool) → eqb t h ≡ q → among h (keep (λ t. not (eqb t 0)) ts) ≡ is_some (first_with h ts)
        → among h (keep (λ t. not (eqb t 0)) (t ∷ ts)) ≡ is_some (first_with h (t ∷ ts))
    go true p true q ih = absurd (omega (arith, eqb-true t 0 p, eqb-true t h q))
    go true p false q ih = simp (p, q) (ih ∙ sym (suc-some (first_with h ts)))
    go false p true q ih = simp (p, q, eq-eqb h t (sym (eqb-true t h q)))
    go false p false q ih = simp (p, q, ne_eqb h t (λ e. differ q e)) (ih ∙ sym (suc-some (first_with h ts)))
      where
        differ : eqb t h ≡ false → h ≡ t → ⊥
        differ k e = let z : false ≡ true = sym k ∙ eq-eqb t h (sym e) in let y : ◌≡◌ {A = ℕ} 0 1 = cc in omega arith

pub taken-found : (b : Bytes) (at stride n h : ℕ) → 0 < h → is_found (found_in b at stride n h) ≡ among h (handles_in b at stride n)
unfolding found_in handles_in
taken-found b at stride n h z = go (first_with h (tags_in b at stride n)) ∙ sym (among_first h z (tags_in b at stride n))
  where
    go : (o : Option ℕ) → is_found (placed o) ≡ is_some o
    go none = refl
    go (some i) = refl

-- ---- the read numbers
pub reads-long : (b : Bytes) (stride n at : ℕ) → length (reads_in b at stride n) ≤ n
unfolding reads_in
reads-long b stride zero at = omega arith
reads-long b stride (suc n) at = go (eqb (tag_at b at) 0) (reads-long b stride n (at + stride))
  where
    go : (p : Bool) → length (reads_in b (at + stride) stride n) ≤ n
        → length (cond p (reads_in b (at + stride) stride n) (read_at b at ∷ reads_in b (at + stride) stride n)) ≤ suc n
    go true h = omega arith
    go false h = omega arith

pub reads_fit : (b : Bytes) → octets b ≡ true → (stride n at : ℕ) → 16 ≤ stride → at + n * stride ≤ length b → All (λ r. r < 256 ^ 8) (reads_in b at stride n)
unfolding reads_in
reads_fit b y stride zero at w l = tt
reads_fit b y stride (suc n) at w l = go (eqb (tag_at b at) 0) (reads_fit b y stride n (at + stride) w (omega (arith, suc-mul n stride)))
  where
    go : (p : Bool) → All (λ r. r < 256 ^ 8) (reads_in b (at + stride) stride n)
        → All (λ r. r < 256 ^ 8) (cond p (reads_in b (at + stride) stride n) (read_at b at ∷ reads_in b (at + stride) stride n))
    go true h = h
    go false h = (number_fits b (at + 8) 8 y (omega (arith, suc-mul n stride)), h)

-- a place that is cut out has the tag and the read number that stand there
module _ (b : Bytes) (at w : ℕ) (l : 16 ≤ w) where
  pub tag-cut : tag_at (part b at w) 0 ≡ tag_at b at
  tag-cut = ap (number_from 0) (take_part b at w 8 (omega arith))

  pub read-cut : read_at (part b at w) 0 ≡ read_at b at
  read-cut = ap (number_from 0) (part-part b at w 8 8 l)

-- ---- of count places one after the other, those from place i on
abbrev pub reads_from : Bytes → ℕ → ℕ → ℕ → List ℕ
reads_from b stride count i = reads_in b (i * stride) stride (count - i)

-- a place ends where the next begins
pub step : (i count stride : ℕ) → i < count → i * stride + stride ≤ count * stride
step i count stride h = omega (arith, suc-mul i stride, mul-le-mul_right stride h)

-- none
pub reads_none : (b : Bytes) (stride count : ℕ) → reads_from b stride count count ≡ []
unfolding reads_in
reads_none b stride count = ap (reads_in b (count * stride) stride) (let e : count - count ≡ 0 = omega arith in e)

-- all
pub reads_all : (b : Bytes) (stride count i : ℕ) → i ≡ 0 → reads_from b stride count i ≡ reads_in b 0 stride count
reads_all b stride count i e =
    let p : i * stride ≡ 0 = ap (λ (j : ℕ). j * stride) e ∙ zero-mul stride in
    let c : count - i ≡ count = omega arith in
    ap₂ (λ (j n : ℕ). reads_in b j stride n) p c

module _ (b : Bytes) (stride count i : ℕ) (l : i ≤ count) where
  pub reads-few : length (reads_from b stride count i) ≤ count - i
  reads-few = reads-long b stride (count - i) (i * stride)

  pub reads-fields : octets b ≡ true → 16 ≤ stride → count * stride ≤ length b → All (λ r. r < 256 ^ 8) (reads_from b stride count i)
  reads-fields y w h = reads_fit b y stride (count - i) (i * stride) w (omega (arith, products))
    where
      products : i * stride + (count - i) * stride ≡ count * stride
      products = sym (add-mul i (count - i) stride) ∙ ap (λ (n : ℕ). n * stride) (let e : i + (count - i) ≡ count = omega arith in e)

  -- one more, from the back
  module _ (z : 0 < i) where
    behind : reads_in b ((i - 1) * stride) stride (count - (i - 1)) ≡ reads_in b ((i - 1) * stride) stride (suc (count - i))
    behind = ap (reads_in b ((i - 1) * stride) stride) (let e : count - (i - 1) ≡ suc (count - i) = omega arith in e)

    next_place : reads_in b ((i - 1) * stride + stride) stride (count - i) ≡ reads_from b stride count i
    next_place =
        let s : suc (i - 1) ≡ i = omega arith in
        let e : (i - 1) * stride + stride ≡ i * stride = omega (arith, suc-mul (i - 1) stride, ap (λ (n : ℕ). n * stride) s) in
        ap (λ (j : ℕ). reads_in b j stride (count - i)) e

    -- which is free
    pub reads-free : tag_at b ((i - 1) * stride) ≡ 0 → reads_from b stride count (i - 1) ≡ reads_from b stride count i
    unfolding reads_in
    reads-free e = behind ∙ simp (eq-eqb (tag_at b ((i - 1) * stride)) 0 e) next_place

    -- or taken
    pub reads-taken : (tag_at b ((i - 1) * stride) ≡ 0 → ⊥) → reads_from b stride count (i - 1) ≡ read_at b ((i - 1) * stride) ∷ reads_from b stride count i
    unfolding reads_in
    reads-taken e =
        behind ∙ simp (ne_eqb (tag_at b ((i - 1) * stride)) 0 e) (ap {B = List ℕ} (λ rs. read_at b ((i - 1) * stride) ∷ rs) next_place)
