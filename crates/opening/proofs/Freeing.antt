-- The places freed one after the other.
-- Assumes nothing.
use Prim.Native.Nat.{ℕ, ◌+◌, ◌*◌, ◌≤◌, ◌<◌}
use native.Mathlib.Omega.{arith}
use native.Mathlib.Numerals.{add-one}
use mathlib.Core.Path.{◌≡◌, refl, sym, ap, ap₂, ◌∙◌}
use mathlib.Core.Bool.{true}
use lib.ListN.{length}
use Rattle.paper.specs.Keys.{Bytes}
use Rattle.paper.specs.Image.{big_endian}
use Rattle.paper.specs.Settings.{Settings, in_ranges, state_length}
use Rattle.paper.proofs.ImageLaws.{length-big_endian}
use Rattle.raw.specs.Bytes.{over}
use Rattle.raw.proofs.Over.{length_over}
use Rattle.layout.specs.Offsets.{freed, place_at}
use Rattle.settings.specs.declared.Shape.{Shape}
use Rattle.settings.specs.Shapes.{shape_of}
use Rattle.settings.proofs.Shapes.{shaped}

-- of b the first i places are freed
pub record Freeing (z : Shape) (b s : Bytes) (i : ℕ) : Type 0 where
  pub ahead : i ≤ z.count
  pub long : length s ≡ length b
  -- whatever settings have this shape
  pub bytes : (st : Settings) → z ≡ shape_of st → s ≡ freed st i b

pub none-freed : (z : Shape) (b : Bytes) → Freeing z b b 0
unfolding freed
none-freed z b = record { ahead = omega arith; long = refl; bytes = λ st e. refl }

-- what is known of the next place
pub record Next (z : Shape) (b s : Bytes) (i : ℕ) : Type 0 where
  pub inside : z.places + i * z.stride + 8 ≤ length s
  pub small : z.places + i * z.stride < 134217728
  pub next : (t : Bytes) → t ≡ over s (z.places + i * z.stride) (big_endian 8 0) → Freeing z b t (i + 1)

module _ (z : Shape) (b s : Bytes) (i : ℕ) (f : Freeing z b s i) (st : Settings) (h : in_ranges st ≡ true) (e : z ≡ shape_of st) where
  pub place-next : state_length st ≤ length b → i < z.count → Next z b s i
  unfolding freed shape_of
  place-next l k =
      let at : ℕ = z.places + i * z.stride in
      let w = shaped st h z e in
      let a : at + z.stride ≤ state_length st = omega (arith, w.place-wide-at i k) in
      let c : at + 8 ≤ length s = omega (arith, f.long, w.place-wide) in
      record {
        inside = c;
        small = omega (arith, w.small);
        next = λ t g.
            record {
              ahead = omega arith;
              long = ap length g ∙ length_over s at (big_endian 8 0) (omega (arith, length-big_endian 8 0)) ∙ f.long;
              bytes = λ st' e'.
                  let p : at ≡ place_at st' i = ap (λ (y : Shape). y.places + i * y.stride) e' in
                  g ∙ ap₂ (λ (u : Bytes) (j : ℕ). over u j (big_endian 8 0)) (f.bytes st' e') p ∙ ap (λ (j : ℕ). freed st' j b) (sym (add-one i));
            };
      }

  pub all-freed : z.count ≤ i → s ≡ freed st st.transactions b
  all-freed k =
      let j : i ≡ st.transactions = omega (arith, f.ahead, (shaped st h z e).count) in
      f.bytes st e ∙ ap (λ (n : ℕ). freed st n b) j
