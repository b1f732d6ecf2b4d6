-- The clock, the counter and the three empty lists of an opened store, written one after the other.
-- Assumes nothing.
use Prim.Native.Nat.{ℕ}
use mathlib.Core.Path.{◌≡◌, ap, ap₂, ◌∙◌}
use mathlib.Core.Bool.{true}
use Rattle.paper.specs.Keys.{Bytes}
use Rattle.paper.specs.Image.{big_endian}
use Rattle.paper.specs.Settings.{Settings, in_ranges}
use Rattle.raw.specs.Bytes.{over}
use Rattle.layout.specs.Offsets.{start_clock, start_counter, start_rows}
use Rattle.settings.specs.declared.Shape.{Shape}
use Rattle.settings.specs.Shapes.{shape_of}
use Rattle.settings.proofs.Shapes.{shaped}
use Rattle.opening.specs.Opening.{emptied}

-- where the shape puts history and active run
pub emptied-written : (st : Settings) → in_ranges st ≡ true → (z : Shape) → z ≡ shape_of st → (clock : ℕ) (b b₁ b₂ b₃ b₄ b₅ : Bytes)
    → b₁ ≡ over b start_clock (big_endian 8 clock)
    → b₂ ≡ over b₁ start_counter (big_endian 8 0)
    → b₃ ≡ over b₂ start_rows (big_endian 8 0)
    → b₄ ≡ over b₃ z.history (big_endian 8 0)
    → b₅ ≡ over b₄ z.active (big_endian 8 0)
    → b₅ ≡ emptied st clock b
unfolding emptied
emptied-written st h z e clock b b₁ b₂ b₃ b₄ b₅ f₁ f₂ f₃ f₄ f₅ =
    let s = shaped st h z e in
    let n : Bytes = big_endian 8 0 in
    let g₂ : b₂ ≡ over (over b start_clock (big_endian 8 clock)) start_counter n = f₂ ∙ ap (λ (u : Bytes). over u start_counter n) f₁ in
    let g₃ = f₃ ∙ ap (λ (u : Bytes). over u start_rows n) g₂ in
    let g₄ = f₄ ∙ ap₂ (λ (u : Bytes) (k : ℕ). over u k n) g₃ s.history in
    f₅ ∙ ap₂ (λ (u : Bytes) (k : ℕ). over u k n) g₄ s.active
