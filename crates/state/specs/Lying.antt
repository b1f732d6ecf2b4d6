-- Where the parts of a state b with good settings st lie in it, for a shape z.
-- Assumes nothing.
use Rattle.std.specs.Prelude.{ℕ, ◌+◌, ◌*◌, ◌≤◌, ◌<◌, ◌≡◌, true, length}
use Rattle.paper.specs.Keys.{Bytes, octets}
use Rattle.paper.specs.Settings.{Settings}
use Rattle.layout.specs.Offsets.{width_history, width_active, width_area}
use Rattle.settings.specs.declared.Shape.{Shape}
use Rattle.settings.proofs.Shapes.{Shaped}

pub record Lies (b : Bytes) (st : Settings) (z : Shape) : Type 0 where
  pub bytes : octets b ≡ true
  pub shape : Shaped st z
  pub rows : z.history ≡ 96 + 16 * st.transactions
  pub history : z.history + width_history st ≡ z.active
  pub active : z.active + width_active st ≡ z.area
  pub area : z.area + width_area st ≡ z.places
  pub inside : z.places + z.count * z.stride ≤ length b
  pub seat : (i : ℕ) → i < z.count → z.places + i * z.stride + z.stride ≤ length b
  pub few : z.count ≤ 64
  pub wide : z.stride ≡ 48 + z.own + 4 * z.reads + 4 * z.writes
  pub hashes : z.writes ≤ 4096
  pub small : z.places + z.count * z.stride < 134217728
