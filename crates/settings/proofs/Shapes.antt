-- The parts of a state lie one after the other where its shape says, and no number of them is large.
-- Assumes nothing.
use Prim.Native.Nat.{ℕ, ◌+◌, ◌*◌, ◌<◌, ◌≤◌}
use native.Mathlib.Omega.{arith}
use native.Mathlib.Nat.{mul-le-mul_left}
use mathlib.Core.Path.{◌≡◌, refl, sym, subst}
use mathlib.Core.Bool.{true}
use Rattle.paper.specs.Settings.{Settings, in_ranges, state_length}
use Rattle.layout.specs.Offsets.{start_rows, width_rows, start_history, width_history, start_active, width_active, start_area, width_area, start_places, place_writes, width_writes, stride}
use Rattle.layout.proofs.SoundFits.{ranged}
use Rattle.layout.proofs.Changes.{places-end, place_end}
use Rattle.settings.specs.declared.Shape.{Shape}
use Rattle.settings.specs.Shapes.{shape_of}

-- every number of a shape: where it comes from, that parts follow one another and end with the state, and that the state is below 128 MiB
pub record Shaped (st : Settings) (z : Shape) : Type 0 where
  pub serializable : z.serializable ≡ st.serializable
  pub count : z.count ≡ st.transactions
  pub own : z.own ≡ st.overlay_bytes
  pub reads : z.reads ≡ st.read_hashes
  pub writes : z.writes ≡ st.write_hashes
  pub entries : z.entries ≡ st.history_entries
  pub hashes : z.hashes ≡ st.history_hashes
  -- the starts
  pub history : z.history ≡ start_history st
  pub active : z.active ≡ start_active st
  pub area : z.area ≡ start_area st
  pub places : z.places ≡ start_places st
  pub stride : z.stride ≡ stride st
  -- each part is as wide as its room
  pub rows-wide : start_rows + width_rows st ≡ z.history
  pub history-wide : z.history + width_history st ≡ z.active
  pub active-wide : z.active + width_active st ≡ z.area
  pub area-wide : z.area + width_area st ≡ z.places
  pub place-wide : place_writes st + width_writes st ≡ z.stride
  pub places-wide : z.places + z.count * z.stride ≡ state_length st
  pub place-wide-at : (i : ℕ) → i < z.count → z.places + i * z.stride + z.stride ≤ state_length st
  -- bounds
  pub some-places : 1 ≤ z.count
  pub few-places : z.count ≤ 64
  pub small : state_length st < 134217728

module _ (st : Settings) (h : in_ranges st ≡ true) where
  -- 64 places of 1,327,152 bytes at most
  pub length-small : state_length st < 134217728
  length-small =
      let r = ranged st h in
      let t : ℕ = st.transactions in
      let w : stride st ≤ 1327152 = omega arith in
      let p : t * stride st ≤ t * 1327152 = mul-le-mul_left t w in
      omega (arith, places-end st)

  shaped-itself : Shaped st (shape_of st)
  unfolding shape_of
  shaped-itself =
      let r = ranged st h in
      record {
        serializable = refl;
        count = refl;
        own = refl;
        reads = refl;
        writes = refl;
        entries = refl;
        hashes = refl;
        history = refl;
        active = refl;
        area = refl;
        places = refl;
        stride = refl;
        rows-wide = refl;
        history-wide = refl;
        active-wide = refl;
        area-wide = refl;
        place-wide = refl;
        places-wide = places-end st;
        place-wide-at = λ i l. place_end st i l;
        some-places = r.transactions.0;
        few-places = r.transactions.1;
        small = length-small;
      }

  -- from what `shape_of` ensures
  pub shaped : (z : Shape) → z ≡ shape_of st → Shaped st z
  shaped z e = subst (Shaped st) (sym e) shaped-itself
