-- How a freeze ends.
-- Assumes nothing.
use Prim.Native.Nat.{◌-◌, ◌≤◌}
use native.Mathlib.Omega.{arith}
use mathlib.Core.Path.{◌≡◌, refl, sym, ap, ◌∙◌}
use mathlib.Core.Bool.{true, false}
use Rattle.paper.specs.Lists.{is_empty}
use Rattle.paper.specs.Keys.{Bytes, octets}
use Rattle.paper.specs.Refusals.{no_room, run_area, stop, go, must, whether, ◌>>◌}
use Rattle.paper.specs.Room.{runs_fit}
use Rattle.paper.specs.Sound.{sound}
use Rattle.paper.specs.Store.{Store, runs_of}
use Rattle.paper.specs.Calls.{done, frozen_store, freeze_active, try_freeze, Call, tried}
use Rattle.layout.specs.Layout.{store_in, sound_state, write_store}
use Rattle.layout.proofs.SoundState.{sound-in, sound-again}
use Rattle.settings.specs.declared.Shape.{Shape}
use Rattle.settings.specs.Shapes.{shape_of}
use Rattle.area.specs.Spread.{Sited}
use Rattle.reply.specs.Told.{Told, told, why, nothing}
use Rattle.reply.specs.OnBytes.{told_on}
use Rattle.reply.proofs.Ends.{refused-told, done-told}
use Rattle.seat.proofs.Finding.{shape-fits}

-- ---- the checks
module _ (s : Store) (h : sound s ≡ true) where
  freeze-empty : is_empty s.active ≡ true → try_freeze s ≡ go (record { reply = done; store = s })
  unfolding try_freeze must whether ◌>>◌
  freeze-empty e = rw h (rw e refl)

  module _ (e : is_empty s.active ≡ false) where
    freeze-full : runs_fit s.settings (runs_of s) ≡ false → try_freeze s ≡ stop (no_room run_area)
    unfolding try_freeze freeze_active must whether ◌>>◌
    freeze-full f = rw h (rw e (rw f refl))

    freeze-done : runs_fit s.settings (runs_of s) ≡ true → try_freeze s ≡ go (record { reply = done; store = frozen_store s })
    unfolding try_freeze freeze_active must whether ◌>>◌
    freeze-done f = rw h (rw e (rw f refl))

-- ---- each return of `freeze`
module _ (b : Bytes) (o : octets b ≡ true) (h : sound_state b ≡ true) where
  module _ (z : Shape) (e : z ≡ shape_of (store_in b).settings) where
    pub sited : Sited b z.active z.area
    sited = let S = shape-fits b o h z e in record { sound = h; active-at = S.active; area-at = S.area }

    -- the run area, without what stands beside the images
    pub area-room : (136 ≤ z.places - z.area) × ((z.area ≤ z.places) × (z.places - z.area - 136 ≡ (store_in b).settings.area_bytes))
    area-room = let S = shape-fits b o h z e in (omega (arith, S.area-wide), (omega (arith, S.area-wide), omega (arith, S.area-wide)))

  pub empty-told : is_empty (store_in b).active ≡ true → ◌≡◌ {A = Told × Bytes} (nothing, b) (told_on Call.freeze b)
  unfolding tried told
  empty-told e = ap (λ (u : Bytes). (nothing, u)) (sym (sound-again b o h)) ∙ sym (done-told Call.freeze b (record { reply = done; store = store_in b }) (freeze-empty (store_in b) (sound-in b h) e))

  module _ (e : is_empty (store_in b).active ≡ false) where
    pub full-told : runs_fit (store_in b).settings (runs_of (store_in b)) ≡ false → ◌≡◌ {A = Told × Bytes} (why (no_room run_area), b) (told_on Call.freeze b)
    unfolding tried
    full-told f = sym (refused-told Call.freeze b (no_room run_area) (freeze-full (store_in b) (sound-in b h) e f))

    pub frozen-told : runs_fit (store_in b).settings (runs_of (store_in b)) ≡ true → (a : Bytes) → a ≡ write_store (frozen_store (store_in b)) b → ◌≡◌ {A = Told × Bytes} (nothing, a) (told_on Call.freeze b)
    unfolding tried told
    frozen-told f a w = ap (λ (u : Bytes). (nothing, u)) w ∙ sym (done-told Call.freeze b (record { reply = done; store = frozen_store (store_in b) }) (freeze-done (store_in b) (sound-in b h) e f))
