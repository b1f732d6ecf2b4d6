-- What the answers say to the check of the whole state, in the words of settings' rules.
-- Assumes nothing.
use mathlib.Core.Path.{◌≡◌, refl, ap, ap₂, ◌∙◌}
use Rattle.std.specs.Prelude as std
use Rattle.std.specs.Prelude.{Some, None}
use mathlib.Core.Bool.{Bool, true, false, cond, ◌&&◌}
use mathlib.Core.Option.{Option, none, some}
use Prim.Native.Nat.{ℕ, ◌≤◌}
use Rattle.paper.specs.Lists.{all}
use Rattle.paper.specs.Keys.{Bytes}
use Rattle.paper.specs.Runs.{Run}
use Rattle.paper.specs.Settings.{Settings, most_number}
use Rattle.paper.specs.Sound.{sound_run, newer_than}
use Rattle.paper.specs.Room.{active_fits}
use Rattle.paper.proofs.Bools.{and_left}
use Rattle.layout.specs.Offsets.{active_part, area_part}
use Rattle.layout.specs.Layout.{active_slot, frozen_slot}
use Rattle.settings.specs.Parts.{holds_of, or_empty, active_ok, area_ok, active_in, frozen_in}
use Rattle.run.specs.Tallies.{tally_of}
use Rattle.run.specs.declared.tally.Tally.{Tally}
use Rattle.area.specs.Told.{used_in, active_told, area_told, others_of, newer_by}
use Rattle.area.specs.declared.check.Active.{Active}
use Rattle.area.specs.declared.check.Others.{Others}
use Rattle.area.proofs.Newer.{newer-is}

module _ (st : Settings) (b : Bytes) (clock : ℕ) where
  abbrev pub ActiveSays : std.Option Active → Type 0
  ActiveSays (Some a) = (active_ok st clock (active_part st b) ≡ true) × (a.used ≡ used_in (active_part st b)) × (a.tally ≡ tally_of (active_in st b))
  ActiveSays None = active_ok st clock (active_part st b) ≡ false

  pub active-says : (r : std.Option Active) → r ≡ active_told st clock (active_part st b) → ActiveSays r
  unfolding active_told active_in
  active-says r f = go (active_ok st clock (active_part st b)) refl r f
    where
      go : (t : Bool) → active_ok st clock (active_part st b) ≡ t → (r : std.Option Active) → r ≡ cond t (Some (record { used = used_in (active_part st b); tally = tally_of (or_empty ((active_slot st).read (active_part st b))) })) None → ActiveSays r
      go true h (Some a) e =
          let z : a ≡ record { used = used_in (active_part st b); tally = tally_of (or_empty ((active_slot st).read (active_part st b))) } = cc in
          (h, ap (λ (x : Active). x.used) z, ap (λ (x : Active). x.tally) z)
      go true h None e = cc
      go false h (Some a) e = cc
      go false h None e = h

  abbrev pub AreaSays : std.Option Others → Type 0
  AreaSays (Some k) = (area_ok st clock (area_part st b) ≡ true) × (k ≡ others_of (frozen_in st b))
  AreaSays None = area_ok st clock (area_part st b) ≡ false

  pub area-says : (r : std.Option Others) → r ≡ area_told st clock (area_part st b) → AreaSays r
  unfolding area_told frozen_in
  area-says r f = go (area_ok st clock (area_part st b)) refl r f
    where
      go : (t : Bool) → area_ok st clock (area_part st b) ≡ t → (r : std.Option Others) → r ≡ cond t (Some (others_of (or_empty ((frozen_slot st).read (area_part st b))))) None → AreaSays r
      go true h (Some k) e = (h, cc)
      go true h None e = cc
      go false h (Some k) e = cc
      go false h None e = h

  -- the active run that was read is sound
  active-sound : active_ok st clock (active_part st b) ≡ true → sound_run clock (active_in st b) ≡ true
  unfolding active_ok active_in
  active-sound = go ((active_slot st).read (active_part st b))
    where
      go : (o : Option Run) → holds_of o (λ r. sound_run clock r && active_fits st r) ≡ true → sound_run clock (or_empty o) ≡ true
      go none h = cc
      go (some r) h = and_left (sound_run clock r) (active_fits st r) h

  -- 'active versions newer than all in other runs'
  pub newer-says : clock ≤ most_number → (t : Tally) (k : Others) → active_ok st clock (active_part st b) ≡ true → t ≡ tally_of (active_in st b) → k ≡ others_of (frozen_in st b)
      → newer_by t k ≡ all (newer_than (frozen_in st b)) (active_in st b)
  newer-says c t k h e f = ap₂ newer_by e f ∙ newer-is clock c (active_in st b) (frozen_in st b) (active-sound h)
