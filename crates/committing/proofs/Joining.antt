-- The active run and the own writes of a transaction: in a sound state they may be joined, and so in bytes that are the same from the active run on.
-- Assumes nothing.
use Prim.Native.Nat.{ℕ, ◌+◌, ◌-◌, ◌≤◌}
use native.Mathlib.Omega.{arith}
use mathlib.Core.Path.{◌≡◌, sym, ap, ap₂, ◌∙◌, subst}
use mathlib.Core.Bool.{Bool, true}
use mathlib.Core.Option.{some}
use lib.ListN.{length}
use lib.Dec.{leb}
use Rattle.paper.specs.Lists.{insert_all}
use Rattle.paper.specs.Keys.{Bytes, octets, cmp_version}
use Rattle.paper.specs.Runs.{Run, run_size}
use Rattle.paper.specs.Image.{number_from}
use Rattle.paper.specs.Settings.{Settings}
use Rattle.paper.specs.Sound.{sound_run, run_rules}
use Rattle.paper.specs.Store.{Txn, Store, frozen_of, own_size}
use Rattle.paper.specs.Room.{active_fits}
use Rattle.paper.specs.Calls.{stamped, active_after}
use Rattle.paper.proofs.Alls.{rule}
use Rattle.paper.proofs.SoundLaws.{rules}
use Rattle.raw.specs.Bytes.{part}
use Rattle.raw.proofs.Parts.{length_part}
use Rattle.raw.proofs.Octets.{octets-part}
use Rattle.key.specs.Versions.{versions, packed}
use Rattle.layout.specs.Codec.{many, sized, room}
use Rattle.layout.specs.Offsets.{start_active, place_at}
use Rattle.layout.specs.Layout.{version_stream, active_slot, read_store, store_in}
use Rattle.layout.proofs.Streams.{All, Formed, many-laws}
use Rattle.layout.proofs.Images.{OkVersion, version-laws}
use Rattle.layout.proofs.Sizes.{run-form}
use Rattle.layout.proofs.SoundState.{sound-read, sound-in}
use Rattle.layout.proofs.Inside as inside
use Rattle.settings.specs.declared.Shape.{Shape}
use Rattle.overlay.specs.Overlay.{pairs_in, is_overlay}
use Rattle.overlay.specs.Entries.{span}
use Rattle.txn.proofs.Reading.{room-holds}
use Rattle.versions.specs.Absorbing.{older, Absorbable, absorbed}
use Rattle.versions.proofs.Moving.{absorbable-same, absorbed-same}
use Rattle.versions.proofs.Callers.{absorbable-there, absorbed-after}
use Rattle.committing.specs.Held.{Placed, held_at}
use Rattle.committing.specs.Storing.{end_at, Ready, run_with}
use Rattle.committing.proofs.Held.{held_shape, held_lies, held-rules, held-is, held-own-used, held-own-size}

-- ---- in a sound state
module _ (b : Bytes) (o : octets b ≡ true) (z : Shape) (place : ℕ) (p : Placed b z place) where
  abbrev s : Store
  s = store_in b

  abbrev st : Settings
  st = (store_in b).settings

  abbrev i : ℕ
  i = p.index

  abbrev t : Txn
  t = p.txn

  there : read_store b ≡ some (store_in b)
  there = sound-read b p.sound

  -- ---- where both end
  run-read : (number_from 0 (part b z.active 8) ≤ st.active_bytes) × ((many version_stream).parse (part b (z.active + 8) (number_from 0 (part b z.active 8))) ≡ some s.active)
  unfolding active_slot
  run-read =
      let S = held_shape p in
      let L = held_lies p in
      room-holds (many version_stream) b z.active st.active_bytes (omega (arith, S.active-wide, L.area, L.places, L.inside)) s.active
      (ap (λ (at : ℕ). (room (8 + st.active_bytes) (sized 8 (many version_stream))).read (part b at (8 + st.active_bytes))) S.active ∙ (inside.lies b s o there).active.read)

  -- the active run ends in its room
  pub run_ends : end_at b z.active ≤ z.area
  run_ends = let S = held_shape p in omega (arith, run-read.0, S.active-wide)

  -- and the own writes in theirs
  pub own-ends : end_at b (place + 24) ≤ length b
  own-ends = let L = held_lies p in omega (arith, held-own-used b o z place p, L.inside, L.wide)

  -- '12 bytes plus key and value for each version'
  run-used : number_from 0 (part b z.active 8) ≡ run_size s.active
  run-used =
      let L = held_lies p in
      let n : ℕ = number_from 0 (part b z.active 8) in
      let x : Bytes = part b (z.active + 8) n in
      let f : x ≡ (many version_stream).form s.active = (subst (Formed (many version_stream).form (All OkVersion) x) run-read.1 ((many-laws version-laws).again x (octets-part b (z.active + 8) n o))).0 in
      sym (length_part b (z.active + 8) n (omega (arith, run_ends, L.area, L.places, L.inside))) ∙ ap length f ∙ run-form s.active

  run-span : span b (z.active + 8) (end_at b z.active) ≡ span b (start_active st + 8) (start_active st + 8 + run_size s.active)
  run-span = let S = held_shape p in ap₂ (λ (at n : ℕ). span b (at + 8) (at + 8 + n)) S.active run-used

  own-span : span b (place + 32) (end_at b (place + 24)) ≡ span b (place_at st i + 24 + 8) (place_at st i + 24 + 8 + own_size t.own)
  own-span =
      let e : place + 32 ≡ place_at st i + 24 + 8 = omega (arith, p.start) in
      let f : end_at b (place + 24) ≡ place_at st i + 24 + 8 + own_size t.own = omega (arith, p.start, held-own-size b o z place p ∙ ap (λ (u : Txn). own_size u.own) (held-is b o z place p)) in
      ap₂ (span b) e f

  run_sound : sound_run s.clock s.active ≡ true
  unfolding run_rules
  run_sound = rule 0 (run_rules st s.clock s.active (frozen_of s)) (rules s (sound-in b p.sound)).runs

  module _ (n : ℕ) (e : n ≡ (store_in b).clock + 1) where
    pub ready : Ready b z place n
    ready =
        let L = held_lies p in
        let h = absorbable-there b s o there run_sound i p.inside t p.here (held-rules b o z place p) in
        record {
          order = omega arith;
          apart = omega (arith, run_ends, L.area, L.places);
          onward = omega arith;
          inside = own-ends;
          whole = ap packed run-span ∙ h.whole;
          aged = ap₂ (λ (m : ℕ) (q : Bytes). older m (versions q)) e run-span ∙ h.aged;
          entries = ap is_overlay own-span ∙ h.entries;
        }

    -- 'each overlay entry becomes a version with that timestamp in the active run'
    pub joined : run_with b z place n ≡ active_after (store_in b) (held_at b place)
    joined =
        ap₂ (λ (u q : Bytes). insert_all cmp_version (stamped n (pairs_in u)) (versions q)) own-span run-span
        ∙ ap (λ (m : ℕ). absorbed b (start_active st + 8) (start_active st + 8 + run_size s.active) (place_at st i + 24 + 8) (place_at st i + 24 + 8 + own_size t.own) m) e
        ∙ absorbed-after b s o there run_sound i p.inside t p.here (held-rules b o z place p)
        ∙ ap (active_after s) (sym (held-is b o z place p))

    -- both as code finds their ends
    module _ (end stop : ℕ) (f : end ≡ end_at b z.active) (g : stop ≡ end_at b (place + 24)) where
      pub fits-ready : Absorbable b (z.active + 8) end (place + 32) stop n
      fits-ready =
          subst (λ (i : ℕ). Absorbable b (z.active + 8) i (place + 32) stop n) (sym f)
          (subst (λ (j : ℕ). Absorbable b (z.active + 8) (end_at b z.active) (place + 32) j n) (sym g) ready)

      -- 'active run (12 bytes plus key and value for each version) .. too small'
      pub fits_told : (r : Bool) → r ≡ leb (run_size (absorbed b (z.active + 8) end (place + 32) stop n)) (z.area - (z.active + 8)) → r ≡ active_fits (store_in b).settings (active_after (store_in b) (held_at b place))
      fits_told r h =
          let S = held_shape p in
          let w : z.area - (z.active + 8) ≡ s.settings.active_bytes = omega (arith, S.active-wide) in
          h ∙ ap₂ (λ (a : Run) (m : ℕ). leb (run_size a) m) (ap₂ (λ (i j : ℕ). absorbed b (z.active + 8) i (place + 32) j n) f g ∙ joined) w

-- ---- in bytes that are the same from the active run on
module _ (b c : Bytes) (z : Shape) (place n : ℕ) (long : length c ≡ length b) (same : (at m : ℕ) → z.active ≤ at → part c at m ≡ part b at m) (behind : z.active ≤ place) where
  end_same : (at : ℕ) → z.active ≤ at → end_at c at ≡ end_at b at
  end_same at h = ap (λ (q : Bytes). at + 8 + number_from 0 q) (same at 8 h)

  run_end : end_at c z.active ≡ end_at b z.active
  run_end = end_same z.active (omega arith)

  own-stop : end_at c (place + 24) ≡ end_at b (place + 24)
  own-stop = end_same (place + 24) (omega arith)

  run-kept : span c (z.active + 8) (end_at b z.active) ≡ span b (z.active + 8) (end_at b z.active)
  run-kept = same (z.active + 8) (end_at b z.active - (z.active + 8)) (omega arith)

  own-kept : span c (place + 32) (end_at b (place + 24)) ≡ span b (place + 32) (end_at b (place + 24))
  own-kept = same (place + 32) (end_at b (place + 24) - (place + 32)) (omega arith)

  pub ready-same : Ready b z place n → Ready c z place n
  ready-same h =
      let r = absorbable-same b c (z.active + 8) (end_at b z.active) (z.active + 8) (end_at b z.active) (place + 32) (end_at b (place + 24)) n run-kept own-kept h.order h.apart (omega (arith, long, h.inside)) h in
      subst (λ (m : ℕ). Absorbable c (z.active + 8) m (place + 32) (end_at c (place + 24)) n) (sym run_end)
      (subst (λ (m : ℕ). Absorbable c (z.active + 8) (end_at b z.active) (place + 32) m n) (sym own-stop) r)

  pub joined_same : run_with c z place n ≡ run_with b z place n
  joined_same =
      ap₂ (λ (i j : ℕ). absorbed c (z.active + 8) i (place + 32) j n) run_end own-stop
      ∙ absorbed-same b c (z.active + 8) (end_at b z.active) (z.active + 8) (end_at b z.active) (place + 32) (end_at b (place + 24)) n run-kept own-kept
