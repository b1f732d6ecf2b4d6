-- The active run's part of a state: what its bytes are decides whether it keeps its rule.
-- Assumes nothing.
use native.Mathlib.Omega.{arith}
use Rattle.std.specs.Prelude.{Some, None}
use mathlib.Core.Path.{◌≡◌, refl, sym, ap, ap₂, ◌∙◌}
use mathlib.Core.Bool.{Bool, true, false, cond, ◌&&◌, false≢true}
use mathlib.Core.Option.{Option, none, some}
use mathlib.Core.List.{[], ◌∷◌, ◌++◌}
use Prim.Native.Nat.{ℕ, ◌≤◌, ◌<◌}
use lib.ListN.{length}
use lib.Dec.{leb}
use borrow.Author.Tests.{le-leb, lt-leb}
use Rattle.paper.specs.Lists.{all}
use Rattle.paper.specs.Keys.{Bytes, octets}
use Rattle.paper.specs.Runs.{Run, run_size}
use Rattle.paper.specs.Image.{record_bytes, records_bytes, storable}
use Rattle.paper.specs.Settings.{Settings}
use Rattle.paper.specs.Store.{latest}
use Rattle.paper.specs.Sound.{sound_run}
use Rattle.paper.specs.Room.{active_fits}
use Rattle.paper.proofs.Bools.{and_intro}
use Rattle.raw.proofs.Octets.{octets-part}
use Rattle.key.specs.Versions.{versions, packed}
use Rattle.key.proofs.Packed.{packed-run}
use Rattle.layout.specs.Codec.{put_all, many, first_of, room, sized, plain}
use Rattle.layout.specs.Offsets.{width_active}
use Rattle.layout.specs.Layout.{version_stream, active_slot}
use Rattle.layout.proofs.Streams.{All, Formed, many-laws}
use Rattle.layout.proofs.Images.{OkVersion, version-laws}
use Rattle.layout.proofs.Sizes.{run-form}
use Rattle.layout.proofs.SoundFits.{all_of}
use Rattle.settings.specs.Parts.{holds_of, or_empty, active_ok}
use Rattle.run.specs.Tallies.{tally_of}
use Rattle.run.specs.Checks.{whole_run, checked}
use Rattle.run.specs.declared.tally.Tally.{Tally}
use Rattle.run.proofs.Judging.{whole_is, is-whole}
use Rattle.run.proofs.Told.{says_of}
use Rattle.area.specs.Told.{used_in, Split, active_told}
use Rattle.area.specs.declared.check.Active.{Active}
use Rattle.area.proofs.Sizing.{first-lift, sized-none, sized-some}
use Rattle.area.proofs.RunsSound.{Sturdy, run-in-time, sound-whole}

-- ---- the records
pub put-records : (r : Run) → (many version_stream).form r ≡ records_bytes r
unfolding many put_all version_stream records_bytes
put-records [] = refl
put-records (v ∷ vs) = ap (λ (b : Bytes). record_bytes v ++ b) (put-records vs)

pub all-storable : (r : Run) → All OkVersion r → all storable r ≡ true
unfolding all
all-storable [] k = refl
all-storable (v ∷ vs) k = and_intro k.0 (all-storable vs k.1)

module _ (x : Bytes) where
  -- the records of a run read as it
  pub read_whole : packed x ≡ true → (many version_stream).parse x ≡ some (versions x)
  read_whole h =
      let p = packed-run x h in
      ap (many version_stream).parse (sym (put-records (versions x) ∙ p.0))
      ∙ (many-laws version-laws).back (versions x) (all_of storable OkVersion (λ v k. k) (versions x) p.2)

  module _ (o : octets x ≡ true) (st : Settings) (clock : ℕ) where
    test : Run → Bool
    test r = sound_run clock r && active_fits st r

    sturdy : whole_run x ≡ true → Sturdy (versions x)
    sturdy h =
        let w = whole_is x h in
        let p = packed-run x w.0 in
        record { whole = w.1; fits = p.2; bytes = ap octets p.0 ∙ o }

    whole-test : whole_run x ≡ true → length x ≤ st.active_bytes → holds_of ((many version_stream).parse x) test ≡ leb (latest (versions x)) clock
    unfolding test
    whole-test h l =
        let p = packed-run x (whole_is x h).0 in
        let n : run_size (versions x) ≤ st.active_bytes = omega (arith, sym (run-form (versions x)) ∙ ap (λ (b : Bytes). length b) (put-records (versions x) ∙ p.0)) in
        let f : leb (run_size (versions x)) st.active_bytes ≡ true = le-leb (run_size (versions x)) st.active_bytes n in
        ap (λ (q : Option Run). holds_of q test) (read_whole (whole_is x h).0)
        ∙ ap₂ (λ (a b : Bool). a && b) (run-in-time clock (versions x) (sturdy h)) f
        ∙ last (leb (latest (versions x)) clock)
      where
        last : (b : Bool) → b && true ≡ b
        last true = refl
        last false = refl

    broken-test : whole_run x ≡ false → holds_of ((many version_stream).parse x) test ≡ false
    unfolding test
    broken-test h = go ((many version_stream).parse x) ((many-laws version-laws).again x o)
      where
        in-vain : (r : Run) → x ≡ (many version_stream).form r → All OkVersion r → (t : Bool) → sound_run clock r ≡ t → t && active_fits st r ≡ false
        in-vain r e k true f = absurd (false≢true (sym h ∙ ap whole_run (e ∙ put-records r) ∙ is-whole r (sound-whole clock r f) (all-storable r k)))
        in-vain r e k false f = refl

        go : (q : Option Run) → Formed (many version_stream).form (All OkVersion) x q → holds_of q test ≡ false
        go none f = refl
        go (some r) f = in-vain r f.0 f.1 (sound_run clock r) refl

-- ---- the part
abbrev active : ℕ → Tally → Active
active n t = record { used = n; tally = t }

module _ (q : Bytes) (clock : ℕ) (o : octets q ≡ true) (wide : 8 ≤ length q) (st : Settings) (w : width_active st ≡ length q) where
  told-as : (t : Bool) → active_ok st clock q ≡ t → active_told st clock q ≡ cond t (Some (record { used = used_in q; tally = tally_of (or_empty ((active_slot st).read q)) })) None
  unfolding active_told
  told-as t h = ap (λ (b : Bool). cond b (Some (record { used = used_in q; tally = tally_of (or_empty ((active_slot st).read q)) })) None) h

  -- more bytes are in use than there are
  pub active-cut : (sized 8 plain).get q ≡ none → None ≡ active_told st clock q
  unfolding active_ok active_slot room
  active-cut e =
      sym (told-as false (ap (λ p. holds_of (first_of p) (λ r. sound_run clock r && active_fits st r)) (sized-none (many version_stream) q e)))

  module _ (x rest : Bytes) (s : Split q x rest) where
    read_is : (active_slot st).read q ≡ (many version_stream).parse x
    unfolding active_slot room
    read_is = ap first_of (sized-some (many version_stream) q x rest s.read) ∙ first-lift ((many version_stream).parse x) rest

    bytes-there : octets x ≡ true
    bytes-there = ap octets s.here ∙ octets-part q 8 (length x) o

    room-there : length x ≤ st.active_bytes
    room-there = omega (arith, s.size)

    -- they are no run
    pub active-broken : None ≡ checked x → None ≡ active_told st clock q
    unfolding active_ok test
    active-broken h = sym (told-as false (ap (λ (p : Option Run). holds_of p (test x bytes-there st clock)) read_is ∙ broken-test x bytes-there st clock (says_of x None h)))

    module _ (t : Tally) (h : Some t ≡ checked x) where
      says : (whole_run x ≡ true) × (t ≡ tally_of (versions x))
      says = says_of x (Some t) h

      ok-is : active_ok st clock q ≡ leb t.latest clock
      unfolding active_ok test tally_of
      ok-is =
          ap (λ (p : Option Run). holds_of p (test x bytes-there st clock)) read_is ∙ whole-test x bytes-there st clock says.0 room-there
          ∙ sym (ap (λ (u : Tally). leb u.latest clock) says.1)

      -- a version is later than the clock
      pub active-late : clock < t.latest → None ≡ active_told st clock q
      active-late m = sym (told-as false (ok-is ∙ lt-leb t.latest clock m))

      pub active-good : t.latest ≤ clock → Some (record { used = length x; tally = t }) ≡ active_told st clock q
      active-good m =
          let f : t ≡ tally_of (or_empty ((active_slot st).read q)) = says.1 ∙ sym (ap (λ (p : Option Run). tally_of (or_empty p)) (read_is ∙ read_whole x (whole_is x says.0).0)) in
          ap₂ (λ (i : ℕ) (u : Tally). Some (active i u)) s.count f ∙ sym (told-as true (ok-is ∙ le-leb t.latest clock m))
