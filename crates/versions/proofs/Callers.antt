-- What a commit wants: the active run and a transaction's own writes in a state lie as asked, the run that comes of them is the paper's, and with its size in
-- front it is what the layout writes.
-- Assumes nothing.
use native.Mathlib.Omega.{arith}
use native.Mathlib.Nat.{add-sub_cancel_left}
use mathlib.Core.Path.{◌≡◌, refl, sym, ap, ap₂, ◌∙◌}
use mathlib.Core.Bool.{true}
use mathlib.Core.List.{List, [], ◌∷◌, ◌++◌}
use mathlib.Core.Option.{none, some}
use Prim.Native.Nat.{ℕ, ◌+◌, ◌≤◌, ◌<◌}
use lib.Dec.{ltb}
use lib.ListN.{length, get_or}
use borrow.Author.Tests.{lt-ltb, leb-true}
use Rattle.paper.specs.Lists.{all, rises, insert_all}
use Rattle.paper.specs.Keys.{Bytes, Pair, octets, cmp_version, cmp_pair}
use Rattle.paper.specs.Runs.{Run, is_run, run_size}
use Rattle.paper.specs.Image.{big_endian, record_bytes, records_bytes, storable}
use Rattle.paper.specs.Settings.{Settings}
use Rattle.paper.specs.Store.{Txn, Store, own_size}
use Rattle.paper.specs.Sound.{sound_pair, txn_rules, sound_txn, sound_version, sound_run}
use Rattle.paper.specs.Room.{active_fits}
use Rattle.paper.specs.Calls.{stamped, active_after}
use Rattle.paper.proofs.Bools.{and_left, and_intro}
use Rattle.paper.proofs.Alls.{rule, all-mono}
use Rattle.paper.proofs.CommitSound.{run-versions, in-time}
use Rattle.paper.proofs.ImageLaws.{length-big_endian}
use Rattle.raw.specs.Bytes.{part, over}
use Rattle.raw.proofs.Over.{over-before}
use Rattle.key.specs.Versions.{versions, packed}
use Rattle.key.proofs.Packed.{versions-records, packed-records}
use Rattle.layout.specs.Codec.{many, put_all}
use Rattle.layout.specs.Offsets.{start_active, width_active, place_at, place_overlay, width_overlay}
use Rattle.layout.specs.Layout.{listed, pair_stream, version_stream, active_slot, read_store}
use Rattle.layout.proofs.Streams.{All}
use Rattle.layout.proofs.Images.{OkVersion}
use Rattle.layout.proofs.Sizes.{run-form, run_long, overlay-form, sized-put}
use Rattle.layout.proofs.StoreLaws.{read_fits}
use Rattle.layout.proofs.Sides.{room-form}
use Rattle.layout.proofs.Changes.{place_end}
use Rattle.layout.proofs.Inside.{lies, enough, own_at}
use Rattle.overlay.specs.Overlay.{pairs_in, own_in, is_overlay}
use Rattle.overlay.specs.Entries.{span}
use Rattle.overlay.proofs.Pairs.{packed-is, pairs-packed}
use Rattle.versions.specs.Absorbing.{versions_in, older, Absorbable, absorbed}

-- ---- the run as the layout writes it
records-form : (r : Run) → (many version_stream).form r ≡ records_bytes r
unfolding many put_all version_stream records_bytes
records-form [] = refl
records-form (v ∷ vs) = ap (λ (b : Bytes). record_bytes v ++ b) (records-form vs)

-- the records, and then their size in front of them
pub listed-records : (b : Bytes) (at : ℕ) (r : Run) → at + 8 ≤ length b → over (over b (at + 8) (records_bytes r)) at (big_endian 8 (run_size r)) ≡ over b at ((listed version_stream).put r)
listed-records b at r h =
    over-before b (at + 8) (records_bytes r) h at (big_endian 8 (run_size r)) (ap (λ (n : ℕ). at + n) (length-big_endian 8 (run_size r)))
    ∙ ap (over b at) (ap₂ (λ (n : ℕ) (x : Bytes). big_endian 8 n ++ x) (sym (run-form r)) (sym (records-form r)) ∙ sym (sized-put (many version_stream) 8 r))

-- ---- older than the next commit
pub older-next : (clock : ℕ) (r : Run) → sound_run clock r ≡ true → older (clock + 1) r ≡ true
older-next clock r h =
    all-mono (sound_version clock) (λ v. ltb v.time (clock + 1)) (λ v k. lt-ltb v.time (clock + 1) (omega (arith, in-time clock v k))) r (run-versions clock r h)

-- ---- in a state
all-storable : (r : Run) → All OkVersion r → all storable r ≡ true
unfolding all
all-storable [] k = refl
all-storable (v ∷ vs) k = and_intro k.0 (all-storable vs k.1)

run-rises : (clock : ℕ) (r : Run) → sound_run clock r ≡ true → is_run r ≡ true
unfolding sound_run
run-rises clock r h = and_left (is_run r) (all (sound_version clock) r) h

-- up to as many bytes further
to_end : (b : Bytes) (at n : ℕ) (x : Bytes) → part b at n ≡ x → span b at (at + n) ≡ x
to_end b at n x e = ap (part b at) (add-sub_cancel_left at n) ∙ e

module _ (b : Bytes) (s : Store) (o : octets b ≡ true) (e : read_store b ≡ some s) (run : sound_run s.clock s.active ≡ true) (i : ℕ) (l : i < s.settings.transactions) (t : Txn) (f : get_or s.places i none ≡ some t) (ok : sound_txn s.settings s.counter s.clock t ≡ true) where
  st : Settings
  st = s.settings

  -- where the active run's records and the transaction's own writes begin
  at : ℕ
  at = start_active st + 8

  own : ℕ
  own = place_at st i + place_overlay + 8

  active-room : run_size s.active ≤ s.settings.active_bytes
  active-room = omega (arith, run_long s.active, (read_fits b s o e).active.1)

  own-rules : (rises cmp_pair t.own ≡ true) × (all sound_pair t.own ≡ true) × (own_size t.own ≤ s.settings.overlay_bytes)
  unfolding sound_txn txn_rules
  own-rules =
      let u = txn_rules s.settings s.counter s.clock t in
      (rule 3 u ok, rule 4 u ok, leb-true (own_size t.own) s.settings.overlay_bytes (rule 5 u ok))

  active-bytes : span b at (at + run_size s.active) ≡ records_bytes s.active
  unfolding st at active_slot
  active-bytes =
      to_end b at (run_size s.active) (records_bytes s.active)
      (ap (part b at) (sym (run-form s.active))
      ∙ room-form (width_active st) (many version_stream) b (start_active st) s.active (lies b s o e).active (omega (arith, run-form s.active, active-room))
      ∙ records-form s.active)

  own-bytes : span b own (own + own_size t.own) ≡ put_all pair_stream t.own
  unfolding st own many
  own-bytes =
      to_end b own (own_size t.own) (put_all pair_stream t.own)
      (ap (part b own) (sym (overlay-form t.own))
      ∙ room-form (width_overlay st) (many pair_stream) b (place_at st i + place_overlay) t.own (own_at b s o e i l t f) (omega (arith, overlay-form t.own, own-rules.2)))

  storables : all storable s.active ≡ true
  storables = all-storable s.active (read_fits b s o e).active.0.0

  pub active-there : versions_in b (start_active s.settings + 8) (start_active s.settings + 8 + run_size s.active) ≡ s.active
  unfolding st at
  active-there = ap versions active-bytes ∙ versions-records s.active storables

  pub own-there : own_in b (place_at s.settings i + place_overlay + 8) (place_at s.settings i + place_overlay + 8 + own_size t.own) ≡ t.own
  unfolding st own
  own-there = ap pairs_in own-bytes ∙ pairs-packed t.own own-rules.1

  -- they lie as asked, for the number of the next commit
  pub absorbable-there : Absorbable b (start_active s.settings + 8) (start_active s.settings + 8 + run_size s.active) (place_at s.settings i + place_overlay + 8) (place_at s.settings i + place_overlay + 8 + own_size t.own) (s.clock + 1)
  unfolding st at own
  absorbable-there =
      record {
        order = omega arith;
        apart = omega (arith, active-room);
        onward = omega arith;
        inside = omega (arith, own-rules.2, place_end s.settings i l, enough b s o e);
        whole = ap packed active-bytes ∙ packed-records s.active (run-rises s.clock s.active run) storables;
        aged = ap (all (λ v. ltb v.time (s.clock + 1))) active-there ∙ older-next s.clock s.active run;
        entries = ap is_overlay own-bytes ∙ packed-is t.own own-rules.0 own-rules.1;
      }

  -- what comes of them is the active run after the commit
  pub absorbed-after : absorbed b (start_active s.settings + 8) (start_active s.settings + 8 + run_size s.active) (place_at s.settings i + place_overlay + 8) (place_at s.settings i + place_overlay + 8 + own_size t.own) (s.clock + 1) ≡ active_after s t
  unfolding active_after
  absorbed-after = ap₂ (λ (ps : List Pair) (r : Run). insert_all cmp_version (stamped (s.clock + 1) ps) r) own-there active-there

  -- and where it has room it ends in front of them
  pub absorb-before : active_fits s.settings (active_after s t) ≡ true
      → start_active s.settings + 8 + run_size (absorbed b (start_active s.settings + 8) (start_active s.settings + 8 + run_size s.active) (place_at s.settings i + place_overlay + 8) (place_at s.settings i + place_overlay + 8 + own_size t.own) (s.clock + 1)) ≤ place_at s.settings i + place_overlay + 8
  absorb-before h = omega (arith, ap (λ (r : Run). run_size r) absorbed-after, leb-true (run_size (active_after s t)) s.settings.active_bytes h)
