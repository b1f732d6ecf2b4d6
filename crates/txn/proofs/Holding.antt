-- A place that holds a transaction: where its overlay and its sets lie, and that every sound state's places are such.
-- Assumes nothing.
use native.Mathlib.Omega.{arith}
use mathlib.Core.Path.{◌≡◌, refl, sym, ap, ◌∙◌}
use mathlib.Core.Bool.{Bool, true, false, cond, ◌&&◌, false≢true}
use mathlib.Core.Option.{Option, none, some}
use mathlib.Core.List.{List, [], ◌∷◌}
use Prim.Native.Nat.{ℕ, ◌+◌, ◌-◌, ◌≤◌, compare}
use borrow.Author.Tests.{le-leb, leb-true}
use lib.Dec.{leb}
use lib.ListN.{length}
use Rattle.paper.specs.Lists.{all, rises, hold_all}
use Rattle.paper.specs.Keys.{Bytes, octets, cmp_pair}
use Rattle.paper.specs.Settings.{Settings}
use Rattle.paper.specs.Store.{Txn}
use Rattle.paper.specs.Sound.{is_hash, is_set, sound_pair, sound_set, txn_rules, sound_txn}
use Rattle.paper.proofs.Bools.{and_left, and_right, and_intro}
use Rattle.paper.proofs.Alls.{rule}
use Rattle.raw.specs.Bytes.{part}
use Rattle.layout.specs.Codec.{many}
use Rattle.layout.specs.Offsets.{place_overlay}
use Rattle.layout.specs.Layout.{pair_stream}
use Rattle.layout.proofs.LayoutLaws.{place-laws, place-width}
use Rattle.layout.proofs.Sides.{Has, has}
use Rattle.layout.proofs.Places.{Seated, seated}
use Rattle.overlay.specs.Overlay.{pairs_in, is_overlay, overlay_in}
use Rattle.overlay.proofs.Pairs.{overlay-of}
use Rattle.txn.specs.declared.Rooms.{Rooms}
use Rattle.txn.specs.Place.{settings_of, place_of, stride_of, reads_at, writes_at, txn_or, txn_in, orderly_txn, orderly, used_at, own_start, own_end, own_of, own_held, set_of, set_held}
use Rattle.txn.proofs.Reading.{room-holds, SetAt, set_there, set-held}

-- the place holds a transaction whose overlay and sets are in order
pub record Held (r : Rooms) (q : Bytes) : Type 0 where
  pub has-txn : Has (place_of r) q (some (txn_in r q))
  pub own-rise : rises cmp_pair (txn_in r q).own ≡ true
  pub own-sound : all sound_pair (txn_in r q).own ≡ true
  pub reads-rise : rises compare (txn_in r q).reads ≡ true
  pub writes-rise : rises compare (txn_in r q).writes ≡ true

pub held : (r : Rooms) (q : Bytes) → octets q ≡ true → length q ≡ stride_of r → orderly r q ≡ true → Held r q
unfolding orderly txn_in
held r q y l h = go ((place_of r).read q) refl
  where
    go : (o : Option (Option Txn)) → (place_of r).read q ≡ o → Held r q
    go none e = absurd (false≢true (sym (ap orderly_txn e) ∙ h))
    go (some none) e = absurd (false≢true (sym (ap orderly_txn e) ∙ h))
    go (some (some t)) e =
        let f : txn_in r q ≡ t = ap txn_or e in
        let rules : List Bool = rises cmp_pair t.own ∷ all sound_pair t.own ∷ rises compare t.reads ∷ rises compare t.writes ∷ [] in
        let k : hold_all rules ≡ true = sym (ap orderly_txn e) ∙ h in
        record {
          has-txn = has (place-laws (settings_of false r)) q (some (txn_in r q)) y (l ∙ sym (place-width (settings_of false r))) (e ∙ ap (λ (u : Txn). some (some u)) (sym f));
          own-rise = ap (λ (u : Txn). rises cmp_pair u.own) f ∙ rule 0 rules k;
          own-sound = ap (λ (u : Txn). all sound_pair u.own) f ∙ rule 1 rules k;
          reads-rise = ap (λ (u : Txn). rises compare u.reads) f ∙ rule 2 rules k;
          writes-rise = ap (λ (u : Txn). rises compare u.writes) f ∙ rule 3 rules k;
        }

-- a set that is sound rises
set-rises : (b : Bool) (count : ℕ) (hs : List ℕ) → sound_set b count hs ≡ true → rises compare hs ≡ true
unfolding sound_set is_set
set-rises b count hs h = and_left (rises compare hs) (all is_hash hs) (and_left (rises compare hs && all is_hash hs) (leb (length hs) (cond b count 0)) h)

-- a sound transaction's place is such
pub orderly-sound : (st : Settings) (counter clock : ℕ) (r : Rooms) (q : Bytes) (t : Txn) → (place_of r).read q ≡ some (some t) → sound_txn st counter clock t ≡ true
    → (orderly r q ≡ true) × (txn_in r q ≡ t)
unfolding orderly txn_in sound_txn txn_rules hold_all
orderly-sound st counter clock r q t e h =
    let own : rises cmp_pair t.own ≡ true = rule 3 (txn_rules st counter clock t) h in
    let pairs : all sound_pair t.own ≡ true = rule 4 (txn_rules st counter clock t) h in
    let reads : sound_set st.serializable st.read_hashes t.reads ≡ true = rule 6 (txn_rules st counter clock t) h in
    let writes : sound_set st.serializable st.write_hashes t.writes ≡ true = rule 7 (txn_rules st counter clock t) h in (
      ap orderly_txn e
          ∙ and_intro own (and_intro pairs (and_intro (set-rises st.serializable st.read_hashes t.reads reads) (and_intro (set-rises st.serializable st.write_hashes t.writes writes) refl))),
      ap txn_or e,
    )

-- ---- where its parts lie
module _ (r : Rooms) (q : Bytes) (l : length q ≡ stride_of r) (H : Held r q) where
  pub lies : Seated (settings_of false r) q (txn_in r q)
  lies = seated (settings_of false r) q (txn_in r q) H.has-txn

  own_read : (used_at q place_overlay ≤ r.own) × ((many pair_stream).parse (part q own_start (used_at q place_overlay)) ≡ some (txn_in r q).own)
  own_read = room-holds (many pair_stream) q place_overlay r.own (omega arith) (txn_in r q).own lies.own.read

  pub own-used : used_at q place_overlay ≤ r.own
  own-used = own_read.0

  own-span : part q own_start (own_end q - own_start) ≡ part q own_start (used_at q place_overlay)
  own-span = let e : own_end q - own_start ≡ used_at q place_overlay = omega arith in ap (part q own_start) e

  pub own_is : own_of q ≡ (txn_in r q).own
  own_is = ap pairs_in own-span ∙ (overlay-of (part q own_start (used_at q place_overlay)) (txn_in r q).own own_read.1).1

  pub own_held_lem : own_held q ≡ true
  unfolding own_held
  own_held_lem =
      let u = own-used in
      and_intro (le-leb (own_end q) (length q) (omega arith))
      (ap is_overlay own-span ∙ (overlay-of (part q own_start (used_at q place_overlay)) (txn_in r q).own own_read.1).0 ∙ and_intro H.own-rise H.own-sound)

  pub reads-there : SetAt q (reads_at r) r.reads (txn_in r q).reads
  reads-there = set_there q (reads_at r) r.reads (omega arith) (txn_in r q).reads lies.reads.read

  pub reads_held : set_held q (reads_at r) ≡ true
  reads_held = set-held q (reads_at r) r.reads (omega arith) (txn_in r q).reads reads-there H.reads-rise

  pub writes-there : SetAt q (writes_at r) r.writes (txn_in r q).writes
  writes-there = set_there q (writes_at r) r.writes (omega arith) (txn_in r q).writes lies.writes.read

  pub writes-held : set_held q (writes_at r) ≡ true
  writes-held = set-held q (writes_at r) r.writes (omega arith) (txn_in r q).writes writes-there H.writes-rise

-- an overlay that is held
pub own-parts : (q : Bytes) → own_held q ≡ true → (own_end q ≤ length q) × (overlay_in q own_start (own_end q) ≡ true)
unfolding own_held
own-parts q h =
    (leb-true (own_end q) (length q) (and_left (leb (own_end q) (length q)) (overlay_in q own_start (own_end q)) h), and_right (leb (own_end q) (length q)) (overlay_in q own_start (own_end q)) h)

-- a set that is held
pub set-parts : (q : Bytes) (at : ℕ) → set_held q at ≡ true → (at + 8 + used_at q at ≤ length q) × (rises compare (set_of q at) ≡ true)
unfolding set_held
set-parts q at h =
    (leb-true (at + 8 + used_at q at) (length q) (and_left (leb (at + 8 + used_at q at) (length q)) (rises compare (set_of q at)) h), and_right (leb (at + 8 + used_at q at) (length q)) (rises compare (set_of q at)) h)
