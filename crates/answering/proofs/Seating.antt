-- The place of a handle's transaction in a sound state: it is the shape's, and a hash noted there is the store with the transaction put anew.
-- Assumes nothing.
use native.Mathlib.Omega.{arith}
use mathlib.Core.Path.{◌≡◌, refl, sym, ap, ap₂, ◌∙◌, subst}
use mathlib.Core.Bool.{Bool, true, false, cond}
use mathlib.Core.List.{List}
use mathlib.Core.Option.{Option, some}
use Prim.Native.Nat.{ℕ, ◌≤◌, ◌<◌, compare}
use lib.ListN.{length, set}
use lib.Dec.{leb}
use borrow.Author.Tests.{lt-ltb, ltb-true, leb-true}
use Rattle.paper.specs.Lists.{all, rises}
use Rattle.paper.specs.Keys.{Bytes, octets}
use Rattle.paper.specs.Settings.{Settings}
use Rattle.paper.specs.Store.{Txn, Store, put_txn, set_add, with_reads, with_places, with_txn}
use Rattle.paper.specs.Sound.{is_hash, is_set, sound_set, txn_rules, sound_txn}
use Rattle.paper.specs.Room.{set_fits}
use Rattle.paper.proofs.Alls.{rule, all_insert}
use Rattle.paper.proofs.Bools.{and_left, and_right}
use Rattle.paper.proofs.PlaceLaws.{found_all}
use Rattle.paper.proofs.SoundLaws.{rules}
use Rattle.raw.specs.Bytes.{part, over}
use Rattle.layout.specs.Codec.{Slot}
use Rattle.layout.specs.Offsets.{stride, place_part}
use Rattle.layout.specs.Layout.{place_slot, read_store, write_store, store_in, sound_state}
use Rattle.layout.proofs.Streams.{Below}
use Rattle.layout.proofs.LayoutLaws.{OkReads, OkPlace}
use Rattle.layout.proofs.Sizes.{hashes-form, hashes-long}
use Rattle.layout.proofs.Sides.{Has}
use Rattle.layout.proofs.Changes.{place_end}
use Rattle.layout.proofs.Places.{place-fits}
use Rattle.layout.proofs.SoundFits.{all_of, sound-ranged}
use Rattle.layout.proofs.SoundState.{sound-read, sound-enough, sound-in}
use Rattle.layout.proofs.Inside as inside
use Rattle.settings.specs.Shapes.{shape_of}
use Rattle.settings.specs.declared.Shape.{Shape}
use Rattle.txn.specs.Place.{rooms_of, place_of, txn_in, orderly}
use Rattle.txn.proofs.Callers.{slot_same, steady, txn-is}
use Rattle.seat.specs.Seats.{Seated}
use Rattle.answering.specs.Places.{TakenAt, txn_at, read_fits, noted}

-- ---- a set of hashes with one more
hashes-in : (serializable : Bool) (hash : ℕ) (hs : List ℕ) → is_hash hash ≡ true → all is_hash hs ≡ true → all is_hash (set_add serializable hash hs) ≡ true
unfolding set_add
hashes-in true hash hs h a = all_insert is_hash compare hash hs h a
hashes-in false hash hs h a = a

hashes-of : (serializable : Bool) (count : ℕ) (hs : List ℕ) → sound_set serializable count hs ≡ true → all is_hash hs ≡ true
unfolding sound_set is_set
hashes-of serializable count hs h = and_right (rises compare hs) (all is_hash hs) (and_left (is_set hs) (leb (length hs) (cond serializable count 0)) h)

fits-field : (st : Settings) (hs : List ℕ) → st.read_hashes ≤ 65536 → all is_hash hs ≡ true → set_fits st.read_hashes hs ≡ true → OkReads st hs
fits-field st hs k a f =
    let l : length hs ≤ st.read_hashes = leb-true (length hs) st.read_hashes f in
    ((all_of is_hash (Below 4) (λ n h. ltb-true n 4294967296 h) hs a, omega (arith, hashes-form hs)), omega (arith, hashes-long hs))

-- ---- the place of a seat
module _ (b : Bytes) (o : octets b ≡ true) (h : sound_state b ≡ true) where
  abbrev s : Store
  s = store_in b

  abbrev st : Settings
  st = s.settings

  reads : read_store b ≡ some s
  reads = sound-read b h

  module _ (handle at read : ℕ) (mark : Bool) (S : Seated (store_in b) handle at read mark) where
    abbrev t : Txn
    t = S.txn

    abbrev i : ℕ
    i = S.index

    -- its bytes hold the transaction
    here : Has (place_slot st) (place_part st b i) (some t)
    here = subst (Has (place_slot st) (place_part st b i)) S.here (inside.place_at_lem b s o reads i S.inside)

    sound-txn : sound_txn st s.counter s.clock t ≡ true
    sound-txn = found_all (sound_txn st s.counter s.clock) handle t s.places S.found (rules s (sound-in b h)).txns

    bytes : part b at (stride st) ≡ place_part st b i
    bytes = ap (λ (n : ℕ). part b n (stride st)) S.start

    taken_of : TakenAt (shape_of st) b at
    unfolding shape_of
    taken_of =
        record {
          long = refl;
          inside = omega (arith, S.start, place_end st i S.inside, sound-enough b h);
          steady = ap (orderly (rooms_of st)) bytes ∙ steady st (place_part st b i) t here s.counter s.clock sound-txn;
        }

    txn-of : txn_at (shape_of st) b at ≡ t
    unfolding shape_of
    txn-of = ap (txn_in (rooms_of st)) bytes ∙ txn-is st (place_part st b i) t here s.counter s.clock sound-txn

    fits-of : (hash : ℕ) → read_fits (shape_of st) b at hash ≡ set_fits st.read_hashes (set_add st.serializable hash t.reads)
    unfolding shape_of
    fits-of hash = ap (λ (u : Txn). set_fits st.read_hashes (set_add st.serializable hash u.reads)) txn-of

    -- a read set with a hash more is written in the place alone
    module _ (hash : ℕ) (k : hash < 4294967296) (f : set_fits st.read_hashes (set_add st.serializable hash t.reads) ≡ true) where
      abbrev set' : List ℕ
      set' = set_add st.serializable hash t.reads

      abbrev t' : Txn
      t' = with_reads set' t

      ok : OkPlace st (some t')
      unfolding with_reads
      ok =
          let p = place-fits st (place_part st b i) (some t) here in
          let r : sound_set st.serializable st.read_hashes t.reads ≡ true = unfold sound_txn txn_rules in rule 6 (txn_rules st s.counter s.clock t) sound-txn in
          let a : all is_hash set' ≡ true = hashes-in st.serializable hash t.reads (lt-ltb hash 4294967296 k) (hashes-of st.serializable st.read_hashes t.reads r) in
          (p.0, p.1, (p.2.0, (p.2.1.0, (fits-field st set' (sound-ranged s (sound-in b h)).read_hashes.1 a f, p.2.1.1.1))))

      put_is : with_txn t' s ≡ with_places (set s.places i (some t')) s
      unfolding with_txn with_reads
      put_is = ap (λ (ps : List (Option Txn)). with_places ps s) (ap (λ (n : ℕ). put_txn n (some t') s.places) S.handle ∙ S.put (some t'))

      noted_of : write_store (with_txn t' s) b ≡ noted (shape_of st) b at hash
      unfolding noted shape_of
      noted_of =
          ap (λ (x : Store). write_store x b) put_is
          ∙ inside.change-place b s o reads i S.inside (some t') ok
          ∙ ap₂ (λ (n : ℕ) (x : Bytes). over b n ((place_slot st).write (some t') x)) (sym S.start) (sym bytes)
          ∙ ap (λ (P : Slot (Option Txn)). over b at (P.write (some t') (part b at (stride st)))) (slot_same st)
          ∙ ap (λ (u : Txn). over b at ((place_of (rooms_of st)).write (some (with_reads (set_add st.serializable hash u.reads) u)) (part b at (stride st)))) (sym txn-of)

    -- ---- the same of a shape that is that of the state
    module _ (z : Shape) (e : z ≡ shape_of (store_in b).settings) where
      pub taken : TakenAt z b at
      taken = subst (λ (y : Shape). TakenAt y b at) (sym e) taken_of

      pub txn-there : txn_at z b at ≡ S.txn
      txn-there = ap (λ (y : Shape). txn_at y b at) e ∙ txn-of

      pub fits-there : (hash : ℕ) → read_fits z b at hash ≡ set_fits (store_in b).settings.read_hashes (set_add (store_in b).settings.serializable hash S.txn.reads)
      fits-there hash = ap (λ (y : Shape). read_fits y b at hash) e ∙ fits-of hash

      -- 'adds its key's hash to the read set': the state with it is the one of the store with the transaction so
      pub noted-there : (hash : ℕ) → hash < 4294967296 → set_fits (store_in b).settings.read_hashes (set_add (store_in b).settings.serializable hash S.txn.reads) ≡ true
          → write_store (with_txn (with_reads (set_add (store_in b).settings.serializable hash S.txn.reads) S.txn) (store_in b)) b ≡ noted z b at hash
      noted-there hash k f = noted_of hash k f ∙ ap (λ (y : Shape). noted y b at hash) (sym e)
