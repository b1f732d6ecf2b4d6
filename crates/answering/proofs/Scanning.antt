-- What a scan is on a sound state, one law for each return.
-- Assumes nothing.
use mathlib.Core.Path.{◌≡◌, sym, ap, ap₂, ◌∙◌}
use mathlib.Core.Bool.{Bool, true}
use mathlib.Core.List.{List}
use mathlib.Core.Option.{none, some}
use Prim.Native.Nat.{ℕ}
use lib.ListN.{length}
use Rattle.paper.specs.Keys.{Bytes, Pair, Version, octets}
use Rattle.paper.specs.Bounds.{Bound}
use Rattle.paper.specs.Seen.{scanned}
use Rattle.paper.specs.Hash.{hash_of}
use Rattle.paper.specs.Refusals.{Refusal, no_room, read_set, out_buffer, stop, go, must, ◌>>=◌, ◌>>◌}
use Rattle.paper.specs.Store.{Txn, Store, versions_of, set_add, with_reads, with_txn}
use Rattle.paper.specs.Room.{set_fits, pair_fits}
use Rattle.paper.specs.Calls.{answered, outcome, in_open_txn, hand_out, try_scan, scan, tried, value_out, key_out}
use Rattle.paper.proofs.HashLaws.{hash-below}
use Rattle.layout.specs.Layout.{store_in, sound_state}
use Rattle.layout.proofs.SoundState.{sound-in, sound-again}
use Rattle.settings.specs.Shapes.{shape_of}
use Rattle.settings.specs.declared.Shape.{Shape}
use Rattle.seat.specs.Seats.{Seated}
use Rattle.lsm.specs.Pairs.{pair_at}
use Rattle.lsm.specs.Answers.{answer_in, Says}
use Rattle.lsm.specs.Views.{versions_in, writes_in}
use Rattle.lsm.specs.declared.view.View.{View}
use Rattle.lsm.specs.declared.answer.Span.{Span}
use Rattle.std.specs.Prelude as std
use Rattle.std.specs.Prelude.{Some, None}
use Rattle.reply.specs.Told.{Told, told, pair, why, refusal_of}
use Rattle.reply.specs.declared.Refusal as reasons
use Rattle.reply.specs.OnBytes.{told_on, value_on, key_on}
use Rattle.reply.proofs.Ends.{refused-told, refused-value, refused-key, done-told, done-value, done-key}
use Rattle.answering.specs.Places.{read_fits, noted}
use Rattle.answering.specs.Views.{Shows}
use Rattle.answering.specs.Rests.{rest_of_scan, ScanEnded}
use Rattle.answering.proofs.Seating.{txn-there, fits-there, noted-there}
use Rattle.seat.proofs.Entering.{enter-open}
use Rattle.answering.proofs.Ending.{rest-told, rest-value, rest-key, both_told}

-- ---- the checks one after the other
module _ (s : Store) (h : ℕ) (lo hi : Bound) (kr vr : ℕ) where
  not-open : (r : Refusal) → in_open_txn s h ≡ stop r → tried s (scan h lo hi kr vr) ≡ stop r
  unfolding tried try_scan ◌>>=◌
  not-open r e = rw e

  module _ (t : Txn) (e : in_open_txn s h ≡ go t) where
    in-txn : tried s (scan h lo hi kr vr) ≡ hand_out s t kr vr (scanned t.own (versions_of s) t.read lo hi)
    unfolding tried try_scan ◌>>=◌
    in-txn = rw e

    -- the end
    at-end : scanned t.own (versions_of s) t.read lo hi ≡ none → tried s (scan h lo hi kr vr) ≡ outcome (answered none) s
    unfolding hand_out
    at-end f = in-txn ∙ ap (hand_out s t kr vr) f

    -- a pair
    at_pair : (p : Pair) → scanned t.own (versions_of s) t.read lo hi ≡ some p
        → tried s (scan h lo hi kr vr) ≡ must (set_fits s.settings.read_hashes (set_add s.settings.serializable (hash_of p.key) t.reads)) (no_room read_set) >> (must (pair_fits kr vr p) (no_room out_buffer) >> outcome (answered (some p)) (with_txn (with_reads (set_add s.settings.serializable (hash_of p.key) t.reads) t) s))
    unfolding hand_out
    at_pair p f = in-txn ∙ ap (hand_out s t kr vr) f

-- ---- on the bytes of a sound state
module _ (b : Bytes) (o : octets b ≡ true) (h : sound_state b ≡ true) (handle : ℕ) (lo hi : Bound) (keys values : Bytes) where
  abbrev s : Store
  s = store_in b

  -- what the call tells and leaves
  abbrev pub ScanTold : Told → Bytes → Bytes → Bytes → Type 0
  ScanTold t b' keys' values' =
      (◌≡◌ {A = Told × Bytes} (t, b') (told_on (scan handle lo hi (length keys) (length values)) b))
      × (keys' ≡ key_on (scan handle lo hi (length keys) (length values)) b keys)
      × (values' ≡ value_on (scan handle lo hi (length keys) (length values)) b values)

  refused-so : (r : Refusal) → tried s (scan handle lo hi (length keys) (length values)) ≡ stop r → ScanTold (why r) b keys values
  refused-so r e = (
    sym (refused-told (scan handle lo hi (length keys) (length values)) b r e),
    sym (refused-key (scan handle lo hi (length keys) (length values)) b r e keys),
    sym (refused-value (scan handle lo hi (length keys) (length values)) b r e values),
  )

  -- 3, 4
  pub scan_unentered : (w : reasons.Refusal) → in_open_txn (store_in b) handle ≡ stop (refusal_of w) → ScanTold (why (refusal_of w)) b keys values
  scan_unentered w e = refused-so (refusal_of w) (not-open s handle lo hi (length keys) (length values) (refusal_of w) e)

  module _ (at read : ℕ) (seated : Seated (store_in b) handle at read true) (z : Shape) (f : z ≡ shape_of (store_in b).settings) where
    abbrev t : Txn
    t = seated.txn

    opened : in_open_txn s handle ≡ go t
    opened = enter-open s handle (sound-in b h) t seated.found seated.marked

    module _ (v : View) (w : Shows z b at read v) (answer : std.Option Span) (g : Says b (scanned (writes_in b v) (versions_in b v) v.read lo hi) answer) where
      -- what the scan of the view says is the first present key
      view-scanned : scanned t.own (versions_of s) t.read lo hi ≡ answer_in b answer
      view-scanned =
          sym (g.is
          ∙ ap (λ (l : List Pair). scanned l (versions_in b v) v.read lo hi) (w.own ∙ ap (λ (u : Txn). u.own) (txn-there b o h handle at read true seated z f))
          ∙ ap₂ (λ (l : List Version) (n : ℕ). scanned t.own l n lo hi) w.versions (w.number ∙ sym seated.reads))

      -- 'the end add nothing'
      pub scan-end : answer ≡ None → ScanTold (pair none) b keys values
      unfolding told value_out key_out
      scan-end j =
          let y = at-end s handle lo hi (length keys) (length values) t opened (view-scanned ∙ ap (answer_in b) j) in (
            sym (done-told (scan handle lo hi (length keys) (length values)) b (record { reply = answered none; store = s }) y ∙ ap (λ (x : Bytes). (pair none, x)) (sound-again b o h)),
            sym (done-key (scan handle lo hi (length keys) (length values)) b (record { reply = answered none; store = s }) y keys),
            sym (done-value (scan handle lo hi (length keys) (length values)) b (record { reply = answered none; store = s }) y values),
          )

      module _ (p : Span) (j : answer ≡ Some p) where
        -- the rest, 5 or the pair
        pub scan-rest : (t : Told) (b' keys' values' : Bytes)
            → ScanEnded (rest_of_scan z b at (length keys) (length values) (pair_at b p)) b (noted z b at (hash_of (pair_at b p).key)) keys values t b' keys' values' → ScanTold t b' keys' values'
        unfolding rest_of_scan
        scan-rest t' b' keys' values' E =
            let n : ℕ = hash_of (pair_at b p).key in
            let x : Store = with_txn (with_reads (set_add s.settings.serializable n t.reads) t) s in
            let k : read_fits z b at n ≡ set_fits s.settings.read_hashes (set_add s.settings.serializable n t.reads) = fits-there b o h handle at read true seated z f n in
            let fits : Bool = pair_fits (length keys) (length values) (pair_at b p) in
            let y : tried s (scan handle lo hi (length keys) (length values)) ≡ must (read_fits z b at n) (no_room read_set) >> (must fits (no_room out_buffer) >> outcome (answered (some (pair_at b p))) x) =
            at_pair s handle lo hi (length keys) (length values) t opened (pair_at b p) (view-scanned ∙ ap (answer_in b) j)
            ∙ ap (λ (i : Bool). must i (no_room read_set) >> (must fits (no_room out_buffer) >> outcome (answered (some (pair_at b p))) x)) (sym k) in (
              both_told E.tells E.state ∙ sym (rest-told (scan handle lo hi (length keys) (length values)) b (no_room read_set) (no_room out_buffer) (answered (some (pair_at b p))) x (noted z b at n) (read_fits z b at n) fits y (λ i. noted-there b o h handle at read true seated z f n (hash-below (pair_at b p).key) (sym k ∙ i))),
              E.key ∙ sym (rest-key (scan handle lo hi (length keys) (length values)) b (no_room read_set) (no_room out_buffer) (answered (some (pair_at b p))) x (noted z b at n) (read_fits z b at n) fits y keys),
              E.value ∙ sym (rest-value (scan handle lo hi (length keys) (length values)) b (no_room read_set) (no_room out_buffer) (answered (some (pair_at b p))) x (noted z b at n) (read_fits z b at n) fits y values),
            )
