-- What a get is on a sound state, one law for each return.
-- Assumes nothing.
use mathlib.Core.Path.{◌≡◌, sym, ap, ap₂, ◌∙◌, subst}
use mathlib.Core.Bool.{Bool, true}
use mathlib.Core.List.{List, []}
use mathlib.Core.Option.{Option}
use Prim.Native.Nat.{ℕ}
use lib.ListN.{length}
use Rattle.paper.specs.Keys.{Bytes, Pair, Version, octets}
use Rattle.paper.specs.Seen.{seen}
use Rattle.paper.specs.Hash.{hash_of}
use Rattle.paper.specs.Refusals.{Refusal, no_room, read_set, out_buffer, Try, stop, go, must, ◌>>=◌, ◌>>◌}
use Rattle.paper.specs.Store.{Txn, Store, versions_of, set_add, with_reads, with_txn}
use Rattle.paper.specs.Room.{set_fits, answer_fits}
use Rattle.paper.specs.Calls.{found, outcome, Outcome, in_open_txn, good_key_value, try_get, get, tried}
use Rattle.paper.proofs.HashLaws.{hash-below}
use Rattle.layout.specs.Layout.{store_in, sound_state}
use Rattle.layout.proofs.SoundState.{sound-in}
use Rattle.settings.specs.Shapes.{shape_of}
use Rattle.settings.specs.declared.Shape.{Shape}
use Rattle.seat.specs.Seats.{Seated}
use Rattle.lsm.specs.Views.{versions_in, writes_in}
use Rattle.lsm.specs.declared.view.View.{View}
use Rattle.reply.specs.Told.{Told, why, refusal_of}
use Rattle.reply.specs.declared.Refusal as reasons
use Rattle.reply.specs.OnBytes.{told_on, value_on}
use Rattle.reply.proofs.Ends.{refused-told, refused-value}
use Rattle.answering.specs.Places.{read_fits, noted}
use Rattle.answering.specs.Views.{Shows}
use Rattle.answering.specs.Rests.{rest_of_get, GetEnded}
use Rattle.answering.proofs.Seating.{txn-there, fits-there, noted-there}
use Rattle.seat.proofs.Entering.{enter-open}
use Rattle.answering.proofs.Ending.{rest-told, rest-value, both_told}

-- ---- the checks one after the other
module _ (s : Store) (h : ℕ) (k : Bytes) (room : ℕ) where
  not-open : (r : Refusal) → in_open_txn s h ≡ stop r → tried s (get h k room) ≡ stop r
  unfolding tried try_get ◌>>=◌
  not-open r e = rw e

  module _ (t : Txn) (e : in_open_txn s h ≡ go t) where
    abbrev answer : Option Bytes
    answer = seen t.own (versions_of s) t.read k

    abbrev set' : List ℕ
    set' = set_add s.settings.serializable (hash_of k) t.reads

    abbrev answering : Try Outcome
    answering = must (set_fits s.settings.read_hashes set') (no_room read_set) >> (must (answer_fits room answer) (no_room out_buffer) >> outcome (found answer) (with_txn (with_reads set' t) s))

    in-txn : tried s (get h k room) ≡ good_key_value k [] >> answering
    unfolding tried try_get ◌>>=◌
    in-txn = rw e

    bad-key : (r : Refusal) → good_key_value k [] ≡ stop r → tried s (get h k room) ≡ stop r
    unfolding ◌>>◌
    bad-key r f = in-txn ∙ ap (λ (m : Try (Unit {0})). m >> answering) f

    good-key : good_key_value k [] ≡ go tt → tried s (get h k room) ≡ answering
    unfolding ◌>>◌
    good-key f = in-txn ∙ ap (λ (m : Try (Unit {0})). m >> answering) f

-- ---- on the bytes of a sound state
module _ (b : Bytes) (o : octets b ≡ true) (h : sound_state b ≡ true) (handle : ℕ) (k out : Bytes) where
  abbrev s : Store
  s = store_in b

  -- what the call tells and leaves
  abbrev pub GetTold : Told → Bytes → Bytes → Type 0
  GetTold t b' out' = (◌≡◌ {A = Told × Bytes} (t, b') (told_on (get handle k (length out)) b)) × (out' ≡ value_on (get handle k (length out)) b out)

  refused-so : (r : Refusal) → tried s (get handle k (length out)) ≡ stop r → GetTold (why r) b out
  refused-so r e = (sym (refused-told (get handle k (length out)) b r e), sym (refused-value (get handle k (length out)) b r e out))

  -- 3, 4
  pub get_unentered : (w : reasons.Refusal) → in_open_txn (store_in b) handle ≡ stop (refusal_of w) → GetTold (why (refusal_of w)) b out
  get_unentered w e = refused-so (refusal_of w) (not-open s handle k (length out) (refusal_of w) e)

  module _ (at read : ℕ) (seated : Seated (store_in b) handle at read true) where
    abbrev t : Txn
    t = seated.txn

    opened : in_open_txn s handle ≡ go t
    opened = enter-open s handle (sound-in b h) t seated.found seated.marked

    -- 1, 2
    pub get_bad : (w : reasons.Refusal) → stop (refusal_of w) ≡ good_key_value k [] → GetTold (why (refusal_of w)) b out
    get_bad w e = refused-so (refusal_of w) (bad-key s handle k (length out) t opened (refusal_of w) (sym e))

    module _ (z : Shape) (f : z ≡ shape_of (store_in b).settings) where
      -- what the view shows of the key is what is seen of it
      view-seen : (v : View) → Shows z b at read v → seen (writes_in b v) (versions_in b v) v.read k ≡ seen t.own (versions_of s) t.read k
      view-seen v w =
          ap (λ (l : List Pair). seen l (versions_in b v) v.read k) (w.own ∙ ap (λ (u : Txn). u.own) (txn-there b o h handle at read true seated z f))
          ∙ ap₂ (λ (l : List Version) (n : ℕ). seen t.own l n k) w.versions (w.number ∙ sym seated.reads)

      -- the rest, 5 or the answer
      pub get-rest : go tt ≡ good_key_value k [] → (v : View) → Shows z b at read v
          → (answer : Option Bytes) → answer ≡ seen (writes_in b v) (versions_in b v) v.read k → (hash : ℕ) → hash ≡ hash_of k
          → (t : Told) (b' out' : Bytes) → GetEnded (rest_of_get z b at hash (length out) answer) b (noted z b at hash) out t b' out'
          → GetTold t b' out'
      unfolding rest_of_get
      get-rest l v w answer g hash j t' b' out' ended =
          let E : GetEnded (rest_of_get z b at (hash_of k) (length out) answer) b (noted z b at (hash_of k)) out t' b' out' = subst (λ (i : ℕ). GetEnded (rest_of_get z b at i (length out) answer) b (noted z b at i) out t' b' out') j ended in
          let x : Store = with_txn (with_reads (set_add s.settings.serializable (hash_of k) t.reads) t) s in
          let p : read_fits z b at (hash_of k) ≡ set_fits s.settings.read_hashes (set_add s.settings.serializable (hash_of k) t.reads) = fits-there b o h handle at read true seated z f (hash_of k) in
          let q : answer ≡ seen t.own (versions_of s) t.read k = g ∙ view-seen v w in
          let y : tried s (get handle k (length out)) ≡ must (read_fits z b at (hash_of k)) (no_room read_set) >> (must (answer_fits (length out) answer) (no_room out_buffer) >> outcome (found answer) x) =
          good-key s handle k (length out) t opened (sym l)
          ∙ ap₂ (λ (i : Bool) (u : Option Bytes). must i (no_room read_set) >> (must (answer_fits (length out) u) (no_room out_buffer) >> outcome (found u) x)) (sym p) (sym q) in (
            both_told E.tells E.state ∙ sym (rest-told (get handle k (length out)) b (no_room read_set) (no_room out_buffer) (found answer) x (noted z b at (hash_of k)) (read_fits z b at (hash_of k)) (answer_fits (length out) answer) y (λ i. noted-there b o h handle at read true seated z f (hash_of k) (hash-below k) (sym p ∙ i))),
            E.value ∙ sym (rest-value (get handle k (length out)) b (no_room read_set) (no_room out_buffer) (found answer) x (noted z b at (hash_of k)) (read_fits z b at (hash_of k)) (answer_fits (length out) answer) y out),
          )
