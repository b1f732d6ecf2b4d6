-- The paper's put, check by check: how it ends, from what is found in the store.
-- Assumes nothing.
use Prim.Native.Nat.{ℕ}
use mathlib.Core.Path.{◌≡◌, refl, ap, ◌∙◌}
use mathlib.Core.Bool.{Bool, true, false}
use mathlib.Core.Option.{some}
use Rattle.paper.specs.Keys.{Bytes}
use Rattle.paper.specs.Hash.{hash_of}
use Rattle.paper.specs.Refusals.{Refusal, no_room, overlay, write_set, Try, stop, go, must, ◌>>=◌, ◌>>◌}
use Rattle.paper.specs.Store.{Txn, Store, find_txn, with_writes, with_txn}
use Rattle.paper.specs.Sound.{sound}
use Rattle.paper.specs.Room.{overlay_fits, set_fits}
use Rattle.paper.specs.Calls.{done, Outcome, outcome, good_key_value, in_open_txn, try_put, Call, tried}
use Rattle.txn.specs.Place.{rooms_of}
use Rattle.writing.specs.Writes.{written, room_for}
use Rattle.seat.proofs.Entering.{enter-open}

-- what follows when the transaction is entered
abbrev room-then : Store → Txn → Try Outcome
room-then s t = must (overlay_fits s.settings t.own) (no_room overlay) >> (must (set_fits s.settings.write_hashes t.writes) (no_room write_set) >> outcome done (with_txn t s))

then_same : (a c : Bool) (q w : Refusal) (m : Try Outcome) → (must a q >> (must c w >> m)) ≡ ((must a q >> must c w) >> m)
unfolding must ◌>>◌
then_same true c q w m = refl
then_same false c q w m = refl

module _ (s : Store) (h : ℕ) (k v : Bytes) (e : sound s ≡ true) where
  -- the transaction after the write
  abbrev anew : Txn → Txn
  anew t = written s.settings.serializable k v (hash_of k) t

  abbrev further : Txn → Try Outcome
  further t = good_key_value k v >> room-then s (anew t)

  as-entered : (m : Try Txn) → in_open_txn s h ≡ m → tried s (Call.put h k v) ≡ (m >>= further)
  unfolding tried try_put with_writes
  as-entered m f = ap (λ (x : Try Txn). x >>= further) f

  -- 3, 4
  pub put_unentered : (w : Refusal) → in_open_txn s h ≡ stop w → tried s (Call.put h k v) ≡ stop w
  unfolding ◌>>=◌
  put_unentered w f = as-entered (stop w) f

  module _ (t : Txn) (f : find_txn h s.places ≡ some t) where
    module _ (m : t.open? ≡ true) where
      as-open : tried s (Call.put h k v) ≡ further t
      unfolding ◌>>=◌
      as-open = as-entered (go t) (enter-open s h e t f m)

      pub put-bad : (w : Refusal) → good_key_value k v ≡ stop w → tried s (Call.put h k v) ≡ stop w
      unfolding ◌>>◌
      put-bad w g = as-open ∙ ap (λ (x : Try (Unit {0})). x >> room-then s (anew t)) g

      module _ (g : good_key_value k v ≡ go tt) where
        as-good : tried s (Call.put h k v) ≡ (room_for (rooms_of s.settings) (anew t) >> outcome done (with_txn (anew t) s))
        unfolding ◌>>◌ room_for
        as-good =
            as-open ∙ ap (λ (x : Try (Unit {0})). x >> room-then s (anew t)) g
            ∙ then_same (overlay_fits s.settings (anew t).own) (set_fits s.settings.write_hashes (anew t).writes) (no_room overlay) (no_room write_set) (outcome done (with_txn (anew t) s))

        pub put_full : (w : Refusal) → room_for (rooms_of s.settings) (anew t) ≡ stop w → tried s (Call.put h k v) ≡ stop w
        unfolding ◌>>◌
        put_full w r = as-good ∙ ap (λ (x : Try (Unit {0})). x >> outcome done (with_txn (anew t) s)) r

        pub put-done : room_for (rooms_of s.settings) (anew t) ≡ go tt → tried s (Call.put h k v) ≡ outcome done (with_txn (anew t) s)
        unfolding ◌>>◌
        put-done r = as-good ∙ ap (λ (x : Try (Unit {0})). x >> outcome done (with_txn (anew t) s)) r
