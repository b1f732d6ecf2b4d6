-- Demand 3 of the bytes that an accepted opening left, and that no call on them answers 9.
-- Assumes nothing.
use Prim.Native.Nat.{ℕ}
use native.Mathlib.Omega.{arith}
use mathlib.Core.Path.{◌≡◌, refl, sym, ap, ap₂, ◌∙◌, subst}
use mathlib.Core.Bool.{true}
use mathlib.Core.List.{List, [], ◌∷◌}
use lib.ListN.{length}
use Rattle.paper.specs.Lists.{all, total}
use Rattle.paper.specs.Keys.{Bytes, octets}
use Rattle.paper.specs.Settings.{Settings}
use Rattle.paper.specs.Refusals.{Try, stop, go, ◌>>=◌}
use Rattle.paper.specs.Store.{Store}
use Rattle.paper.specs.Calls.{Reply, done, outcome, settle, open_store, images_in, try_open, Call, opening, tried, called, of_bytes, reply_number}
use Rattle.paper.proofs.Bools.{and_left}
use Rattle.paper.proofs.Alls.{all_head, all_tail, all-mono}
use Rattle.paper.proofs.CallSound.{images-octets}
use Rattle.layout.specs.Layout.{store_in, on_bytes}
use Rattle.layout.specs.Runs.{run_on, room_is, lent}
use Rattle.layout.proofs.CallBytes.{on_bytes-reply, on_bytes-store, on_bytes-length, lent-opening}
use Rattle.serial.specs.Trace.{Event, event, trace, after, on_one_store}
use Rattle.serial.specs.Line.{accepted, line, stands, alone_all, carried_all}
use Rattle.serial.specs.Serial.{contents, Serial}
use Rattle.serial.proofs.Every.{Every}
use Rattle.serial.proofs.Theorem.{serial, opened-never-nine}
use Rattle.carried.specs.OnBytes.{events_on, SerialOn}

-- ---- calls on bytes are the paper's on the store in them
same-lent : (c : Call) (cs : List Call) (b : Bytes) → all (lent (length b)) (c ∷ cs) ≡ true → all (lent (length (on_bytes c b).1)) cs ≡ true
same-lent c cs b o = ap (λ (n : ℕ). all (lent n) cs) (on_bytes-length b c (all_head (lent (length b)) c cs o)) ∙ all_tail (lent (length b)) c cs o

events-trace : (cs : List Call) (b : Bytes) → all (lent (length b)) cs ≡ true → events_on cs b ≡ trace called (store_in b) cs
unfolding events_on trace
events-trace [] b o = refl
events-trace (c ∷ cs) b o =
    ap₂ (λ (r : Reply) (es : List Event). event c r ∷ es) (on_bytes-reply b c)
    (events-trace cs (on_bytes c b).1 (same-lent c cs b o) ∙ ap (λ (s : Store). trace called s cs) (on_bytes-store b c (all_head (lent (length b)) c cs o)))

run-after : (cs : List Call) (b : Bytes) → all (lent (length b)) cs ≡ true → store_in (run_on cs b).1 ≡ after called (store_in b) cs
unfolding run_on after
run-after [] b o = refl
run-after (c ∷ cs) b o =
    run-after cs (on_bytes c b).1 (same-lent c cs b o) ∙ ap (λ (s : Store). after called s cs) (on_bytes-store b c (all_head (lent (length b)) c cs o))

-- what holds of the trace on a store holds of the events on bytes
carried : (cs : List Call) (b : Bytes) → all (lent (length b)) cs ≡ true → Serial called (store_in b) cs → SerialOn b cs
carried cs b o h =
    let e : events_on cs b ≡ trace called (store_in b) cs = events-trace cs b o in
    record {
      each = λ f. subst (λ (x : List Event). total f (line (accepted x)) ≡ total f (accepted x)) (sym e) (h.each f);
      placed = subst (λ (x : List Event). stands (store_in b).clock (line (accepted x)) ≡ true) (sym e) h.placed;
      same = subst (λ (x : List Event). alone_all (contents (store_in b)) (line (accepted x)) ≡ true) (sym e) h.same;
      ends = λ k.
          subst (λ (x : List Event). carried_all (contents (store_in b)) (line (accepted x)) k ≡ contents (store_in (run_on cs b).1) k) (sym e)
          (h.ends k ∙ ap (λ (x : Store). contents x k) (sym (run-after cs b o)));
    }

lent-bytes : (n : ℕ) (c : Call) → lent n c ≡ true → of_bytes c ≡ true
unfolding lent
lent-bytes n c h = and_left (of_bytes c) (room_is n c) h

-- ---- an accepted opening leaves the bytes of the store that it opened
opened-store : (b : Bytes) (m : Try Store) → (settle (store_in b) (m >>= λ s. outcome done s)).reply ≡ done
    → (s : Store) × (m ≡ go s) × ((settle (store_in b) (m >>= λ x. outcome done x)).store ≡ s)
unfolding settle ◌>>=◌
opened-store b (stop r) e = absurd (let z : ◌≡◌ {A = ℕ} 0 1 = cc in omega arith)
opened-store b (go s) e = (s, refl, refl)

module _ (st : Settings) (images : Bytes) (lengths : List ℕ) (b b' : Bytes) (bytes : octets images ≡ true)
    (accepts : on_bytes (opening st images lengths (length b)) b ≡ (done, b')) where
  abbrev call : Call
  call = opening st images lengths (length b)

  told : (called (store_in b) call).reply ≡ done
  told = sym (on_bytes-reply b call) ∙ ap (λ (p : Reply × Bytes). p.0) accepts

  there : (s : Store) × (open_store st (images_in images lengths) (length b) ≡ go s) × ((called (store_in b) call).store ≡ s)
  unfolding called tried try_open
  there = opened-store b (open_store st (images_in images lengths) (length b)) told

  left : store_in b' ≡ there.0
  left = ap (λ (p : Reply × Bytes). store_in p.1) (sym accepts) ∙ on_bytes-store b call (lent-opening b st images lengths bytes) ∙ there.2

  -- the bytes hold the store that was opened
  pub opened-on-bytes : (s : Store) × (open_store st (images_in images lengths) (length b) ≡ go s) × (store_in b' ≡ s)
  opened-on-bytes = (there.0, there.1, left)

  -- every reply of any calls on them, refused ones included, is the paper's on that store
  pub replies-on-bytes : (cs : List Call) → all (lent (length b')) cs ≡ true → events_on cs b' ≡ trace called (store_in b') cs
  replies-on-bytes cs o = events-trace cs b' o

  -- demand 3 on bytes: any calls on them as a host makes them, save an accepted opening anew
  pub serial-on-bytes : st.serializable ≡ true → (cs : List Call) → all (lent (length b')) cs ≡ true → on_one_store cs ≡ true → SerialOn b' cs
  serial-on-bytes mode cs o one =
      carried cs b' o (subst (λ (z : Store). Serial called z cs) (sym left) (serial st (images_in images lengths) (length b) there.0 there.1 mode cs one))

  -- and no call on them answers 9
  pub never-nine-on-bytes : (cs : List Call) → all (lent (length b')) cs ≡ true → Every (λ (e : Event). reply_number e.reply ≡ 9 → ⊥) (events_on cs b')
  never-nine-on-bytes cs o =
      subst (λ (es : List Event). Every (λ (e : Event). reply_number e.reply ≡ 9 → ⊥) es)
      (ap (λ (z : Store). trace called z cs) (sym left) ∙ sym (events-trace cs b' o))
      (opened-never-nine st (images_in images lengths) (length b) there.0 (images-octets images lengths bytes) there.1 cs
      (all-mono (lent (length b')) of_bytes (lent-bytes (length b')) cs o))
