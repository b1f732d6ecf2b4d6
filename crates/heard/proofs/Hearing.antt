-- What a host hears is what the calls answer: demand 3, and that no call answers 9.
-- Assumes nothing.
use Prim.Native.Nat.{ℕ}
use mathlib.Core.Path.{◌≡◌, refl, sym, ap, ap₂, ◌∙◌, subst}
use mathlib.Core.Bool.{true}
use mathlib.Core.List.{List, [], ◌∷◌}
use lib.ListN.{length}
use Rattle.paper.specs.Lists.{all, total}
use Rattle.paper.specs.Keys.{Bytes, octets}
use Rattle.paper.specs.Settings.{Settings}
use Rattle.paper.specs.Calls.{Reply, done, Call, opening, called, reply_number, value_out, key_out}
use Rattle.layout.specs.Layout.{store_in, on_bytes}
use Rattle.layout.specs.Runs.{run_on, lent}
use Rattle.reply.specs.Told.{Told, nothing}
use Rattle.reply.specs.OnBytes.{told_on, value_on, key_on}
use Rattle.reply.specs.Read.{reply_read}
use Rattle.reply.proofs.Reading.{reply-read, bytes_left, told-done}
use Rattle.serial.specs.Trace.{Event, event, trace, on_one_store}
use Rattle.serial.specs.Line.{accepted, line, stands, alone_all, carried_all}
use Rattle.serial.specs.Serial.{contents}
use Rattle.serial.proofs.Every.{Every}
use Rattle.carried.specs.OnBytes.{events_on, SerialOn}
use Rattle.carried.proofs.Carrying.{replies-on-bytes, serial-on-bytes, never-nine-on-bytes}
use Rattle.heard.specs.Heard.{Heard, events_heard, calls_heard, Made, Session, over, next}
use Rattle.heard.specs.Promise.{SerialHeard}

-- ---- one call
module _ (h : Heard) (b a key value : Bytes) (m : Made h b a key value) where
  reply-is : reply_read h.told h.key h.value ≡ (on_bytes h.call b).0
  reply-is = reply-read h.call b a h.told m.tells h.key h.value key value m.keys m.values

  -- and the out buffers hold what the paper writes there for that reply
  pub outs-heard : (h.key ≡ key_out (reply_read h.told h.key h.value) key) × (h.value ≡ value_out (reply_read h.told h.key h.value) value)
  unfolding key_on value_on
  outs-heard = (m.keys ∙ ap (λ (r : Reply). key_out r key) (sym reply-is), m.values ∙ ap (λ (r : Reply). value_out r value) (sym reply-is))

  left_is : a ≡ (on_bytes h.call b).1
  left_is = bytes_left h.call b a h.told m.tells

-- ---- all of them
heard-events : (b a : Bytes) (hs : List Heard) → Session b hs a → events_heard hs ≡ events_on (calls_heard hs) b
unfolding events_on
heard-events b a [] (over c) = refl
heard-events b a (h ∷ hs) (next g gs d c e key value m s) =
    ap₂ (λ (r : Reply) (es : List Event). event h.call r ∷ es) (reply-is h b c key value m)
    (heard-events c a hs s ∙ ap (events_on (calls_heard hs)) (left_is h b c key value m))

heard-left : (b a : Bytes) (hs : List Heard) → Session b hs a → a ≡ (run_on (calls_heard hs) b).1
unfolding run_on
heard-left b a [] (over c) = refl
heard-left b a (h ∷ hs) (next g gs d c e key value m s) =
    heard-left c a hs s ∙ ap (λ (x : Bytes). (run_on (calls_heard hs) x).1) (left_is h b c key value m)

-- ---- from an accepted opening on
-- st, images, lengths: what the host opened with; b: what the lent buffer held before, b': what the opening left
module _ (st : Settings) (images : Bytes) (lengths : List ℕ) (b b' : Bytes) (bytes : octets images ≡ true)
    (accepts : ◌≡◌ {A = Told × Bytes} (nothing, b') (told_on (opening st images lengths (length b)) b)) where
  opens : on_bytes (opening st images lengths (length b)) b ≡ (done, b')
  unfolding told_on
  opens =
      let c : Call = opening st images lengths (length b) in
      let r : (on_bytes c b).0 ≡ done = told-done (on_bytes c b).0 (ap (λ (p : Told × Bytes). p.0) accepts) in
      let l : b' ≡ (on_bytes c b).1 = ap (λ (p : Told × Bytes). p.1) accepts in
      ap₂ (λ (x : Reply) (y : Bytes). (x, y)) r (sym l)

  module _ (hs : List Heard) (a : Bytes) (s : Session b' hs a) (o : all (lent (length b')) (calls_heard hs) ≡ true) where
    -- the replies are those of the paper's calls on the store that was opened
    pub replies-heard : events_heard hs ≡ trace called (store_in b') (calls_heard hs)
    replies-heard = heard-events b' a hs s ∙ replies-on-bytes st images lengths b b' bytes opens (calls_heard hs) o

    -- demand 3: any calls as a host makes them, refused ones included, save an accepted opening anew
    pub serial-heard : st.serializable ≡ true → on_one_store (calls_heard hs) ≡ true → SerialHeard b' hs a
    serial-heard mode one =
        let h : SerialOn b' (calls_heard hs) = serial-on-bytes st images lengths b b' bytes opens mode (calls_heard hs) o one in
        let e : events_on (calls_heard hs) b' ≡ events_heard hs = sym (heard-events b' a hs s) in
        record {
          each = λ f. subst (λ (x : List Event). total f (line (accepted x)) ≡ total f (accepted x)) e (h.each f);
          placed = subst (λ (x : List Event). stands (store_in b').clock (line (accepted x)) ≡ true) e h.placed;
          same = subst (λ (x : List Event). alone_all (contents (store_in b')) (line (accepted x)) ≡ true) e h.same;
          ends = λ k.
              subst (λ (x : List Event). carried_all (contents (store_in b')) (line (accepted x)) k ≡ contents (store_in a) k) e
              (h.ends k ∙ ap (λ (x : Bytes). contents (store_in x) k) (sym (heard-left b' a hs s)));
        }

    -- and no call answers 9
    pub never-nine-heard : Every (λ (e : Event). reply_number e.reply ≡ 9 → ⊥) (events_heard hs)
    never-nine-heard =
        subst (Every (λ (e : Event). reply_number e.reply ≡ 9 → ⊥)) (sym (heard-events b' a hs s))
        (never-nine-on-bytes st images lengths b b' bytes opens (calls_heard hs) o)
