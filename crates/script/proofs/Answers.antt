-- A call's answer, read off its reply and the out buffers and shown behind the line number, is the answer on the state's bytes.
-- Assumes nothing.
use Rattle.std.specs.Prelude as std
use Rattle.std.specs.Prelude.{Some, None, Result, Ok, Err, ⊤}
use native.Mathlib.Omega.{arith}
use mathlib.Core.Path.{◌≡◌, refl, ap, subst}
use mathlib.Core.List.{[], ◌∷◌, ◌++◌}
use mathlib.Core.Option.{none, some}
use Prim.Native.Nat.{ℕ, ◌≤◌}
use lib.ListN.{length, drop, length-append}
use Rattle.paper.specs.Keys.{Bytes}
use Rattle.paper.specs.Bounds.{Bound, unbounded}
use Rattle.paper.specs.Settings.{longest}
use Rattle.paper.specs.Refusals.{refusal_number}
use Rattle.paper.specs.Calls.{Reply, done, began, found, answered, committed, refused, Call, value_out, key_out, reply_number}
use Rattle.paper.specs.Replay.{decimal_of, fields_of, spaced}
use Rattle.reply.specs.Told.{Told, told, told_settled, told_begun, told_got, told_scanned, told_committed}
use Rattle.reply.specs.declared.Refusal.{Refusal}
use Rattle.reply.specs.declared.Begun.{Begun}
use Rattle.reply.specs.declared.PairLengths.{PairLengths}
use Rattle.reply.specs.OnBytes.{told_on, value_on, key_on}
use Rattle.reply.specs.Read.{reply_read}
use Rattle.reply.proofs.Reading.{reply-read, bytes_left}
use Rattle.layout.specs.Layout.{on_bytes}
use Rattle.store.specs.Asked.{get_of, scan_of}
use Rattle.printing.specs.Shows.{Shows}
use Rattle.printing.specs.declared.Page.{Page}
use Rattle.printing.proofs.Showing.{shows_as}
use Rattle.script.specs.OnLines.{on_call, behind_number}
use Rattle.script.specs.OnPages.{Answers}
use Rattle.script.specs.Inside.{Inside}

-- ---- replies that tell no length: no out buffer matters

pub settled_plain : (r : Result ⊤ Refusal) (k v : Bytes) → reply_read (told_settled r) [] [] ≡ reply_read (told_settled r) k v
unfolding reply_read
settled_plain (Ok u) k v = refl
settled_plain (Err w) k v = refl

pub begun-plain : (r : Result Begun Refusal) (k v : Bytes) → reply_read (told_begun r) [] [] ≡ reply_read (told_begun r) k v
unfolding reply_read
begun-plain (Ok b) k v = refl
begun-plain (Err w) k v = refl

pub committed-plain : (r : Result (std.Option ℕ) Refusal) (k v : Bytes) → reply_read (told_committed r) [] [] ≡ reply_read (told_committed r) k v
unfolding reply_read
committed-plain (Ok (Some n)) k v = refl
committed-plain (Ok None) k v = refl
committed-plain (Err w) k v = refl

-- of a get's reply the key's buffer does not
pub got-keyless : (r : Result (std.Option ℕ) Refusal) (k v : Bytes) → reply_read (told_got r) [] v ≡ reply_read (told_got r) k v
unfolding reply_read
got-keyless (Ok (Some n)) k v = refl
got-keyless (Ok None) k v = refl
got-keyless (Err w) k v = refl

-- ---- the answer lies within the out buffers

in-front : (b out : Bytes) → length b ≤ length (b ++ drop (length b) out)
in-front b out = omega (arith, length-append b (drop (length b) out))

told-inside : (r : Reply) (key value : Bytes) → Inside (key_out r key) (value_out r value) (told r)
unfolding told key_out value_out
told-inside done key value = tt
told-inside (began h n) key value = tt
told-inside (found none) key value = tt
told-inside (found (some b)) key value = in-front b value
told-inside (answered none) key value = tt
told-inside (answered (some p)) key value = (in-front p.key key, in-front p.value value)
told-inside (committed n) key value = tt
told-inside (refused r) key value = tt

pub got-inside : (r : Result (std.Option ℕ) Refusal) (k v : Bytes) → Inside k v (told_got r) → Inside [] v (told_got r)
got-inside (Ok (Some n)) k v h = h
got-inside (Ok None) k v h = tt
got-inside (Err w) k v h = tt

-- ---- one call on the bytes b, which leaves the bytes a: t is what its reply tells

module _ (c : Call) (b a : Bytes) (t : Told) (tells : ◌≡◌ {A = Told × Bytes} (t, a) (told_on c b)) where
  -- k and v are the out buffers after it, key and value before it
  module _ (k v key value : Bytes) (hk : k ≡ key_on c b key) (hv : v ≡ value_on c b value) where
    pub inside : Inside k v t
    unfolding told_on key_on value_on
    inside =
        let e : t ≡ told (on_bytes c b).0 = ap (λ (p : Told × Bytes). p.0) tells in
        rw (e, hk, hv) (told-inside (on_bytes c b).0 key value)

    pub answer : {p q : Page} → Shows p q (behind_number (reply_read t k v)) → Answers (some c) b p a q
    unfolding on_call
    answer s = record { state = bytes_left c b a t tells; page = shows_as (ap behind_number (reply-read c b a t tells k v key value hk hv)) s }

  -- where no out buffer matters
  pub answer-plain : ((k v : Bytes) → reply_read t [] [] ≡ reply_read t k v) → {p q : Page} → Shows p q (behind_number (reply_read t [] [])) → Answers (some c) b p a q
  answer-plain e s =
      let k : Bytes = key_on c b [] in
      let v : Bytes = value_on c b [] in
      answer k v [] [] refl refl (shows_as (ap behind_number (e k v)) s)

-- a get with an out buffer as long as the longest value, value before the call and v after it
module _ (h : ℕ) (k b a value v : Bytes) (reply : Result (std.Option ℕ) Refusal) (e : length value ≡ longest)
    (f : (◌≡◌ {A = Told × Bytes} (told_got reply, a) (told_on (get_of h k value) b)) × (v ≡ value_on (get_of h k value) b value)) where
  pub get-inside : Inside [] v (told_got reply)
  get-inside =
      let c : Call = get_of h k value in
      got-inside reply (key_on c b []) v (inside c b a (told_got reply) f.0 (key_on c b []) v [] value refl f.1)

  pub get-answer : {p q : Page} → Shows p q (behind_number (reply_read (told_got reply) [] v)) → Answers (some (Call.get h k longest)) b p a q
  get-answer {p} {q} s =
      let c : Call = get_of h k value in
      subst (λ (n : ℕ). Answers (some (Call.get h k n)) b p a q) e
      (answer c b a (told_got reply) f.0 (key_on c b []) v [] value refl f.1 (shows_as (ap behind_number (got-keyless reply (key_on c b []) v)) s))

-- a scan without an upper bound, the same
module _ (h : ℕ) (low : Bound) (b a key value k v : Bytes) (reply : Result (std.Option PairLengths) Refusal) (d : length key ≡ longest) (e : length value ≡ longest)
    (f : (◌≡◌ {A = Told × Bytes} (told_scanned reply, a) (told_on (scan_of h low unbounded key value) b)) × (k ≡ key_on (scan_of h low unbounded key value) b key) × (v ≡ value_on (scan_of h low unbounded key value) b value)) where
  pub scan-inside : Inside k v (told_scanned reply)
  scan-inside = inside (scan_of h low unbounded key value) b a (told_scanned reply) f.0 k v key value f.1 f.2

  pub scan-answer : {p q : Page} → Shows p q (behind_number (reply_read (told_scanned reply) k v)) → Answers (some (Call.scan h low unbounded longest longest)) b p a q
  scan-answer {p} {q} s =
      subst (λ (m : ℕ). Answers (some (Call.scan h low unbounded longest m)) b p a q) e
      (subst (λ (n : ℕ). Answers (some (Call.scan h low unbounded n (length value))) b p a q) d
      (answer (scan_of h low unbounded key value) b a (told_scanned reply) f.0 k v key value f.1 f.2 s))

-- a line that is not understood: the bytes stay
pub answer-none : (b : Bytes) {p q : Page} → Shows p q (spaced (decimal_of 13 ∷ [])) → Answers none b p b q
unfolding on_call behind_number reply_number refusal_number fields_of
answer-none b s = record { state = refl; page = s }
