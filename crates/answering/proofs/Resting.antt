-- How the rest of a get and of a scan ends, one law for each return.
-- Assumes nothing.
use native.Mathlib.Omega.{arith}
use mathlib.Core.Path.{◌≡◌, refl, sym, ap, ◌∙◌, subst}
use mathlib.Core.Bool.{Bool, true, false, ◌&&◌}
use mathlib.Core.Logic.{◌⊎◌, inl, inr}
use mathlib.Core.Option.{Option, none, some}
use Prim.Native.Nat.{ℕ, ◌≤◌, ◌<◌}
use borrow.Author.Tests.{le-leb, lt-leb}
use lib.Dec.{leb}
use lib.ListN.{length}
use Rattle.paper.specs.Keys.{Bytes}
use Rattle.paper.specs.Hash.{hash_of}
use Rattle.paper.specs.Refusals.{Refusal, no_room, read_set, out_buffer, Try, stop, go, must, ◌>>◌}
use Rattle.paper.specs.Room.{answer_fits, pair_fits}
use Rattle.paper.specs.Calls.{Reply, found, answered, overwritten, value_out, key_out}
use Rattle.paper.proofs.Bools.{and_intro}
use Rattle.settings.specs.declared.Shape.{Shape}
use Rattle.std.proofs.Math.Bool.{and-false}
use Rattle.lsm.specs.Pairs.{pair_at, InBytes}
use Rattle.lsm.specs.Answers.{value_in, InAnswer}
use Rattle.lsm.specs.declared.answer.Span.{Span}
use Rattle.std.specs.Prelude as std
use Rattle.std.specs.Prelude.{Some, None}
use Rattle.reply.specs.Told as reply
use Rattle.answering.specs.Places.{read_fits, noted}
use Rattle.answering.specs.Rests.{rest_of_get, rest_of_scan, GetEnded, ScanEnded}

-- ---- two checks, and then a reply
module _ (f g : Bool) (r q : Refusal) (a : Reply) where
  first_stops : f ≡ false → must f r >> (must g q >> go a) ≡ stop r
  unfolding must ◌>>◌
  first_stops e = rw e

  second-stops : f ≡ true → g ≡ false → must f r >> (must g q >> go a) ≡ stop q
  unfolding must ◌>>◌
  second-stops e h = rw (e, h)

  both-pass : f ≡ true → g ≡ true → must f r >> (must g q >> go a) ≡ go a
  unfolding must ◌>>◌
  both-pass e h = rw (e, h)

-- ---- a get
module _ (m : Try Reply) (b after out : Bytes) where
  get-stops : (r : Refusal) → m ≡ stop r → GetEnded m b after out (reply.why r) b out
  get-stops r e = subst (λ (n : Try Reply). GetEnded n b after out (reply.why r) b out) (sym e) (record { tells = refl; state = refl; value = refl })

  get-goes : (a : Reply) → m ≡ go a → (t : reply.Told) (b' out' : Bytes) → t ≡ reply.told a → b' ≡ after → out' ≡ value_out a out → GetEnded m b after out t b' out'
  get-goes a e t b' out' f g h = subst (λ (n : Try Reply). GetEnded n b after out t b' out') (sym e) (record { tells = f; state = g; value = h })

module _ (z : Shape) (b : Bytes) (at hash : ℕ) (out : Bytes) where
  -- the rest with an answer told t, and left the state and the out buffer so
  abbrev pub GetEnds : Option Bytes → reply.Told → Bytes → Bytes → Type 0
  GetEnds o t b' out' = GetEnded (rest_of_get z b at hash (length out) o) b (noted z b at hash) out t b' out'

  stops : (o : Option Bytes) (r : Refusal) → rest_of_get z b at hash (length out) o ≡ stop r → GetEnds o (reply.why r) b out
  stops o r e = get-stops (rest_of_get z b at hash (length out) o) b (noted z b at hash) out r e

  -- where the read set has room
  module _ (f : read_fits z b at hash ≡ true) where
    fits : (o : Option Bytes) → answer_fits (length out) o ≡ true → rest_of_get z b at hash (length out) o ≡ go (found o)
    unfolding rest_of_get
    fits o e = both-pass (read_fits z b at hash) (answer_fits (length out) o) (no_room read_set) (no_room out_buffer) (found o) f e

    goes : (o : Option Bytes) (t : reply.Told) (b' out' : Bytes) → answer_fits (length out) o ≡ true → t ≡ reply.told (found o) → b' ≡ noted z b at hash → out' ≡ value_out (found o) out → GetEnds o t b' out'
    goes o t b' out' e p q r = get-goes (rest_of_get z b at hash (length out) o) b (noted z b at hash) out (found o) (fits o e) t b' out' p q r

    module _ (p : Span) where
      -- 5, 'out buffer shorter than the answer'
      pub value-short : length out < length (pair_at b p).value → GetEnds (some (pair_at b p).value) (reply.why (no_room out_buffer)) b out
      unfolding rest_of_get
      value-short l =
          let o : Option Bytes = some (pair_at b p).value in
          stops o (no_room out_buffer) (second-stops (read_fits z b at hash) (answer_fits (length out) o) (no_room read_set) (no_room out_buffer) (found o) f (lt-leb (length (pair_at b p).value) (length out) l))

      -- the value stands in front of the out buffer
      pub value_out_lem : length (pair_at b p).value ≤ length out → (b' out' : Bytes) → b' ≡ noted z b at hash → out' ≡ overwritten (pair_at b p).value out
          → GetEnds (some (pair_at b p).value) (reply.value (some (length (pair_at b p).value))) b' out'
      unfolding reply.told value_out
      value_out_lem l b' out' q r =
          goes (some (pair_at b p).value) (reply.value (some (length (pair_at b p).value))) b' out' (le-leb (length (pair_at b p).value) (length out) l) refl q r

  -- whether it has
  module _ (answer : std.Option Span) (r : Bool) (e : r ≡ read_fits z b at hash) where
    -- 5, 'hash new and set full'
    pub get-full : r ≡ false → GetEnds (value_in b answer) (reply.why (no_room read_set)) b out
    unfolding rest_of_get
    get-full n = stops (value_in b answer) (no_room read_set) (first_stops (read_fits z b at hash) (answer_fits (length out) (value_in b answer)) (no_room read_set) (no_room out_buffer) (found (value_in b answer)) (sym e ∙ n))

    pub get-fits : r ≡ true → read_fits z b at hash ≡ true
    get-fits n = sym e ∙ n

    -- 'an absent answer .. write nothing'
    pub get_absent : r ≡ true → answer ≡ None → (b' : Bytes) → b' ≡ noted z b at hash → GetEnds (value_in b answer) (reply.value none) b' out
    unfolding reply.told value_out
    get_absent n k b' q = subst (λ (x : std.Option Span). GetEnds (value_in b x) (reply.value none) b' out) (sym k) (goes (get-fits n) none (reply.value none) b' out (le-leb 0 (length out) (omega arith)) refl q refl)

    -- a value
    module _ (p : Span) (k : answer ≡ Some p) where
      pub span-in : InAnswer b answer → InBytes b p
      span-in i = subst (InAnswer b) k i

      pub get_present : (t : reply.Told) (b' out' : Bytes) → GetEnds (some (pair_at b p).value) t b' out' → GetEnds (value_in b answer) t b' out'
      get_present t b' out' h = subst (λ (x : std.Option Span). GetEnds (value_in b x) t b' out') (sym k) h

-- ---- a scan
module _ (m : Try Reply) (b after keys values : Bytes) where
  scan-stops : (r : Refusal) → m ≡ stop r → ScanEnded m b after keys values (reply.why r) b keys values
  scan-stops r e = subst (λ (n : Try Reply). ScanEnded n b after keys values (reply.why r) b keys values) (sym e) (record { tells = refl; state = refl; key = refl; value = refl })

  scan-goes : (a : Reply) → m ≡ go a → (t : reply.Told) (b' keys' values' : Bytes) → t ≡ reply.told a → b' ≡ after → keys' ≡ key_out a keys → values' ≡ value_out a values
      → ScanEnded m b after keys values t b' keys' values'
  scan-goes a e t b' keys' values' f g h i = subst (λ (n : Try Reply). ScanEnded n b after keys values t b' keys' values') (sym e) (record { tells = f; state = g; key = h; value = i })

module _ (z : Shape) (b : Bytes) (at : ℕ) (keys values : Bytes) (p : Span) (hash : ℕ) (h : hash ≡ hash_of (pair_at b p).key) (f : Bool) (e : f ≡ read_fits z b at hash) where
  abbrev rest : Try Reply
  rest = rest_of_scan z b at (length keys) (length values) (pair_at b p)

  abbrev after : Bytes
  after = noted z b at (hash_of (pair_at b p).key)

  -- the rest told t, and left the state and the out buffers so
  abbrev pub ScanEnds : reply.Told → Bytes → Bytes → Bytes → Type 0
  ScanEnds t b' keys' values' = ScanEnded (rest_of_scan z b at (length keys) (length values) (pair_at b p)) b (noted z b at (hash_of (pair_at b p).key)) keys values t b' keys' values'

  asked : f ≡ read_fits z b at (hash_of (pair_at b p).key)
  asked = e ∙ ap (λ (n : ℕ). read_fits z b at n) h

  -- 5, 'hash new and set full'
  pub scan-full : f ≡ false → ScanEnds (reply.why (no_room read_set)) b keys values
  unfolding rest_of_scan
  scan-full n = scan-stops rest b after keys values (no_room read_set) (first_stops (read_fits z b at (hash_of (pair_at b p).key)) (pair_fits (length keys) (length values) (pair_at b p)) (no_room read_set) (no_room out_buffer) (answered (some (pair_at b p))) (sym asked ∙ n))

  module _ (n : f ≡ true) where
    pub scan-fits : read_fits z b at hash ≡ true
    scan-fits = sym e ∙ n

    fitting : read_fits z b at (hash_of (pair_at b p).key) ≡ true
    fitting = sym asked ∙ n

    short : pair_fits (length keys) (length values) (pair_at b p) ≡ false → ScanEnds (reply.why (no_room out_buffer)) b keys values
    unfolding rest_of_scan
    short g = scan-stops rest b after keys values (no_room out_buffer) (second-stops (read_fits z b at (hash_of (pair_at b p).key)) (pair_fits (length keys) (length values) (pair_at b p)) (no_room read_set) (no_room out_buffer) (answered (some (pair_at b p))) fitting g)

    -- 5, 'out buffer shorter than the answer': the key's, or the value's
    pub short-out : (length keys < length (pair_at b p).key) ⊎ ((length (pair_at b p).key ≤ length keys) × (length values < length (pair_at b p).value)) → ScanEnds (reply.why (no_room out_buffer)) b keys values
    short-out (inl l) = short (ap (λ (x : Bool). x && leb (length (pair_at b p).value) (length values)) (lt-leb (length (pair_at b p).key) (length keys) l))
    short-out (inr (k, l)) =
        short (ap (λ (x : Bool). leb (length (pair_at b p).key) (length keys) && x) (lt-leb (length (pair_at b p).value) (length values) l) ∙ and-false (leb (length (pair_at b p).key) (length keys)))

    -- the key stands in front of its out buffer, and the value of its own
    pub pair-out : length (pair_at b p).key ≤ length keys → length (pair_at b p).value ≤ length values → (b' keys' values' : Bytes) → b' ≡ noted z b at hash
        → keys' ≡ overwritten (pair_at b p).key keys → values' ≡ overwritten (pair_at b p).value values
        → ScanEnds (reply.pair (some (length (pair_at b p).key, length (pair_at b p).value))) b' keys' values'
    unfolding rest_of_scan reply.told value_out key_out
    pair-out l k b' keys' values' u v w =
        let g : pair_fits (length keys) (length values) (pair_at b p) ≡ true = and_intro (le-leb (length (pair_at b p).key) (length keys) l) (le-leb (length (pair_at b p).value) (length values) k) in
        scan-goes rest b after keys values (answered (some (pair_at b p)))
        (both-pass (read_fits z b at (hash_of (pair_at b p).key)) (pair_fits (length keys) (length values) (pair_at b p)) (no_room read_set) (no_room out_buffer) (answered (some (pair_at b p))) fitting g)
        (reply.pair (some (length (pair_at b p).key, length (pair_at b p).value))) b' keys' values'
        refl (u ∙ ap (λ (x : ℕ). noted z b at x) h) v w
