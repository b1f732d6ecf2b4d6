-- Packed things: what is packed is read back, and the first is followed by the others.
-- Assumes nothing.
use native.Mathlib.Omega.{arith}
use mathlib.Core.Path.{◌≡◌, refl, sym, ap, ap₂, ◌∙◌}
use mathlib.Core.Bool.{Bool, true, ◌&&◌}
use mathlib.Core.Option.{none, some, some-injective}
use mathlib.Core.List.{List, [], ◌∷◌, ◌++◌, append_assoc}
use Prim.Native.Nat.{ℕ, zero, suc, ◌+◌, ◌-◌, ◌≤◌, ◌<◌, Ordering}
use lib.ListN.{length, take, drop, length-append, length-drop, take-append-drop}
use lib.Seq.{take_at, drop-drop, length-take-le}
use Rattle.paper.specs.Lists.{all, is_same, rises}
use Rattle.paper.specs.Keys.{Bytes, cmp_key, same_key}
use Rattle.paper.specs.Image.{Reading}
use Rattle.paper.proofs.Bools.{and_left, and_right, and_intro, is_same-eq}
use Rattle.paper.proofs.Alls.{all_head, all_tail}
use Rattle.paper.proofs.Order.{IsOrder}
use Rattle.paper.proofs.KeyOrder.{key-eq, key-order}
use Rattle.paper.proofs.Rising.{rises-of}
use Rattle.raw.specs.Bytes.{part}
use Rattle.key.specs.Packing.{up_to, read_all, pack_all, packed_by}

-- what packing a thing and reading it have to do with each other
pub record Codec {A : Type 0} (enc : A → Bytes) (dec : Reading A) (cmp : A → A → Ordering) (fits : A → Bool) : Type 0 where
  pub ord : IsOrder cmp
  pub back : (x : A) (s : Bytes) → fits x ≡ true → dec (enc x ++ s) ≡ some (x, s)
  pub end : dec [] ≡ none
  pub longer : (x : A) → 0 < length (enc x)

module _ {A : Type 0} (enc : A → Bytes) (dec : Reading A) (cmp : A → A → Ordering) (fits : A → Bool) (codec : Codec enc dec cmp fits) where
  up-to-nil : (n : ℕ) → up_to dec n [] ≡ []
  unfolding up_to
  up-to-nil zero = refl
  up-to-nil (suc n) = rw (codec.end, up_to)

  up-to-back : (n : ℕ) (xs : List A) → length (pack_all enc xs) ≤ n → all fits xs ≡ true → up_to dec n (pack_all enc xs) ≡ xs
  unfolding up_to pack_all
  up-to-back n [] h a = up-to-nil n
  up-to-back zero (x ∷ xs) h a = absurd (omega (arith, length-append (enc x) (pack_all enc xs), codec.longer x))
  up-to-back (suc n) (x ∷ xs) h a =
      rw (codec.back x (pack_all enc xs) (all_head fits x xs a), up_to)
      (ap {B = List A} (λ l. x ∷ l) (up-to-back n xs (omega (arith, length-append (enc x) (pack_all enc xs), codec.longer x)) (all_tail fits x xs a)))

  pub read-nil : read_all dec [] ≡ []
  unfolding read_all
  read-nil = up-to-nil 0

  -- what is packed is read back
  pub read_back : (xs : List A) → all fits xs ≡ true → read_all dec (pack_all enc xs) ≡ xs
  unfolding read_all
  read_back xs a = up-to-back (length (pack_all enc xs)) xs (omega arith) a

  -- things that rise and fit are packed
  pub packed_all : (xs : List A) → rises cmp xs ≡ true → all fits xs ≡ true → packed_by enc dec cmp fits (pack_all enc xs) ≡ true
  unfolding packed_by
  packed_all xs r a = rw (read_back xs a) (and_intro (ap is_same (key-order.same (pack_all enc xs))) (and_intro r a))

  -- and packed bytes are such things
  pub packed-is : (b : Bytes) → packed_by enc dec cmp fits b ≡ true → (pack_all enc (read_all dec b) ≡ b) × (rises cmp (read_all dec b) ≡ true) × (all fits (read_all dec b) ≡ true)
  unfolding packed_by
  packed-is b h =
      let p = and_left (same_key (pack_all enc (read_all dec b)) b) (rises cmp (read_all dec b) && all fits (read_all dec b)) h in
      let q = and_right (same_key (pack_all enc (read_all dec b)) b) (rises cmp (read_all dec b) && all fits (read_all dec b)) h in
      (key-eq (pack_all enc (read_all dec b)) b (is_same-eq (cmp_key (pack_all enc (read_all dec b)) b) p), and_left (rises cmp (read_all dec b)) (all fits (read_all dec b)) q, and_right (rises cmp (read_all dec b)) (all fits (read_all dec b)) q)

  rising-tail : (x : A) (xs : List A) → rises cmp (x ∷ xs) ≡ true → rises cmp xs ≡ true
  unfolding rises
  rising-tail x xs r = rises-of cmp codec.ord x xs r

  -- the first thing from an offset to an end
  pub record First (s : Bytes) (at end : ℕ) : Type 0 where
    pub thing : A
    pub more : List A
    pub has : read_all dec (part s at (end - at)) ≡ thing ∷ more
    pub reads : dec (drop at s) ≡ some (thing, pack_all enc more ++ drop end s)
    pub rising : rises cmp more ≡ true
    pub fitting : all fits more ≡ true

  module _ (s : Bytes) (at end : ℕ) (l : at < end) (inside : end ≤ length s) (whole : packed_by enc dec cmp fits (part s at (end - at)) ≡ true) where
    first_of : (xs : List A) → read_all dec (part s at (end - at)) ≡ xs → First s at end
    unfolding pack_all
    first_of [] e =
        let z : [] ≡ part s at (end - at) = ap (pack_all enc) (sym e) ∙ (packed-is (part s at (end - at)) whole).0 in
        absurd (omega (arith, length-take-le (end - at) (drop at s) (rw length-drop (omega arith)), ap (λ (x : Bytes). length x) z))
    first_of (x ∷ xs) e =
        let w = packed-is (part s at (end - at)) whole in
        let a : all fits (x ∷ xs) ≡ true = ap (all fits) (sym e) ∙ w.2 in
        let z : part s at (end - at) ≡ enc x ++ pack_all enc xs = sym w.0 ∙ ap (pack_all enc) e in
        let j : at + (end - at) ≡ end = omega arith in
        let y : drop at s ≡ part s at (end - at) ++ drop end s =
        sym (take-append-drop (end - at) (drop at s)) ∙ ap (λ (t : Bytes). part s at (end - at) ++ t) (drop-drop (end - at) at s ∙ ap (λ (i : ℕ). drop i s) j) in
        record {
          thing = x;
          more = xs;
          has = e;
          reads = ap dec (y ∙ ap (λ (t : Bytes). t ++ drop end s) z ∙ append_assoc (enc x) (pack_all enc xs) (drop end s)) ∙ codec.back x (pack_all enc xs ++ drop end s) (all_head fits x xs a);
          rising = rising-tail x xs (ap (rises cmp) (sym e) ∙ w.1);
          fitting = all_tail fits x xs a;
        }

    pub first-thing : First s at end
    first-thing = first_of (read_all dec (part s at (end - at))) refl

    -- read at its place, it ends where the others start
    module _ (x : A) (next : ℕ) (read : dec (drop at s) ≡ some (x, drop next s)) (fit : next ≤ length s) where
      same_read : ◌≡◌ {A = A × Bytes} (x, drop next s) (first-thing.thing, pack_all enc first-thing.more ++ drop end s)
      same_read = some-injective _ _ (sym read ∙ first-thing.reads)

      after-it : drop next s ≡ pack_all enc first-thing.more ++ drop end s
      after-it = ap (λ (p : A × Bytes). p.1) same_read

      lengths : length s - next ≡ length (pack_all enc first-thing.more) + (length s - end)
      lengths =
          sym (length-drop next s) ∙ ap (λ (b : Bytes). length b) after-it ∙ length-append (pack_all enc first-thing.more) (drop end s)
          ∙ ap (λ (i : ℕ). length (pack_all enc first-thing.more) + i) (length-drop end s)

      pub next-order : next ≤ end
      next-order = omega (arith, lengths)

      next-bytes : part s next (end - next) ≡ pack_all enc first-thing.more
      next-bytes = ap (take (end - next)) after-it ∙ take_at (pack_all enc first-thing.more) (drop end s) (end - next) (omega (arith, lengths))

      pub next-whole : packed_by enc dec cmp fits (part s next (end - next)) ≡ true
      next-whole = ap (packed_by enc dec cmp fits) next-bytes ∙ packed_all first-thing.more first-thing.rising first-thing.fitting

      pub first_next : read_all dec (part s at (end - at)) ≡ x ∷ read_all dec (part s next (end - next))
      first_next =
          first-thing.has
          ∙ ap₂ {C = List A} (λ y ys. y ∷ ys) (sym (ap (λ (p : A × Bytes). p.0) same_read)) (sym (ap (read_all dec) next-bytes ∙ read_back first-thing.more first-thing.fitting))
