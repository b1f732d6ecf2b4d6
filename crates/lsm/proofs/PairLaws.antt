-- Packed pairs: what is packed is read back, and the first pair is followed by the others.
-- Assumes nothing.
use native.Mathlib.Omega.{arith}
use native.Mathlib.Nat.{add-sub_cancel_left}
use native.Mathlib.Decide.{dec_le}
use mathlib.Core.Path.{◌≡◌, refl, sym, ap, ap₂, ◌∙◌, subst}
use mathlib.Core.Bool.{true, false≢true}
use mathlib.Core.Option.{none, some}
use mathlib.Core.List.{List, [], ◌++◌, append_assoc}
use Prim.Native.Nat.{ℕ, ◌+◌, ◌-◌, ◌^◌, ◌≤◌, ◌<◌}
use borrow.Author.Tests.{leb-true}
use lib.Dec.{leb}
use lib.ListN.{length, drop, length-append}
use Rattle.paper.specs.Lists.{all, is_some, rises}
use Rattle.paper.specs.Keys.{Bytes, Pair, cmp_pair}
use Rattle.paper.specs.Settings.{longest}
use Rattle.paper.specs.Image.{big_endian, number, bytes}
use Rattle.paper.proofs.Bools.{and_left, and_right}
use Rattle.paper.proofs.KeyOrder.{pair-order}
use Rattle.paper.proofs.ImageLaws.{length-big_endian, bytes-at, number_at}
use Rattle.raw.specs.Bytes.{part}
use Rattle.lsm.specs.Pairs.{pair_bytes, pairs_bytes, one_pair, pairs, fitting, packed_pairs, own_in, OwnAt, pair_at, PairAt}
use Rattle.key.proofs.Packing.{Codec, read-nil, read_back, packed_all, packed-is, first-thing, first_next, next-order, next-whole}
use Rattle.lsm.specs.declared.answer.Span.{Span}
use Rattle.key.proofs.Records.{key_length, bytes-here, bytes_cut, number-here, number_cut}

-- ---- what is packed is read back
pair-longer : (p : Pair) → 0 < length (pair_bytes p)
unfolding pair_bytes
pair-longer p = simp (length-append, length-big_endian) (omega arith)

pub pair-back : (p : Pair) (s : Bytes) → fitting p ≡ true → one_pair (pair_bytes p ++ s) ≡ some (p, s)
unfolding one_pair pair_bytes fitting
pair-back p s h =
    simp (append_assoc, number_at 2 (length p.key) r1 k, bytes-at p.key r2 (length p.key) refl, number_at 2 (length p.value) r3 b, bytes-at p.value s (length p.value) refl)
  where
    r3 : Bytes
    r3 = p.value ++ s

    r2 : Bytes
    r2 = big_endian 2 (length p.value) ++ r3

    r1 : Bytes
    r1 = p.key ++ r2

    k : length p.key < 256 ^ 2
    k = omega (arith, leb-true (length p.key) longest (and_left (leb (length p.key) longest) (leb (length p.value) longest) h))

    b : length p.value < 256 ^ 2
    b = omega (arith, leb-true (length p.value) longest (and_right (leb (length p.key) longest) (leb (length p.value) longest) h))

pair_end : one_pair [] ≡ none
unfolding one_pair number bytes
pair_end = refl

pub pair-codec : Codec pair_bytes one_pair cmp_pair fitting
pair-codec = record { ord = pair-order; back = pair-back; end = pair_end; longer = pair-longer }

pub pairs-back : (ps : List Pair) → all fitting ps ≡ true → pairs (pairs_bytes ps) ≡ ps
pairs-back ps a = read_back pair_bytes one_pair cmp_pair fitting pair-codec ps a

-- pairs in key order are packed
pub packed-pairs : (ps : List Pair) → rises cmp_pair ps ≡ true → all fitting ps ≡ true → packed_pairs (pairs_bytes ps) ≡ true
packed-pairs ps r a = packed_all pair_bytes one_pair cmp_pair fitting pair-codec ps r a

pub pairs_is : (b : Bytes) → packed_pairs b ≡ true → (pairs_bytes (pairs b) ≡ b) × (rises cmp_pair (pairs b) ≡ true) × (all fitting (pairs b) ≡ true)
pairs_is b h = packed-is pair_bytes one_pair cmp_pair fitting pair-codec b h

pub own-none : (s : Bytes) (at end : ℕ) → end ≤ at → own_in s at end ≡ []
own-none s at end h = let z : end - at ≡ 0 = omega arith in ap (λ (n : ℕ). pairs (part s at n)) z ∙ read-nil pair_bytes one_pair cmp_pair fitting pair-codec

-- ---- the first pair
module _ (s : Bytes) (at end : ℕ) (ok : OwnAt s at end) (l : at < end) where
  abbrev n : ℕ
  n = key_length s at

  abbrev m : ℕ
  m = key_length s (at + 2 + n)

  never : one_pair (drop at s) ≡ none → ⊥
  never e = false≢true (sym (ap is_some e) ∙ ap is_some (first-thing pair_bytes one_pair cmp_pair fitting pair-codec s at end l ok.inside ok.whole).reads)

  abbrev Here : Type 0
  Here = (at + 2 + n + 2 + m ≤ length s) × (one_pair (drop at s) ≡ some (record { key = part s (at + 2) n; value = part s (at + 2 + n + 2) m }, drop (at + 2 + n + 2 + m) s))

  value_in : at + 2 ≤ length s → at + 2 + n ≤ length s → at + 2 + n + 2 ≤ length s → Dec (at + 2 + n + 2 + m ≤ length s) → Here
  unfolding one_pair
  value_in a b c (yes d) = (d, simp (number-here s at 2 a, bytes-here s (at + 2) n b, number-here s (at + 2 + n) 2 c, bytes-here s (at + 2 + n + 2) m d))
  value_in a b c (no d) = absurd (never (simp (number-here s at 2 a, bytes-here s (at + 2) n b, number-here s (at + 2 + n) 2 c, bytes_cut s (at + 2 + n + 2) m (omega arith))))

  length-in : at + 2 ≤ length s → at + 2 + n ≤ length s → Dec (at + 2 + n + 2 ≤ length s) → Here
  unfolding one_pair
  length-in a b (yes c) = value_in a b c (dec_le (at + 2 + n + 2 + m) (length s))
  length-in a b (no c) = absurd (never (simp (number-here s at 2 a, bytes-here s (at + 2) n b, number_cut s (at + 2 + n) 2 (omega arith))))

  key_in : at + 2 ≤ length s → Dec (at + 2 + n ≤ length s) → Here
  unfolding one_pair
  key_in a (yes b) = length-in a b (dec_le (at + 2 + n + 2) (length s))
  key_in a (no b) = absurd (never (simp (number-here s at 2 a, bytes_cut s (at + 2) n (omega arith))))

  start-in : Dec (at + 2 ≤ length s) → Here
  unfolding one_pair
  start-in (yes a) = key_in a (dec_le (at + 2 + n) (length s))
  start-in (no a) = absurd (never (simp (number_cut s at 2 (omega arith))))

  pub pair-here : Here
  pair-here = start-in (dec_le (at + 2) (length s))

  -- the place of the first pair
  abbrev place : Span
  place = record { ks = at + 2; ke = at + 2 + n; vs = at + 2 + n + 2; ve = at + 2 + n + 2 + m }

  read-it : one_pair (drop at s) ≡ some (pair_at s place, drop place.ve s)
  read-it = simp add-sub_cancel_left pair-here.1

  itself : PairAt s at end place
  itself =
      record {
        start = refl;
        mid = refl;
        inside = record { key = omega arith; key_in = omega (arith, pair-here.0); value = omega arith; value_in = pair-here.0 };
        first = first_next pair_bytes one_pair cmp_pair fitting pair-codec s at end l ok.inside ok.whole (pair_at s place) place.ve read-it pair-here.0;
        rest =
            record {
              order = next-order pair_bytes one_pair cmp_pair fitting pair-codec s at end l ok.inside ok.whole (pair_at s place) place.ve read-it pair-here.0;
              inside = ok.inside;
              whole = next-whole pair_bytes one_pair cmp_pair fitting pair-codec s at end l ok.inside ok.whole (pair_at s place) place.ve read-it pair-here.0;
            };
      }

  pub pair-placed : (i j : ℕ) → i ≡ key_length s at → j ≡ key_length s (at + 2 + i) → PairAt s at end (record { ks = at + 2; ke = at + 2 + i; vs = at + 2 + i + 2; ve = at + 2 + i + 2 + j })
  pair-placed i j e f =
      let f' : j ≡ m = f ∙ ap (λ (k : ℕ). key_length s (at + 2 + k)) e in
      subst (λ (p : Span). PairAt s at end p) (sym (ap₂ {C = Span} (λ (k l : ℕ). record { ks = at + 2; ke = at + 2 + k; vs = at + 2 + k + 2; ve = at + 2 + k + 2 + l }) e f')) itself
