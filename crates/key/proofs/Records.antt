-- The record at an offset: where its parts lie.
-- Assumes nothing.
use native.Mathlib.Omega.{arith}
use native.Mathlib.Decide.{dec_le}
use mathlib.Core.Path.{◌≡◌, sym, ap, ◌∙◌}
use mathlib.Core.Bool.{true, false≢true}
use mathlib.Core.Option.{none, some}
use Prim.Native.Nat.{ℕ, ◌+◌, ◌-◌, ◌≤◌, ◌<◌}
use borrow.Author.Tests.{le-leb, lt-leb}
use lib.ListN.{length, drop, length-drop}
use lib.Seq.{drop-drop}
use Rattle.paper.specs.Lists.{is_some}
use Rattle.paper.specs.Keys.{Bytes}
use Rattle.paper.specs.Image.{number_from, number, bytes, one_record}
use Rattle.raw.specs.Bytes.{part}

module _ (s : Bytes) (at w : ℕ) where
  pub bytes-here : at + w ≤ length s → bytes w (drop at s) ≡ some (part s at w, drop (at + w) s)
  unfolding bytes
  bytes-here h = simp (le-leb w (length (drop at s)) (rw length-drop (omega arith)), drop-drop)

  pub bytes_cut : length s - at < w → bytes w (drop at s) ≡ none
  unfolding bytes
  bytes_cut h = simp (lt-leb w (length (drop at s)) (rw length-drop h))

  pub number-here : at + w ≤ length s → number w (drop at s) ≡ some (number_from 0 (part s at w), drop (at + w) s)
  unfolding number
  number-here h = rw (bytes-here h)

  pub number_cut : length s - at < w → number w (drop at s) ≡ none
  unfolding number
  number_cut h = rw (bytes_cut h)

-- the lengths that the record's two fields give
abbrev pub key_length : Bytes → ℕ → ℕ
key_length s at = number_from 0 (part s at 2)

abbrev pub value_length : Bytes → ℕ → ℕ
value_length s at = number_from 0 (part s (at + 2 + key_length s at + 8) 2)

abbrev pub Here : Bytes → ℕ → Type 0
Here s at =
    (at + 2 + key_length s at + 10 + value_length s at ≤ length s)
    × (one_record (drop at s)
    ≡ some (
      record {
        key = part s (at + 2) (key_length s at);
        time = number_from 0 (part s (at + 2 + key_length s at) 8);
        value = part s (at + 2 + key_length s at + 10) (value_length s at);
      },
      drop (at + 2 + key_length s at + 10 + value_length s at) s,
    ))

module _ (s : Bytes) (at : ℕ) (h : is_some (one_record (drop at s)) ≡ true) where
  never : one_record (drop at s) ≡ none → ⊥
  never e = false≢true (sym (ap is_some e) ∙ h)

  n : ℕ
  n = key_length s at

  m : ℕ
  m = value_length s at

  value_in : at + 2 ≤ length s → at + 2 + n ≤ length s → at + 2 + n + 8 ≤ length s → at + 2 + n + 8 + 2 ≤ length s → Dec (at + 2 + n + 8 + 2 + m ≤ length s) → Here s at
  unfolding one_record n m
  value_in a b c d (yes e) =
      let p : at + 2 + n + 10 ≡ at + 2 + n + 8 + 2 = omega arith in
      (omega arith, rw p (simp (number-here s at 2 a, bytes-here s (at + 2) n b, number-here s (at + 2 + n) 8 c, number-here s (at + 2 + n + 8) 2 d, bytes-here s (at + 2 + n + 8 + 2) m e)))
  value_in a b c d (no e) =
      absurd (never (simp (number-here s at 2 a, bytes-here s (at + 2) n b, number-here s (at + 2 + n) 8 c, number-here s (at + 2 + n + 8) 2 d, bytes_cut s (at + 2 + n + 8 + 2) m (omega arith))))

  length-in : at + 2 ≤ length s → at + 2 + n ≤ length s → at + 2 + n + 8 ≤ length s → Dec (at + 2 + n + 8 + 2 ≤ length s) → Here s at
  unfolding one_record n m
  length-in a b c (yes d) = value_in a b c d (dec_le (at + 2 + n + 8 + 2 + m) (length s))
  length-in a b c (no d) =
      absurd (never (simp (number-here s at 2 a, bytes-here s (at + 2) n b, number-here s (at + 2 + n) 8 c, number_cut s (at + 2 + n + 8) 2 (omega arith))))

  time-in : at + 2 ≤ length s → at + 2 + n ≤ length s → Dec (at + 2 + n + 8 ≤ length s) → Here s at
  unfolding one_record n m
  time-in a b (yes c) = length-in a b c (dec_le (at + 2 + n + 8 + 2) (length s))
  time-in a b (no c) = absurd (never (simp (number-here s at 2 a, bytes-here s (at + 2) n b, number_cut s (at + 2 + n) 8 (omega arith))))

  key_in : at + 2 ≤ length s → Dec (at + 2 + n ≤ length s) → Here s at
  unfolding one_record n m
  key_in a (yes b) = time-in a b (dec_le (at + 2 + n + 8) (length s))
  key_in a (no b) = absurd (never (simp (number-here s at 2 a, bytes_cut s (at + 2) n (omega arith))))

  start-in : Dec (at + 2 ≤ length s) → Here s at
  unfolding one_record n m
  start-in (yes a) = key_in a (dec_le (at + 2 + n) (length s))
  start-in (no a) = absurd (never (simp (number_cut s at 2 (omega arith))))

  -- a record that can be read has its parts one after the other
  pub here : Here s at
  here = start-in (dec_le (at + 2) (length s))
