-- The record at an offset of bytes that end at an end: it is whole exactly when its parts fit, and its place is told by one answer only.
-- Assumes nothing.
use native.Mathlib.Omega.{arith}
use mathlib.Core.Path.{◌≡◌, refl, sym, ap, ap₂, ◌∙◌}
use mathlib.Core.Bool.{true}
use mathlib.Core.Option.{Option, none, some, none-ne-some}
use Prim.Native.Nat.{ℕ, ◌+◌, ◌-◌, ◌≤◌, ◌<◌}
use lib.ListN.{length, take, drop}
use lib.Seq.{length-take-le}
use Rattle.paper.specs.Lists.{is_some}
use Rattle.paper.specs.Keys.{Bytes, Version}
use Rattle.paper.specs.Image.{number_from, one_record}
use Rattle.raw.specs.Bytes.{part}
use Rattle.raw.proofs.Parts.{drop-take, part-take}
use Rattle.key.specs.Places.{version_in}
use Rattle.key.specs.declared.Place.{Place}
use Rattle.key.proofs.Records.{key_length, value_length, bytes-here, number-here, here}
use Rattle.key.proofs.Placing.{place_of, placed, placed_same}
use Rattle.run.specs.Records.{Within, Recorded}
use Rattle.std.specs.Prelude.{Some, None}
use Rattle.std.specs.Prelude as std

-- ---- to the end of the bytes

module _ (s : Bytes) (at : ℕ) where
  cut : length s < at + 2 + key_length s at + 10 + value_length s at → one_record (drop at s) ≡ none
  cut h = go (one_record (drop at s)) refl
    where
      go : (o : Option (Version × Bytes)) → one_record (drop at s) ≡ o → one_record (drop at s) ≡ none
      go none e = e
      go (some p) e = absurd (omega (arith, (here s at (ap is_some e)).0))

  whole : at + 2 + key_length s at + 10 + value_length s at ≤ length s → is_some (one_record (drop at s)) ≡ true
  unfolding one_record
  whole h =
      let a : at + 2 ≤ length s = omega arith in
      let b : at + 2 + key_length s at ≤ length s = omega arith in
      let c : at + 2 + key_length s at + 8 ≤ length s = omega arith in
      let d : at + 2 + key_length s at + 8 + 2 ≤ length s = omega arith in
      let e : at + 2 + key_length s at + 8 + 2 + value_length s at ≤ length s = omega arith in
      simp
      (number-here s at 2 a, bytes-here s (at + 2) (key_length s at) b, number-here s (at + 2 + key_length s at) 8 c, number-here s (at + 2 + key_length s at + 8) 2 d, bytes-here s (at + 2 + key_length s at + 8 + 2) (value_length s at) e)

-- the value's length, read behind a key of n bytes
pub value_there : (s : Bytes) (at n m : ℕ) → n ≡ key_length s at → m ≡ number_from 0 (part s (at + 2 + n + 8) 2) → m ≡ value_length s at
value_there s at n m e g = g ∙ ap (λ (k : ℕ). number_from 0 (part s (at + 2 + k + 8) 2)) e

-- ---- to an end

module _ (s : Bytes) (at end : ℕ) (fit : end ≤ length s) where
  key-length : at + 2 ≤ end → key_length (take end s) at ≡ key_length s at
  key-length h = ap (number_from 0) (part-take s end at 2 h)

  value-length : at + 12 + key_length s at ≤ end → value_length (take end s) at ≡ value_length s at
  value-length h =
      ap (λ (k : ℕ). number_from 0 (part (take end s) (at + 2 + k + 8) 2)) (key-length (omega arith))
      ∙ ap (number_from 0) (part-take s end (at + 2 + key_length s at + 8) 2 (omega arith))

  cut_in : end < at + 2 + key_length (take end s) at + 10 + value_length (take end s) at → one_record (part s at (end - at)) ≡ none
  cut_in h = ap one_record (sym (drop-take at end s)) ∙ cut (take end s) at (omega (arith, length-take-le end s fit))

  -- the lengths and the timestamp alone have 12 bytes
  pub cut_short : end < at + 12 → one_record (part s at (end - at)) ≡ none
  cut_short h = cut_in (omega arith)

  pub cut-key : at + 12 ≤ end → end < at + 12 + key_length s at → one_record (part s at (end - at)) ≡ none
  cut-key h k = cut_in (omega (arith, key-length (omega arith)))

  pub cut-value : at + 12 + key_length s at ≤ end → end < at + 12 + key_length s at + value_length s at → one_record (part s at (end - at)) ≡ none
  cut-value h k = cut_in (omega (arith, key-length (omega arith), value-length h))

  -- a place before the end is the same place in the bytes up to it
  same_version : (p : Place) → p.ks ≤ p.ke → p.ke ≤ end → p.vs ≤ p.ve → p.ve ≤ end → version_in (take end s) p ≡ version_in s p
  same_version p a b c d =
      ap₂ {C = Version} (λ k v. record { key = k; time = p.time; value = v }) (part-take s end p.ks (p.ke - p.ks) (omega arith)) (part-take s end p.vs (p.ve - p.vs) (omega arith))

  pub within : (n t m : ℕ) → n ≡ key_length s at → t ≡ number_from 0 (part s (at + 2 + n) 8) → m ≡ number_from 0 (part s (at + 2 + n + 8) 2)
      → at + 2 + n + 10 + m ≤ end → Within s at end (place_of at n t m)
  within n t m e f g h =
      let m' : m ≡ value_length s at = value_there s at n m e g in
      let k₂ : key_length (take end s) at ≡ key_length s at = key-length (omega arith) in
      let v₂ : value_length (take end s) at ≡ value_length s at = value-length (omega arith) in
      let l : length (take end s) ≡ end = length-take-le end s fit in
      let f₂ : t ≡ number_from 0 (part (take end s) (at + 2 + n) 8) = f ∙ ap (number_from 0) (sym (part-take s end (at + 2 + n) 8 (omega arith))) in
      let g₂ : m ≡ number_from 0 (part (take end s) (at + 2 + n + 8) 2) = g ∙ ap (number_from 0) (sym (part-take s end (at + 2 + n + 8) 2 (omega arith))) in
      let q = placed (take end s) at (whole (take end s) at (omega arith)) n t m (e ∙ sym k₂) f₂ g₂ in
      record {
        there = placed s at (whole s at (omega arith)) n t m e f g;
        before = h;
        read =
            ap one_record (sym (drop-take at end s)) ∙ q.read
            ∙ ap₂ {C = Option (Version × Bytes)} (λ v r. some (v, r)) (same_version (place_of at n t m) (omega arith) (omega arith) (omega arith) h) (drop-take (at + 2 + n + 10 + m) end s);
      }

-- ---- the contract tells one answer
pub recorded-same : (s : Bytes) (at end : ℕ) (a b : std.Option Place) → Recorded s at end a → Recorded s at end b → a ≡ b
recorded-same s at end (Some p) (Some q) h k = ap Some (placed_same s at p q h.there k.there)
recorded-same s at end (Some p) None h k = absurd (none-ne-some _ (sym k ∙ h.read))
recorded-same s at end None (Some q) h k = absurd (none-ne-some _ (sym h ∙ k.read))
recorded-same s at end None None h k = refl
