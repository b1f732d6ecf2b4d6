-- Where a version's parts lie, that there is one such place, and comparing two versions by their parts.
-- Assumes nothing.
use native.Mathlib.Omega.{arith}
use native.Mathlib.Nat.{add-sub_cancel_left}
use mathlib.Core.Path.{◌≡◌, refl, sym, ap, ap₂, ◌∙◌, subst}
use mathlib.Core.Bool.{true}
use Prim.Native.Nat.{ℕ, ◌+◌, ◌-◌, compare, Ordering}
use lib.ListN.{length, drop}
use Rattle.paper.specs.Lists.{is_some, then_by}
use Rattle.paper.specs.Keys.{Bytes, Version, cmp_key, cmp_version}
use Rattle.paper.specs.Image.{number_from, one_record}
use Rattle.raw.specs.Bytes.{part}
use Rattle.raw.proofs.Parts.{length_part}
use Rattle.key.specs.Stamps.{stamped}
use Rattle.key.specs.Versions.{version_or, version_at}
use Rattle.key.specs.Places.{version_in, Placed}
use Rattle.key.specs.declared.KeyStamp.{KeyStamp}
use Rattle.key.specs.declared.Place.{Place}
use Rattle.key.proofs.Records.{key_length, value_length, here}

-- the parts of a record at an offset, its key n bytes long and its value m
abbrev pub place_of : ℕ → ℕ → ℕ → ℕ → Place
place_of at n t m = record { ks = at + 2; ke = at + 2 + n; time = t; vs = at + 2 + n + 10; ve = at + 2 + n + 10 + m }

module _ (s : Bytes) (at : ℕ) (h : is_some (one_record (drop at s)) ≡ true) where
  itself : Placed s at (place_of at (key_length s at) (number_from 0 (part s (at + 2 + key_length s at) 8)) (value_length s at))
  itself =
      record {
        read = simp add-sub_cancel_left (here s at h).1;
        start = refl;
        key = omega arith;
        mid = refl;
        value = omega arith;
        inside = (here s at h).0;
      }

  pub placed : (n t m : ℕ) → n ≡ key_length s at → t ≡ number_from 0 (part s (at + 2 + n) 8) → m ≡ number_from 0 (part s (at + 2 + n + 8) 2) → Placed s at (place_of at n t m)
  placed n t m e f g =
      let f' : t ≡ number_from 0 (part s (at + 2 + key_length s at) 8) = f ∙ ap (λ (k : ℕ). number_from 0 (part s (at + 2 + k) 8)) e in
      let g' : m ≡ value_length s at = g ∙ ap (λ (k : ℕ). number_from 0 (part s (at + 2 + k + 8) 2)) e in
      let same : place_of at (key_length s at) (number_from 0 (part s (at + 2 + key_length s at) 8)) (value_length s at) ≡ place_of at n t m =
      sym (ap (λ (k : ℕ). place_of at k t m) e ∙ ap₂ (λ (k l : ℕ). place_of at (key_length s at) k l) f' g') in
      subst (λ (p : Place). Placed s at p) same itself

pub version-placed : (s : Bytes) (at : ℕ) (p : Place) → Placed s at p → version_at s at ≡ version_in s p
unfolding version_at
version-placed s at p h = ap version_or h.read

-- the record at an offset has its parts at one place only
pub placed_same : (s : Bytes) (at : ℕ) (p q : Place) → Placed s at p → Placed s at q → p ≡ q
placed_same s at p q h k =
    let v : version_in s p ≡ version_in s q = sym (version-placed s at p h) ∙ version-placed s at q k in
    let a : p.ke - p.ks ≡ q.ke - q.ks =
    sym (length_part s p.ks (p.ke - p.ks) (omega arith)) ∙ ap (λ (w : Version). length w.key) v ∙ length_part s q.ks (q.ke - q.ks) (omega arith) in
    let b : p.ve - p.vs ≡ q.ve - q.vs =
    sym (length_part s p.vs (p.ve - p.vs) (omega arith)) ∙ ap (λ (w : Version). length w.value) v ∙ length_part s q.vs (q.ve - q.vs) (omega arith) in
    let t : p.time ≡ q.time = ap (λ (w : Version). w.time) v in
    let e₁ : p.ks ≡ q.ks = omega arith in
    let e₂ : p.ke ≡ q.ke = omega arith in
    let e₃ : p.vs ≡ q.vs = omega arith in
    let e₄ : p.ve ≡ q.ve = omega arith in
    let e : ◌≡◌ {A = Place} (record { ks = p.ks; ke = p.ke; time = p.time; vs = p.vs; ve = p.ve }) (record { ks = q.ks; ke = q.ke; time = q.time; vs = q.vs; ve = q.ve }) = cc in
    e

-- the keys decide, and then the timestamps
pub by_parts : (s : Bytes) (at : ℕ) (p : Place) → Placed s at p → (k : Bytes) (t : KeyStamp) (o : Ordering)
    → o ≡ cmp_key (version_in s p).key k → then_by o (compare t.time p.time) ≡ cmp_version (version_at s at) (stamped k t)
unfolding cmp_version
by_parts s at p h k t o e =
    ap (λ (x : Ordering). then_by x (compare t.time p.time)) e
    ∙ sym (ap (λ (v : Version). cmp_version v (stamped k t)) (version-placed s at p h))

-- a version at its own key and stamp: the order does not see its value
pub stamped-at : (s : Bytes) (at : ℕ) (p : Place) → Placed s at p → (v : Version) (t : KeyStamp) → t.time ≡ p.time
    → cmp_version v (stamped (version_in s p).key t) ≡ cmp_version v (version_at s at)
unfolding cmp_version
stamped-at s at p h v t e =
    ap (λ (n : ℕ). then_by (cmp_key v.key (version_in s p).key) (compare n v.time)) e
    ∙ sym (ap (λ (w : Version). cmp_version v w) (version-placed s at p h))
