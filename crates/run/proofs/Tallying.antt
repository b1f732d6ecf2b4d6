-- Versions counted one after the other, and the turns of the loop that counts packed ones.
-- Assumes nothing.
use native.Mathlib.Omega.{arith}
use mathlib.Core.Path.{◌≡◌, sym, ap, ◌∙◌, subst}
use mathlib.Core.Bool.{true}
use mathlib.Core.List.{[], ◌∷◌}
use Prim.Native.Nat.{ℕ, ◌+◌, ◌-◌, ◌≤◌, ◌<◌, min, max}
use lib.ListN.{length}
use Rattle.paper.specs.Keys.{Bytes, Version}
use Rattle.paper.specs.Runs.{Run}
use Rattle.paper.specs.Settings.{most_number}
use Rattle.paper.specs.Store.{latest}
use Rattle.raw.specs.Bytes.{part}
use Rattle.key.specs.Versions.{version_at, versions, packed}
use Rattle.key.specs.Places.{Placed}
use Rattle.key.specs.declared.Place.{Place}
use Rattle.key.proofs.Placing.{version-placed}
use Rattle.key.proofs.Packed.{versions-nil, versions-step, onward-order, onward-packed}
use Rattle.run.specs.Tallies.{earliest, tally_of, counted}
use Rattle.run.specs.declared.tally.Tally.{Tally}
use Rattle.run.proofs.Reading.{part-rest, versions-count}

-- a tally with the versions of a run counted too
abbrev pub onto : Tally → Run → Tally
onto t [] = t
onto t (v ∷ vs) = onto (counted t v.time) vs

abbrev tally : ℕ → ℕ → ℕ → Tally
tally n e l = record { count = n; earliest = e; latest = l }

tally-same : (a b c x y z : ℕ) → a ≡ x → b ≡ y → c ≡ z → tally a b c ≡ tally x y z
tally-same a b c x y z e f g = cc

all_of : (t : Tally) (r : Run) → t.earliest ≤ most_number → onto t r ≡ tally (t.count + length r) (min t.earliest (earliest r)) (max t.latest (latest r))
unfolding earliest latest
all_of t [] h = tally-same t.count t.earliest t.latest (t.count + 0) (min t.earliest most_number) (max t.latest 0) (omega arith) (omega arith) (omega arith)
all_of t (v ∷ vs) h = all_of (counted t v.time) vs (omega arith) ∙ tally-same _ _ _ _ _ _ (omega arith) (omega arith) (omega arith)

earliest-fits : (r : Run) → earliest r ≤ most_number
unfolding earliest
earliest-fits [] = omega arith
earliest-fits (v ∷ vs) = omega (arith, earliest-fits vs)

-- from none
pub tally-all : (r : Run) → onto (tally_of []) r ≡ tally_of r
unfolding tally_of earliest latest
tally-all r = all_of (tally_of []) r (omega arith) ∙ tally-same _ _ _ _ _ _ (omega arith) (omega (arith, earliest-fits r)) (omega arith)

-- the count is the sum of the counts
pub onto-count : (t : Tally) (r : Run) → (onto t r).count ≡ t.count + length r
onto-count t [] = omega arith
onto-count t (v ∷ vs) = onto-count (counted t v.time) vs ∙ omega arith

-- ---- the loop

-- the packed records are counted up to i
pub record Tallied (s : Bytes) (t : Tally) (i : ℕ) : Type 0 where
  pub ahead : i ≤ length s
  pub whole : packed (part s i (length s - i)) ≡ true
  pub counts : onto t (versions (part s i (length s - i))) ≡ tally_of (versions s)

module _ (s : Bytes) where
  pub tally-start : (t : Tally) → packed s ≡ true → t ≡ tally_of [] → Tallied s t 0
  tally-start t w e =
      record {
        ahead = omega arith;
        whole = ap packed (part-rest s 0) ∙ w;
        counts = ap (λ (u : Tally). onto u (versions (part s 0 (length s - 0)))) e ∙ tally-all (versions (part s 0 (length s - 0))) ∙ ap (λ (b : Bytes). tally_of (versions b)) (part-rest s 0);
      }

  module _ (t : Tally) (i : ℕ) (so : Tallied s t i) where
    pub tally-done : length s ≤ i → t ≡ tally_of (versions s)
    tally-done h =
        let z : length s - i ≡ 0 = omega (arith, so.ahead) in
        sym (ap (λ (n : ℕ). onto t (versions (part s i n))) z ∙ ap (onto t) versions-nil) ∙ so.counts

    module _ (l : i < length s) (p : Place) (there : Placed s i p) where
      rest : versions (part s i (length s - i)) ≡ version_at s i ∷ versions (part s p.ve (length s - p.ve))
      rest = versions-step s i (length s) l (omega arith) so.whole p there

      -- the count fits, as there are at least as many bytes
      pub tally-fits : t.count < length s
      unfolding tally_of
      tally-fits =
          omega (arith, sym (onto-count t (versions (part s i (length s - i)))) ∙ ap (λ (u : Tally). u.count) so.counts, ap (λ (r : Run). length r) rest, versions-count s)

      pub tally-next : (u : Tally) → u ≡ counted t p.time → Tallied s u p.ve
      tally-next u e =
          record {
            ahead = onward-order s i (length s) l (omega arith) so.whole p there;
            whole = onward-packed s i (length s) l (omega arith) so.whole p there;
            counts =
                ap (λ (w : Tally). onto w (versions (part s p.ve (length s - p.ve)))) (e ∙ ap (λ (v : Version). counted t v.time) (sym (version-placed s i p there)))
                ∙ sym (ap (onto t) rest) ∙ so.counts;
          }

-- by the place that was handed out, in the same bytes
module _ (s : Bytes) (t : Tally) (i : ℕ) (so : Tallied s t i) (b : Bytes) (same : b ≡ s) (p : Place) (placed : Placed b i p) where
  here : Placed s i p
  here = subst (λ (x : Bytes). Placed x i p) same placed

  l : i < length s
  l = let h = here in omega (arith, h.start, h.key, h.mid, h.value, h.inside)

  pub placed-fits : t.count < length s
  placed-fits = tally-fits s t i so l p here

  pub placed-next : (u : Tally) → u ≡ counted t p.time → (j : ℕ) → j ≡ p.ve → Tallied s u j
  placed-next u e j z = subst (Tallied s u) (sym z) (tally-next s t i so l p here u e)
