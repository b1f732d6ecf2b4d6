-- The turns of the check of packed records: from a place on, the records rise from the version there, and those so far are counted.
-- Assumes nothing.
use native.Mathlib.Omega.{arith}
use Rattle.std.specs.Prelude.{Some, None}
use Rattle.std.specs.Bool.{then_some}
use Rattle.std.specs.Ordering as std
use Rattle.std.specs.Ordering.{ordering_then}
use Rattle.std.specs.declared.cmp.Ordering as answer
use Rattle.std.specs.declared.cmp.Ordering.TheVariants.{Less, Equal, Greater}
use Rattle.raw.specs.Orders.{ordering}
use Rattle.raw.proofs.Comparing.{ordering-then}
use mathlib.Core.Path.{◌≡◌, refl, sym, ap, ◌∙◌, subst}
use mathlib.Core.Bool.{Bool, true, false, cond, ◌&&◌}
use mathlib.Core.Option.{none}
use mathlib.Core.List.{[], ◌∷◌}
use Prim.Native.Nat.{ℕ, ◌-◌, ◌≤◌, ◌<◌, compare, Ordering}
use lib.ListN.{length}
use Rattle.paper.specs.Lists.{then_by, is_lt}
use Rattle.paper.specs.Keys.{Bytes, Version, octets, cmp_key, cmp_version}
use Rattle.paper.specs.Runs.{Run}
use Rattle.paper.specs.Image.{one_record}
use Rattle.raw.specs.Bytes.{part}
use Rattle.raw.proofs.Parts.{length_part}
use Rattle.raw.proofs.Octets.{octets-part}
use Rattle.key.specs.Stamps.{stamped}
use Rattle.key.specs.Versions.{no_version, versions}
use Rattle.key.specs.Places.{version_in, Placed}
use Rattle.key.proofs.Packed.{versions-nil}
use Rattle.key.specs.declared.KeyStamp.{KeyStamp}
use Rattle.key.specs.declared.Place.{Place}
use Rattle.run.specs.Records.{Within}
use Rattle.run.specs.Tallies.{tally_of, counted}
use Rattle.run.specs.Checks.{whole_run, checked, rises_in, Risen}
use Rattle.run.specs.declared.tally.Tally.{Tally}
use Rattle.run.proofs.Reading.{part-rest, versions-some, versions-count}
use Rattle.run.proofs.Rising.{rises-nil, rises-cut, rises-on, whole-rises}
use Rattle.run.proofs.Tallying.{onto, tally-all, onto-count}

-- ---- one comparison

-- the keys decide, and then the timestamps
pub by_order : (v : Version) (k : Bytes) (t : KeyStamp) (o : Ordering) → o ≡ cmp_key v.key k → is_lt (then_by o (compare t.time v.time)) ≡ is_lt (cmp_version v (stamped k t))
unfolding cmp_version
by_order v k t o e = ap (λ (x : Ordering). is_lt (then_by x (compare t.time v.time))) e

lt_is : (o : answer.Ordering) → std.is_lt o ≡ is_lt (ordering o)
lt_is Less = refl
lt_is Equal = refl
lt_is Greater = refl

-- std's comparisons of both, one after the other
pub stands_before : (v : Version) (k : Bytes) (t : KeyStamp) (o p : answer.Ordering) → ordering o ≡ cmp_key v.key k → ordering p ≡ compare t.time v.time
    → std.is_lt (ordering_then o p) ≡ is_lt (cmp_version v (stamped k t))
stands_before v k t o p e f =
    lt_is (ordering_then o p) ∙ ap is_lt (ordering-then o p ∙ ap (then_by (ordering o)) f) ∙ by_order v k t (ordering o) e

-- the order does not see a version's value
pub at_place : (v : Version) (s : Bytes) (q : Place) (t : KeyStamp) → t.time ≡ q.time → cmp_version v (stamped (version_in s q).key t) ≡ cmp_version v (version_in s q)
unfolding cmp_version
at_place v s q t e = ap (λ (n : ℕ). then_by (cmp_key v.key (version_in s q).key) (compare n v.time)) e

-- ---- one record

-- a record ends further on than it starts
pub further : (s : Bytes) (at : ℕ) (p : Place) → Placed s at p → at < p.ve
further s at p h = omega (arith, h.start, h.key, h.mid, h.value)

module _ (s : Bytes) (at end : ℕ) (v : Version) (l : at < end) (fit : end ≤ length s) where
  pub risen-cut : one_record (part s at (end - at)) ≡ none → rises_in v (part s at (end - at)) ≡ false
  risen-cut e = rises-cut v (part s at (end - at)) (omega (arith, length_part s at (end - at) (omega arith))) e

  pub risen-not : (q : Place) → octets s ≡ true → Within s at end q → is_lt (cmp_version v (version_in s q)) ≡ false → rises_in v (part s at (end - at)) ≡ false
  risen-not q o w e =
      rises-on v (part s at (end - at)) (version_in s q) (part s q.ve (end - q.ve)) (octets-part s at (end - at) o) w.read
      ∙ ap (λ (b : Bool). b && rises_in (version_in s q) (part s q.ve (end - q.ve))) e

-- the record at q, if the version at p stands before it
pub risen-told : (s : Bytes) (p : Place) (end : ℕ) (q : Place) (t : KeyStamp) (b : Bool) → p.ve < end → end ≤ length s → octets s ≡ true → Within s p.ve end q → t.time ≡ q.time
    → b ≡ is_lt (cmp_version (version_in s p) (stamped (version_in s q).key t)) → Risen s p end (then_some b q)
risen-told s p end q t true l fit o w e f = (w, sym (f ∙ ap is_lt (at_place (version_in s p) s q t e)))
risen-told s p end q t false l fit o w e f = risen-not s p.ve end (version_in s p) l fit q o w (sym (f ∙ ap is_lt (at_place (version_in s p) s q t e)))

-- ---- the loop

-- what the check answers, by whether the bytes are a run; if they are none, they have no tally
checked-by : (s : Bytes) (b : Bool) → whole_run s ≡ b → cond b (Some (tally_of (versions s))) None ≡ checked s
unfolding checked
checked-by s b e = sym (ap (λ (b : Bool). cond b (Some (tally_of (versions s))) None) e)

pub no_run : (s : Bytes) → whole_run s ≡ false → None ≡ checked s
no_run s e = checked-by s false e

-- the check of the bytes has come to the end of p
pub record Checking (s : Bytes) (t : Tally) (p : Place) : Type 0 where
  pub low : p.ks ≤ p.ke
  pub high : p.ke ≤ length s
  pub ahead : p.ve ≤ length s
  pub rising : whole_run s ≡ rises_in (version_in s p) (part s p.ve (length s - p.ve))
  pub counts : onto t (versions (part s p.ve (length s - p.ve))) ≡ tally_of (versions s)

module _ (s : Bytes) (o : octets s ≡ true) where
  pub check-start : (t : Tally) (p : Place) → t ≡ tally_of [] → p ≡ record { ks = 0; ke = 0; time = 0; vs = 0; ve = 0 } → Checking s t p
  check-start t p e f =
      subst (λ (q : Place). Checking s t q) (sym f)
      (record { low = omega arith; high = omega arith; ahead = omega arith; rising = rising; counts = ap (λ (u : Tally). onto u (versions (part s 0 (length s - 0)))) e ∙ tally-all (versions (part s 0 (length s - 0))) ∙ ap (λ (b : Bytes). tally_of (versions b)) (part-rest s 0) })
    where
      rising : whole_run s ≡ rises_in no_version (part s 0 (length s - 0))
      rising = whole-rises s o ∙ ap (rises_in no_version) (sym (part-rest s 0))

  module _ (t : Tally) (p : Place) (going : Checking s t p) where
    -- what is left does not rise: the bytes are no run
    pub check-wrong : rises_in (version_in s p) (part s p.ve (length s - p.ve)) ≡ false → None ≡ checked s
    check-wrong e = no_run s (going.rising ∙ e)

    pub check_done : length s ≤ p.ve → Some t ≡ checked s
    check_done h =
        let z : length s - p.ve ≡ 0 = omega (arith, going.ahead) in
        let w : whole_run s ≡ true = going.rising ∙ ap (λ (n : ℕ). rises_in (version_in s p) (part s p.ve n)) z ∙ rises-nil (version_in s p) in
        let c : t ≡ tally_of (versions s) = sym (ap (λ (n : ℕ). onto t (versions (part s p.ve n))) z ∙ ap (onto t) versions-nil) ∙ going.counts in
        ap Some c ∙ checked-by s true w

    module _ (q : Place) (risen : Risen s p (length s) (Some q)) where
      rest : versions (part s p.ve (length s - p.ve)) ≡ version_in s q ∷ versions (part s q.ve (length s - q.ve))
      rest = versions-some (part s p.ve (length s - p.ve)) (version_in s q) (part s q.ve (length s - q.ve)) (octets-part s p.ve (length s - p.ve) o) risen.0.read

      -- the count fits, as there are at least as many bytes
      pub check-fits : t.count < length s
      unfolding tally_of
      check-fits =
          omega (arith, sym (onto-count t (versions (part s p.ve (length s - p.ve)))) ∙ ap (λ (u : Tally). u.count) going.counts, ap (λ (r : Run). length r) rest, versions-count s)

      pub check-next : (u : Tally) → u ≡ counted t q.time → Checking s u q
      check-next u e =
          record {
            low = risen.0.there.key;
            high = omega (arith, risen.0.there.mid, risen.0.there.value, risen.0.there.inside);
            ahead = risen.0.before;
            rising =
                going.rising ∙ rises-on (version_in s p) (part s p.ve (length s - p.ve)) (version_in s q) (part s q.ve (length s - q.ve)) (octets-part s p.ve (length s - p.ve) o) risen.0.read
                ∙ ap (λ (b : Bool). b && rises_in (version_in s q) (part s q.ve (length s - q.ve))) risen.1;
            counts = ap (λ (w : Tally). onto w (versions (part s q.ve (length s - q.ve)))) e ∙ sym (ap (onto t) rest) ∙ going.counts;
          }
