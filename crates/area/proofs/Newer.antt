-- 'Active versions newer than all in other runs', from the earliest and the latest timestamps.
-- Assumes nothing.
use native.Mathlib.Omega.{arith}
use mathlib.Core.Path.{◌≡◌, refl, sym, ap, ap₂, ◌∙◌}
use mathlib.Core.Bool.{Bool, true, false, not, ◌&&◌, ◌||◌}
use mathlib.Core.List.{List, [], ◌∷◌}
use Prim.Native.Nat.{ℕ, ◌<◌, ◌≤◌, min, max}
use lib.ListN.{length}
use lib.Dec.{leb, ltb, eqb}
use borrow.Author.Tests.{lt-ltb, le-ltb, ltb-true, ltb-false, leb-true, le-leb, eq-eqb, ne_eqb}
use Rattle.paper.specs.Lists.{all, is_empty, join}
use Rattle.paper.specs.Keys.{Version}
use Rattle.paper.specs.Runs.{Run, is_run}
use Rattle.paper.specs.Settings.{most_number}
use Rattle.paper.specs.Store.{latest}
use Rattle.paper.specs.Sound.{sound_key, sound_value, sound_version, sound_run, newer_than}
use Rattle.paper.proofs.Bools.{and_left, and_right}
use Rattle.paper.proofs.Alls.{all-mono}
use Rattle.run.specs.Tallies.{earliest, tally_of}
use Rattle.run.specs.declared.tally.Tally.{Tally}
use Rattle.std.specs.Prelude.{Option, Some, None}
use Rattle.std.specs.Bool.{then_some}
use Rattle.std.specs.Option.{option_partial_cmp}
use Rattle.std.specs.Ordering.{nat_cmp, is_lt, partial_lt, as_partial_cmp, MatchOrdering}
use Rattle.std.specs.Cmp.{ranks}
use Rattle.std.specs.declared.cmp.Ordering.{Ordering}
use Rattle.std.specs.declared.cmp.Ordering.TheVariants.{Less, Equal, Greater}
use Rattle.area.specs.Told.{others_of, is_below, newer_by}
use Rattle.area.proofs.Known.{latest-join}
use Rattle.area.specs.declared.check.Others.{Others}

-- ---- later than all
below_two : (a b t : ℕ) → ltb (max a b) t ≡ ltb a t && ltb b t
below_two a b t = go (ltb a t) (ltb b t) refl refl
  where
    go : (p q : Bool) → ltb a t ≡ p → ltb b t ≡ q → ltb (max a b) t ≡ p && q
    go true true e f = lt-ltb (max a b) t (omega (arith, ltb-true a t e, ltb-true b t f))
    go true false e f = le-ltb (max a b) t (omega (arith, ltb-false b t f))
    go false q e f = le-ltb (max a b) t (omega (arith, ltb-false a t e))

above-two : (t a b : ℕ) → ltb t (min a b) ≡ ltb t a && ltb t b
above-two t a b = go (ltb t a) (ltb t b) refl refl
  where
    go : (p q : Bool) → ltb t a ≡ p → ltb t b ≡ q → ltb t (min a b) ≡ p && q
    go true true e f = lt-ltb t (min a b) (omega (arith, ltb-true t a e, ltb-true t b f))
    go true false e f = le-ltb t (min a b) (omega (arith, ltb-false t b f))
    go false q e f = le-ltb t (min a b) (omega (arith, ltb-false t a e))

and-true : (b : Bool) → b ≡ b && true
and-true true = refl
and-true false = refl

-- all versions of a list that has one are below a timestamp where the latest is
all-below : (v : Version) (vs : Run) (t : ℕ) → all (λ w. ltb w.time t) (v ∷ vs) ≡ ltb (latest (v ∷ vs)) t
unfolding all latest
all-below v [] t = let z : v.time ≡ max v.time 0 = omega arith in sym (and-true (ltb v.time t)) ∙ ap (λ (n : ℕ). ltb n t) z
all-below v (u ∷ vs) t = ap (λ (b : Bool). ltb v.time t && b) (all-below u vs t) ∙ sym (below_two v.time (latest (u ∷ vs)) t)

-- and above one where the earliest is
abbrev InTime : Version → Bool
InTime v = leb v.time most_number

all_above : (v : Version) (vs : Run) (t : ℕ) → all InTime (v ∷ vs) ≡ true → all (λ w. ltb t w.time) (v ∷ vs) ≡ ltb t (earliest (v ∷ vs))
unfolding all earliest
all_above v [] t h =
    let l = leb-true v.time most_number (and_left (InTime v) true h) in
    let z : v.time ≡ min v.time most_number = omega arith in
    sym (and-true (ltb t v.time)) ∙ ap (ltb t) z
all_above v (u ∷ vs) t h = ap (λ (b : Bool). ltb t v.time && b) (all_above u vs t (and_right (InTime v) (all InTime (u ∷ vs)) h)) ∙ sym (above-two t v.time (earliest (u ∷ vs)))

all_same : (p q : Version → Bool) → ((v : Version) → p v ≡ q v) → (r : Run) → all p r ≡ all q r
unfolding all
all_same p q e [] = refl
all_same p q e (v ∷ vs) = ap₂ (λ (a b : Bool). a && b) (e v) (all_same p q e vs)

all_true : (r : Run) → all (λ v. true) r ≡ true
unfolding all
all_true [] = refl
all_true (v ∷ vs) = all_true vs

-- ---- the rule
newer-of : (r : Run) (rs : List Run) → all InTime r ≡ true → newer_by (tally_of r) (others_of rs) ≡ all (newer_than rs) r
unfolding newer_by tally_of others_of newer_than all
newer-of [] rs h = refl
newer-of (v ∷ vs) rs h =
    ap₂ (λ (b : Bool) (n : ℕ). b || is_below (then_some (not (is_empty (join rs))) n) (earliest (v ∷ vs))) (ne_eqb (length (v ∷ vs)) 0 (λ e. omega arith)) (latest-join rs)
    ∙ go (join rs)
  where
    go : (ws : Run) → is_below (then_some (not (is_empty ws)) (latest ws)) (earliest (v ∷ vs)) ≡ all (λ u. all (λ w. ltb w.time u.time) ws) (v ∷ vs)
    go [] = sym (all_true (v ∷ vs))
    go (w ∷ ws) =
        sym (all_above v vs (latest (w ∷ ws)) h)
        ∙ all_same (λ u. ltb (latest (w ∷ ws)) u.time) (λ u. all (λ x. ltb x.time u.time) (w ∷ ws)) (λ u. sym (all-below w ws u.time)) (v ∷ vs)

-- the versions of a sound run have timestamps of 64 bits
in-time : (clock : ℕ) → clock ≤ most_number → (r : Run) → all (sound_version clock) r ≡ true → all InTime r ≡ true
unfolding sound_version
in-time clock c r h =
    all-mono (sound_version clock) InTime
    (λ v k. le-leb v.time most_number (omega (arith, leb-true v.time clock (and_right (sound_key v.key && sound_value v.value) (leb v.time clock) k)))) r h

pub newer-is : (clock : ℕ) → clock ≤ most_number → (r : Run) (rs : List Run) → sound_run clock r ≡ true → newer_by (tally_of r) (others_of rs) ≡ all (newer_than rs) r
unfolding sound_run
newer-is clock c r rs h = newer-of r rs (in-time clock c r (and_right (is_run r) (all (sound_version clock) r) h))

-- ---- what the tests find
pub less-is : (m n : ℕ) → is_lt (nat_cmp m n) ≡ ltb m n
less-is m n = go (nat_cmp m n) (ranks m n)
  where
    go : (o : Ordering) → MatchOrdering o (m < n) (m ≡ n) (n < m) → is_lt o ≡ ltb m n
    go Less h = sym (lt-ltb m n h)
    go Equal h = sym (le-ltb m n (omega (arith, h)))
    go Greater h = sym (le-ltb m n (omega arith))

-- std's order of what may be missing: nothing stands first
pub below-less : (o : Option ℕ) (t : ℕ) → partial_lt (option_partial_cmp (as_partial_cmp nat_cmp)) o (Some t) ≡ is_below o t
below-less None t = refl
below-less (Some l) t = less-is l t

module _ (t : Tally) (o : Others) where
  pub newer-none : t.count ≡ 0 → eqb t.count 0 ≡ newer_by t o
  unfolding newer_by
  newer-none e = eq-eqb t.count 0 e ∙ sym (ap (λ (b : Bool). b || is_below o.latest t.earliest) (eq-eqb t.count 0 e))

  pub newer-some : (t.count ≡ 0 → ⊥) → is_below o.latest t.earliest ≡ newer_by t o
  unfolding newer_by
  newer-some e = sym (ap (λ (b : Bool). b || is_below o.latest t.earliest) (ne_eqb t.count 0 e))
