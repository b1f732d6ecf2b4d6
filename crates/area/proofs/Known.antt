-- What is known of runs: one after the other, in either order.
-- Assumes nothing.
use native.Mathlib.Omega.{arith}
use mathlib.Core.Path.{◌≡◌, refl, sym, ap, ◌∙◌}
use mathlib.Core.Bool.{not}
use mathlib.Core.List.{List, [], ◌∷◌, ◌++◌, reverse, reverse_aux}
use Prim.Native.Nat.{ℕ, ◌+◌, max}
use lib.ListN.{length}
use Rattle.std.specs.Prelude.{Option, Some, None}
use Rattle.std.specs.Bool.{then_some}
use Rattle.paper.specs.Lists.{is_empty, join}
use Rattle.paper.specs.Runs.{Run}
use Rattle.paper.specs.Store.{latest, latest_of}
use Rattle.area.specs.Told.{latest_in, others_of, later, with_run}
use Rattle.area.specs.declared.check.Others.{Others}

abbrev pub others : ℕ → Option ℕ → Others
others n t = record { count = n; latest = t }

pub others_same : (n m : ℕ) (t u : Option ℕ) → n ≡ m → t ≡ u → others n t ≡ others m u
others_same n m t u e f = cc

-- ---- the later timestamp
later-none : (p : Option ℕ) → later p None ≡ p
later-none None = refl
later-none (Some a) = refl

later-turn : (p q : Option ℕ) → later p q ≡ later q p
later-turn None q = sym (later-none q)
later-turn (Some a) None = refl
later-turn (Some a) (Some b) = let z : max a b ≡ max b a = omega arith in ap Some z

later-more : (p q r : Option ℕ) → later p (later q r) ≡ later (later p q) r
later-more None q r = refl
later-more (Some a) None r = refl
later-more (Some a) (Some b) None = refl
later-more (Some a) (Some b) (Some c) = let z : max a (max b c) ≡ max (max a b) c = omega arith in ap Some z

-- ---- the latest timestamp of runs
latest-two : (r q : Run) → latest (r ++ q) ≡ max (latest r) (latest q)
unfolding latest
latest-two [] q = omega arith
latest-two (v ∷ r) q = let h = latest-two r q in omega arith

pub latest-join : (rs : List Run) → latest_of rs ≡ latest (join rs)
unfolding latest_of join latest
latest-join [] = refl
latest-join (r ∷ rs) = ap (max (latest r)) (latest-join rs) ∙ sym (latest-two r (join rs))

-- of one run
abbrev pub run_latest : Run → Option ℕ
run_latest r = then_some (not (is_empty r)) (latest r)

-- of a run and others
latest-on : (r : Run) (rs : List Run) → latest_in (r ∷ rs) ≡ later (run_latest r) (latest_in rs)
unfolding join latest_of latest
latest-on [] rs = let z : max 0 (latest_of rs) ≡ latest_of rs = omega arith in ap (then_some (not (is_empty (join rs)))) z
latest-on (v ∷ r) rs = go (join rs) (latest-join rs)
  where
    go : (ws : Run) → latest_of rs ≡ latest ws → Some (max (latest (v ∷ r)) (latest_of rs)) ≡ later (Some (latest (v ∷ r))) (then_some (not (is_empty ws)) (latest_of rs))
    go [] e = let z : max (latest (v ∷ r)) (latest_of rs) ≡ latest (v ∷ r) = omega (arith, e) in ap Some z
    go (w ∷ ws) e = refl

-- ---- the runs of a list known too
abbrev pub beyond : Others → List Run → Others
beyond o rs = others (o.count + length rs) (later o.latest (latest_in rs))

pub beyond-none : (o : Others) → beyond o [] ≡ o
unfolding join latest_of
beyond-none o = others_same (o.count + 0) o.count (later o.latest None) o.latest (omega arith) (later-none o.latest)

pub beyond-on : (o : Others) (r : Run) (rs : List Run) → beyond o (r ∷ rs) ≡ beyond (with_run o (run_latest r)) rs
beyond-on o r rs =
    others_same _ _ _ _ (omega arith) (ap (later o.latest) (latest-on r rs) ∙ later-more o.latest (run_latest r) (latest_in rs))

pub all-beyond : (rs : List Run) → beyond (others_of []) rs ≡ others_of rs
unfolding others_of join latest_of
all-beyond rs = others_same _ _ _ _ (omega arith) refl

-- a run in front
others-front : (r : Run) (rs : List Run) → others_of (r ∷ rs) ≡ with_run (others_of rs) (run_latest r)
unfolding others_of
others-front r rs = others_same _ _ _ _ (omega arith) (latest-on r rs ∙ later-turn (run_latest r) (latest_in rs))

others-turned : (rs qs : List Run) → others_of (reverse_aux rs qs) ≡ beyond (others_of qs) rs
others-turned [] qs = sym (beyond-none (others_of qs))
others-turned (r ∷ rs) qs =
    others-turned rs (r ∷ qs) ∙ ap (λ (o : Others). beyond o rs) (others-front r qs) ∙ sym (beyond-on (others_of qs) r rs)

-- in whatever order they lie
pub others-reverse : (rs : List Run) → others_of (reverse rs) ≡ others_of rs
others-reverse rs = others-turned rs [] ∙ all-beyond rs
