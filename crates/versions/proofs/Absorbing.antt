-- The active run with the own writes in it: the records behind the first own write moved up by what all take, and the own writes woven into them.
-- Assumes nothing.
use native.Mathlib.Omega.{arith}
use mathlib.Core.Path.{◌≡◌, refl, sym, ap, ap₂, ◌∙◌}
use mathlib.Core.Bool.{true}
use mathlib.Core.List.{List, [], ◌∷◌, ◌++◌, append-nil}
use Prim.Native.Nat.{ℕ, ◌+◌, ◌*◌, ◌-◌, ◌≤◌}
use lib.ListN.{length, take, drop}
use Rattle.std.specs.Iterator.{YieldsFirstBy, Drains}
use Rattle.std.proofs.lemmas.Iterator.Consumers.{count_from_yields_List, YieldsList-from_first}
use lib.Seq.{take_all, take-take, length-take-le}
use Rattle.paper.specs.Lists.{all, rises, rises_from}
use Rattle.paper.specs.Keys.{Bytes, Pair, cmp_pair}
use Rattle.paper.specs.Runs.{Run, run_size}
use Rattle.paper.specs.Store.{own_size}
use Rattle.paper.specs.Image.{records_bytes}
use Rattle.raw.specs.Bytes.{part, over}
use Rattle.raw.proofs.Parts.{length_part, part-all, part-part, part-take}
use Rattle.raw.proofs.Over.{over-front, over-all, over-lent, length_over, part-over, take-over, drop-over}
use Rattle.key.specs.Versions.{versions, packed}
use Rattle.key.proofs.Packed.{packed-run, packed-records, versions-nil}
use Rattle.overlay.specs.Overlay.{pair, pairs_in}
use Rattle.overlay.specs.Entries.{span, written, left}
use Rattle.overlay.specs.declared.own.Entry.{Entry}
use Rattle.overlay.specs.declared.own.Own.{Own}
use Rattle.overlay.proofs.Pairs.{overlay-is, rises-first}
use Rattle.overlay.proofs.Putting.{size-own}
use Rattle.run.specs.Seeking.{Sought}
use Rattle.versions.specs.Absorbing.{versions_in, packed_in, older, version_of, joined, grown, Parted}
use Rattle.versions.proofs.Counting.{few-own, joined-size}
use Rattle.versions.proofs.Splitting.{joined-none, aged, front-is}

-- ---- own writes
-- they rise, and take as many bytes as they lie in: at least 4 each
pub own-rise : (own : Own) → rises cmp_pair (pairs_in own.bytes.now) ≡ true
own-rise own = (overlay-is own.bytes.now own.whole).rise

pub own-long : (own : Own) → own_size (pairs_in own.bytes.now) ≡ length own.bytes.now
own-long own = size-own own.bytes.now own.octets own.whole

pub own-few : (own : Own) → 4 * length (pairs_in own.bytes.now) ≤ length own.bytes.now
own-few own = omega (arith, few-own (pairs_in own.bytes.now), own-long own)

-- they are as many as their iterator gives
pub own-count : (own : Own) (r : ℕ) → ((xs : List Entry) × Drains (YieldsFirstBy written left) own xs × (r ≡ length xs)) → r ≡ length (pairs_in own.bytes.now)
own-count own r h = count_from_yields_List own r h (YieldsList-from_first written left (pairs_in own.bytes.now) refl)

pub own-grown : (own : Own) (r : ℕ) → ((xs : List Entry) × Drains (YieldsFirstBy written left) own xs × (r ≡ length xs)) → length own.bytes.now + 8 * r ≡ grown (pairs_in own.bytes.now)
own-grown own r h = omega (arith, own-count own r h, own-long own)

-- ---- where the first own write goes
-- all of some bytes
whole-is : (s : Bytes) → part s 0 (length s - 0) ≡ s
whole-is s = part-all s (length s - 0) (omega arith)

pub seek-whole : (s : Bytes) → packed s ≡ true → packed (part s 0 (length s - 0)) ≡ true
seek-whole s w = ap packed (whole-is s) ∙ w

module _ (s : Bytes) (w : packed s ≡ true) (n : ℕ) (a : older n (versions s) ≡ true) where
  -- there is none
  pub none-parted : (own : List Pair) → own ≡ [] → Parted s own n (length s)
  unfolding records_bytes all rises
  none-parted own e =
      let z : span s (length s) (length s) ≡ [] = let k : length s - length s ≡ 0 = omega arith in ap (λ (i : ℕ). part s (length s) i) k in
      let none : versions_in s (length s) (length s) ≡ [] = ap versions z ∙ versions-nil in
      record {
        high = omega arith;
        whole = ap packed z ∙ packed-records [] refl refl;
        aged = ap (older n) none;
        front =
            ap (λ (o : List Pair). records_bytes (joined n o (versions s))) e ∙ ap records_bytes (joined-none n (versions s)) ∙ (packed-run s w).0
            ∙ sym (ap₂ (λ (o : List Pair) (r : Run). take (length s) s ++ records_bytes (joined n o r)) e none ∙ ap (λ (r : Run). take (length s) s ++ records_bytes r) (joined-none n []) ∙ append-nil (take (length s) s) ∙ take_all (length s) s (omega arith));
      }

  -- there is one
  pub first-parted : (own : List Pair) (p : Pair) (ps : List Pair) → own ≡ p ∷ ps → rises cmp_pair own ≡ true → (r : ℕ) → Sought s 0 (length s) (version_of n (pair p.key [])) r → Parted s own n r
  first-parted own p ps e rise r f =
      let i : r - 0 ≡ r = omega arith in
      let old : older n (versions_in s 0 (length s)) ≡ true = ap (λ (t : Bytes). older n (versions t)) (whole-is s) ∙ a in
      let up : rises_from cmp_pair p ps ≡ true = rises-first p ps (ap (rises cmp_pair) (sym e) ∙ rise) in
      record {
        high = f.high;
        whole = f.whole;
        aged = aged s 0 (length s) n (omega arith) (seek-whole s w) old p ps up r f;
        front =
            ap (λ (o : List Pair). records_bytes (joined n o (versions s))) e
            ∙ ap (λ (t : Bytes). records_bytes (joined n (p ∷ ps) (versions t))) (sym (whole-is s))
            ∙ front-is s 0 (length s) n (omega arith) (seek-whole s w) old p ps up r f
            ∙ ap₂ (λ (j : ℕ) (o : List Pair). take j s ++ records_bytes (joined n o (versions_in s r (length s)))) i (sym e);
      }

-- ---- writes
-- a write that covers another hides it
over-cover : (l : Bytes) (a b : ℕ) (x y : Bytes) → a ≤ b → b ≤ length l → b + length y ≤ a + length x → over (over l b y) a x ≡ over l a x
unfolding over
over-cover l a b x y h k c = ap₂ (λ (p q : Bytes). p ++ (x ++ q)) (take-over l b y k a h) (drop-over l b y k (a + length x) c)

-- ---- all of it
module _ (l : Bytes) (used : ℕ) (i : used ≤ length l) (w : packed (take used l) ≡ true) (n : ℕ) (a : older n (versions (take used l)) ≡ true) (own : List Pair) (rise : rises cmp_pair own ≡ true)
    (fit : run_size (joined n own (versions (take used l))) ≤ length l) where
  s : Bytes
  s = take used l

  s-long : length (take used l) ≡ used
  s-long = length-take-le used l i

  pub absorb-size : used + grown own ≡ run_size (joined n own (versions (take used l)))
  absorb-size = omega (arith, joined-size (take used l) w n a own rise, s-long)

  -- what all own writes take is free behind the run
  pub absorb-room : used + grown own ≤ length l
  absorb-room = omega (arith, absorb-size, fit)

  module _ (up : ℕ) (e : up ≡ grown own) (from : ℕ) (p : Parted (take used l) own n from) (s₁ : Bytes) (f₁ : s₁ ≡ over l (from + up) (part l from (used - from))) where
    pub absorb-from : from ≤ used
    absorb-from = rw (← s-long) p.high

    free : used + up ≤ length l
    free = omega (arith, absorb-room)

    moved : Bytes
    moved = part l from (used - from)

    moved-long : length (part l from (used - from)) ≡ used - from
    moved-long = length_part l from (used - from) (omega (arith, absorb-from))

    long₁ : length s₁ ≡ length l
    unfolding moved
    long₁ = ap length f₁ ∙ length_over l (from + up) moved (omega (arith, moved-long, absorb-from, free))

    -- the part that is woven into: the space, and the records behind it
    pub lent-long : length (part s₁ from (used + up - from)) ≡ used + up - from
    lent-long = length_part s₁ from (used + up - from) (omega (arith, long₁, absorb-from, free))

    behind : span (part s₁ from (used + up - from)) up (length (part s₁ from (used + up - from))) ≡ span (take used l) from (length (take used l))
    unfolding moved
    behind =
        let j : length (part s₁ from (used + up - from)) - up ≡ used - from = omega (arith, lent-long, absorb-from) in
        let k : length (take used l) - from ≡ used - from = omega (arith, s-long) in
        ap (part (part s₁ from (used + up - from)) up) j
        ∙ part-part s₁ from (used + up - from) up (used - from) (omega (arith, absorb-from))
        ∙ ap (λ (t : Bytes). part t (from + up) (used - from)) f₁
        ∙ ap (part (over l (from + up) moved) (from + up)) (sym moved-long) ∙ part-over l (from + up) moved (omega (arith, absorb-from, free))
        ∙ sym (ap (part (take used l) from) k ∙ part-take l used from (used - from) (omega (arith, absorb-from)))

    -- what is asked to weave
    pub absorb-ready : (up ≤ length (part s₁ from (used + up - from)))
        × (packed_in (part s₁ from (used + up - from)) up (length (part s₁ from (used + up - from))) ≡ true)
        × (older n (versions_in (part s₁ from (used + up - from)) up (length (part s₁ from (used + up - from)))) ≡ true)
        × (up ≡ grown own)
    absorb-ready = (omega (arith, lent-long, absorb-from), ap packed behind ∙ p.whole, ap (λ (t : Bytes). older n (versions t)) behind ∙ p.aged, e)

    -- and what comes of it
    pub absorb-done : (x s₂ : Bytes) → x ≡ records_bytes (joined n own (versions_in (part s₁ from (used + up - from)) up (length (part s₁ from (used + up - from)))))
        → length x ≡ length (part s₁ from (used + up - from))
        → s₂ ≡ take from s₁ ++ (x ++ drop (used + up - from) (drop from s₁)) → s₂ ≡ over l 0 (records_bytes (joined n own (versions (take used l))))
    unfolding moved
    absorb-done x s₂ g lx f₂ =
        let c : x ≡ records_bytes (joined n own (versions_in (take used l) from (length (take used l)))) = g ∙ ap (λ (t : Bytes). records_bytes (joined n own (versions t))) behind in
        f₂ ∙ over-lent s₁ x from (used + up - from) (lx ∙ lent-long)
        ∙ ap (λ (t : Bytes). over t from x) f₁
        ∙ over-cover l from (from + up) x moved (omega arith) (omega (arith, absorb-from, free)) (omega (arith, moved-long, lx, lent-long, absorb-from))
        ∙ over-all l from x (omega (arith, absorb-from)) ∙ sym (over-front l (take from l ++ x))
        ∙ ap (over l 0) (ap₂ (λ (u v : Bytes). u ++ v) (sym (take-take from used l absorb-from)) c ∙ sym p.front)
