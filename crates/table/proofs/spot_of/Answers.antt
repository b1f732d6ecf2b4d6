-- The row at the place that the search found is t's own, or t has none.
use mathlib.Core.Bool.{true}
use native.Mathlib.Omega.{arith}
use mathlib.Core.Path.{◌≡◌, sym, ap, ap₂, ◌∙◌}
use Prim.Native.Nat.{ℕ, ◌/◌, ◌<◌}
use lib.ListN.{length}
use Rattle.paper.specs.Keys.{Bytes, octets}
use Rattle.raw.proofs.Octets.{octets-of}
use Rattle.table.specs.Rows.{rows_in, here, gap}
use Rattle.table.proofs.RowLaws.{time_at, spot-here, spot-gap}
use Rattle.table.proofs.RowBytes.{Region, time-at, count_at_lem}
use Rattle.table.proofs.RowSpots.{ground, used-of, holds}
use Rattle.table.proofs.spot_of.Goals as goal
use Rattle.table.proofs.spot_of.Goals.{else-k-n-via-then-k-n+else-number-t, else-k-n-via-else-k-n}

pub number-requires-clause-there : goal.number-requires-clause-there
number-requires-clause-there c =
    let b : Bytes = c.args.region.now in
    let y : octets b ≡ true = octets-of b (λ i. omega (arith, c.type_inv.region i)) in
    omega (arith, (holds b y c.requires).fits)

pub rows_before-k-requires : goal.rows_before-k-requires
rows_before-k-requires c =
    let b : Bytes = c.args.region.now in
    let y : octets b ≡ true = octets-of b (λ i. omega (arith, c.type_inv.region i)) in
    let n : c.number.result / 16 ≡ length (rows_in b) = omega (arith, c.number.ensures.value, used-of b y c.requires) in
    record { reads = c.requires.reads; many = n; fits = omega (arith, (holds b y c.requires).fits) }

pub number-requires-then-k-n-clause-there : goal.number-requires-then-k-n-clause-there
number-requires-then-k-n-clause-there c =
    let b : Bytes = c.args.region.now in
    let y : octets b ≡ true = octets-of b (λ i. omega (arith, c.type_inv.region i)) in
    omega (arith, (holds b y c.requires).fits, c.number.ensures.value, used-of b y c.requires)

pub number-count-requires-clause-there : goal.number-count-requires-clause-there
number-count-requires-clause-there c =
    let b : Bytes = c.args.region.now in
    let y : octets b ≡ true = octets-of b (λ i. omega (arith, c.type_inv.region i)) in
    omega (arith, (holds b y c.requires).fits, c.number.ensures.value, used-of b y c.requires)

pub returns-then-number-t : goal.returns-then-number-t
returns-then-number-t c =
    let b : Bytes = c.args.region.now in
    let y : octets b ≡ true = octets-of b (λ i. omega (arith, c.type_inv.region i)) in
    let k = c.rows_before-k.result in
    let n : c.number.result / 16 ≡ length (rows_in b) = omega (arith, c.number.ensures.value, used-of b y c.requires) in
    let l : k < length (rows_in b) = omega arith in
    let R : Region b = ground b y c.requires in
    ap₂ (λ (i m : ℕ). here k i m) n (c.number-count.ensures.value ∙ count_at_lem b R k l)
    ∙ spot-here c.args.t (rows_in b) c.requires.rise k c.rows_before-k.ensures l (sym (time-at b R k l) ∙ sym c.number-then-k-n.ensures.value ∙ c.if-number-t.true)

pub returns : goal.returns
returns c =
    let b : Bytes = c.args.region.now in
    let y : octets b ≡ true = octets-of b (λ i. omega (arith, c.type_inv.region i)) in
    let k = c.rows_before-k.result in
    let n : c.number.result / 16 ≡ length (rows_in b) = omega (arith, c.number.ensures.value, used-of b y c.requires) in
    let other : k < length (rows_in b) → time_at (rows_in b) k ≡ c.args.t → ⊥ =
    λ l e. elim c.else-k-n.branch [
      | else-k-n-via-then-k-n+else-number-t w ↦ w.if-number-t.false (w.number-then-k-n.ensures.value ∙ time-at b (ground b y c.requires) k l ∙ e)
      | else-k-n-via-else-k-n w ↦ absurd (omega arith)
    ] in
    ap (gap k) n ∙ spot-gap c.args.t (rows_in b) c.requires.rise k c.rows_before-k.ensures other
