-- What was shown from the start of a buffer ends within it.
-- Assumes nothing.
use native.Mathlib.Omega.{arith}
use mathlib.Core.Path.{◌≡◌, sym, ap}
use Prim.Native.Nat.{ℕ, ◌-◌, ◌≤◌}
use lib.ListN.{length, take, length-take}
use lib.Seq.{length-take-le}
use Rattle.paper.specs.Keys.{Bytes}
use Rattle.printing.specs.Shown.{fitting, shown}
use Rattle.printing.proofs.Showing.{shown-length}

module _ (out x l : Bytes) (n : ℕ) (e : ◌≡◌ {A = Bytes × ℕ} (l, n) (shown out 0 x)) where
  pub ends-within : n ≤ length l
  unfolding shown fitting
  ends-within =
      let s : length l ≡ length (shown out 0 x).0 = ap (λ (p : Bytes × ℕ). length p.0) e in
      let t : n ≡ (shown out 0 x).1 = ap (λ (p : Bytes × ℕ). p.1) e in
      omega (arith, shown-length out 0 x, length-take (length out - 0) x)

  -- so as many bytes can be taken
  pub taken : n ≡ length (take n l)
  taken = sym (length-take-le n l ends-within)
