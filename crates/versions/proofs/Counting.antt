-- How many bytes a run takes with own writes in it.
-- Assumes nothing.
use native.Mathlib.Omega.{arith}
use mathlib.Core.Path.{◌≡◌, refl, sym, ap, ◌∙◌}
use mathlib.Core.Bool.{Bool, true, false, ◌&&◌}
use mathlib.Core.List.{List, [], ◌∷◌}
use Prim.Native.Nat.{ℕ, ◌+◌, ◌*◌, ◌-◌, ◌/◌, ◌≤◌}
use lib.Dec.{leb}
use lib.ListN.{length}
use borrow.Author.Tests.{le-leb, lt-leb, leb-true, leb-false}
use Rattle.paper.specs.Lists.{total, rises}
use Rattle.paper.specs.Keys.{Bytes, Pair, cmp_pair}
use Rattle.paper.specs.Runs.{run_size}
use Rattle.paper.specs.Store.{pair_size, own_size}
use Rattle.paper.proofs.ImageBack.{length-records}
use Rattle.paper.proofs.RoomLaws.{active-grows}
use Rattle.key.specs.Versions.{versions, packed}
use Rattle.key.proofs.Packed.{packed-run}
use Rattle.versions.specs.Absorbing.{older, joined, grown}

-- no own write takes less than 4 bytes
pub few-own : (own : List Pair) → 4 * length own ≤ own_size own
unfolding own_size total pair_size
few-own [] = omega arith
few-own (p ∷ own) = let h = few-own own in omega arith

-- as versions they take 8 bytes each more than as own writes
more : (own : List Pair) → total (λ p. 12 + length p.key + length p.value) own ≡ grown own
unfolding own_size total pair_size
more [] = omega arith
more (p ∷ own) = let h = more own in omega (arith, h)

-- packed records take the bytes in which they lie
pub size_in : (b : Bytes) → packed b ≡ true → run_size (versions b) ≡ length b
size_in b w = sym (length-records (versions b)) ∙ ap length (packed-run b w).0

module _ (b : Bytes) (w : packed b ≡ true) (n : ℕ) (a : older n (versions b) ≡ true) (own : List Pair) (r : rises cmp_pair own ≡ true) where
  pub joined-size : run_size (joined n own (versions b)) ≡ length b + grown own
  joined-size = active-grows n own (versions b) r a ∙ omega (arith, more own, size_in b w)

  -- the bytes of both, and 8 more for each own write
  pub fits_verdict : (size room : ℕ) → size ≡ own_size own → leb (run_size (joined n own (versions b))) room ≡ leb (length b + size) room && leb (length own) ((room - (length b + size)) / 8)
  fits_verdict size room e = go (leb (length b + size) room) refl
    where
      last : length b + size ≤ room → (c : Bool) → leb (length own) ((room - (length b + size)) / 8) ≡ c → leb (run_size (joined n own (versions b))) room ≡ c
      last h true f = le-leb (run_size (joined n own (versions b))) room (omega (arith, joined-size, leb-true (length own) ((room - (length b + size)) / 8) f))
      last h false f = lt-leb (run_size (joined n own (versions b))) room (omega (arith, joined-size, leb-false (length own) ((room - (length b + size)) / 8) f))

      go : (c : Bool) → leb (length b + size) room ≡ c → leb (run_size (joined n own (versions b))) room ≡ c && leb (length own) ((room - (length b + size)) / 8)
      go true f = last (leb-true (length b + size) room f) (leb (length own) ((room - (length b + size)) / 8)) refl
      go false f = lt-leb (run_size (joined n own (versions b))) room (omega (arith, joined-size, leb-false (length b + size) room f))
