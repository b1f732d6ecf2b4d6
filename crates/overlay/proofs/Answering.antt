-- The answer to a search for a key's own write, in the own writes themselves and in bytes that they are a part of.
-- Assumes nothing.
use native.Mathlib.Omega.{arith}
use mathlib.Core.Path.{◌≡◌, refl, sym, ap, ap₂, ◌∙◌, subst}
use mathlib.Core.Bool.{true}
use mathlib.Core.Option.{some}
use mathlib.Core.List.{List, [], ◌∷◌}
use Prim.Native.Nat.{ℕ, ◌+◌, ◌-◌, ◌≤◌, Ordering}
use lib.ListN.{length}
use Rattle.std.specs.Prelude as std
use Rattle.std.specs.Prelude.{Some, None, Result, Ok, Err}
use Rattle.std.specs.Borrow.{Bor}
use Rattle.paper.specs.Keys.{Bytes, Pair, octets, cmp_key}
use Rattle.paper.specs.Store.{pair_size}
use Rattle.paper.specs.Seen.{own_write}
use Rattle.raw.specs.Bytes.{part}
use Rattle.raw.proofs.Parts.{length_part, part-part}
use Rattle.overlay.specs.declared.Found.{Found}
use Rattle.overlay.specs.Overlay.{pairs_in, own_in, is_overlay, spot, found_at, value_at, Between, answered, Answered}
use Rattle.overlay.proofs.Putting.{ends, value-hit, value-miss}

-- ---- in the own writes
module _ (s : Bytes) (o : octets s ≡ true) (w : is_overlay s ≡ true) (k : Bytes) where
  pub answer-hit : (f : Found) → ◌≡◌ (Ok f) (found_at 0 k (pairs_in s)) → (r : std.Option (Bor Bytes)) → answered r ≡ some (part s f.value (f.end - f.value))
      → Answered s 0 (length s) (pairs_in s) k r
  answer-hit f e r q =
      let n = ends s o w k f e in
      let i : Between 0 (length s) (Ok f) = (omega arith, n.1, n.2) in
      record { place = q ∙ ap (value_at s) e; value = q ∙ sym (value-hit s o w k f e); inside = subst (Between 0 (length s)) e i }

  pub answer-miss : (gap : ℕ) → ◌≡◌ (Err gap) (found_at 0 k (pairs_in s)) → Answered s 0 (length s) (pairs_in s) k None
  answer-miss gap e =
      let i : Between 0 (length s) (Err gap) = tt in
      record { place = ap (value_at s) e; value = sym (value-miss s o w k gap e); inside = subst (Between 0 (length s)) e i }

-- ---- in bytes that they are a part of
-- what was found among entries from an index on, where they start so much further on
abbrev pub further : ℕ → Result Found ℕ → Result Found ℕ
further n (Ok f) = Ok (record { start = n + f.start; value = n + f.value; end = n + f.end })
further n (Err gap) = Err (n + gap)

pub found-further : (n at : ℕ) (k : Bytes) (ps : List Pair) → found_at (n + at) k ps ≡ further n (found_at at k ps)
unfolding found_at
found-further n at k [] = refl
found-further n at k (p ∷ ps) =
    go (cmp_key k p.key) (ap (λ (m : ℕ). found_at m k ps) (omega arith) ∙ found-further n (at + pair_size p) k ps)
  where
    go : (q : Ordering) → found_at (n + at + pair_size p) k ps ≡ further n (found_at (at + pair_size p) k ps)
        → spot q (n + at) p (found_at (n + at + pair_size p) k ps) ≡ further n (spot q at p (found_at (at + pair_size p) k ps))
    go Ordering.lt e = refl
    go Ordering.eq e =
        let a : n + at + 4 + length p.key ≡ n + (at + 4 + length p.key) = omega arith in
        let b : n + at + pair_size p ≡ n + (at + pair_size p) = omega arith in
        ap₂ {C = Result Found ℕ} (λ (v m : ℕ). Ok (record { start = n + at; value = v; end = m })) a b
    go Ordering.gt e = e

-- own writes that stand in s from one index to another
module _ (s : Bytes) (at end : ℕ) (h : at ≤ end) (i : end ≤ length s) (own : Bytes) (e : own ≡ part s at (end - at)) where
  own-long : length own ≡ end - at
  own-long = ap length e ∙ length_part s at (end - at) (omega arith)

  value-further : (r : Result Found ℕ) → Between 0 (length own) r → value_at own r ≡ value_at s (further at r)
  value-further (Err gap) b = refl
  value-further (Ok f) b =
      let m : f.end - f.value ≡ at + f.end - (at + f.value) = omega arith in
      ap some (ap (λ (t : Bytes). part t f.value (f.end - f.value)) e ∙ part-part s at (end - at) f.value (f.end - f.value) (omega (arith, b, own-long)) ∙ ap (part s (at + f.value)) m)

  between-further : (r : Result Found ℕ) → Between 0 (length own) r → Between at end (further at r)
  between-further (Err gap) b = tt
  between-further (Ok f) b = (omega arith, omega (arith, b), omega (arith, b, own-long))

  -- where in s the search finds a key, and what it answers
  pub found-within : (k : Bytes) → found_at at k (own_in s at end) ≡ further at (found_at 0 k (pairs_in own))
  found-within k =
      ap (λ (n : ℕ). found_at n k (own_in s at end)) (omega arith) ∙ found-further at 0 k (own_in s at end)
      ∙ ap (λ (t : Bytes). further at (found_at 0 k (pairs_in t))) (sym e)

  pub answer-within : (k : Bytes) (r : std.Option (Bor Bytes)) → Answered own 0 (length own) (pairs_in own) k r → Answered s at end (own_in s at end) k r
  answer-within k r a =
      record {
        place = a.place ∙ value-further (found_at 0 k (pairs_in own)) a.inside ∙ sym (ap (value_at s) (found-within k));
        value = a.value ∙ ap (λ (t : Bytes). own_write k (pairs_in t)) e;
        inside = subst (Between at end) (sym (found-within k)) (between-further (found_at 0 k (pairs_in own)) a.inside);
      }
