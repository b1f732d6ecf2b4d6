-- Values of a stream, one after the other to the end of some bytes: the first, and those after it.
-- Assumes nothing.
use native.Mathlib.Omega.{arith}
use native.Mathlib.Nat.{not-suc-le-zero}
use mathlib.Core.Path.{◌≡◌, refl, sym, ap, ◌∙◌, subst}
use mathlib.Core.Bool.{true}
use mathlib.Core.Option.{Option, none, some}
use mathlib.Core.List.{[], ◌∷◌}
use Prim.Native.Nat.{ℕ, zero, suc, ◌≤◌, ◌<◌}
use lib.ListN.{length, length-append}
use Rattle.paper.specs.Keys.{Bytes, octets}
use Rattle.paper.proofs.ImageBack.{octets-right}
use Rattle.layout.specs.Codec.{Stream, many, cons_of, further, get_all}
use Rattle.layout.proofs.Streams.{Got, StreamLaws}

module _ {A : Type 0} {S : Stream A} {Ok : A → Type 0} (LS : StreamLaws S Ok) where
  -- what follows a value that was read are bytes, and fewer
  pub rest-less : (s : Bytes) (p : A) (r : Bytes) → octets s ≡ true → S.get s ≡ some (p, r) → (octets r ≡ true) × (length r < length s)
  rest-less s p r o e =
      let g = subst (Got S.put Ok s) e (LS.again s o) in
      (octets-right (S.put p) r (ap octets (sym g.0) ∙ o), omega (arith, ap length g.0, length-append (S.put p) r, LS.long p))

  none_left : (n : ℕ) → get_all S n [] ≡ some []
  unfolding get_all
  none_left zero = refl
  none_left (suc n) = refl

  -- more turns than bytes change nothing
  abbrev Enough : ℕ → Type 0
  Enough n = (m : ℕ) (s : Bytes) → octets s ≡ true → length s ≤ n → length s ≤ m → get_all S n s ≡ get_all S m s

  one_more : (n : ℕ) → Enough n → Enough (suc n)
  unfolding get_all
  one_more n ih m [] o h k = sym (none_left m)
  one_more n ih zero (x ∷ s) o h k = absurd (not-suc-le-zero k)
  one_more n ih (suc m) (x ∷ s) o h k = go (S.get (x ∷ s)) refl
    where
      go : (q : Option (A × Bytes)) → S.get (x ∷ s) ≡ q → further (λ r. get_all S n r) q ≡ further (λ r. get_all S m r) q
      go none e = refl
      go (some q) e =
          let l = rest-less (x ∷ s) q.0 q.1 o e in
          ap (cons_of (some q.0)) (ih m q.1 l.0 (omega arith) (omega arith))

  no_more : Enough zero
  no_more m [] o h k = none_left 0 ∙ sym (none_left m)
  no_more m (x ∷ s) o h k = absurd (not-suc-le-zero h)

  enough : (n : ℕ) → Enough n
  enough zero = no_more
  enough (suc n) = one_more n (enough n)

  pub many-end : (s : Bytes) → length s ≡ 0 → (many S).parse s ≡ some []
  unfolding many
  many-end [] h = none_left 0
  many-end (x ∷ s) h = absurd (omega arith)

  pub many-step : (s : Bytes) (p : A) (r : Bytes) → octets s ≡ true → 0 < length s → S.get s ≡ some (p, r) → (many S).parse s ≡ cons_of (some p) ((many S).parse r)
  unfolding many get_all
  many-step [] p r o h e = absurd (not-suc-le-zero h)
  many-step (x ∷ s) p r o h e =
      let l = rest-less (x ∷ s) p r o e in
      ap (further (λ t. get_all S (length s) t)) e ∙ ap (cons_of (some p)) (enough (length s) (length r) r l.0 (omega arith) (omega arith))

  pub many-cut : (s : Bytes) → 0 < length s → S.get s ≡ none → (many S).parse s ≡ none
  unfolding many get_all
  many-cut [] h e = absurd (not-suc-le-zero h)
  many-cut (x ∷ s) h e = ap (further (λ t. get_all S (length s) t)) e
