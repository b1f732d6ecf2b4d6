-- The own writes woven into the records behind them: what is left to be done from a turn on gives the same bytes.
-- Assumes nothing.
use native.Mathlib.Omega.{arith}
use mathlib.Core.Path.{◌≡◌, refl, sym, ap, ap₂, ◌∙◌, subst}
use mathlib.Core.Bool.{true}
use mathlib.Core.List.{List, [], ◌∷◌, ◌++◌, append_assoc}
use Prim.Native.Nat.{ℕ, ◌+◌, ◌-◌, ◌≤◌}
use lib.ListN.{length, take, drop, length-append, length-drop, take-append-drop}
use lib.Seq.{take_all, take_at, length-take-le}
use Rattle.paper.specs.Lists.{total, rises, rises_from}
use Rattle.paper.specs.Keys.{Bytes, Pair, cmp_pair}
use Rattle.paper.specs.Runs.{version_size}
use Rattle.paper.specs.Store.{pair_size, own_size}
use Rattle.paper.specs.Image.{record_bytes, records_bytes}
use Rattle.paper.proofs.ImageBack.{length-record}
use Rattle.paper.proofs.KeyOrder.{pair-order}
use Rattle.paper.proofs.Rising.{rises-of}
use Rattle.raw.specs.Bytes.{part, over}
use Rattle.raw.proofs.Parts.{length_part}
use Rattle.raw.proofs.Over.{over-after, over-all, length_over, part-over-after}
use Rattle.key.proofs.Packed.{packed-run}
use Rattle.key.specs.Versions.{versions, packed}
use Rattle.overlay.specs.Overlay.{pair}
use Rattle.overlay.specs.Entries.{span}
use Rattle.overlay.proofs.Pairs.{rises-first}
use Rattle.run.specs.Seeking.{Sought}
use Rattle.versions.specs.Absorbing.{versions_in, packed_in, older, version_of, joined, grown}
use Rattle.versions.proofs.Splitting.{joined-none, aged, split}

-- to the end of some bytes
rest-is : (s : Bytes) (at : ℕ) → at ≤ length s → take at s ++ span s at (length s) ≡ s
rest-is s at h = ap (λ (t : Bytes). take at s ++ t) (take_all (length s - at) (drop at s) (omega (arith, length-drop {A = ℕ} at s))) ∙ take-append-drop at s

grown-more : (p : Pair) (own : List Pair) → grown (p ∷ own) ≡ 12 + length p.key + length p.value + grown own
unfolding own_size total pair_size
grown-more p own = omega arith

grown-none : grown [] ≡ 0
unfolding own_size total
grown-none = refl

-- ---- the loop
-- the own writes that are left go into the records from rest on, and all of it from at on gives what is wanted
pub record Weaving (wanted : Bytes) (n end : ℕ) (s : Bytes) (at rest : ℕ) (own : List Pair) : Type 0 where
  pub long : length s ≡ end
  pub inside : rest ≤ end
  pub whole : packed_in s rest end ≡ true
  pub aged : older n (versions_in s rest end) ≡ true
  pub rise : rises cmp_pair own ≡ true
  pub space : rest ≡ at + grown own
  pub same : take at s ++ records_bytes (joined n own (versions_in s rest end)) ≡ wanted

pub weave-start : (n : ℕ) (s : Bytes) (from : ℕ) (own : List Pair) → from ≤ length s → packed_in s from (length s) ≡ true → older n (versions_in s from (length s)) ≡ true → rises cmp_pair own ≡ true → from ≡ grown own
    → Weaving (records_bytes (joined n own (versions_in s from (length s)))) n (length s) s 0 from own
weave-start n s from own h w a r e = record { long = refl; inside = h; whole = w; aged = a; rise = r; space = omega arith; same = refl }

module _ (wanted : Bytes) (n end : ℕ) (s : Bytes) (at rest : ℕ) (own : List Pair) (w : Weaving wanted n end s at rest own) where
  -- no own write is left: what is left stands where it should
  pub weave-done : own ≡ [] → s ≡ wanted
  weave-done e =
      let z : rest ≡ at = omega (arith, w.space, ap grown e, grown-none) in
      let r : records_bytes (joined n own (versions_in s rest end)) ≡ span s rest end =
      ap (λ (ps : List Pair). records_bytes (joined n ps (versions_in s rest end))) e ∙ ap records_bytes (joined-none n (versions_in s rest end)) ∙ (packed-run (span s rest end) w.whole).0 in
      sym (rest-is s rest (omega (arith, w.inside, w.long))) ∙ ap₂ (λ (i j : ℕ). take i s ++ span s rest j) z w.long ∙ ap (λ (x : Bytes). take at s ++ x) (sym r) ∙ w.same

  module _ (p : Pair) (ps : List Pair) (e : own ≡ p ∷ ps) where
    space : at + (12 + length p.key + length p.value) + grown ps ≡ rest
    space = omega (arith, w.space, ap grown e, grown-more p ps)

    rise : rises_from cmp_pair p ps ≡ true
    rise = rises-first p ps (ap (rises cmp_pair) (sym e) ∙ w.rise)

    -- there is space for one version more
    pub weave-space : at + (12 + length p.key + length p.value) ≤ rest
    weave-space = omega (arith, space)

    module _ (place : ℕ) (f : Sought s rest end (version_of n (pair p.key [])) place) where
      pub weave-next : (s₁ s₂ : Bytes) → s₁ ≡ over s at (part s rest (place - rest)) → s₂ ≡ over s₁ (at + (place - rest)) (record_bytes (version_of n p))
          → Weaving wanted n end s₂ (at + (place - rest + (12 + length p.key + length p.value))) place ps
      unfolding version_size
      weave-next s₁ s₂ f₁ f₂ =
          let front : Bytes = part s rest (place - rest) in
          let v : Bytes = record_bytes (version_of n p) in
          let x : Bytes = front ++ v in
          let next : ℕ = at + (place - rest + (12 + length p.key + length p.value)) in
          let lf : length front ≡ place - rest = length_part s rest (place - rest) (omega (arith, f.low, f.high, w.long)) in
          let lv : length v ≡ 12 + length p.key + length p.value = length-record (version_of n p) in
          let lx : length x ≡ place - rest + (12 + length p.key + length p.value) = length-append front v ∙ omega (arith, lf, lv) in
          let fits : at ≤ length s = omega (arith, space, w.inside, w.long) in
          let ends : at + length x ≤ place = omega (arith, lx, space, f.low) in
          let inside : at + length x ≤ length s = omega (arith, ends, f.high, w.long) in
          let e₂ : s₂ ≡ over s at x =
          f₂ ∙ ap (λ (t : Bytes). over t (at + (place - rest)) v) f₁ ∙ over-after s at front fits (at + (place - rest)) v (omega (arith, lf)) in
          let run : span (over s at x) place end ≡ span s place end = part-over-after s at x fits place (end - place) ends in
          let head : take next (over s at x) ≡ take at s ++ x =
          ap (take next) (over-all s at x fits) ∙ take_at (take at s ++ x) (drop (length (take at s ++ x)) s) next (length-append (take at s) x ∙ omega (arith, length-take-le at s fits, lx)) in
          let after : Weaving wanted n end (over s at x) next place ps =
          record {
            long = length_over s at x inside ∙ w.long;
            inside = f.high;
            whole = ap packed run ∙ f.whole;
            aged = ap (λ (u : Bytes). older n (versions u)) run ∙ aged s rest end n (omega (arith, w.long)) w.whole w.aged p ps rise place f;
            rise = rises-of cmp_pair pair-order p ps rise;
            space = omega (arith, space, f.low);
            same =
                ap₂ (λ (a : Bytes) (u : Bytes). a ++ records_bytes (joined n ps (versions u))) head run
                ∙ append_assoc (take at s) x (records_bytes (joined n ps (versions_in s place end)))
                ∙ ap (λ (t : Bytes). take at s ++ t)
                (append_assoc front v (records_bytes (joined n ps (versions_in s place end)))
                ∙ sym (split s rest end n (omega (arith, w.long)) w.whole w.aged p ps rise place f)
                ∙ ap (λ (o : List Pair). records_bytes (joined n o (versions_in s rest end))) (sym e))
                ∙ w.same;
          } in
          subst (λ (t : Bytes). Weaving wanted n end t next place ps) (sym e₂) after
