-- Packed entries: what is packed is read back, the first entry and those after it, and how many bytes they take.
-- Assumes nothing.
use native.Mathlib.Omega.{arith}
use Rattle.std.proofs.Common.{inl, inr}
use Rattle.std.proofs.lemmas.Bool.{cases_lt}
use mathlib.Core.Path.{◌≡◌, refl, sym, ap, ◌∙◌, subst}
use mathlib.Core.Bool.{true, not, ◌&&◌, false≢true}
use mathlib.Core.Option.{Option, none, some}
use mathlib.Core.List.{List, [], ◌∷◌, ◌++◌}
use Prim.Native.Nat.{ℕ, ◌<◌}
use borrow.Author.Tests.{leb-true}
use lib.Dec.{leb}
use lib.ListN.{length}
use Rattle.paper.specs.Lists.{all, is_empty, rises, rises_from}
use Rattle.paper.specs.Keys.{Bytes, Pair, octets, cmp_pair}
use Rattle.paper.specs.Image.{big_endian}
use Rattle.paper.specs.Settings.{longest}
use Rattle.paper.specs.Store.{pair_size, own_size}
use Rattle.paper.specs.Sound.{sound_key, sound_value, sound_pair}
use Rattle.paper.proofs.Bools.{and_left, and_right, and_intro}
use Rattle.paper.proofs.Alls.{all_head, all_tail}
use Rattle.paper.proofs.KeyOrder.{pair-order}
use Rattle.paper.proofs.Rising.{rises-of}
use Rattle.layout.specs.Codec.{sized, plain, both, via, many, cons_of, put_all}
use Rattle.layout.specs.Layout.{pair_stream}
use Rattle.layout.proofs.Streams.{Formed, All, many-laws}
use Rattle.layout.proofs.LayoutLaws.{OkPair, pair-laws}
use Rattle.layout.proofs.Sizes.{pair-long, all-long}
use Rattle.overlay.specs.Overlay.{or_empty, pairs_in, orderly, is_overlay}
use Rattle.layout.proofs.Many.{many-end, many-step, many-cut, rest-less}

-- ---- sizes
-- an entry as bytes
pub pair-bytes : (p : Pair) → pair_stream.put p ≡ (big_endian 2 (length p.key) ++ p.key) ++ (big_endian 2 (length p.value) ++ p.value)
unfolding pair_stream via both sized plain
pair-bytes p = refl

-- '4 bytes plus key and value for each entry' is what the packed entries take
pub length-own : (own : List Pair) → length (put_all pair_stream own) ≡ own_size own
unfolding own_size
length-own own = all-long pair_stream pair_size pair-long own

-- ---- packed and read
pub fits : (p : Pair) → sound_pair p ≡ true → OkPair p
unfolding sound_pair sound_key sound_value
fits p h =
    let k = and_left (leb (length p.key) longest) (octets p.key) (and_right (not (is_empty p.key)) (leb (length p.key) longest && octets p.key) (and_left (sound_key p.key) (sound_value p.value) h)) in
    let v = and_left (leb (length p.value) longest) (octets p.value) (and_right (sound_key p.key) (sound_value p.value) h) in
    ((tt, omega (arith, leb-true (length p.key) longest k)), (tt, omega (arith, leb-true (length p.value) longest v)))

pub all_fit : (own : List Pair) → all sound_pair own ≡ true → All OkPair own
unfolding all
all_fit [] h = tt
all_fit (p ∷ own) h = (fits p (all_head sound_pair p own h), all_fit own (all_tail sound_pair p own h))

-- what is packed is read back
pub packed-read : (own : List Pair) → all sound_pair own ≡ true → (many pair_stream).parse (put_all pair_stream own) ≡ some own
unfolding many
packed-read own a = (many-laws pair-laws).back own (all_fit own a)

pub pairs-packed : (own : List Pair) → all sound_pair own ≡ true → pairs_in (put_all pair_stream own) ≡ own
unfolding pairs_in
pairs-packed own a = ap or_empty (packed-read own a)

pub packed-is : (own : List Pair) → rises cmp_pair own ≡ true → all sound_pair own ≡ true → is_overlay (put_all pair_stream own) ≡ true
unfolding is_overlay
packed-is own r a = ap orderly (packed-read own a) ∙ and_intro r a

-- ---- bytes that are an overlay
pub record Overlay (s : Bytes) : Type 0 where
  pub read : (many pair_stream).parse s ≡ some (pairs_in s)
  pub rise : rises cmp_pair (pairs_in s) ≡ true
  pub sound : all sound_pair (pairs_in s) ≡ true

pub overlay-is : (s : Bytes) → is_overlay s ≡ true → Overlay s
unfolding is_overlay pairs_in
overlay-is s h = go ((many pair_stream).parse s) refl
  where
    go : (o : Option (List Pair)) → (many pair_stream).parse s ≡ o → Overlay s
    go none e = absurd (false≢true (sym (ap orderly e) ∙ h))
    go (some own) e =
        let j : orderly (some own) ≡ true = ap orderly (sym e) ∙ h in
        let f : pairs_in s ≡ own = ap or_empty e in
        record { read = e ∙ ap some (sym f); rise = ap (rises cmp_pair) f ∙ and_left (rises cmp_pair own) (all sound_pair own) j; sound = ap (all sound_pair) f ∙ and_right (rises cmp_pair own) (all sound_pair own) j }

pub overlay-of : (s : Bytes) (own : List Pair) → (many pair_stream).parse s ≡ some own → (is_overlay s ≡ rises cmp_pair own && all sound_pair own) × (pairs_in s ≡ own)
unfolding is_overlay pairs_in
overlay-of s own e = (ap orderly e, ap or_empty e)

-- they are their entries, packed
pub overlay-packed : (s : Bytes) → octets s ≡ true → is_overlay s ≡ true → put_all pair_stream (pairs_in s) ≡ s
unfolding many
overlay-packed s o h = sym (subst (Formed (put_all pair_stream) (All OkPair) s) (overlay-is s h).read ((many-laws pair-laws).again s o)).0

pub overlay-end : (s : Bytes) → length s ≡ 0 → pairs_in s ≡ []
unfolding pairs_in
overlay-end s l = ap or_empty (many-end pair-laws s l)

pub rises-first : (p : Pair) (own : List Pair) → rises cmp_pair (p ∷ own) ≡ true → rises_from cmp_pair p own ≡ true
unfolding rises
rises-first p own h = h

-- the first entry, and those after it
pub record First (s : Bytes) (p : Pair) (r : Bytes) : Type 0 where
  pub pairs : pairs_in s ≡ p ∷ pairs_in r
  pub rest : is_overlay r ≡ true
  pub rise : rises_from cmp_pair p (pairs_in r) ≡ true
  pub sound : sound_pair p ≡ true

module _ (s : Bytes) (o : octets s ≡ true) (h : is_overlay s ≡ true) where
  -- no entry can be read where none is left
  pub none-left : pair_stream.get s ≡ none → pairs_in s ≡ []
  none-left e = elim (cases_lt 0 (length s)) [
    | inl l ↦ absurd (let f = sym (overlay-is s h).read ∙ many-cut pair-laws s l e in let z : ◌≡◌ {A = ℕ} 0 1 = cc in omega arith)
    | inr l ↦ overlay-end s (omega arith)
  ]

  pub first-is : (p : Pair) (r : Bytes) → pair_stream.get s ≡ some (p, r) → First s p r
  first-is p r e = go ((many pair_stream).parse r) refl
    where
      l : 0 < length s
      l = let n = (rest-less pair-laws s p r o e).1 in omega arith

      step : (many pair_stream).parse s ≡ cons_of (some p) ((many pair_stream).parse r)
      step = many-step pair-laws s p r o l e

      go : (q : Option (List Pair)) → (many pair_stream).parse r ≡ q → First s p r
      go none f = absurd (let g = sym (overlay-is s h).read ∙ step ∙ ap (cons_of (some p)) f in let z : ◌≡◌ {A = ℕ} 0 1 = cc in omega arith)
      go (some own) f =
          let g = overlay-of r own f in
          let k = overlay-of s (p ∷ own) (step ∙ ap (cons_of (some p)) f) in
          let j : rises cmp_pair (p ∷ own) && all sound_pair (p ∷ own) ≡ true = sym k.0 ∙ h in
          let u : rises_from cmp_pair p own ≡ true = rises-first p own (and_left (rises cmp_pair (p ∷ own)) (all sound_pair (p ∷ own)) j) in
          let w = and_right (rises cmp_pair (p ∷ own)) (all sound_pair (p ∷ own)) j in
          record {
            pairs = k.1 ∙ ap {B = List Pair} (λ t. p ∷ t) (sym g.1);
            rest = g.0 ∙ and_intro (rises-of cmp_pair pair-order p own u) (all_tail sound_pair p own w);
            rise = ap (rises_from cmp_pair p) g.1 ∙ u;
            sound = all_head sound_pair p own w;
          }
