-- The turns of the loop that counts images.
-- Assumes nothing.
use native.Mathlib.Omega.{arith}
use mathlib.Core.Path.{◌≡◌, refl, sym, ap, ◌∙◌}
use mathlib.Core.Bool.{true}
use mathlib.Core.Option.{Option, none, some}
use mathlib.Core.List.{List, [], ◌∷◌, reverse}
use Prim.Native.Nat.{ℕ, ◌+◌, ◌≤◌, ◌<◌}
use lib.ListN.{length, length-reverse}
use Rattle.paper.specs.Lists.{is_some}
use Rattle.paper.specs.Keys.{Bytes, octets}
use Rattle.paper.specs.Runs.{Run}
use Rattle.paper.specs.Image.{verdict}
use Rattle.raw.proofs.Octets.{octets-drop}
use Rattle.layout.specs.Codec.{lift, sized, plain, whole_via, map_option, cons_of}
use Rattle.layout.specs.Layout.{run_of, image, images_whole}
use Rattle.layout.proofs.Many.{many-end, many-step, many-cut}
use Rattle.settings.specs.Parts.{or_empty}
use Rattle.area.specs.Told.{Split}
use Rattle.area.proofs.Sizing.{sized-none, sized-some}
use Rattle.area.proofs.AreaLaws.{sized-image, lying}

-- the images are counted up to the rest, which holds those of ys
pub record Counting (images rest : Bytes) (count : ℕ) : Type 0 where
  pub ys : List Run
  pub bytes : octets rest ≡ true
  pub lie : lying rest ≡ some ys
  pub few : count + length rest ≤ length images
  pub sum : count + length ys ≡ length (or_empty (images_whole.parse images))

pub count-start : (images : Bytes) → octets images ≡ true → is_some (images_whole.parse images) ≡ true → Counting images images 0
unfolding images_whole whole_via
count-start images o h = go (lying images) refl h
  where
    go : (q : Option (List Run)) → lying images ≡ q → is_some (map_option reverse q) ≡ true → Counting images images 0
    go none e k = cc
    go (some rs) e k =
        record {
          ys = rs;
          bytes = o;
          lie = e;
          few = omega arith;
          sum = omega (arith, length-reverse rs, ap (λ (p : Option (List Run)). length (or_empty (map_option reverse p))) e);
        }

module _ (images rest : Bytes) (count : ℕ) (so : Counting images rest count) where
  -- nothing is left where no image is
  pub count-done : (sized 8 plain).get rest ≡ none → count ≡ length (or_empty (images_whole.parse images))
  count-done e = go rest refl
    where
      go : (b : Bytes) → rest ≡ b → count ≡ length (or_empty (images_whole.parse images))
      go [] k =
          let z : some so.ys ≡ some [] = sym so.lie ∙ many-end sized-image rest (ap (λ (x : Bytes). length x) k) in
          let f : so.ys ≡ [] = cc in
          omega (arith, so.sum, ap (λ (rs : List Run). length rs) f)
      go (x ∷ b) k =
          let z : none ≡ some so.ys = sym (many-cut sized-image rest (omega (arith, ap (λ (y : Bytes). length y) k)) (sized-none image rest e)) ∙ so.lie in
          cc

  module _ (x behind : Bytes) (s : Split rest x behind) where
    pub count_fits : count < length images
    count_fits = omega (arith, so.few, s.size)

    pub count_next : Counting images behind (count + 1)
    unfolding image
    count_next = go (run_of (verdict x)) refl
      where
        here : (o : Option Run) → run_of (verdict x) ≡ o → (sized 8 image).get rest ≡ lift o behind
        here o k = sized-some image rest x behind s.read ∙ ap (λ (q : Option Run). lift q behind) k

        more : (r : Run) → (q : Option (List Run)) → lying behind ≡ q → cons_of (some r) q ≡ some so.ys → Counting images behind (count + 1)
        more r none k e = cc
        more r (some zs) k e =
            let f : r ∷ zs ≡ so.ys = cc in
            record {
              ys = zs;
              bytes = ap octets s.behind ∙ octets-drop (8 + length x) rest so.bytes;
              lie = k;
              few = omega (arith, so.few, s.size);
              sum = omega (arith, so.sum, ap (λ (rs : List Run). length rs) f);
            }

        go : (o : Option Run) → run_of (verdict x) ≡ o → Counting images behind (count + 1)
        go none k = let z : none ≡ some so.ys = sym (many-cut sized-image rest (omega (arith, s.size)) (here none k)) ∙ so.lie in cc
        go (some r) k =
            more r (lying behind) refl (sym (many-step sized-image rest r behind so.bytes (omega (arith, s.size)) (here (some r) k)) ∙ so.lie)
