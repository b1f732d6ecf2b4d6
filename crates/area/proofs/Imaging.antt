-- One image with its length in front: it reads as a run, or it does not.
-- Assumes nothing.
use native.Mathlib.Omega.{arith}
use Rattle.std.specs.Prelude as std
use Rattle.std.specs.Prelude.{Some, None, Result, Ok, Err}
use Rattle.std.specs.Result.{result_ok}
use Rattle.std.specs.Bool.{then_some}
use mathlib.Core.Path.{◌≡◌, refl, sym, ap, ap₂, ◌∙◌}
use mathlib.Core.Bool.{true, not}
use mathlib.Core.Option.{Option, none, some}
use mathlib.Core.List.{[], ◌∷◌}
use Prim.Native.Nat.{ℕ, ◌+◌}
use lib.ListN.{length, drop, length-drop, length-append}
use lib.Dec.{ltb}
use borrow.Author.Tests.{lt-ltb, le-ltb}
use Rattle.paper.specs.Lists.{is_empty}
use Rattle.paper.specs.Keys.{Bytes, octets}
use Rattle.paper.specs.Runs.{Run, version_size}
use Rattle.paper.specs.Image as paper
use Rattle.paper.specs.Image.{record_bytes, records_bytes, verdict}
use Rattle.paper.proofs.ImageBack.{length-record}
use Rattle.raw.proofs.Octets.{octets-part}
use Rattle.key.proofs.Packed.{packed-run}
use Rattle.layout.specs.Codec.{lift, sized}
use Rattle.layout.specs.Layout.{run_of, image}
use Rattle.run.specs.Checks.{told}
use Rattle.run.specs.declared.BadImage.{BadImage}
use Rattle.run.proofs.Images.{Holds, holds-packed, told-holds}
use Rattle.area.specs.Told.{Split}
use Rattle.area.proofs.Sizing.{sized-some}
use Rattle.area.proofs.Known.{run_latest}

-- an image is longer than its head where its run has a version
some-version : (x : Bytes) (r : Run) → Holds x r → ltb 9 (length x) ≡ not (is_empty r)
unfolding records_bytes version_size
some-version x r h =
    let p : records_bytes r ≡ drop 9 x = ap records_bytes (sym h.same) ∙ (packed-run (drop 9 x) (holds-packed x r h)).0 in
    go r (omega (arith, ap (λ (b : Bytes). length b) p, length-drop 9 x, h.long))
  where
    go : (q : Run) → length (records_bytes q) + 9 ≡ length x → ltb 9 (length x) ≡ not (is_empty q)
    go [] l = le-ltb 9 (length x) (omega arith)
    go (v ∷ vs) l = lt-ltb 9 (length x) (omega (arith, length-append (record_bytes v) (records_bytes vs), length-record v))

bad-none : (v : paper.Verdict) → None ≡ result_ok (told v) → run_of v ≡ none
bad-none (paper.good r) e = cc
bad-none paper.broken e = refl
bad-none paper.foreign e = refl

good-told : (v : Result ℕ BadImage) (t : ℕ) → Some t ≡ result_ok v → Ok t ≡ v
good-told (Ok n) t e = cc
good-told (Err w) t e = cc

-- the image in front of some bytes, with its length in front of it, reads as a run, of which this is known
pub record Imaged (b behind : Bytes) (latest : std.Option ℕ) : Type 0 where
  pub run : Run
  pub read : (sized 8 image).get b ≡ some (run, behind)
  pub last : latest ≡ run_latest run

module _ (b x behind : Bytes) (s : Split b x behind) where
  pub image-bad : None ≡ result_ok (told (verdict x)) → (sized 8 image).get b ≡ none
  unfolding image
  image-bad e = sized-some image b x behind s.read ∙ ap (λ (o : Option Run). lift o behind) (bad-none (verdict x) e)

  pub image-good : octets b ≡ true → (t : ℕ) → Some t ≡ result_ok (told (verdict x)) → Imaged b behind (then_some (ltb 9 (length x)) t)
  unfolding image
  image-good o t e =
      let (r, g, k, holds) = told-holds x t (ap octets s.here ∙ octets-part b 8 (length x) o) (good-told (told (verdict x)) t e) in
      record {
        run = r;
        read = sized-some image b x behind s.read ∙ ap (λ v. lift (run_of v) behind) g;
        last = ap₂ then_some (some-version x r holds) k;
      }
