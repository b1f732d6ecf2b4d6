-- The laws of versions and images, which are paper's.
-- Assumes nothing.
use native.Mathlib.Omega.{arith}
use mathlib.Core.Path.{◌≡◌, refl, sym, ap, ◌∙◌}
use mathlib.Core.Bool.{true}
use Rattle.paper.specs.Keys.{Bytes, Version, octets}
use Rattle.paper.specs.Runs.{Run, version_size}
use Rattle.paper.specs.Image.{record_bytes, one_record, image_of, Verdict, good, broken, foreign, verdict, storable}
use Rattle.paper.proofs.ImageLaws.{record-at}
use Rattle.paper.proofs.ImageBack.{record-read, verdict-read, length-record}
use Rattle.layout.specs.Layout.{version_stream, run_of, image}
use Rattle.layout.proofs.Streams.{StreamLaws, Formed, WholeLaws, got-from}

abbrev pub OkVersion : Version → Type 0
OkVersion v = storable v ≡ true

pub version-laws : StreamLaws version_stream OkVersion
unfolding version_stream version_size
version-laws =
    record {
      back = record-at;
      again = λ s o. got-from record_bytes OkVersion s (one_record s) (λ v r e. let u = record-read s v r o e in (u.0, u.1));
      long = λ v. rw length-record (omega arith);
    }

-- a run that an image can hold
abbrev pub OkImage : Run → Type 0
OkImage r = verdict (image_of r) ≡ good r

image-again : (s : Bytes) → octets s ≡ true → (v : Verdict) → verdict s ≡ v → Formed image_of OkImage s (run_of v)
image-again s o (good r) e = let u = verdict-read s r o e in (u.0, ap verdict (sym u.0) ∙ e)
image-again s o broken e = tt
image-again s o foreign e = tt

pub image-laws : WholeLaws image OkImage
unfolding image
image-laws = record { back = λ r k. ap run_of k; again = λ s o. image-again s o (verdict s) refl }
