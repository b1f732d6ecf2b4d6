-- What a good verdict says of an image's records, and which records make a good image.
-- Assumes nothing.
use native.Mathlib.Omega.{arith}
use Rattle.std.specs.Prelude.{Ok}
use mathlib.Core.Path.{◌≡◌, refl, sym, ap, ◌∙◌}
use mathlib.Core.Bool.{true}
use mathlib.Core.List.{◌++◌}
use Prim.Native.Nat.{ℕ, ◌+◌, ◌-◌, ◌^◌, ◌≤◌, ◌<◌}
use lib.ListN.{length, drop, length-append}
use lib.Seq.{drop_at}
use Rattle.paper.specs.Lists.{all}
use Rattle.paper.specs.Keys.{Bytes, octets}
use Rattle.paper.specs.Runs.{Run}
use Rattle.paper.specs.Image as paper
use Rattle.paper.specs.Image.{records_bytes, image_of, storable, is_whole, verdict, good, broken, foreign}
use Rattle.paper.specs.Store.{latest}
use Rattle.paper.proofs.ImageLaws.{verdict-image}
use Rattle.paper.proofs.ImageBack.{verdict-read}
use Rattle.raw.specs.Bytes.{part}
use Rattle.raw.proofs.Parts.{drop-part}
use Rattle.key.specs.Versions.{versions, packed}
use Rattle.key.proofs.Packed.{versions-records, packed-run}
use Rattle.run.specs.Checks.{whole_run, told}
use Rattle.run.specs.Writing.{head_bytes}
use Rattle.run.proofs.Reading.{versions-count}
use Rattle.run.proofs.Judging.{whole_is, is-whole}
use Rattle.run.proofs.Writing.{length-head, image-parts, image-packed}

-- the records of an image, behind its head
pub drop_head : (n : ℕ) (b : Bytes) → drop 9 (head_bytes n ++ b) ≡ b
drop_head n b = drop_at (head_bytes n) b 9 (length-head n)

pub image-records : (r : Run) → drop 9 (image_of r) ≡ records_bytes r
image-records r = ap (drop 9) (image-parts r) ∙ drop_head (length r) (records_bytes r)

-- bytes that read as a good image: behind the head are the packed records of its run, in which no key is empty
pub record Holds (s : Bytes) (r : Run) : Type 0 where
  pub long : 9 ≤ length s
  pub whole : whole_run (drop 9 s) ≡ true
  pub same : versions (drop 9 s) ≡ r

module _ (s : Bytes) (r : Run) (h : Holds s r) where
  pub holds-packed : packed (drop 9 s) ≡ true
  holds-packed = (whole_is (drop 9 s) h.whole).0

  pub holds-whole : is_whole r ≡ true
  holds-whole = ap is_whole (sym h.same) ∙ (whole_is (drop 9 s) h.whole).1

  pub holds-storable : all storable r ≡ true
  holds-storable = ap (all storable) (sym h.same) ∙ (packed-run (drop 9 s) holds-packed).2

pub good-holds : (s : Bytes) (r : Run) → octets s ≡ true → verdict s ≡ good r → Holds s r
good-holds s r o e =
    let w = verdict-read s r o e in
    let d : drop 9 s ≡ records_bytes r = ap (drop 9) w.0 ∙ image-records r in
    record {
      long = omega (arith, ap (λ (x : Bytes). length x) (w.0 ∙ image-parts r), length-append (head_bytes (length r)) (records_bytes r), length-head (length r));
      whole = ap whole_run d ∙ is-whole r w.1 w.2;
      same = ap versions d ∙ versions-records r w.2;
    }

-- what the code's answer says
told_is : (o : paper.Verdict) (n : ℕ) → Ok n ≡ told o → (r : Run) × (o ≡ good r) × (n ≡ latest r)
told_is (good r) n e = (r, refl, cc)
told_is broken n e = cc
told_is foreign n e = cc

pub told-holds : (s : Bytes) (n : ℕ) → octets s ≡ true → Ok n ≡ told (verdict s) → (r : Run) × (verdict s ≡ good r) × (n ≡ latest r) × Holds s r
told-holds s n o e =
    let (r, g, l) = told_is (verdict s) n e in
    (r, g, l, good-holds s r o g)

-- the same for an image that lies in a buffer: its records are those from 9 bytes further on to its end
pub holds-part : (s : Bytes) (at end : ℕ) (r : Run) → Holds (part s at (end - at)) r
    → (packed (part s (at + 9) (end - (at + 9))) ≡ true) × (versions (part s (at + 9) (end - (at + 9))) ≡ r)
holds-part s at end r h =
    let z : end - at - 9 ≡ end - (at + 9) = omega arith in
    let d : part s (at + 9) (end - (at + 9)) ≡ drop 9 (part s at (end - at)) = sym (drop-part s at (end - at) 9 ∙ ap (part s (at + 9)) z) in
    (ap packed d ∙ holds-packed (part s at (end - at)) r h, ap versions d ∙ h.same)

-- the other direction: a head with their count in front of the records of a run in which no key is empty is a good image of that run
pub frozen-good : (b : Bytes) → whole_run b ≡ true → length b < 2 ^ 32 → verdict (image_of (versions b)) ≡ good (versions b)
frozen-good b w h =
    let u = whole_is b w in
    verdict-image (versions b) u.1 (packed-run b u.0).2 (omega (arith, versions-count b))

pub headed-good : (b : Bytes) → whole_run b ≡ true → length b < 2 ^ 32 → verdict (head_bytes (length (versions b)) ++ b) ≡ good (versions b)
headed-good b w h = ap verdict (sym (image-packed b (whole_is b w).0)) ∙ frozen-good b w h
