-- The field and the entry at the front of some bytes: those that are there, and those that are cut.
-- Assumes nothing.
use mathlib.Core.Path.{◌≡◌, sym, ap, ◌∙◌}
use mathlib.Core.Bool.{true, false}
use mathlib.Core.Option.{none, some}
use Prim.Native.Nat.{ℕ, ◌≤◌, ◌<◌}
use borrow.Author.Tests.{le-leb, lt-leb}
use lib.Dec.{leb}
use lib.ListN.{length, take, drop}
use Rattle.std.specs.Prelude.{Option, Some, None, MatchOption}
use Rattle.std.specs.Borrow.{Bor}
use Rattle.std.specs.List.{IsSplitAt}
use Rattle.paper.specs.Keys.{Bytes}
use Rattle.paper.specs.Image.{number_from, number, bytes}
use Rattle.layout.specs.Codec.{both, via, sized, plain}
use Rattle.layout.specs.Layout.{pair_stream}
use Rattle.raw.specs.Bytes.{part}
use Rattle.raw.proofs.Parts.{part-all}
use Rattle.overlay.specs.Overlay.{pair}
use Rattle.overlay.specs.Entries.{field_read}

-- ---- a field
pub field-tiny : (s : Bytes) → length s < 2 → (sized 2 plain).get s ≡ none
unfolding sized number bytes
field-tiny s h = let f : leb 2 (length s) ≡ false = lt-leb 2 (length s) h in simp f

-- the length that stands in front of a field, and the bytes behind it
module _ (s : Bytes) (h : 2 ≤ length s) where
  length-there : number 2 s ≡ some (number_from 0 (take 2 s), drop 2 s)
  unfolding number bytes
  length-there = let f : leb 2 (length s) ≡ true = le-leb 2 (length s) h in simp f

  pub field-there : number_from 0 (take 2 s) ≤ length (drop 2 s)
      → (sized 2 plain).get s ≡ some (take (number_from 0 (take 2 s)) (drop 2 s), drop (number_from 0 (take 2 s)) (drop 2 s))
  unfolding sized plain bytes
  field-there k =
      let f : leb (number_from 0 (take 2 s)) (length (drop 2 s)) ≡ true = le-leb (number_from 0 (take 2 s)) (length (drop 2 s)) k in
      simp (length-there, f)

  pub field-short : length (drop 2 s) < number_from 0 (take 2 s) → (sized 2 plain).get s ≡ none
  unfolding sized plain bytes
  field-short k =
      let f : leb (number_from 0 (take 2 s)) (length (drop 2 s)) ≡ false = lt-leb (number_from 0 (take 2 s)) (length (drop 2 s)) k in
      simp (length-there, f)

-- the bytes cut behind the length, and those behind it where the field ends
pub field-cut : (s l t : Bytes) (n : ℕ) (r : Option (Bor Bytes × Bor Bytes)) → IsSplitAt s 2 l t → n ≡ number_from 0 (part l 0 2)
    → MatchOption r (length t < n) (λ p. IsSplitAt t n p.0.now p.1.now) → field_read r ≡ (sized 2 plain).get s
field-cut s l t n None d e m =
    let k : n ≡ number_from 0 (take 2 s) = e ∙ ap (number_from 0) (part-all l 2 d.3 ∙ d.1) in
    sym (field-short s d.0 (rw (← d.2, ← k) m))
field-cut s l t n (Some p) d e m =
    let k : n ≡ number_from 0 (take 2 s) = e ∙ ap (number_from 0) (part-all l 2 d.3 ∙ d.1) in
    let f = field-there s d.0 (rw (← d.2, ← k) m.0) in
    cc

-- ---- an entry: two fields
pub entry-cut : (s : Bytes) → (sized 2 plain).get s ≡ none → pair_stream.get s ≡ none
unfolding pair_stream via both
entry-cut s e = simp e

pub entry-short : (s k r : Bytes) → (sized 2 plain).get s ≡ some (k, r) → (sized 2 plain).get r ≡ none → pair_stream.get s ≡ none
unfolding pair_stream via both
entry-short s k r e f = simp (e, f)

pub entry-there : (s k r v t : Bytes) → (sized 2 plain).get s ≡ some (k, r) → (sized 2 plain).get r ≡ some (v, t) → pair_stream.get s ≡ some (pair k v, t)
unfolding pair_stream via both
entry-there s k r v t e f = simp (e, f)
