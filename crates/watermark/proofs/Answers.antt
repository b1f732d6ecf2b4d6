-- What both tables rest on: a pass over `used` rows, however they lie, and what was decided of it, give the paper's call on these rows.
-- Assumes nothing.
use Rattle.std.proofs.Common.{arith}
use Prim.Native.Nat.{ℕ, ◌+◌, ◌-◌, ◌≤◌, ◌<◌}
use mathlib.Core.Path.{◌≡◌, refl, sym, ap, ap₂, subst, ◌∙◌}
use mathlib.Core.Bool.{Bool, true, false}
use mathlib.Core.List.{List, [], ◌∷◌, map}
use lib.ListN.{length, take}
use lib.Dec.{leb, ltb}
use borrow.Author.Tests.{lt-leb, le-leb, ltb-true}
use Rattle.std.specs.Prelude.{Option, Some, None, Result, Ok, Err, IfSome, MatchOption, max, slice_get, option_map, option_copied, unwrap_or}
use Rattle.std.specs.Option.{IsSomeAnd}
use Rattle.std.proofs.Math.Option as maths
use denote.Ref.{Bor}
use Rattle.paper.specs.Readers.{Row, sound_rows, readers_at, watermark}
use Rattle.paper.specs.Refusals.{unsound, Try, stop, go, must, ◌>>◌}
use Rattle.paper.specs.Calls.{try_add_row, try_remove_row, try_smallest, try_timestamps}
use Rattle.watermark.specs.Table.{up_to, as_lent, sized, written, smallest_says, timestamps_says, try_watermark, Left, LeftRows}
use Rattle.watermark.specs.Pass.{pick, unsound_table, below, upto, count_at, found, scanned, moved_down, adding_of, removing_of}
use Rattle.watermark.specs.declared.pass.Row as Lent
use Rattle.watermark.specs.declared.pass.Scan.{Scan}
use Rattle.watermark.specs.declared.pass.Put.{Put}
use Rattle.watermark.specs.declared.pass.Removing.{Removing}
use Rattle.watermark.specs.declared.reply.Unsound.{Unsound}
use Rattle.watermark.specs.declared.reply.AddRefusal.{AddRefusal}
use Rattle.watermark.specs.declared.reply.RemoveRefusal.{RemoveRefusal}
use Rattle.watermark.proofs.OnePass.{length-up_to, upto-within}
use Rattle.watermark.proofs.Plans.{AddWay, add-way, add-unsound, RemoveWay, add-says, remove-way, remove-unsound, fewer-says, gone-says, gone-within, gone-writes, fits}

-- rows that go past the end
pub past-end : (used room t : ℕ) (rows : List Row) → room < used → Err unsound_table ≡ scanned (leb used room) t rows
unfolding scanned
past-end used room t rows h = sym (rw (lt-leb used room h))

-- rows within the room
pub within-end : (used room t : ℕ) (rows : List Row) (r : Result Scan Unsound) → used ≤ room → r ≡ scanned true t rows → r ≡ scanned (leb used room) t rows
within-end used room t rows r h e = e ∙ ap (λ (b : Bool). scanned b t rows) (sym (le-leb used room h))

module _ (room t used : ℕ) (f : ℕ → Row) where
  abbrev rows : List Row
  rows = up_to used f

  n : length rows ≡ used
  n = length-up_to used f

  -- the pass found sound rows
  module _ (s : Scan) (e : Ok s ≡ scanned (leb used room) t rows) where
    both : (sound_rows room rows ≡ true) × (s ≡ found t rows)
    unfolding scanned sound_rows
    both = at (sound_rows room rows) refl (e ∙ ap (λ (k : ℕ). scanned (leb k room) t rows) (sym n))
      where
        at : (b : Bool) → sound_rows room rows ≡ b → Ok s ≡ pick b (Ok (found t rows)) (Err unsound_table) → (b ≡ true) × (s ≡ found t rows)
        at true q g = (refl, cc)
        at false q g = cc

    pub sound : sound_rows room rows ≡ true
    sound = both.0

    pub add-of : (p : Result Put AddRefusal) → p ≡ adding_of s used room → AddWay room t rows p (try_add_row room rows t)
    add-of p g =
        subst (λ (x : Result Put AddRefusal). AddWay room t rows x (try_add_row room rows t))
        (sym (g ∙ ap₂ (λ (x : Scan) (k : ℕ). adding_of x k room) both.1 (sym n))) (add-way room t rows sound)

    pub remove-of : (p : Result Removing RemoveRefusal) → p ≡ removing_of s → RemoveWay room t rows p (try_remove_row room rows t)
    remove-of p g = subst (λ (x : Result Removing RemoveRefusal). RemoveWay room t rows x (try_remove_row room rows t)) (sym (g ∙ ap removing_of both.1)) (remove-way room t rows sound)

    pub remove-as : {r : Removing} (d : Removing) → r ≡ d → Ok r ≡ removing_of s → RemoveWay room t rows (Ok d) (try_remove_row room rows t)
    remove-as d e g = remove-of (Ok d) (ap Ok (sym e) ∙ g)

    -- what planning requires
    pub within : used ≤ room
    within = omega (arith, fits room t rows sound, n)

    pub counted-below : {limit : ℕ} → used < limit → IfSome s.count (λ _. s.below + 1 < limit)
    unfolding count_at
    counted-below {limit} h = subst (λ (x : Scan). IfSome x.count (λ _. x.below + 1 < limit)) (sym both.1) (at (ltb (below t rows) (upto t rows)) refl)
      where
        at : (b : Bool) → ltb (below t rows) (upto t rows) ≡ b → IfSome (pick b (Some (readers_at t rows)) None) (λ _. below t rows + 1 < limit)
        at true q = let l : below t rows < upto t rows = ltb-true (below t rows) (upto t rows) q in omega (arith, upto-within t rows, n)
        at false q = tt

    pub add-said : {p : Put} {m : Try (List Row)} → AddWay room t rows (Ok p) m → go (max used p.to) ≡ sized m
    add-said {p} w = ap (λ (k : ℕ). go (max k p.to)) (sym n) ∙ add-says w

    pub fewer-said : {p : Put} {m : Try (List Row)} → RemoveWay room t rows (Ok (Removing.Fewer p)) m → go used ≡ sized m
    fewer-said w = ap go (sym n) ∙ fewer-says w

    pub gone-said : {b : ℕ} {m : Try (List Row)} → RemoveWay room t rows (Ok (Removing.Gone b)) m → go (used - 1) ≡ sized m
    gone-said w = ap (λ (k : ℕ). go (k - 1)) (sym n) ∙ gone-says w

    pub gone-inside : {b : ℕ} {m : Try (List Row)} → RemoveWay room t rows (Ok (Removing.Gone b)) m → b < used
    gone-inside w = omega (arith, (gone-within w).0, n)

    pub gone-written : {A : Type 0} (g : Row → A) (zs : List A) {b : ℕ} {m : Try (List Row)} → RemoveWay room t rows (Ok (Removing.Gone b)) m
        → (length rows ≤ room → map g rows ≡ take (length rows) zs) → moved_down zs b (b + 1) used ≡ written g m zs
    gone-written g zs {b} w k = ap (λ (i : ℕ). moved_down zs b (b + 1) i) (sym n) ∙ gone-writes g zs w k

    pub timestamps-of : timestamps_says (Ok used) ≡ try_timestamps room rows
    unfolding try_timestamps must ◌>>◌
    timestamps-of = rw (sound, n)

  -- or that they are not
  module _ (u : Unsound) (e : Err u ≡ scanned (leb used room) t rows) where
    pub not-sound : sound_rows room rows ≡ false
    unfolding scanned sound_rows
    not-sound = at (sound_rows room rows) refl (e ∙ ap (λ (k : ℕ). scanned (leb k room) t rows) (sym n))
      where
        at : (b : Bool) → sound_rows room rows ≡ b → Err u ≡ pick b (Ok (found t rows)) (Err unsound_table) → b ≡ false
        at true q g = cc
        at false q g = refl

    pub add-stops-unsound : try_add_row room rows t ≡ stop unsound
    add-stops-unsound = add-unsound room t rows not-sound

    pub remove-stops-unsound : try_remove_row room rows t ≡ stop unsound
    remove-stops-unsound = remove-unsound room t rows not-sound

    pub smallest-stops : try_smallest room rows ≡ stop unsound
    unfolding try_smallest must ◌>>◌
    smallest-stops = rw not-sound

    pub timestamps-stops : try_timestamps room rows ≡ stop unsound
    unfolding try_timestamps must ◌>>◌
    timestamps-stops = rw not-sound

-- ---- what is left where a call is refused
pub left-as-was : {said : Try ℕ} {meant : Try (List Row)} {why : _} (ts cs : List ℕ) → said ≡ stop why → meant ≡ stop why → Left said meant ts cs ts cs
unfolding written
left-as-was {said} {meant} ts cs p q =
    record { reply = p ∙ sym (ap sized q); times = sym (ap (λ m. written (λ r. r.time) m ts) q); counts = sym (ap (λ m. written (λ r. r.count) m cs) q) }

pub rows-as-was : {said : Try ℕ} {meant : Try (List Row)} {why : _} (rs : List Lent.Row) → said ≡ stop why → meant ≡ stop why → LeftRows said meant rs rs
unfolding written
rows-as-was {said} {meant} rs p q = record { reply = p ∙ sym (ap sized q); rows = sym (ap (λ m. written as_lent m rs) q) }

-- ---- the first timestamp
pub first_time : List Row → Option ℕ
first_time [] = None
first_time (r ∷ rs) = Some r.time

pub smallest-is : (room : ℕ) (rows : List Row) (o : Option ℕ) → sound_rows room rows ≡ true → o ≡ first_time rows → smallest_says (Ok o) ≡ try_smallest room rows
unfolding try_smallest must ◌>>◌ first_time
smallest-is room [] o s e = rw (s, e)
smallest-is room (r ∷ rs) o s e = rw (s, e)

-- the first of the timestamps that stand in front
pub first-in : (rows : List Row) (times : List ℕ) → map (λ r. r.time) rows ≡ times → slice_get times 0 ≡ first_time rows
unfolding first_time
first-in [] times e = ap (λ (l : List ℕ). slice_get l 0) (sym e)
first-in (r ∷ rs) times e = ap (λ (l : List ℕ). slice_get l 0) (sym e)

pub first_of : (rows : List Row) (rs : List Lent.Row) → map as_lent rows ≡ rs → option_map (λ r. r.time) (slice_get rs 0) ≡ first_time rows
unfolding first_time
first_of [] rs e = ap (λ (l : List Lent.Row). option_map (λ r. r.time) (slice_get l 0)) (sym e)
first_of (r ∷ more) rs e = ap (λ (l : List Lent.Row). option_map (λ r. r.time) (slice_get l 0)) (sym e)

-- the timestamp of the row that is there
pub timed : (r : Option (Bor Lent.Row)) (o : Option ℕ) → MatchOption r (o ≡ None) (λ x. IsSomeAnd o (λ t. t ≡ x.now.time)) → o ≡ option_map (λ r. r.time) (option_copied r)
timed None o h = h
timed (Some x) None h = absurd h
timed (Some x) (Some t) h = ap Some h

-- ---- the watermark, from the smallest timestamp
module _ (room : ℕ) (rows : List Row) (clock : ℕ) where
  pub mark-stops : smallest_says (Err unsound_table) ≡ try_smallest room rows → stop unsound ≡ try_watermark room rows clock
  unfolding try_smallest try_watermark must ◌>>◌
  mark-stops = at (sound_rows room rows)
    where
      at : (b : Bool) → stop unsound ≡ (must b unsound >> go (elim rows [ [] ↦ maths.none | r ∷ rs ↦ maths.some r.time ])) → stop unsound ≡ (must b unsound >> go (watermark clock rows))
      at true e = cc
      at false e = refl

  pub mark-is : (o : Option ℕ) → smallest_says (Ok o) ≡ try_smallest room rows → go (unwrap_or o clock) ≡ try_watermark room rows clock
  unfolding try_smallest try_watermark must ◌>>◌ watermark
  mark-is = at (sound_rows room rows) rows
    where
      at : (b : Bool) (l : List Row) (o : Option ℕ) → smallest_says (Ok o) ≡ (must b unsound >> go (elim l [ [] ↦ maths.none | r ∷ rs ↦ maths.some r.time ])) → go (unwrap_or o clock) ≡ (must b unsound >> go (watermark clock l))
      at true [] None e = refl
      at true [] (Some t) e = cc
      at true (r ∷ rs) None e = cc
      at true (r ∷ rs) (Some t) e = let h : t ≡ r.time = cc in ap go h
      at false l None e = cc
      at false l (Some t) e = cc
