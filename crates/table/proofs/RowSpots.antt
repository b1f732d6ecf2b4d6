-- What the spot of a timestamp in a region says of the check, and of the writes that add or remove a reader there.
-- Assumes nothing.
use Prim.Native.Nat.{ℕ, suc, ◌+◌, ◌*◌, ◌/◌, ◌-◌, ◌^◌, ◌<◌, ◌≤◌}
use native.Mathlib.Omega.{arith}
use mathlib.Core.Path.{◌≡◌, refl, sym, ap, ap₂, ◌∙◌, subst}
use mathlib.Core.Bool.{Bool, true, false}
use mathlib.Core.List.{List, ◌∷◌, ◌++◌}
use lib.ListN.{length, take, drop, set, length-append, length-drop, length-set}
use lib.Seq.{length-take-le}
use lib.Dec.{leb, ltb}
use borrow.Author.Tests.{le-leb, lt-leb, leb-true, ltb-true, le-ltb, lt-ltb}
use Rattle.paper.specs.Keys.{Bytes, octets}
use Rattle.paper.specs.Readers.{Row, row, readers_at, add_reader, remove_reader}
use Rattle.paper.specs.Settings.{most_number}
use Rattle.paper.specs.Image.{big_endian, number_from}
use Rattle.raw.specs.Bytes.{part, over}
use Rattle.layout.proofs.LayoutLaws.{OkRow}
use Rattle.layout.proofs.Inside.{all-at}
use Rattle.table.specs.Rows.{rows_in, lay_rows, Rowed, Holds, room_in, spot_of, judged, checked}
use Rattle.std.specs.Prelude.{Ok, Err}
use Rattle.table.specs.declared.Spot.{Spot}
use Rattle.table.specs.declared.Gap.{Gap}
use Rattle.table.specs.declared.RowRefusal.TheVariants.{Full, Most}
use Rattle.table.proofs.RowLaws.{blank, count_at, Hit, Miss, spotted}
use Rattle.table.proofs.RowBytes.{Region, region, region-long, used-at, counted, lay-none}

module _ (b : Bytes) (y : octets b ≡ true) (W : Rowed b) where
  pub ground : Region b
  ground = region b y W.reads

  -- the number of used bytes, and the rows
  pub used-of : number_from 0 (part b 0 8) ≡ 16 * length (rows_in b)
  used-of = used-at b ground

  pub holds : Holds b (length (rows_in b))
  holds = record { reads = W.reads; many = refl; fits = region-long b ground }

  -- ---- the timestamp has a row
  module _ (t : ℕ) (s : Spot) (e : Ok s ≡ spot_of t (rows_in b)) where
    facts : (s.n ≡ length (rows_in b)) × (s.count ≡ readers_at t (rows_in b)) × Hit (rows_in b) t s.k
    facts = spotted t (rows_in b) W.rise (Ok s) e

    hit : Hit (rows_in b) t s.k
    hit = facts.2

    count-is : s.count ≡ count_at (rows_in b) s.k
    count-is = facts.1 ∙ hit.readers

    pub here-within : 24 + 16 * s.k ≤ length b
    here-within = omega (arith, region-long b ground, hit.inside)

    pub here-holds : Holds b s.n × (s.k < s.n)
    here-holds = (subst (Holds b) (sym facts.0) holds, omega (arith, facts.0, hit.inside))

    pub here-check : checked b t ≡ judged true (ltb s.count most_number)
    unfolding checked
    here-check =
        let a : length (add_reader t (rows_in b)) ≡ length (rows_in b) = ap (λ (u : List Row). length u) hit.added ∙ length-set (rows_in b) s.k (row t (count_at (rows_in b) s.k + 1)) in
        let l : length (add_reader t (rows_in b)) ≤ (length b - 8) / 16 = omega (arith, region-long b ground) in
        simp (le-leb (length (add_reader t (rows_in b))) ((length b - 8) / 16) l) (ap (λ (m : ℕ). judged true (ltb m most_number)) (sym facts.1))

    pub here-fits : s.count < 256 ^ 8
    here-fits = subst (λ (m : ℕ). m < 256 ^ 8) (sym count-is) (all-at OkRow (rows_in b) ground.fits s.k blank hit.inside).1

    pub here-most : s.count ≡ most_number → Err Most ≡ checked b t
    here-most h = sym (here-check ∙ ap (judged true) (le-ltb s.count most_number (omega (arith, h))))

    pub here-fine : (s.count ≡ most_number → ⊥) → Ok tt ≡ checked b t
    here-fine h = sym (here-check ∙ ap (judged true) (lt-ltb s.count most_number (omega (arith, h, here-fits))))

    pub here-more : checked b t ≡ Ok tt → s.count < most_number
    here-more h = go (ltb s.count most_number) refl (sym here-check ∙ h)
      where
        go : (p : Bool) → ltb s.count most_number ≡ p → judged true p ≡ Ok tt → s.count < most_number
        go true p q = ltb-true s.count most_number p
        go false p q = absurd (let z : ◌≡◌ {A = ℕ} 0 1 = cc in omega arith)

    counts : (m : ℕ) → over b (16 + 16 * s.k) (big_endian 8 m) ≡ lay_rows (set (rows_in b) s.k (row t m)) b
    counts m = counted b ground s.k hit.inside m ∙ ap (λ (u : ℕ). lay_rows (set (rows_in b) s.k (row u m)) b) hit.time

    pub here-add : over b (16 + 16 * s.k) (big_endian 8 (s.count + 1)) ≡ lay_rows (add_reader t (rows_in b)) b
    here-add =
        ap (λ (m : ℕ). over b (16 + 16 * s.k) (big_endian 8 (m + 1))) count-is ∙ counts (count_at (rows_in b) s.k + 1)
        ∙ ap (λ (u : List Row). lay_rows u b) (sym hit.added)

    pub here-last : s.count ≤ 1 → lay_rows (take s.k (rows_in b) ++ drop (suc s.k) (rows_in b)) b ≡ lay_rows (remove_reader t (rows_in b)) b
    here-last h = ap (λ (u : List Row). lay_rows u b) (sym (hit.last (omega (arith, count-is))))

    pub here-less : 1 < s.count → over b (16 + 16 * s.k) (big_endian 8 (s.count - 1)) ≡ lay_rows (remove_reader t (rows_in b)) b
    here-less h =
        ap (λ (m : ℕ). over b (16 + 16 * s.k) (big_endian 8 (m - 1))) count-is ∙ counts (count_at (rows_in b) s.k - 1)
        ∙ ap (λ (u : List Row). lay_rows u b) (sym (hit.less (omega (arith, count-is))))

  -- ---- no row has the timestamp
  module _ (t : ℕ) (g : Gap) (e : Err g ≡ spot_of t (rows_in b)) where
    told : (g.n ≡ length (rows_in b)) × Miss (rows_in b) t g.k
    told = spotted t (rows_in b) W.rise (Err g) e

    miss : Miss (rows_in b) t g.k
    miss = told.1

    pub gap-holds : Holds b g.n × (g.k ≤ g.n)
    gap-holds = (subst (Holds b) (sym told.0) holds, omega (arith, told.0, miss.within))

    pub gap-check : checked b t ≡ judged (leb (suc g.n) (room_in b)) true
    unfolding checked
    gap-check =
        let a : length (add_reader t (rows_in b)) ≡ suc g.n =
        ap (λ (u : List Row). length u) miss.added ∙ length-append (take g.k (rows_in b)) (row t 1 ∷ drop g.k (rows_in b))
        ∙ ap₂ (λ (u v : ℕ). u + suc v) (length-take-le g.k (rows_in b) miss.within) (length-drop g.k (rows_in b)) ∙ omega (arith, miss.within, told.0) in
        rw (a, miss.readers)

    pub gap-full : length b < 24 + 16 * g.n → Err Full ≡ checked b t
    gap-full h = sym (gap-check ∙ ap (λ (p : Bool). judged p true) (lt-leb (suc g.n) ((length b - 8) / 16) (omega (arith, gap-holds.0.fits))))

    pub gap-fine : 24 + 16 * g.n ≤ length b → Ok tt ≡ checked b t
    gap-fine h = sym (gap-check ∙ ap (λ (p : Bool). judged p true) (le-leb (suc g.n) ((length b - 8) / 16) (omega arith)))

    pub gap-room : checked b t ≡ Ok tt → 24 + 16 * g.n ≤ length b
    gap-room h = go (leb (suc g.n) (room_in b)) refl (sym gap-check ∙ h)
      where
        go : (p : Bool) → leb (suc g.n) (room_in b) ≡ p → judged p true ≡ Ok tt → 24 + 16 * g.n ≤ length b
        go true p q = omega (arith, leb-true (suc g.n) ((length b - 8) / 16) p)
        go false p q = absurd (let z : ◌≡◌ {A = ℕ} 0 1 = cc in omega arith)

    pub gap-add : lay_rows (take g.k (rows_in b) ++ (row t 1 ∷ drop g.k (rows_in b))) b ≡ lay_rows (add_reader t (rows_in b)) b
    gap-add = ap (λ (u : List Row). lay_rows u b) (sym miss.added)

    pub gap-remove : b ≡ lay_rows (remove_reader t (rows_in b)) b
    gap-remove = sym (lay-none b ground) ∙ ap (λ (u : List Row). lay_rows u b) (sym miss.removed)
