-- The turns of the loop that puts the images' cursors in their places: the image that lies first is the last in run order.
-- Assumes nothing.
use native.Mathlib.Omega.{arith}
use native.Mathlib.Numerals.{add-one}
use mathlib.Core.Path.{◌≡◌, refl, sym, ap, ap₂, ◌∙◌, subst}
use mathlib.Core.Bool.{true}
use mathlib.Core.List.{List, [], ◌∷◌, map, reverse, reverse_aux, reverse-reverse}
use Prim.Native.Nat.{ℕ, suc, ◌+◌, ◌-◌, ◌≤◌, ◌<◌}
use lib.ListN.{length, take, drop, set, length-set, length-take}
use lib.Seq.{set_split, drop_at, length-take-le, take-set-le}
use borrow.Author.Tests.{eq-eqb}
use Rattle.paper.specs.Lists.{all}
use Rattle.paper.specs.Keys.{Bytes, octets}
use Rattle.paper.specs.Runs.{Run}
use Rattle.paper.specs.Image.{image_of, records_bytes, number_from}
use Rattle.paper.specs.Store.{runs_of, frozen_of}
use Rattle.paper.proofs.Bools.{and_intro}
use Rattle.raw.specs.Bytes.{part}
use Rattle.raw.proofs.Octets.{octets-part}
use Rattle.key.specs.Versions.{versions, packed}
use Rattle.layout.specs.Codec.{many}
use Rattle.layout.specs.Layout.{version_stream, store_in}
use Rattle.merge.specs.Cursors.{lawful, left, in_order}
use Rattle.merge.specs.declared.heap.Cursor.{Cursor}
use Rattle.merge.proofs.CursorLaws.{Lawful, is_lawful}
use Rattle.run.proofs.Images.{Holds, good-holds, holds-part}
use Rattle.area.specs.Spread.{Spread}
use Rattle.area.proofs.ActiveLaws.{put-records}
use Rattle.area.proofs.Lying.{Lying, Foremost, foremost}
use Rattle.area.proofs.Sites.{Sites}

-- cursors over all of these runs, from run k on
pub record Ranked (s : Bytes) (k : ℕ) (rs : List Run) (cs : List Cursor) : Type 0 where
  pub lawfully : all (lawful s) cs ≡ true
  pub order : in_order k cs ≡ true
  pub runs : map (left s) cs ≡ rs

ranked-none : (s : Bytes) (k : ℕ) → Ranked s k [] []
unfolding all in_order
ranked-none s k = record { lawfully = refl; order = refl; runs = refl }

-- one in front
ranked-cons : (s : Bytes) (k : ℕ) (r : Run) (rs : List Run) (c : Cursor) (cs : List Cursor) → Lawful s c → c.run ≡ k → left s c ≡ r → Ranked s (suc k) rs cs → Ranked s k (r ∷ rs) (c ∷ cs)
unfolding all in_order
ranked-cons s k r rs c cs l e f h =
    record {
      lawfully = and_intro (is_lawful s c l) h.lawfully;
      order = and_intro (eq-eqb c.run k e) h.order;
      runs = ap₂ {C = List Run} (λ x xs. x ∷ xs) f h.runs;
    }

-- ---- an image's cursor
module _ (s : Bytes) (o : octets s ≡ true) (i end : ℕ) (y : Run) (ys : List Run) (lie : Lying s i end (y ∷ ys)) (n : ℕ) (e : n ≡ number_from 0 (part s i 8)) where
  f : Foremost s i end y ys
  f = foremost s i end y ys lie

  size : n ≡ length (image_of y)
  size = e ∙ f.size

  holds : Holds (part s (i + 8) (i + 8 + n - (i + 8))) y
  unfolding f
  holds =
      let z : i + 8 + n - (i + 8) ≡ length (image_of y) = omega (arith, size) in
      let x : part s (i + 8) (i + 8 + n - (i + 8)) ≡ image_of y = ap (part s (i + 8)) z ∙ f.here in
      subst (λ (b : Bytes). Holds b y) (sym x) (good-holds (image_of y) y (ap octets (sym f.here) ∙ octets-part s (i + 8) (length (image_of y)) o) lie.good.0.0)

  long : 9 ≤ n
  long =
      let z : i + 8 + n - (i + 8) ≡ n = omega arith in
      omega (arith, holds.long, length-le s (i + 8) (i + 8 + n - (i + 8)))
    where
      length-le : (l : Bytes) (at m : ℕ) → length (part l at m) ≤ m
      length-le l at m = omega (arith, length-take m (drop at l))

  pub image-cursor : (k : ℕ) → k < 17 → Lawful s (record { at = i + 8 + 9; end = i + 8 + n; run = k }) × (versions (part s (i + 8 + 9) (i + 8 + n - (i + 8 + 9))) ≡ y)
  unfolding f
  image-cursor k l =
      let p = holds-part s (i + 8) (i + 8 + n) y holds in
      (record { order = omega (arith, long); inside = omega (arith, f.fits, size, lie.inside); run = l; whole = p.0 }, p.1)

-- ---- the loop
-- so many images are passed: their cursors are those from the last run back, and those of ys are to come
pub record Placing (s : Bytes) (fs : List Run) (first : Cursor) (n i : ℕ) (cs : List Cursor) (passed : ℕ) : Type 0 where
  pub end : ℕ
  pub ys : List Run
  pub done : List Run
  pub lie : Lying s i end ys
  pub both : reverse_aux ys done ≡ fs
  pub rest : passed + length ys ≡ n
  pub long : length cs ≡ 17
  pub front : take 1 cs ≡ first ∷ []
  pub placed : Ranked s (suc (length ys)) done (take passed (drop (suc (length ys)) cs))

-- what is known of the next image, of m bytes
pub record Placed (s : Bytes) (fs : List Run) (first : Cursor) (n i : ℕ) (cs : List Cursor) (passed m : ℕ) : Type 0 where
  pub inside : i + 8 + m ≤ length s
  pub long : 9 ≤ m
  pub next : Placing s fs first n (i + 8 + m) (set cs (n - passed) (record { at = i + 8 + 9; end = i + 8 + m; run = n - passed })) (passed + 1)

-- a cursor put before those from the next place on
set-drop : (cs : List Cursor) (k p : ℕ) (c : Cursor) → k < length cs → take (p + 1) (drop k (set cs k c)) ≡ c ∷ take p (drop (suc k) cs)
set-drop cs k p c h =
    ap (λ (l : List Cursor). take (p + 1) (drop k l)) (set_split cs k c h)
    ∙ ap (take (p + 1)) (drop_at (take k cs) (c ∷ drop (suc k) cs) k (length-take-le k cs (omega arith)))
    ∙ rw add-one refl

module _ (s : Bytes) (o : octets s ≡ true) (fs : List Run) (first : Cursor) (n : ℕ) (few : n ≤ 16) where
  pub place-start : (i end : ℕ) (cs : List Cursor) → Lying s i end (reverse fs) → length (reverse fs) ≡ n → length cs ≡ 17 → take 1 cs ≡ first ∷ [] → Placing s fs first n i cs 0
  place-start i end cs h e l f =
      record { end = end; ys = reverse fs; done = []; lie = h; both = reverse-reverse fs; rest = omega arith; long = l; front = f; placed = ranked-none s (suc (length (reverse fs))) }

  module _ (i : ℕ) (cs : List Cursor) (passed : ℕ) (so : Placing s fs first n i cs passed) where
    pub place-there : passed < n → i + 8 ≤ length s
    place-there l = go so.ys so.lie so.rest
      where
        go : (ys : List Run) → Lying s i so.end ys → passed + length ys ≡ n → i + 8 ≤ length s
        go [] h e = absurd (omega arith)
        go (y ∷ ys) h e = omega (arith, (foremost s i so.end y ys h).fits, h.inside)

    pub place-next : passed < n → (m : ℕ) → m ≡ number_from 0 (part s i 8) → Placed s fs first n i cs passed m
    place-next l m e = go so.ys so.lie so.both so.rest so.placed
      where
        go : (ys : List Run) → Lying s i so.end ys → reverse_aux ys so.done ≡ fs → passed + length ys ≡ n → Ranked s (suc (length ys)) so.done (take passed (drop (suc (length ys)) cs))
            → Placed s fs first n i cs passed m
        go [] h b r p = absurd (omega arith)
        go (y ∷ ys) h b r p =
            let f = foremost s i so.end y ys h in
            let k : n - passed ≡ suc (length ys) = omega arith in
            let w : n - passed < length cs = omega (arith, so.long) in
            let c : Cursor = record { at = i + 8 + 9; end = i + 8 + m; run = n - passed } in
            let v = image-cursor s o i so.end y ys h m e (n - passed) (omega arith) in
            record {
              inside = omega (arith, f.fits, f.size, h.inside);
              long = long s o i so.end y ys h m e;
              next =
                  record {
                    end = so.end;
                    ys = ys;
                    done = y ∷ so.done;
                    lie = subst (λ (j : ℕ). Lying s (i + 8 + j) so.end ys) (sym (e ∙ f.size)) f.behind;
                    both = b;
                    rest = omega arith;
                    long = length-set cs (n - passed) c ∙ so.long;
                    front = take-set-le 1 cs (n - passed) c (omega arith) ∙ so.front;
                    placed =
                        subst (λ (ds : List Cursor). Ranked s (suc (length ys)) (y ∷ so.done) ds)
                        (sym (ap (λ (j : ℕ). take (passed + 1) (drop j (set cs (n - passed) c))) (sym k) ∙ set-drop cs (n - passed) passed c w ∙ ap (λ (j : ℕ). c ∷ take passed (drop (suc j) cs)) k))
                        (ranked-cons s (suc (length ys)) y so.done c (take passed (drop (suc (suc (length ys))) cs)) v.0 k v.1 p);
                  };
            }

    -- all are passed
    pub place-done : n ≤ passed → Ranked s 1 fs (take n (drop 1 cs))
    place-done l = go so.ys so.both so.rest so.placed
      where
        go : (ys : List Run) → reverse_aux ys so.done ≡ fs → passed + length ys ≡ n → Ranked s (suc (length ys)) so.done (take passed (drop (suc (length ys)) cs)) → Ranked s 1 fs (take n (drop 1 cs))
        go [] b r p =
            let e : passed ≡ n = omega arith in
            subst (λ (k : ℕ). Ranked s 1 fs (take k (drop 1 cs))) e (subst (λ (rs : List Run). Ranked s 1 rs (take passed (drop 1 cs))) b p)
        go (y ∷ ys) b r p = absurd (omega arith)

-- the active run's cursor in front
front-take : (first : Cursor) (cs : List Cursor) (n : ℕ) → take 1 cs ≡ first ∷ [] → take (n + 1) cs ≡ first ∷ take n (drop 1 cs)
front-take first [] n e = cc
front-take first (c ∷ cs) n e = let f : c ≡ first = cc in rw add-one (ap {B = List Cursor} (λ x. x ∷ take n cs) f)

module _ (s : Bytes) (active area : ℕ) (there : Sites s active area (store_in s).active (frozen_of (store_in s))) (u : ℕ) (e : u ≡ number_from 0 (part s active 8)) where
  abbrev first : Cursor
  first = record { at = active + 8; end = active + 8 + u; run = 0 }

  pub records-are : part s (active + 8) (active + 8 + u - (active + 8)) ≡ records_bytes (store_in s).active
  records-are =
      let z : active + 8 + u - (active + 8) ≡ length ((many version_stream).form (store_in s).active) = omega (arith, e, there.run.size) in
      ap (part s (active + 8)) z ∙ there.run.bytes ∙ put-records (store_in s).active

  pub used-is : u ≡ length (records_bytes (store_in s).active)
  used-is = e ∙ there.run.size ∙ ap (λ (b : Bytes). length b) (put-records (store_in s).active)

  first-lawful : Lawful s first
  first-lawful =
      record {
        order = omega arith;
        inside = omega (arith, used-is, there.before, there.ends);
        run = omega arith;
        whole = ap packed records-are ∙ there.whole;
      }

  -- with those of the images
  pub spread : (n : ℕ) (cs : List Cursor) → n ≤ 16 → take 1 cs ≡ first ∷ [] → Ranked s 1 (frozen_of (store_in s)) (take n (drop 1 cs)) → Spread s (record { cursors = cs; count = n + 1 })
  spread n cs few f h =
      let r : Ranked s 0 (runs_of (store_in s)) (take (n + 1) cs) =
      subst (Ranked s 0 (runs_of (store_in s))) (sym (front-take first cs n f))
      (ranked-cons s 0 (store_in s).active (frozen_of (store_in s)) first (take n (drop 1 cs)) first-lawful refl (ap versions records-are ∙ there.read) h) in
      record { few = omega arith; lawfully = r.lawfully; order = r.order; runs = r.runs }
