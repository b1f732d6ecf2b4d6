-- The reader rows in their region: what the code reads there, and what its writes make of the rows.
-- Assumes nothing.
use Prim.Native.Nat.{ℕ, suc, ◌+◌, ◌*◌, ◌-◌, ◌^◌, ◌<◌, ◌≤◌}
use native.Mathlib.Omega.{arith}
use mathlib.Core.Path.{◌≡◌, refl, sym, ap, ap₂, ◌∙◌}
use mathlib.Core.Bool.{true, cond}
use mathlib.Core.List.{List, [], ◌∷◌, ◌++◌, append_assoc, append-nil}
use mathlib.Core.Option.{Option, none, some}
use lib.ListN.{length, take, drop, get_or, set, length-append, length-drop, length-set, take-append-drop}
use lib.Seq.{length-take-le, take_at, drop_at, set_split, split_at, drop-append-add}
use lib.Dec.{ltb, lit<}
use Rattle.paper.specs.Keys.{Bytes, octets}
use Rattle.paper.specs.Lists.{is_some, join}
use Rattle.paper.specs.Readers.{Row, row}
use Rattle.paper.specs.Image.{big_endian, number_from}
use Rattle.paper.proofs.ImageLaws.{length-big_endian}
use Rattle.raw.specs.Bytes.{part, over}
use Rattle.raw.proofs.Parts.{part-all}
use Rattle.raw.proofs.Over.{over-after, length_over}
use Rattle.raw.proofs.Pieces.{start, lay-in, lay-whole, lay-front, part_in}
use Rattle.layout.specs.Codec.{num, both, via, sized, many, put_all, room, first_of}
use Rattle.layout.specs.Layout.{listed, row_stream}
use Rattle.layout.proofs.Streams.{Got, StreamLaws, All, sized-laws, many-laws}
use Rattle.layout.proofs.LayoutLaws.{OkRow, row_laws, Listed}
use Rattle.layout.proofs.Places.{number_of}
use Rattle.layout.proofs.Inside.{all-at}
use Rattle.layout.proofs.Sizes.{put-append, rows-form, rows_long}
use Rattle.table.specs.Rows.{region_slot, read_in, or_empty, rows_in, lay_rows, rows_before}
use Rattle.table.proofs.RowLaws.{blank, time_at, count_at}
use Rattle.table.proofs.Seats.{seats, seats-more, tag_of}
use Rattle.std.specs.List.{prefix_len}

-- ---- the bytes of rows
abbrev pub pack : List Row → Bytes
pack rs = put_all row_stream rs

row_put : (r : Row) → row_stream.put r ≡ big_endian 8 r.time ++ big_endian 8 r.count
unfolding row_stream via both num
row_put r = refl

pub pack-long : (rs : List Row) → length (pack rs) ≡ 16 * length rs
unfolding many
pack-long rs = rows-form rs

pack-append : (xs ys : List Row) → pack (xs ++ ys) ≡ pack xs ++ pack ys
pack-append = put-append row_stream

pack-cons : (x : Row) (xs : List Row) → pack (x ∷ xs) ≡ (big_endian 8 x.time ++ big_endian 8 x.count) ++ pack xs
unfolding put_all
pack-cons x xs = ap (λ (u : Bytes). u ++ put_all row_stream xs) (row_put x)

-- the number of their bytes in front
pub put-rows : (rs : List Row) → (listed row_stream).put rs ≡ big_endian 8 (16 * length rs) ++ pack rs
unfolding sized many
put-rows rs = ap (λ (n : ℕ). big_endian 8 n ++ pack rs) (pack-long rs)

-- what rows a region can hold
abbrev pub RowsFit : List Row → Type 0
RowsFit = Listed row_stream OkRow

pub rows-laws : StreamLaws (listed row_stream) RowsFit
rows-laws = sized-laws 8 (lit< tt) (many-laws row_laws)

-- ---- what a region holds
pub record Region (b : Bytes) : Type 0 where
  pub rest : Bytes
  pub lies : b ≡ big_endian 8 (16 * length (rows_in b)) ++ (pack (rows_in b) ++ rest)
  pub fits : All OkRow (rows_in b)
  pub small : 16 * length (rows_in b) < 256 ^ 8
  pub reads : read_in b ≡ some (rows_in b)

pub region : (b : Bytes) → octets b ≡ true → is_some (read_in b) ≡ true → Region b
unfolding rows_in read_in region_slot room
region b y h = go ((listed row_stream).get b) refl h (rows-laws.again b y)
  where
    go : (o : Option (List Row × Bytes)) → (listed row_stream).get b ≡ o → is_some (first_of o) ≡ true → Got (listed row_stream).put RowsFit b o → Region b
    go none e i g = absurd (let z : ◌≡◌ {A = ℕ} 0 1 = cc in omega arith)
    go (some p) e i g =
        let f : rows_in b ≡ p.0 = ap (λ (o : Option (List Row × Bytes)). or_empty (first_of o)) e in
        let l : b ≡ big_endian 8 (16 * length p.0) ++ (pack p.0 ++ p.1) =
        g.0 ∙ ap (λ (u : Bytes). u ++ p.1) (put-rows p.0) ∙ append_assoc (big_endian 8 (16 * length p.0)) (pack p.0) p.1 in
        let s : 16 * length p.0 < 256 ^ 8 = omega (arith, g.1.1, rows-form p.0) in
        record {
          rest = p.1;
          lies = rw f l;
          fits = rw f g.1.0;
          small = rw f s;
          reads = ap first_of e ∙ ap some (sym f);
        }

flat₃ : (h a d : Bytes) → join (h ∷ a ∷ d ∷ []) ≡ h ++ (a ++ d)
unfolding join
flat₃ h a d = simp append-nil

flat₄ : (h a d r : Bytes) → join (h ∷ a ∷ d ∷ r ∷ []) ≡ join (h ∷ a ∷ (d ++ r) ∷ [])
unfolding join
flat₄ h a d r = simp append-nil

flat₅ : (h a x d r : Bytes) → join (h ∷ a ∷ x ∷ d ∷ r ∷ []) ≡ h ++ ((a ++ (x ++ d)) ++ r)
unfolding join
flat₅ h a x d r = simp (append_assoc, append-nil)

flat₅' : (h a f d r : Bytes) → join (h ∷ a ∷ f ∷ d ∷ r ∷ []) ≡ join (h ∷ a ∷ (f ++ (d ++ r)) ∷ [])
unfolding join
flat₅' h a f d r = simp append-nil

flat₆ : (h a t c d r : Bytes) → join (h ∷ a ∷ t ∷ c ∷ d ∷ r ∷ []) ≡ h ++ ((a ++ (t ++ (c ++ d))) ++ r)
unfolding join
flat₆ h a t c d r = simp (append_assoc, append-nil)

flat₆' : (h a t c d r : Bytes) → join (h ∷ a ∷ t ∷ c ∷ d ∷ r ∷ []) ≡ join (h ∷ a ∷ ((t ++ c) ++ (d ++ r)) ∷ [])
unfolding join
flat₆' h a t c d r = simp (append_assoc, append-nil)

-- bytes moved up over what follows them
shifted : (d r : Bytes) (k : ℕ) → over (d ++ r) k d ≡ take k (d ++ r) ++ (d ++ drop k r)
unfolding over
shifted d r k =
    let e : k + length d ≡ length d + k = omega arith in
    ap (λ (u : Bytes). take k (d ++ r) ++ (d ++ u)) (ap (λ (j : ℕ). drop j (d ++ r)) e ∙ drop-append-add d r k)

-- ---- how the code writes
-- a row with one reader put in at place k of n
abbrev pub inserted : Bytes → ℕ → ℕ → ℕ → Bytes
inserted b k n t =
    over (over (over (over b (24 + 16 * k) (part b (8 + 16 * k) (16 * n - 16 * k))) (8 + 16 * k) (big_endian 8 t)) (16 + 16 * k) (big_endian 8 1)) 0 (big_endian 8 (16 * n + 16))

-- the row at place k of n taken away
abbrev pub dropped : Bytes → ℕ → ℕ → Bytes
dropped b k n = over (over b (8 + 16 * k) (part b (24 + 16 * k) (16 * n - 16 * k - 16))) 0 (big_endian 8 (16 * n - 16))

-- ---- what the code reads and writes in a region
module _ (b : Bytes) (R : Region b) where
  head : Bytes
  head = big_endian 8 (16 * length (rows_in b))

  head-long : length head ≡ 8
  unfolding head
  head-long = length-big_endian 8 (16 * length (rows_in b))

  pub region-long : 8 + 16 * length (rows_in b) ≤ length b
  region-long =
      let e = ap length R.lies in
      omega (arith, simp (length-append, length-big_endian, pack-long) at e)

  pub used-at : number_from 0 (part b 0 8) ≡ 16 * length (rows_in b)
  used-at =
      ap (λ (u : Bytes). number_from 0 (take 8 u)) R.lies
      ∙ ap (number_from 0) (take_at (big_endian 8 (16 * length (rows_in b))) (pack (rows_in b) ++ R.rest) 8 (length-big_endian 8 (16 * length (rows_in b))))
      ∙ number_of (16 * length (rows_in b)) R.small

  -- the rows written anew
  lay-form : (new : List Row) → lay_rows new b ≡ big_endian 8 (16 * length new) ++ (pack new ++ drop (16 * length new) (pack (rows_in b) ++ R.rest))
  unfolding lay_rows region_slot room
  lay-form new =
      let x : Bytes = big_endian 8 (16 * length new) in
      let h : length (big_endian 8 (16 * length (rows_in b))) ≡ 8 = length-big_endian 8 (16 * length (rows_in b)) in
      let d : drop (length ((listed row_stream).put new)) b ≡ drop (16 * length new) (pack (rows_in b) ++ R.rest) =
      ap (λ (j : ℕ). drop j b) (rows_long new)
      ∙ ap₂ (λ (u : Bytes) (j : ℕ). drop (j + 16 * length new) u) R.lies (sym h)
      ∙ drop-append-add (big_endian 8 (16 * length (rows_in b))) (pack (rows_in b) ++ R.rest) (16 * length new) in
      ap₂ (λ (u v : Bytes). u ++ v) (put-rows new) d ∙ append_assoc x (pack new) (drop (16 * length new) (pack (rows_in b) ++ R.rest))

  lay-same : (new : List Row) → length new ≡ length (rows_in b) → lay_rows new b ≡ big_endian 8 (16 * length (rows_in b)) ++ (pack new ++ R.rest)
  lay-same new m =
      lay-form new
      ∙ ap (λ (j : ℕ). big_endian 8 (16 * j) ++ (pack new ++ drop (16 * j) (pack (rows_in b) ++ R.rest))) m
      ∙ ap (λ (u : Bytes). big_endian 8 (16 * length (rows_in b)) ++ (pack new ++ u)) (drop_at (pack (rows_in b)) R.rest (16 * length (rows_in b)) (pack-long (rows_in b)))

  -- the same rows
  pub lay-none : lay_rows (rows_in b) b ≡ b
  lay-none = lay-same (rows_in b) refl ∙ sym R.lies

  -- ---- at a row
  module _ (k : ℕ) (l : k < length (rows_in b)) where
    low : Bytes
    low = pack (take k (rows_in b))

    high : Bytes
    high = pack (drop (suc k) (rows_in b))

    low-long : length low ≡ 16 * k
    unfolding low
    low-long = pack-long (take k (rows_in b)) ∙ ap (λ (j : ℕ). 16 * j) (length-take-le k (rows_in b) (omega arith))

    high-long : length high ≡ 16 * length (rows_in b) - 16 * k - 16
    unfolding high
    high-long = pack-long (drop (suc k) (rows_in b)) ∙ ap (λ (j : ℕ). 16 * j) (length-drop (suc k) (rows_in b)) ∙ omega arith

    row-split : (x : Row) → pack (take k (rows_in b) ++ (x ∷ drop (suc k) (rows_in b))) ≡ low ++ (big_endian 8 x.time ++ (big_endian 8 x.count ++ high))
    unfolding low high
    row-split x =
        pack-append (take k (rows_in b)) (x ∷ drop (suc k) (rows_in b))
        ∙ ap (λ (u : Bytes). pack (take k (rows_in b)) ++ u) (pack-cons x (drop (suc k) (rows_in b)) ∙ append_assoc (big_endian 8 x.time) (big_endian 8 x.count) (pack (drop (suc k) (rows_in b))))

    abbrev row_pieces : ℕ → ℕ → List Bytes
    row_pieces t c = head ∷ low ∷ big_endian 8 t ∷ big_endian 8 c ∷ high ∷ R.rest ∷ []

    row-pieces : b ≡ join (row_pieces (time_at (rows_in b) k) (count_at (rows_in b) k))
    unfolding head
    row-pieces =
        let x : Row = get_or (rows_in b) k blank in
        R.lies
        ∙ ap (λ (u : Bytes). head ++ (u ++ R.rest)) (ap (λ (u : List Row). pack u) (split_at (rows_in b) k blank l) ∙ row-split x)
        ∙ sym (flat₆ head low (big_endian 8 x.time) (big_endian 8 x.count) high R.rest)

    pub time-at : number_from 0 (part b (8 + 16 * k) 8) ≡ time_at (rows_in b) k
    time-at =
        let t : ℕ = time_at (rows_in b) k in
        let c : ℕ = count_at (rows_in b) k in
        let w : length (big_endian 8 t) ≡ 8 = length-big_endian 8 t in
        let a : 8 + 16 * k ≡ start (row_pieces t c) 2 + 0 = omega (arith, head-long, low-long) in
        ap₂ (λ (u : Bytes) (j : ℕ). number_from 0 (part u j 8)) row-pieces a
        ∙ ap (number_from 0) (part_in (row_pieces t c) 2 0 8 (lit< tt) (omega arith) ∙ part-all (big_endian 8 t) 8 w)
        ∙ number_of t (all-at OkRow (rows_in b) R.fits k blank l).0

    pub count_at_lem : number_from 0 (part b (16 + 16 * k) 8) ≡ count_at (rows_in b) k
    count_at_lem =
        let t : ℕ = time_at (rows_in b) k in
        let c : ℕ = count_at (rows_in b) k in
        let w : length (big_endian 8 c) ≡ 8 = length-big_endian 8 c in
        let a : 16 + 16 * k ≡ start (row_pieces t c) 3 + 0 = omega (arith, head-long, low-long, length-big_endian 8 t) in
        ap₂ (λ (u : Bytes) (j : ℕ). number_from 0 (part u j 8)) row-pieces a
        ∙ ap (number_from 0) (part_in (row_pieces t c) 3 0 8 (lit< tt) (omega arith) ∙ part-all (big_endian 8 c) 8 w)
        ∙ number_of c (all-at OkRow (rows_in b) R.fits k blank l).1

    -- the count put anew
    pub counted : (c : ℕ) → over b (16 + 16 * k) (big_endian 8 c) ≡ lay_rows (set (rows_in b) k (row (time_at (rows_in b) k) c)) b
    unfolding head
    counted c =
        let t : ℕ = time_at (rows_in b) k in
        let d : ℕ = count_at (rows_in b) k in
        let a : 16 + 16 * k ≡ start (row_pieces t d) 3 = omega (arith, head-long, low-long, length-big_endian 8 t) in
        let x : Row = row t c in
        ap (λ (u : Bytes). over u (16 + 16 * k) (big_endian 8 c)) row-pieces
        ∙ lay-whole (row_pieces t d) 3 (16 + 16 * k) (big_endian 8 c) (lit< tt) (length-big_endian 8 c ∙ sym (length-big_endian 8 d)) a
        ∙ flat₆ head low (big_endian 8 t) (big_endian 8 c) high R.rest
        ∙ ap (λ (u : Bytes). head ++ (u ++ R.rest)) (sym (row-split x) ∙ ap (λ (u : List Row). pack u) (sym (set_split (rows_in b) k x l)))
        ∙ sym (lay-same (set (rows_in b) k x) (length-set (rows_in b) k x))

    -- the row taken away
    pub gone : dropped b k (length (rows_in b)) ≡ lay_rows (take k (rows_in b) ++ drop (suc k) (rows_in b)) b
    gone =
        let n : ℕ = length (rows_in b) in
        let t : Bytes = big_endian 8 (time_at (rows_in b) k) in
        let c : Bytes = big_endian 8 (count_at (rows_in b) k) in
        let tl : length t ≡ 8 = length-big_endian 8 (time_at (rows_in b) k) in
        let cl : length c ≡ 8 = length-big_endian 8 (count_at (rows_in b) k) in
        let X : Bytes = t ++ c in
        let xl : length X ≡ 16 = length-append t c ∙ omega arith in
        let bl : length high ≡ 16 * n - 16 * k - 16 = high-long in
        let al = low-long in
        let hl = head-long in
        let Y : Bytes = X ++ (high ++ R.rest) in
        let e : b ≡ join (head ∷ low ∷ Y ∷ []) = row-pieces ∙ flat₆' head low t c high R.rest in
        let m : ℕ = 16 * n - 16 * k - 16 in
        let i : 24 + 16 * k ≡ start (row_pieces (time_at (rows_in b) k) (count_at (rows_in b) k)) 4 + 0 = omega arith in
        let p : part b (24 + 16 * k) m ≡ high =
        ap₂ (λ (u : Bytes) (j : ℕ). part u j m) row-pieces i
        ∙ part_in (row_pieces (time_at (rows_in b) k) (count_at (rows_in b) k)) 4 0 m (lit< tt) (omega arith)
        ∙ part-all high m bl in
        let new : List Row = take k (rows_in b) ++ drop (suc k) (rows_in b) in
        let yl : length Y ≡ 16 + (length high + length R.rest) = length-append X (high ++ R.rest) ∙ ap₂ (λ (u v : ℕ). u + v) xl (length-append high R.rest) in
        let Z : Bytes = big_endian 8 (16 * n - 16) in
        let zl : length Z ≡ 8 = length-big_endian 8 (16 * n - 16) in
        let e₁ = lay-front (head ∷ low ∷ Y ∷ []) 2 (8 + 16 * k) high (lit< tt) (omega arith) (omega arith) in
        let e₂ = lay-whole (head ∷ low ∷ (high ++ drop (length high) Y) ∷ []) 0 0 Z (lit< tt) (zl ∙ sym hl) refl in
        let nl : length new ≡ n - 1 = length-append (take k (rows_in b)) (drop (suc k) (rows_in b)) ∙ ap₂ (λ (u v : ℕ). u + v) (length-take-le k (rows_in b) (omega arith)) (length-drop (suc k) (rows_in b)) ∙ omega arith in
        let q : 16 * length new ≡ length low + length high = omega arith in
        let z : 16 * length new ≡ 16 * n - 16 = omega arith in
        let s : pack (rows_in b) ++ R.rest ≡ low ++ Y =
        ap (λ (u : Bytes). u ++ R.rest) (ap (λ (u : List Row). pack u) (split_at (rows_in b) k blank l) ∙ row-split (get_or (rows_in b) k blank)) ∙ simp append_assoc in
        let d : drop (16 * length new) (pack (rows_in b) ++ R.rest) ≡ drop (length high) Y = ap₂ (λ (j : ℕ) (u : Bytes). drop j u) q s ∙ drop-append-add low Y (length high) in
        let v : pack new ≡ low ++ high = unfold low high in (pack-append (take k (rows_in b)) (drop (suc k) (rows_in b))) in
        ap (λ (u : Bytes). over (over b (8 + 16 * k) u) 0 Z) p
        ∙ ap (λ (u : Bytes). over (over u (8 + 16 * k) high) 0 Z) e
        ∙ ap (λ (u : Bytes). over u 0 Z) e₁
        ∙ e₂
        ∙ flat₃ Z low (high ++ drop (length high) Y)
        ∙ ap₂ (λ (u w : Bytes). u ++ (low ++ (high ++ w))) (ap (big_endian 8) (sym z)) (sym d)
        ∙ ap (λ (u : Bytes). big_endian 8 (16 * length new) ++ u) (sym (append_assoc low high (drop (16 * length new) (pack (rows_in b) ++ R.rest))) ∙ ap (λ (u : Bytes). u ++ drop (16 * length new) (pack (rows_in b) ++ R.rest)) (sym v))
        ∙ sym (lay-form new)

  -- ---- a row put in
  pub come : (k t : ℕ) → k ≤ length (rows_in b) → 24 + 16 * length (rows_in b) ≤ length b
      → inserted b k (length (rows_in b)) t ≡ lay_rows (take k (rows_in b) ++ (row t 1 ∷ drop k (rows_in b))) b
  unfolding head
  come k t l room =
      let n : ℕ = length (rows_in b) in
      let A : Bytes = pack (take k (rows_in b)) in
      let D : Bytes = pack (drop k (rows_in b)) in
      let r : Bytes = R.rest in
      let m : ℕ = 16 * n - 16 * k in
      let hl : length head ≡ 8 = length-big_endian 8 (16 * length (rows_in b)) in
      let al : length A ≡ 16 * k = pack-long (take k (rows_in b)) ∙ ap (λ (j : ℕ). 16 * j) (length-take-le k (rows_in b) l) in
      let dl : length D ≡ m = pack-long (drop k (rows_in b)) ∙ ap (λ (j : ℕ). 16 * j) (length-drop k (rows_in b)) ∙ omega arith in
      let s : pack (rows_in b) ≡ A ++ D = ap (λ (u : List Row). pack u) (sym (take-append-drop k (rows_in b))) ∙ pack-append (take k (rows_in b)) (drop k (rows_in b)) in
      let rl : length b ≡ 8 + (16 * n + length r) = ap length R.lies ∙ length-append head (pack (rows_in b) ++ r) ∙ ap₂ (λ (u v : ℕ). u + v) hl (length-append (pack (rows_in b)) r ∙ ap (λ (u : ℕ). u + length r) (pack-long (rows_in b))) in
      let e : b ≡ join (head ∷ A ∷ D ∷ r ∷ []) = R.lies ∙ ap (λ (u : Bytes). head ++ (u ++ r)) s ∙ unfold join in (simp (append_assoc, append-nil)) in
      let p : part b (8 + 16 * k) m ≡ D =
      ap₂ (λ (u : Bytes) (j : ℕ). part u j m) e (let j : 8 + 16 * k ≡ start (head ∷ A ∷ D ∷ r ∷ []) 2 + 0 = omega arith in j)
      ∙ part_in (head ∷ A ∷ D ∷ r ∷ []) 2 0 m (lit< tt) (omega arith) ∙ part-all D m dl in
      let Y : Bytes = D ++ r in
      let F : Bytes = take 16 Y in
      let T : Bytes = big_endian 8 t in
      let O : Bytes = big_endian 8 1 in
      let Z : Bytes = big_endian 8 (16 * n + 16) in
      let tl : length T ≡ 8 = length-big_endian 8 t in
      let tol : length (T ++ O) ≡ 16 = length-append T O ∙ ap₂ (λ (u v : ℕ). u + v) tl (length-big_endian 8 1) in
      let zl : length Z ≡ 8 = length-big_endian 8 (16 * n + 16) in
      let yl : length Y ≡ length D + length r = length-append D r in
      let fl : length F ≡ 16 = length-take-le 16 Y (omega arith) in
      let o : over Y 16 D ≡ F ++ (D ++ drop 16 r) = shifted D r 16 in
      let e₁ : over b (24 + 16 * k) D ≡ join (head ∷ A ∷ F ∷ D ∷ drop 16 r ∷ []) =
      ap₂ (λ (u : Bytes) (j : ℕ). over u j D) (e ∙ flat₄ head A D r) (let j : 24 + 16 * k ≡ start (head ∷ A ∷ Y ∷ []) 2 + 16 = omega arith in j)
      ∙ lay-in (head ∷ A ∷ Y ∷ []) 2 16 D (lit< tt) (omega arith)
      ∙ ap (λ (u : Bytes). join (head ∷ A ∷ u ∷ [])) o
      ∙ sym (flat₅' head A F D (drop 16 r)) in
      let b₁ : Bytes = over b (24 + 16 * k) D in
      let bl : length b₁ ≡ length b = length_over b (24 + 16 * k) D (omega arith) in
      let e₂ : over (over b₁ (8 + 16 * k) T) (16 + 16 * k) O ≡ over b₁ (8 + 16 * k) (T ++ O) = over-after b₁ (8 + 16 * k) T (omega arith) (16 + 16 * k) O (omega arith) in
      let e₃ = lay-whole (head ∷ A ∷ F ∷ D ∷ drop 16 r ∷ []) 2 (8 + 16 * k) (T ++ O) (lit< tt) (tol ∙ sym fl) (omega arith) in
      let e₄ = lay-whole (head ∷ A ∷ (T ++ O) ∷ D ∷ drop 16 r ∷ []) 0 0 Z (lit< tt) (zl ∙ sym hl) refl in
      let new : List Row = take k (rows_in b) ++ (row t 1 ∷ drop k (rows_in b)) in
      let nl : length new ≡ n + 1 = length-append (take k (rows_in b)) (row t 1 ∷ drop k (rows_in b)) ∙ ap₂ (λ (u v : ℕ). u + suc v) (length-take-le k (rows_in b) l) (length-drop k (rows_in b)) ∙ omega arith in
      let z : 16 * length new ≡ 16 * n + 16 = omega arith in
      let d : drop (16 * length new) (pack (rows_in b) ++ r) ≡ drop 16 r =
      ap (λ (j : ℕ). drop j (pack (rows_in b) ++ r)) (let j : 16 * length new ≡ length (pack (rows_in b)) + 16 = omega (arith, pack-long (rows_in b)) in j) ∙ drop-append-add (pack (rows_in b)) r 16 in
      let v : pack new ≡ A ++ ((T ++ O) ++ D) =
      pack-append (take k (rows_in b)) (row t 1 ∷ drop k (rows_in b)) ∙ ap (λ (u : Bytes). A ++ u) (pack-cons (row t 1) (drop k (rows_in b))) in
      ap (λ (u : Bytes). over (over (over (over b (24 + 16 * k) u) (8 + 16 * k) T) (16 + 16 * k) O) 0 Z) p
      ∙ ap (λ (u : Bytes). over u 0 Z) (e₂ ∙ ap (λ (u : Bytes). over u (8 + 16 * k) (T ++ O)) e₁ ∙ e₃)
      ∙ e₄
      ∙ flat₅ Z A (T ++ O) D (drop 16 r)
      ∙ ap₂ (λ (u w : Bytes). Z ++ (u ++ w)) (sym v) (sym d)
      ∙ ap (λ (u : Bytes). u ++ (pack new ++ drop (16 * length new) (pack (rows_in b) ++ r))) (ap (big_endian 8) (sym z))
      ∙ sym (lay-form new)

-- ---- the rows as `chunks_exact` cuts them off
row_tag : (r : Row) → OkRow r → tag_of (row_stream.put r) ≡ r.time
row_tag r k =
    ap tag_of (row_put r)
    ∙ ap (number_from 0) (take_at (big_endian 8 r.time) (big_endian 8 r.count) 8 (length-big_endian 8 r.time))
    ∙ number_of r.time k.0

row_wide : (r : Row) → length (row_stream.put r) ≡ 16
row_wide r = ap length (row_put r) ∙ length-append (big_endian 8 r.time) (big_endian 8 r.count) ∙ omega (arith, length-big_endian 8 r.time, length-big_endian 8 r.count)

-- the rows before t are those in front of which a smaller number stands
before-packed : (t : ℕ) (rs : List Row) → All OkRow rs → prefix_len (λ q. ltb (tag_of q) t) (seats 16 (pack rs)) ≡ rows_before t rs
unfolding rows_before put_all
before-packed t [] k = refl
before-packed t (r ∷ rs) k =
    ap (prefix_len (λ q. ltb (tag_of q) t)) (seats-more 16 (lit< tt) (row_stream.put r) (pack rs) (row_wide r))
    ∙ ap₂ (λ (n m : ℕ). cond (ltb n t) (1 + m) 0) (row_tag r k.0) (before-packed t rs k.1)
    ∙ ap (λ (m : ℕ). cond (ltb r.time t) m 0) (omega arith)

pub before-seats : (b : Bytes) (R : Region b) (t m : ℕ) → m ≡ 16 * length (rows_in b) → prefix_len (λ q. ltb (tag_of q) t) (seats 16 (part b 8 m)) ≡ rows_before t (rows_in b)
before-seats b R t m e =
    let h : Bytes = big_endian 8 (16 * length (rows_in b)) in
    let l : length h ≡ 8 = length-big_endian 8 (16 * length (rows_in b)) in
    let f : part b 8 m ≡ pack (rows_in b) =
    ap₂ (λ (u : Bytes) (n : ℕ). take n (drop 8 u)) R.lies e
    ∙ ap (take (16 * length (rows_in b))) (drop_at h (pack (rows_in b) ++ R.rest) 8 l)
    ∙ take_at (pack (rows_in b)) R.rest (16 * length (rows_in b)) (pack-long (rows_in b)) in
    ap (λ (u : Bytes). prefix_len (λ q. ltb (tag_of q) t) (seats 16 u)) f ∙ before-packed t (rows_in b) R.fits
