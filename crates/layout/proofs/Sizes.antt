-- How many bytes each part of a store takes: the sizes that the paper's room rules speak of.
-- Assumes nothing.
use Prim.Native.Nat.{ℕ, zero, suc, ◌+◌, ◌*◌, ◌<◌}
use native.Mathlib.Nat.{not-suc-le-zero, mul-zero, mul-suc}
use native.Mathlib.Omega.{arith}
use mathlib.Core.Path.{◌≡◌, refl, sym, ap, ap₂, ◌∙◌}
use mathlib.Core.Bool.{Bool}
use mathlib.Core.List.{List, [], ◌∷◌, ◌++◌, append_assoc, append-nil, reverse, reverse_aux, reverse-cons}
use lib.ListN.{length, get_or, length-append}
use lib.Seq.{take_at}
use Rattle.paper.specs.Lists.{total}
use Rattle.paper.specs.Keys.{Bytes, Version, Pair}
use Rattle.paper.specs.Runs.{Run, version_size, run_size}
use Rattle.paper.specs.Readers.{Row}
use Rattle.paper.specs.History.{Commit}
use Rattle.paper.specs.Image.{big_endian}
use Rattle.paper.specs.Settings.{Settings}
use Rattle.paper.specs.Store.{pair_size, own_size, image_size, area_size, hash_count}
use Rattle.paper.proofs.ImageLaws.{length-big_endian}
use Rattle.paper.proofs.ImageBack.{length-record, length-image}
use Rattle.raw.specs.Bytes.{part}
use Rattle.raw.proofs.Parts.{part_right}
use Rattle.layout.specs.Codec.{Stream, num, both, via, flag, Whole, sized, plain, many, whole_via, put_all}
use Rattle.layout.specs.Layout.{n8, settings_stream, listed, row_stream, hashes_stream, commit_stream, pair_stream, version_stream, image, images_whole, images_stream}

-- ---- values one after the other
module _ {A : Type 0} (S : Stream A) where
  pub put-append : (xs ys : List A) → put_all S (xs ++ ys) ≡ put_all S xs ++ put_all S ys
  unfolding put_all
  put-append [] ys = refl
  put-append (x ∷ xs) ys = ap (λ (u : Bytes). S.put x ++ u) (put-append xs ys) ∙ sym (append_assoc (S.put x) (put_all S xs) (put_all S ys))

  pub put_one : (x : A) → put_all S (x ∷ []) ≡ S.put x
  unfolding put_all
  put_one x = append-nil (S.put x)

  -- each value has its size
  module _ (size : A → ℕ) (each : (a : A) → length (S.put a) ≡ size a) where
    pub all-long : (xs : List A) → length (put_all S xs) ≡ total size xs
    unfolding put_all total
    all-long [] = refl
    all-long (x ∷ xs) = length-append (S.put x) (put_all S xs) ∙ ap₂ (λ (m n : ℕ). m + n) (each x) (all-long xs)

    pub form-long : (xs : List A) → length ((many S).form xs) ≡ total size xs
    unfolding many
    form-long xs = all-long xs

  -- all have one size: value k stands at k times that
  pub put-at : (w : ℕ) → ((a : A) → length (S.put a) ≡ w) → (xs : List A) (k : ℕ) (d : A) (r : Bytes) → k < length xs → part (put_all S xs ++ r) (w * k) w ≡ S.put (get_or xs k d)
  unfolding put_all
  put-at w e [] k d r h = absurd (not-suc-le-zero h)
  put-at w e (x ∷ xs) zero d r h = rw (mul-zero, append_assoc) (take_at (S.put x) (put_all S xs ++ r) w (e x))
  put-at w e (x ∷ xs) (suc k) d r h =
      let m : w * suc k ≡ length (S.put x) + w * k = omega (arith, mul-suc w k, e x) in
      rw (m, append_assoc) (part_right (S.put x) (put_all S xs ++ r) (w * k) w ∙ put-at w e xs k d r (omega arith))

pub sized-long : {A : Type 0} (W : Whole A) (w : ℕ) (a : A) → length ((sized w W).put a) ≡ w + length (W.form a)
unfolding sized
sized-long W w a = length-append (big_endian w (length (W.form a))) (W.form a) ∙ ap (λ (n : ℕ). n + length (W.form a)) (length-big_endian w (length (W.form a)))

pub sized-put : {A : Type 0} (W : Whole A) (w : ℕ) (a : A) → (sized w W).put a ≡ big_endian w (length (W.form a)) ++ W.form a
unfolding sized
sized-put W w a = refl

-- an empty list is its number alone
pub listed-none : {A : Type 0} (S : Stream A) → (listed S).put [] ≡ big_endian 8 0
unfolding sized many put_all
listed-none S = append-nil (big_endian 8 0)

-- the same size each
pub total-same : {A : Type 0} (n : ℕ) (xs : List A) → total (λ x. n) xs ≡ n * length xs
unfolding total
total-same n [] = omega arith
total-same n (x ∷ xs) = let h = total-same n xs in omega arith

-- ---- settings, and a place's read number and mark
pub settings-put-long : (s : Settings) → length (settings_stream.put s) ≡ 72
unfolding settings_stream via both flag num
settings-put-long s = simp (length-append, length-big_endian)

pub head-long : (read : ℕ) (open? : Bool) → length ((both n8 (flag 8)).put (read, open?)) ≡ 16
unfolding both num flag
head-long read open? = simp (length-append, length-big_endian)

pub n8-long : (n : ℕ) → length (n8.put n) ≡ 8
unfolding num
n8-long n = length-big_endian 8 n

-- ---- reader rows
pub row-long : (r : Row) → length (row_stream.put r) ≡ 16
unfolding row_stream via both num
row-long r = simp (length-append, length-big_endian)

pub rows-form : (rs : List Row) → length ((many row_stream).form rs) ≡ 16 * length rs
rows-form rs = form-long row_stream (λ r. 16) row-long rs ∙ total-same 16 rs

pub rows_long : (rs : List Row) → length ((listed row_stream).put rs) ≡ 8 + 16 * length rs
rows_long rs = sized-long (many row_stream) 8 rs ∙ ap (λ (n : ℕ). 8 + n) (rows-form rs)

-- ---- sets of hashes
hash-long : (n : ℕ) → length ((num 4).put n) ≡ 4
unfolding num
hash-long n = length-big_endian 4 n

pub hashes-form : (hs : List ℕ) → length ((many (num 4)).form hs) ≡ 4 * length hs
hashes-form hs = form-long (num 4) (λ r. 4) hash-long hs ∙ total-same 4 hs

pub hashes-long : (hs : List ℕ) → length (hashes_stream.put hs) ≡ 8 + 4 * length hs
hashes-long hs = sized-long (many (num 4)) 8 hs ∙ ap (λ (n : ℕ). 8 + n) (hashes-form hs)

-- ---- the history
pub commit-long : (c : Commit) → length (commit_stream.put c) ≡ 16 + 4 * length c.hashes
unfolding commit_stream via both num
commit-long c =
    length-append (big_endian 8 c.number) (hashes_stream.put c.hashes)
    ∙ ap₂ (λ (m n : ℕ). m + n) (length-big_endian 8 c.number) (hashes-long c.hashes) ∙ omega arith

commits-size : (cs : List Commit) → total (λ c. 16 + 4 * length c.hashes) cs ≡ 16 * length cs + 4 * hash_count cs
unfolding hash_count total
commits-size [] = refl
commits-size (c ∷ cs) = let h = commits-size cs in ap (λ (n : ℕ). 16 + 4 * length c.hashes + n) h ∙ omega arith

pub history-form : (cs : List Commit) → length ((many commit_stream).form cs) ≡ 16 * length cs + 4 * hash_count cs
history-form cs = form-long commit_stream (λ c. 16 + 4 * length c.hashes) commit-long cs ∙ commits-size cs

pub history-long : (cs : List Commit) → length ((listed commit_stream).put cs) ≡ 8 + (16 * length cs + 4 * hash_count cs)
history-long cs = sized-long (many commit_stream) 8 cs ∙ ap (λ (n : ℕ). 8 + n) (history-form cs)

-- ---- an overlay
pub pair-long : (p : Pair) → length (pair_stream.put p) ≡ pair_size p
unfolding pair_stream via both sized plain pair_size
pair-long p = simp (length-append, length-big_endian) (omega arith)

pub overlay-form : (ps : List Pair) → length ((many pair_stream).form ps) ≡ own_size ps
unfolding own_size
overlay-form ps = form-long pair_stream pair_size pair-long ps

pub overlay-long : (ps : List Pair) → length ((listed pair_stream).put ps) ≡ 8 + own_size ps
overlay-long ps = sized-long (many pair_stream) 8 ps ∙ ap (λ (n : ℕ). 8 + n) (overlay-form ps)

-- ---- the active run
version-long : (v : Version) → length (version_stream.put v) ≡ version_size v
unfolding version_stream
version-long v = length-record v

pub run-form : (r : Run) → length ((many version_stream).form r) ≡ run_size r
unfolding run_size
run-form r = form-long version_stream version_size version-long r

pub run_long : (r : Run) → length ((listed version_stream).put r) ≡ 8 + run_size r
run_long r = sized-long (many version_stream) 8 r ∙ ap (λ (n : ℕ). 8 + n) (run-form r)

-- ---- the images
pub image-long : (r : Run) → length (image.form r) ≡ image_size r
unfolding image
image-long r = length-image r

pub sized-image-long : (r : Run) → length ((sized 8 image).put r) ≡ 8 + image_size r
sized-image-long r = sized-long image 8 r ∙ ap (λ (n : ℕ). 8 + n) (image-long r)

total-turned : {A : Type 0} (f : A → ℕ) (xs ys : List A) → total f (reverse_aux xs ys) ≡ total f xs + total f ys
unfolding total
total-turned f [] ys = omega arith
total-turned f (x ∷ xs) ys = let h = total-turned f xs (x ∷ ys) in h ∙ omega arith

areas : (rs : List Run) → total (λ r. 8 + image_size r) rs ≡ 8 * length rs + area_size rs
unfolding area_size total
areas [] = refl
areas (r ∷ rs) = let h = areas rs in ap (λ (n : ℕ). 8 + image_size r + n) h ∙ omega arith

pub images-form : (rs : List Run) → length (images_whole.form rs) ≡ 8 * length rs + area_size rs
unfolding images_whole whole_via total
images-form rs =
    let size : Run → ℕ = λ r. 8 + image_size r in
    form-long (sized 8 image) size sized-image-long (reverse rs) ∙ total-turned size rs [] ∙ omega (arith, areas rs)

pub images-long : (rs : List Run) → length (images_stream.put rs) ≡ 8 + (8 * length rs + area_size rs)
images-long rs = sized-long images_whole 8 rs ∙ ap (λ (n : ℕ). 8 + n) (images-form rs)

-- a run in front of the others, in run order, stands behind them in the bytes
pub images-cons : (r : Run) (rs : List Run) → images_whole.form (r ∷ rs) ≡ images_whole.form rs ++ (sized 8 image).put r
unfolding images_whole whole_via many
images-cons r rs =
    ap (put_all (sized 8 image)) (reverse-cons r rs) ∙ put-append (sized 8 image) (reverse rs) (r ∷ [])
    ∙ ap (λ (u : Bytes). put_all (sized 8 image) (reverse rs) ++ u) (put_one (sized 8 image) r)
