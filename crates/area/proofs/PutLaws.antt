-- Good images written into the run area, from the last to the first.
-- Assumes nothing.
use native.Mathlib.Omega.{arith}
use mathlib.Core.Path.{◌≡◌, refl, sym, ap, ap₂, ◌∙◌, subst}
use mathlib.Core.Bool.{Bool, true, false, cond}
use mathlib.Core.List.{List, [], ◌∷◌, ◌++◌, map, reverse, reverse-cons}
use Prim.Native.Nat.{ℕ, zero, suc, ◌+◌, ◌*◌, ◌-◌, ◌≤◌, ◌<◌}
use lib.ListN.{length, take, drop, get_or, length-append, length-drop, length-take, drop_of_length-le}
use lib.Seq.{drop-drop, take-length, take_at, take-take, get_or-take}
use Rattle.std.proofs.lemmas.List.{length_push, get_or_push}
use lib.Dec.{leb}
use borrow.Author.Tests.{le-leb, leb-true}
use Rattle.paper.specs.Lists.{total}
use Rattle.paper.specs.Keys.{Bytes, octets}
use Rattle.paper.specs.Runs.{Run}
use Rattle.paper.specs.Image as paper
use Rattle.paper.specs.Image.{big_endian, image_of, verdict}
use Rattle.paper.specs.Refusals.{Refusal, Try, stop, go, ◌>>=◌}
use Rattle.paper.specs.Calls.{take_run, open_runs, images_in}
use Rattle.paper.proofs.ImageLaws.{length-big_endian}
use Rattle.paper.proofs.ImageBack.{verdict-read}
use Rattle.raw.specs.Bytes.{part, over}
use Rattle.raw.proofs.Parts.{length_part}
use Rattle.raw.proofs.Octets.{octets-take, octets-drop}
use Rattle.raw.proofs.Over.{over-after, over_none, length_over}
use Rattle.layout.specs.Codec.{put_all, sized, plain, many, whole_via}
use Rattle.layout.specs.Layout.{image, images_whole, images_stream}
use Rattle.layout.proofs.Sizes.{put-append, put_one, sized-long, sized-put, images-cons}
use Rattle.run.proofs.Judging.{verdict-short}
use Rattle.area.specs.Opening.{image_in, passes, good_images, runs_or, runs_in}

-- ---- images that are not cut
-- the pieces of bytes with these lengths, one after the other from an offset on
abbrev pub pieces : Bytes → ℕ → List ℕ → List Bytes
pieces s at [] = []
pieces s at (n ∷ ns) = part s at n ∷ pieces s (at + n) ns

-- none ends past the bytes
abbrev pub Fit : Bytes → ℕ → List ℕ → Type 0
Fit s at [] = at ≤ length s
Fit s at (n ∷ ns) = (at + n ≤ length s) × Fit s (at + n) ns

-- the lengths together
abbrev pub sum : List ℕ → ℕ
sum ns = total (λ n. n) ns

-- one of the pieces, and those after it
pub piece-at : (s : Bytes) (at : ℕ) (ns : List ℕ) (j : ℕ) → j < length ns → drop j (pieces s at ns) ≡ part s (at + sum (take j ns)) (get_or ns j 0) ∷ drop (suc j) (pieces s at ns)
unfolding total
piece-at s at [] j h = absurd (omega arith)
piece-at s at (n ∷ ns) zero h = let z : at ≡ at + 0 = omega arith in ap (λ (k : ℕ). part s k n ∷ pieces s (at + n) ns) z
piece-at s at (n ∷ ns) (suc j) h =
    let z : at + n + sum (take j ns) ≡ at + (n + sum (take j ns)) = omega arith in
    piece-at s (at + n) ns j (omega arith) ∙ ap (λ (k : ℕ). part s k (get_or ns j 0) ∷ drop (suc j) (pieces s (at + n) ns)) z

pub piece-fits : (s : Bytes) (at : ℕ) (ns : List ℕ) → Fit s at ns → (j : ℕ) → j < length ns → at + sum (take j ns) + get_or ns j 0 ≤ length s
unfolding total
piece-fits s at [] f j h = absurd (omega arith)
piece-fits s at (n ∷ ns) f zero h = omega (arith, f.0)
piece-fits s at (n ∷ ns) f (suc j) h = omega (arith, piece-fits s (at + n) ns f.1 j (omega arith))

pub sum-suc : (ns : List ℕ) (j : ℕ) → j < length ns → sum (take (suc j) ns) ≡ sum (take j ns) + get_or ns j 0
unfolding total
sum-suc [] j h = absurd (omega arith)
sum-suc (n ∷ ns) zero h = omega arith
sum-suc (n ∷ ns) (suc j) h = omega (arith, sum-suc ns j (omega arith))

pieces-total : (s : Bytes) (at : ℕ) (ns : List ℕ) → Fit s at ns → total length (pieces s at ns) ≡ sum ns
unfolding total
pieces-total s at [] f = refl
pieces-total s at (n ∷ ns) f = ap₂ (λ (a b : ℕ). a + b) (length_part s at n f.0) (pieces-total s (at + n) ns f.1)

-- ---- images that are good
stopped : {A : Type 0} (r : Refusal) (a : A) → stop r ≡ go a → ⊥
stopped r a e = let z : ◌≡◌ {A = ℕ} 0 1 = cc in omega arith

module _ (k : ℕ) (x : Bytes) (xs : List Bytes) where
  -- the first is, and the others are
  pub record GoodOnes (rs : List Run) : Type 0 where
    pub r : Run
    pub qs : List Run
    pub both : r ∷ qs ≡ rs
    pub here : verdict x ≡ paper.good r
    pub then : open_runs (suc k) xs ≡ go qs

  good-ones : (rs : List Run) → open_runs k (x ∷ xs) ≡ go rs → GoodOnes rs
  unfolding open_runs ◌>>=◌
  good-ones rs e = first (verdict x) refl (open_runs (suc k) xs) refl e
    where
      first : (v : paper.Verdict) → verdict x ≡ v → (m : Try (List Run)) → open_runs (suc k) xs ≡ m → (take_run k v >>= λ q. m >>= λ qs. go (q ∷ qs)) ≡ go rs → GoodOnes rs
      first (paper.good r) f (go qs) h e = record { r = r; qs = qs; both = cc; here = f; then = h }
      first (paper.good r) f (stop q) h e = absurd (stopped q rs e)
      first paper.broken f m h e = absurd (stopped _ rs e)
      first paper.foreign f m h e = absurd (stopped _ rs e)

-- images of which all are good: none is cut, and they are the images of their runs
pub record Wholes (s : Bytes) (at : ℕ) (ns : List ℕ) (rs : List Run) : Type 0 where
  pub fit : Fit s at ns
  pub same : images_in (drop at s) ns ≡ pieces s at ns
  pub images : pieces s at ns ≡ map image_of rs

not-cut : (s : Bytes) (n : ℕ) (r : Run) → verdict (image_in s n) ≡ paper.good r → n ≤ length s
not-cut s n r e = go (leb n (length s)) refl
  where
    go : (b : Bool) → leb n (length s) ≡ b → n ≤ length s
    go true f = leb-true n (length s) f
    go false f =
        let g : paper.broken ≡ paper.good r = sym (verdict-short [] (omega arith)) ∙ sym (ap (λ (t : Bool). verdict (cond t (take n s) [])) f) ∙ e in
        cc

wholes : (s : Bytes) → octets s ≡ true → (k at : ℕ) (ns : List ℕ) (rs : List Run) → at ≤ length s → open_runs k (images_in (drop at s) ns) ≡ go rs → Wholes s at ns rs
unfolding images_in open_runs
wholes s o k at [] rs h e = let f : [] ≡ rs = cc in record { fit = h; same = refl; images = ap (map image_of) f }
wholes s o k at (n ∷ ns) rs h e = more (λ k' at' rs'. wholes s o k' at' ns rs') (good-ones k (image_in (drop at s) n) (images_in (drop n (drop at s)) ns) rs e)
  where
    more : ((k' at' : ℕ) (rs' : List Run) → at' ≤ length s → open_runs k' (images_in (drop at' s) ns) ≡ go rs' → Wholes s at' ns rs')
        → GoodOnes k (image_in (drop at s) n) (images_in (drop n (drop at s)) ns) rs → Wholes s at (n ∷ ns) rs
    more ih g =
        let d : drop n (drop at s) ≡ drop (at + n) s = drop-drop n at s in
        let l : at + n ≤ length s = omega (arith, not-cut (drop at s) n g.r g.here, length-drop at s) in
        let w = ih (suc k) (at + n) g.qs l (ap (λ (b : Bytes). open_runs (suc k) (images_in b ns)) (sym d) ∙ g.then) in
        let p : image_in (drop at s) n ≡ part s at n = ap (λ (t : Bool). cond t (part s at n) []) (le-leb n (length (drop at s)) (not-cut (drop at s) n g.r g.here)) in
        let v : part s at n ≡ image_of g.r = (verdict-read (part s at n) g.r (octets-take n (drop at s) (octets-drop at s o)) (ap verdict (sym p) ∙ g.here)).0 in
        record {
          fit = (l, w.fit);
          same = ap₂ {C = List Bytes} (λ x xs. x ∷ xs) p (ap (λ (b : Bytes). images_in b ns) d ∙ w.same);
          images = ap₂ {C = List Bytes} (λ x xs. x ∷ xs) v w.images ∙ ap (map image_of) g.both;
        }

-- ---- the bytes that are written: each image with its length in front, the last first
pub puts : List Bytes → Bytes
puts xs = put_all (sized 8 plain) (reverse xs)

puts-cons : (x : Bytes) (xs : List Bytes) → puts (x ∷ xs) ≡ puts xs ++ (sized 8 plain).put x
unfolding puts
puts-cons x xs =
    ap (put_all (sized 8 plain)) (reverse-cons x xs) ∙ put-append (sized 8 plain) (reverse xs) (x ∷ [])
    ∙ ap (λ (u : Bytes). put_all (sized 8 plain) (reverse xs) ++ u) (put_one (sized 8 plain) x)

pub sized-plain : (x : Bytes) → (sized 8 plain).put x ≡ big_endian 8 (length x) ++ x
unfolding sized plain
sized-plain x = refl

pub plain-long : (x : Bytes) → length ((sized 8 plain).put x) ≡ 8 + length x
unfolding plain
plain-long x = sized-long plain 8 x

puts-long : (xs : List Bytes) → length (puts xs) ≡ 8 * length xs + total length xs
unfolding puts put_all total
puts-long [] = refl
puts-long (x ∷ xs) =
    omega (arith, ap (λ (b : Bytes). length b) (puts-cons x xs), length-append (puts xs) ((sized 8 plain).put x), plain-long x, puts-long xs)

puts-images : (rs : List Run) → puts (map image_of rs) ≡ images_whole.form rs
unfolding puts put_all images_whole whole_via many sized plain image
puts-images [] = refl
puts-images (r ∷ rs) =
    puts-cons (image_of r) (map image_of rs) ∙ ap₂ (λ (a b : Bytes). a ++ b) (puts-images rs) (same r) ∙ sym (images-cons r rs)
  where
    same : (r : Run) → (sized 8 plain).put (image_of r) ≡ (sized 8 image).put r
    same r = refl

-- fewer take no more room
drop-total : (xs : List Bytes) (j : ℕ) → 8 * length (drop j xs) + total length (drop j xs) ≤ 8 * length xs + total length xs
unfolding total
drop-total [] zero = omega arith
drop-total [] (suc j) = omega arith
drop-total (x ∷ xs) zero = omega arith
drop-total (x ∷ xs) (suc j) = omega (arith, drop-total xs j)

pieces-length : (s : Bytes) (at : ℕ) (ns : List ℕ) → length (pieces s at ns) ≡ length ns
pieces-length s at [] = refl
pieces-length s at (n ∷ ns) = ap suc (pieces-length s (at + n) ns)

-- ---- the loop
-- the images from i on are written over s₀ from `start` on
pub record Putting (s₀ : Bytes) (start : ℕ) (images : Bytes) (ns : List ℕ) (s : Bytes) (end i to : ℕ) : Type 0 where
  pub ahead : i ≤ length ns
  pub end_is : end ≡ sum (take i ns)
  pub to_is : to ≡ start + length (puts (drop i (pieces images 0 ns)))
  pub long : length s ≡ length s₀
  pub bytes : s ≡ over s₀ start (puts (drop i (pieces images 0 ns)))

-- what is known of the next image, of n bytes
pub record Next (s₀ : Bytes) (start : ℕ) (images : Bytes) (ns : List ℕ) (s : Bytes) (end i to n : ℕ) : Type 0 where
  pub less : n ≤ end
  pub inside : end ≤ length images
  pub room : to + (8 + n) ≤ length s
  pub next : (t : Bytes) → length t ≡ length s → t ≡ over s to ((sized 8 plain).put (part images (end - n) (end - (end - n)))) → Putting s₀ start images ns t (end - n) (i - 1) (to + (8 + n))

module _ (images : Bytes) (ns : List ℕ) (o : octets images ≡ true) (good : good_images images ns ≡ true) where
  pub runs-wholes : Wholes images 0 ns (runs_in images ns)
  unfolding good_images runs_in
  runs-wholes = go' (open_runs 1 (images_in images ns)) refl good
    where
      go' : (m : Try (List Run)) → open_runs 1 (images_in images ns) ≡ m → passes m ≡ true → Wholes images 0 ns (runs_or m)
      go' (stop r) e h = cc
      go' (go rs) e h = wholes images o 1 0 ns rs (omega arith) e

  -- they have together what their lengths say
  pub runs-sum : total length (images_in images ns) ≡ sum ns
  runs-sum = ap (λ (xs : List Bytes). total length xs) runs-wholes.same ∙ pieces-total images 0 ns runs-wholes.fit

  all-long : length (puts (pieces images 0 ns)) ≡ 8 * length ns + total length (images_in images ns)
  all-long = omega (arith, puts-long (pieces images 0 ns), pieces-length images 0 ns, ap (λ (xs : List Bytes). total length xs) runs-wholes.same)

  module _ (s₀ : Bytes) (start : ℕ) (room : start + (8 * length ns + total length (images_in images ns)) ≤ length s₀) where
    pub put-start : (end : ℕ) → end ≡ total length (images_in images ns) → Putting s₀ start images ns s₀ end (length ns) start
    unfolding puts put_all
    put-start end e =
        let d : drop (length ns) (pieces images 0 ns) ≡ [] = drop_of_length-le (pieces images 0 ns) {i = length ns} (omega (arith, pieces-length images 0 ns)) in
        let z : start ≡ start + 0 = omega arith in
        record {
          ahead = omega arith;
          end_is = e ∙ runs-sum ∙ sym (ap sum (take-length ns));
          to_is = z ∙ sym (ap (λ (xs : List Bytes). start + length (puts xs)) d);
          long = refl;
          bytes = over_none s₀ start ∙ sym (ap (λ (xs : List Bytes). over s₀ start (puts xs)) d);
        }

    module _ (s : Bytes) (end i to : ℕ) (so : Putting s₀ start images ns s end i to) where
      pub put_next : 0 < i → (n : ℕ) → n ≡ get_or ns (i - 1) 0 → Next s₀ start images ns s end i to n
      put_next h n e =
          let j : ℕ = i - 1 in
          let z : suc j ≡ i = omega arith in
          let l : j < length ns = omega (arith, so.ahead) in
          let b : end ≡ sum (take j ns) + n = so.end_is ∙ ap (λ (k : ℕ). sum (take k ns)) (sym z) ∙ sum-suc ns j l ∙ ap (λ (k : ℕ). sum (take j ns) + k) (sym e) in
          let c : sum (take j ns) + n ≤ length images = omega (arith, piece-fits images 0 ns runs-wholes.fit j l) in
          let x : Bytes = part images (sum (take j ns)) n in
          let ps : List Bytes = pieces images 0 ns in
          let w : length x ≡ n = length_part images (sum (take j ns)) n c in
          let f₀ : 0 + sum (take j ns) ≡ sum (take j ns) = omega arith in
          let q : drop j ps ≡ x ∷ drop i ps =
          piece-at images 0 ns j l ∙ ap₂ (λ (a k : ℕ). part images a k ∷ drop (suc j) ps) f₀ (sym e) ∙ ap (λ (k : ℕ). x ∷ drop k ps) z in
          let y : puts (drop j ps) ≡ puts (drop i ps) ++ (sized 8 plain).put x = ap puts q ∙ puts-cons x (drop i ps) in
          let v : length (puts (drop j ps)) ≡ length (puts (drop i ps)) + (8 + n) = omega (arith, ap (λ (u : Bytes). length u) y, length-append (puts (drop i ps)) ((sized 8 plain).put x), plain-long x) in
          let g : length (puts (drop j ps)) ≤ length (puts ps) = omega (arith, puts-long (drop j ps), puts-long ps, drop-total ps j) in
          record {
            less = omega arith;
            inside = omega arith;
            room = omega (arith, so.to_is, so.long, all-long);
            next = λ t k f.
                let a₁ : end - n ≡ sum (take j ns) = omega arith in
                let a₂ : end - (end - n) ≡ n = omega arith in
                record {
                  ahead = omega arith;
                  end_is = a₁;
                  to_is = omega (arith, so.to_is);
                  long = k ∙ so.long;
                  bytes =
                      f ∙ ap₂ (λ (p r : ℕ). over s to ((sized 8 plain).put (part images p r))) a₁ a₂
                      ∙ ap (λ (u : Bytes). over u to ((sized 8 plain).put x)) so.bytes
                      ∙ over-after s₀ start (puts (drop i ps)) (omega arith) to ((sized 8 plain).put x) so.to_is
                      ∙ ap (over s₀ start) (sym y);
                };
          }

      -- behind the number of all bytes
      pub put-done : i ≤ 0 → (b : Bytes) (at : ℕ) → at ≤ length b → start ≡ at + 8 → s₀ ≡ over b at (big_endian 8 (8 * length ns + total length (images_in images ns))) → s ≡ over b at (images_stream.put (runs_in images ns))
      put-done h b at k e f =
          let z : i ≡ 0 = omega arith in
          let rs : List Run = runs_in images ns in
          let hd : Bytes = big_endian 8 (8 * length ns + total length (images_in images ns)) in
          let p : puts (pieces images 0 ns) ≡ images_whole.form rs = ap puts runs-wholes.images ∙ puts-images rs in
          let n : 8 * length ns + total length (images_in images ns) ≡ length (images_whole.form rs) = sym all-long ∙ ap (λ (u : Bytes). length u) p in
          so.bytes ∙ ap (λ (j : ℕ). over s₀ start (puts (drop j (pieces images 0 ns)))) z
          ∙ ap (λ (u : Bytes). over u start (puts (pieces images 0 ns))) f
          ∙ over-after b at hd k start (puts (pieces images 0 ns)) (omega (arith, length-big_endian 8 (8 * length ns + total length (images_in images ns))))
          ∙ ap₂ (λ (j : ℕ) (u : Bytes). over b at (big_endian 8 j ++ u)) n p
          ∙ ap (over b at) (sym (sized-put images_whole 8 rs))

-- a write leaves the length
same-long : (t s : Bytes) (at : ℕ) (x : Bytes) → t ≡ over s at x → at + length x ≤ length s → length t ≡ length s
same-long t s at x e h = ap (λ (u : Bytes). length u) e ∙ length_over s at x h

-- ---- the turns, by the lengths that are left: of those qs, and behind them n
record Last (ns qs : List ℕ) (n : ℕ) : Type 0 where
  there : length qs < length ns
  front : qs ≡ take (length qs) ns
  is : n ≡ get_or ns (length qs) 0

last-of : (ns rest qs : List ℕ) (n : ℕ) → rest ≡ take (length rest) ns → rest ≡ qs ++ n ∷ [] → Last ns qs n
last-of ns rest qs n f e =
    let l : length rest ≡ length qs + 1 = ap (λ (xs : List ℕ). length xs) e ∙ length_push qs n in
    let t : length rest ≤ length ns = omega (arith, ap (λ (xs : List ℕ). length xs) f, length-take (length rest) ns) in
    record {
      there = omega arith;
      front = sym (take_at qs (n ∷ []) (length qs) refl) ∙ ap (take (length qs)) (sym e ∙ f) ∙ take-take (length qs) (length rest) ns (omega arith);
      is = sym (get_or_push qs n 0 (length qs) refl) ∙ ap (λ (xs : List ℕ). get_or xs (length qs) 0) (sym e ∙ f) ∙ get_or-take (length rest) ns (length qs) 0 (omega arith);
    }

-- what is known of the last image that is left, of n bytes
pub record Turn (s₀ : Bytes) (start : ℕ) (images : Bytes) (ns : List ℕ) (s : Bytes) (end to : ℕ) (qs : List ℕ) (n : ℕ) : Type 0 where
  pub front : qs ≡ take (length qs) ns
  pub less : n ≤ end
  pub inside : end ≤ length images
  pub room : to + length ((sized 8 plain).put (part images (end - n) (end - (end - n)))) ≤ length s
  pub size : length ((sized 8 plain).put (part images (end - n) (end - (end - n)))) ≡ 8 + (end - (end - n))
  pub next : (t : Bytes) → t ≡ over s to ((sized 8 plain).put (part images (end - n) (end - (end - n)))) → Putting s₀ start images ns t (end - n) (length qs) (to + (8 + (end - (end - n))))

module _ (images : Bytes) (ns : List ℕ) (o : octets images ≡ true) (good : good_images images ns ≡ true) (b : Bytes) (at : ℕ)
    (fit : at + (8 + (8 * length ns + total length (images_in images ns))) ≤ length b) (all : ℕ) (e : all ≡ total length (images_in images ns))
    (s₀ : Bytes) (w : s₀ ≡ over b at (big_endian 8 (8 * length ns + all))) where
  pub long : length s₀ ≡ length b
  long = same-long s₀ b at (big_endian 8 (8 * length ns + all)) w (omega (arith, length-big_endian 8 (8 * length ns + all)))

  room : at + 8 + (8 * length ns + total length (images_in images ns)) ≤ length s₀
  room = omega (arith, long)

  pub putting-start : Putting s₀ (at + 8) images ns s₀ all (length ns) (at + 8)
  putting-start = put-start images ns o good s₀ (at + 8) room all e

  module _ (s : Bytes) (end to : ℕ) (rest : List ℕ) (front : rest ≡ take (length rest) ns) (so : Putting s₀ (at + 8) images ns s end (length rest) to) where
    pub putting-done : length rest ≡ 0 → s ≡ over b at (images_stream.put (runs_in images ns))
    putting-done z =
        put-done images ns o good s₀ (at + 8) room s end (length rest) to so (omega arith) b at (omega arith) refl
        (w ∙ ap (λ (n : ℕ). over b at (big_endian 8 (8 * length ns + n))) e)

    module _ (qs : List ℕ) (n : ℕ) (step : rest ≡ qs ++ n ∷ []) where
      pub putting-turn : Turn s₀ (at + 8) images ns s end to qs n
      putting-turn =
          let h = last-of ns rest qs n front step in
          let l : length rest ≡ length qs + 1 = ap (λ (xs : List ℕ). length xs) step ∙ length_push qs n in
          let j : length rest - 1 ≡ length qs = omega arith in
          let k = put_next images ns o good s₀ (at + 8) room s end (length rest) to so (omega arith) n (h.is ∙ ap (λ (i : ℕ). get_or ns i 0) (sym j)) in
          let x : Bytes = part images (end - n) (end - (end - n)) in
          let p : length x ≡ end - (end - n) = length_part images (end - n) (end - (end - n)) (omega (arith, k.less, k.inside)) in
          let q : length ((sized 8 plain).put x) ≡ 8 + (end - (end - n)) = omega (arith, plain-long x) in
          let u : end - (end - n) ≡ n = omega (arith, k.less) in
          let v : to + length ((sized 8 plain).put x) ≤ length s = omega (arith, k.room) in
          record {
            front = h.front;
            less = k.less;
            inside = k.inside;
            room = v;
            size = q;
            next = λ t f.
                subst (λ (i : ℕ). Putting s₀ (at + 8) images ns t (end - n) i (to + (8 + (end - (end - n))))) j
                (subst (λ (m : ℕ). Putting s₀ (at + 8) images ns t (end - n) (length rest - 1) (to + (8 + m))) (sym u) (k.next t (same-long t s to ((sized 8 plain).put x) f v) f));
          }
