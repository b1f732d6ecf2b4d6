-- A write among packed entries: the bytes in whose place it goes, and what the entries then are; and the answer to a search.
-- Assumes nothing.
use native.Mathlib.Omega.{arith}
use mathlib.Core.Path.{◌≡◌, refl, sym, ap, ap₂, ◌∙◌, subst}
use mathlib.Core.Bool.{true}
use mathlib.Core.Option.{none, some}
use mathlib.Core.List.{◌∷◌, ◌++◌, append_assoc}
use Prim.Native.Nat.{ℕ, ◌+◌, ◌-◌, ◌≤◌}
use lib.ListN.{length, take, drop, length-append, length-drop}
use lib.Seq.{take_at, drop_at, drop-drop, take-take, length-take-le}
use Rattle.std.specs.Prelude.{Option, Some, None, Result, Ok, Err}
use Rattle.std.specs.Result.{result_ok}
use Rattle.paper.specs.Lists.{insert}
use Rattle.paper.specs.Keys.{Bytes, octets, cmp_pair}
use Rattle.paper.specs.Image.{big_endian}
use Rattle.paper.specs.Store.{pair_size, own_size}
use Rattle.paper.specs.Seen.{own_write}
use Rattle.paper.proofs.ImageLaws.{length-big_endian}
use Rattle.raw.specs.Bytes.{part, over}
use Rattle.raw.proofs.Parts.{drop-take}
use Rattle.raw.proofs.Over.{over-before, over-all, over-front}
use Rattle.layout.specs.Codec.{put_all}
use Rattle.layout.specs.Layout.{pair_stream}
use Rattle.layout.proofs.Sizes.{pair-long, put-append}
use Rattle.overlay.specs.declared.Found.{Found}
use Rattle.overlay.specs.Overlay.{pair, pairs_in, is_overlay, found_at}
use Rattle.overlay.specs.Entries.{Hole}
use Rattle.overlay.proofs.Pairs.{pair-bytes, length-own, overlay-is, overlay-packed}
use Rattle.overlay.proofs.Splitting.{below, above, insert-split, own-size-append, own-size-cons, Hit, Miss, Spotted, spotted}

-- bytes that are two pieces, cut where the first ends
cut : (s : Bytes) (m : ℕ) (x y : Bytes) → s ≡ x ++ y → m ≡ length x → (take m s ≡ x) × (drop m s ≡ y)
cut s m x y e f = (ap (take m) e ∙ take_at x y m (sym f), ap (drop m) e ∙ drop_at x y m (sym f))

module _ (s : Bytes) (o : octets s ≡ true) (w : is_overlay s ≡ true) where
  packed : s ≡ put_all pair_stream (pairs_in s)
  packed = sym (overlay-packed s o w)

  pub size-own : own_size (pairs_in s) ≡ length s
  size-own = sym (length-own (pairs_in s)) ∙ ap length (sym packed)

  module _ (k : Bytes) where
    -- the entries before a key end at `start`, and those after it begin at `stop`
    hole : (start stop : ℕ) → start ≤ stop → stop ≤ length s → take start s ≡ put_all pair_stream (below k (pairs_in s)) → drop stop s ≡ put_all pair_stream (above k (pairs_in s))
        → Hole s k start stop
    unfolding put_all
    hole start stop m h f b =
        record {
          mid = m;
          high = h;
          filled = λ v.
              ap (put_all pair_stream) (insert-split k v (pairs_in s)) ∙ put-append pair_stream (below k (pairs_in s)) (pair k v ∷ above k (pairs_in s))
              ∙ sym (ap₂ (λ (x y : Bytes). x ++ (pair_stream.put (pair k v) ++ y)) f b);
        }

    module _ (f : Found) (e : ◌≡◌ (Ok f) (found_at 0 k (pairs_in s))) where
      hit : Hit 0 k (pairs_in s) f
      hit = subst (Spotted 0 k (pairs_in s)) (sym e) (spotted k (pairs_in s) 0)

      sizes : length s ≡ own_size (below k (pairs_in s)) + (4 + length k + length hit.value + own_size (above k (pairs_in s)))
      unfolding pair_size
      sizes =
          sym size-own ∙ ap own_size hit.parts ∙ own-size-append (below k (pairs_in s)) (pair k hit.value ∷ above k (pairs_in s))
          ∙ ap (λ (n : ℕ). own_size (below k (pairs_in s)) + n) (own-size-cons (pair k hit.value) (above k (pairs_in s)))

      pub ends : (f.start ≤ f.value) × (f.value ≤ f.end) × (f.end ≤ length s)
      ends = omega (arith, hit.first, hit.mid, hit.last, sizes)

      front-back : (take f.start s ≡ put_all pair_stream (below k (pairs_in s))) × (drop f.start s ≡ pair_stream.put (pair k hit.value) ++ put_all pair_stream (above k (pairs_in s)))
      unfolding put_all
      front-back =
          cut s f.start (put_all pair_stream (below k (pairs_in s))) (pair_stream.put (pair k hit.value) ++ put_all pair_stream (above k (pairs_in s)))
          (packed ∙ ap (put_all pair_stream) hit.parts ∙ put-append pair_stream (below k (pairs_in s)) (pair k hit.value ∷ above k (pairs_in s)))
          (omega (arith, hit.first, length-own (below k (pairs_in s))))

      -- the entry, and what is behind it
      behind : drop f.end s ≡ put_all pair_stream (above k (pairs_in s))
      unfolding pair_size
      behind =
          let n : f.start + (f.end - f.start) ≡ f.end = omega (arith, ends) in
          ap (λ (m : ℕ). drop m s) (sym n) ∙ sym (drop-drop (f.end - f.start) f.start s)
          ∙ (cut (drop f.start s) (f.end - f.start) (pair_stream.put (pair k hit.value)) (put_all pair_stream (above k (pairs_in s))) front-back.1
          (omega (arith, hit.mid, hit.last, pair-long (pair k hit.value)))).1

      pub hole-hit : Hole s k f.start f.end
      hole-hit = hole f.start f.end (omega (arith, ends)) ends.2 front-back.0 behind

      -- the value lies where the search says
      pub value-hit : own_write k (pairs_in s) ≡ some (part s f.value (f.end - f.value))
      value-hit =
          let x : Bytes = (big_endian 2 (length k) ++ k) ++ big_endian 2 (length hit.value) in
          let y : Bytes = put_all pair_stream (above k (pairs_in s)) in
          let n : f.start + (f.value - f.start) ≡ f.value = omega (arith, ends) in
          let l : length x ≡ 4 + length k =
          length-append (big_endian 2 (length k) ++ k) (big_endian 2 (length hit.value))
          ∙ omega (arith, length-append (big_endian 2 (length k)) k, length-big_endian 2 (length k), length-big_endian 2 (length hit.value)) in
          let e : drop f.start s ≡ x ++ (hit.value ++ y) =
          front-back.1 ∙ ap (λ (t : Bytes). t ++ y) (pair-bytes (pair k hit.value) ∙ sym (append_assoc (big_endian 2 (length k) ++ k) (big_endian 2 (length hit.value)) hit.value))
          ∙ append_assoc x hit.value y in
          let d : drop f.value s ≡ hit.value ++ y =
          ap (λ (m : ℕ). drop m s) (sym n) ∙ sym (drop-drop (f.value - f.start) f.start s)
          ∙ (cut (drop f.start s) (f.value - f.start) x (hit.value ++ y) e (omega (arith, hit.mid, l))).1 in
          hit.write ∙ sym (ap some ((cut (drop f.value s) (f.end - f.value) hit.value y d (omega (arith, hit.last))).0))

    module _ (gap : ℕ) (e : ◌≡◌ (Err gap) (found_at 0 k (pairs_in s))) where
      miss : Miss 0 k (pairs_in s) gap
      miss = subst (Spotted 0 k (pairs_in s)) (sym e) (spotted k (pairs_in s) 0)

      gap-cut : (take gap s ≡ put_all pair_stream (below k (pairs_in s))) × (drop gap s ≡ put_all pair_stream (above k (pairs_in s)))
      gap-cut =
          cut s gap (put_all pair_stream (below k (pairs_in s))) (put_all pair_stream (above k (pairs_in s)))
          (packed ∙ ap (put_all pair_stream) miss.parts ∙ put-append pair_stream (below k (pairs_in s)) (above k (pairs_in s)))
          (omega (arith, miss.first, length-own (below k (pairs_in s))))

      pub hole-miss : Hole s k gap gap
      hole-miss =
          hole gap gap (omega arith)
          (omega (arith, miss.first, size-own, ap own_size miss.parts, own-size-append (below k (pairs_in s)) (above k (pairs_in s)))) gap-cut.0 gap-cut.1

      pub value-miss : own_write k (pairs_in s) ≡ none
      value-miss = miss.write (overlay-is s w).rise

-- what was found, if anything was
pub found-some : (r : Result Found ℕ) (f : Found) → Some f ≡ result_ok r → Ok f ≡ r
found-some (Ok g) f e = cc
found-some (Err gap) f e = cc

pub found-none : (r : Result Found ℕ) → ◌≡◌ {A = Option Found} None (result_ok r) → (gap : ℕ) × (Err gap ≡ r)
found-none (Ok g) e = cc
found-none (Err gap) e = (gap, refl)

-- how many bytes the entries take after a write
pub size-is : (s k v : Bytes) (start stop : ℕ) → Hole s k start stop → start + (4 + length k + length v) + (length s - stop) ≡ own_size (insert cmp_pair (pair k v) (pairs_in s))
unfolding pair_size
size-is s k v start stop H =
    let a = H.mid in
    let b = H.high in
    omega (arith, length-own (insert cmp_pair (pair k v) (pairs_in s)), ap length (H.filled v), length-append (take start s) (pair_stream.put (pair k v) ++ drop stop s), length-append (pair_stream.put (pair k v)) (drop stop s), pair-long (pair k v), length-drop {A = ℕ} stop s, length-take-le start s (omega arith))

-- among own writes s in the first bytes of their room: what is behind the hole moves to where the new entry ends, and the entry goes in front of it
module _ (l : Bytes) (used : ℕ) (i : used ≤ length l) (s : Bytes) (e : s ≡ take used l) (k v : Bytes) (start stop : ℕ) (H : Hole s k start stop) where
  long : length s ≡ used
  long = ap length e ∙ length-take-le used l i

  pub put_inside : (start ≤ stop) × (stop ≤ used)
  put_inside = (H.mid, rw (← long) H.high)

  pub put_size : start + (4 + length k + length v) + (used - stop) ≡ own_size (insert cmp_pair (pair k v) (pairs_in (take used l)))
  put_size = rw (← e) (omega (arith, size-is s k v start stop H, long))

  pub put-is : start + (4 + length k + length v) ≤ length l
      → over (over l (start + (4 + length k + length v)) (part l stop (used - stop))) start (pair_stream.put (pair k v)) ≡ over l 0 (put_all pair_stream (insert cmp_pair (pair k v) (pairs_in (take used l))))
  unfolding pair_size
  put-is h =
      let x : Bytes = pair_stream.put (pair k v) in
      let t : Bytes = part l stop (used - stop) in
      over-before l (start + (4 + length k + length v)) t h start x (omega (arith, pair-long (pair k v)))
      ∙ over-all l start (x ++ t) (omega (arith, put_inside)) ∙ sym (over-front l (take start l ++ (x ++ t)))
      ∙ ap (over l 0) (
      ap₂ (λ (p q : Bytes). p ++ (x ++ q)) (sym (ap (take start) e ∙ take-take start used l (omega (arith, put_inside)))) (sym (ap (drop stop) e ∙ drop-take stop used l))
      ∙ sym (H.filled v) ∙ ap (λ (t : Bytes). put_all pair_stream (insert cmp_pair (pair k v) (pairs_in t))) e)
