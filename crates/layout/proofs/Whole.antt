-- A store written whole, over any bytes: the bytes of each part, one after the other; and places that are all free.
-- Assumes nothing.
use Prim.Native.Nat.{ℕ, zero, suc, ◌+◌, ◌*◌, ◌≤◌}
use native.Mathlib.Omega.{arith}
use native.Mathlib.Nat.{zero-mul, suc-mul}
use mathlib.Core.Path.{◌≡◌, refl, sym, ap, ap₂, ◌∙◌}
use mathlib.Core.List.{List, [], ◌∷◌, ◌++◌, append-nil}
use mathlib.Core.Option.{Option, none}
use lib.ListN.{length, take, drop, replicate, length-drop, take-append-drop}
use lib.Seq.{length-take-le}
use lib.Dec.{lit<}
use Rattle.paper.specs.Keys.{Bytes}
use Rattle.paper.specs.Lists.{join}
use Rattle.paper.specs.Image.{big_endian}
use Rattle.paper.specs.Settings.{Settings, state_length}
use Rattle.paper.specs.Store.{Txn, Store, frozen_of}
use Rattle.paper.proofs.ImageLaws.{length-big_endian}
use Rattle.raw.specs.Bytes.{part, over}
use Rattle.raw.proofs.Parts.{length_part, part-drop, part-all}
use Rattle.raw.proofs.Over.{over-left, over-right, length_over, over-part}
use Rattle.raw.proofs.Pieces.{start, lay-whole, part_in}
use Rattle.layout.specs.Codec.{Slot, num, room, rows, write_rows}
use Rattle.layout.specs.Offsets.{start_clock, start_counter, start_rows, width_rows, start_history, width_history, start_active, width_active, start_area, width_area, start_places, stride, place_at, clock_part, counter_part, rows_part, history_part, active_part, area_part, places_part, freed}
use Rattle.layout.specs.Layout.{settings_stream, listed, row_stream, commit_stream, version_stream, images_stream, settings_slot, number_slot, rows_slot, history_slot, active_slot, frozen_slot, place_slot, places_slot, write_store}
use Rattle.layout.proofs.LayoutLaws.{Fits, place-width}
use Rattle.layout.proofs.Sizes.{settings-put-long}
use Rattle.layout.proofs.Sides.{piece-laid, over-inner}
use Rattle.layout.proofs.Lies.{written-join}
use Rattle.layout.proofs.Places.{place-free}
use Rattle.layout.proofs.Changes.{places-end, lengths}

-- the bytes as their parts
parts_join : (st : Settings) (b : Bytes)
    → join (take start_clock b ∷ clock_part b ∷ counter_part b ∷ rows_part st b ∷ history_part st b ∷ active_part st b ∷ area_part st b ∷ places_part st b ∷ drop (state_length st) b ∷ []) ≡ b
unfolding join
parts_join st b =
    let n : ℕ = st.transactions * stride st in
    let e : drop (state_length st) b ++ [] ≡ drop (start_places st + n) b = append-nil _ ∙ ap (λ (k : ℕ). drop k b) (sym (places-end st)) in
    ap (λ (u : Bytes). take start_clock b ++ (clock_part b ++ (counter_part b ++ (rows_part st b ++ (history_part st b ++ (active_part st b ++ (area_part st b ++ (places_part st b ++ u)))))))) e
    ∙ ap (λ (u : Bytes). take start_clock b ++ (clock_part b ++ (counter_part b ++ (rows_part st b ++ (history_part st b ++ (active_part st b ++ (area_part st b ++ u))))))) (part-drop b (start_places st) n)
    ∙ ap (λ (u : Bytes). take start_clock b ++ (clock_part b ++ (counter_part b ++ (rows_part st b ++ (history_part st b ++ (active_part st b ++ u)))))) (part-drop b (start_area st) (width_area st))
    ∙ ap (λ (u : Bytes). take start_clock b ++ (clock_part b ++ (counter_part b ++ (rows_part st b ++ (history_part st b ++ u))))) (part-drop b (start_active st) (width_active st))
    ∙ ap (λ (u : Bytes). take start_clock b ++ (clock_part b ++ (counter_part b ++ (rows_part st b ++ u)))) (part-drop b (start_history st) (width_history st))
    ∙ ap (λ (u : Bytes). take start_clock b ++ (clock_part b ++ (counter_part b ++ u))) (part-drop b start_rows (width_rows st))
    ∙ ap (λ (u : Bytes). take start_clock b ++ (clock_part b ++ u)) (part-drop b start_counter 8)
    ∙ ap (λ (u : Bytes). take start_clock b ++ u) (part-drop b start_clock 8)
    ∙ take-append-drop start_clock b

-- settings, clock, counter, rows, history, active run and images, each where it begins
abbrev pub front : Store → Bytes → Bytes
front s b =
    let st = s.settings in
    over (over (over (over (over (over (over b 0 (settings_stream.put st)) start_clock (big_endian 8 s.clock)) start_counter (big_endian 8 s.counter)) start_rows ((listed row_stream).put s.readers)) (start_history st) ((listed commit_stream).put s.history)) (start_active st) ((listed version_stream).put s.active)) (start_area st) (images_stream.put (frozen_of s))

module _ (s : Store) (b : Bytes) (l : state_length s.settings ≤ length b) (f : Fits s) where
  abbrev st : Settings
  st = s.settings

  -- the parts in front of the places
  front-laid : front s b
      ≡ join (settings_slot.write st (take start_clock b) ∷ number_slot.write s.clock (clock_part b) ∷ number_slot.write s.counter (counter_part b) ∷ (rows_slot st).write s.readers (rows_part st b) ∷ (history_slot st).write s.history (history_part st b) ∷ (active_slot st).write s.active (active_part st b) ∷ (frozen_slot st).write (frozen_of s) (area_part st b) ∷ places_part st b ∷ drop (state_length st) b ∷ [])
  unfolding settings_slot number_slot num rows_slot history_slot active_slot frozen_slot room
  front-laid =
      let g = lengths s b l f in
      let e = places-end st in
      let x₀ : Bytes = settings_slot.write st (take start_clock b) in
      let x₁ : Bytes = number_slot.write s.clock (clock_part b) in
      let x₂ : Bytes = number_slot.write s.counter (counter_part b) in
      let x₃ : Bytes = (rows_slot st).write s.readers (rows_part st b) in
      let x₄ : Bytes = (history_slot st).write s.history (history_part st b) in
      let x₅ : Bytes = (active_slot st).write s.active (active_part st b) in
      let p₀ : Bytes = take start_clock b in
      let p₁ : Bytes = clock_part b in
      let p₂ : Bytes = counter_part b in
      let p₃ : Bytes = rows_part st b in
      let p₄ : Bytes = history_part st b in
      let p₅ : Bytes = active_part st b in
      let p₆ : Bytes = area_part st b in
      let p₇ : Bytes = places_part st b in
      let r : Bytes = drop (state_length st) b in
      let l₀ : length p₀ ≡ start_clock = length-take-le start_clock b (omega arith) in
      let l₁ : length p₁ ≡ 8 = length_part b start_clock 8 (omega arith) in
      let l₂ : length p₂ ≡ 8 = length_part b start_counter 8 (omega arith) in
      let l₃ : length p₃ ≡ width_rows st = length_part b start_rows (width_rows st) (omega arith) in
      let l₄ : length p₄ ≡ width_history st = length_part b (start_history st) (width_history st) (omega arith) in
      let l₅ : length p₅ ≡ width_active st = length_part b (start_active st) (width_active st) (omega arith) in
      let l₆ : length p₆ ≡ width_area st = length_part b (start_area st) (width_area st) (omega arith) in
      let v₀ : Bytes = settings_stream.put st in
      let v₁ : Bytes = big_endian 8 s.clock in
      let v₂ : Bytes = big_endian 8 s.counter in
      let v₃ : Bytes = (listed row_stream).put s.readers in
      let v₄ : Bytes = (listed commit_stream).put s.history in
      let v₅ : Bytes = (listed version_stream).put s.active in
      let v₆ : Bytes = images_stream.put (frozen_of s) in
      let s₀ = ap (λ (u : Bytes). over u 0 v₀) (sym (parts_join st b)) ∙ sym (piece-laid (p₀ ∷ p₁ ∷ p₂ ∷ p₃ ∷ p₄ ∷ p₅ ∷ p₆ ∷ p₇ ∷ r ∷ []) 0 0 v₀ p₀ (lit< tt) refl (omega (arith, settings-put-long st)) refl) in
      let s₁ = ap (λ (u : Bytes). over u start_clock v₁) s₀ ∙ sym (piece-laid (x₀ ∷ p₁ ∷ p₂ ∷ p₃ ∷ p₄ ∷ p₅ ∷ p₆ ∷ p₇ ∷ r ∷ []) 1 start_clock v₁ p₁ (lit< tt) refl (omega (arith, length-big_endian 8 s.clock)) (omega (arith, g.settings))) in
      let s₂ = ap (λ (u : Bytes). over u start_counter v₂) s₁ ∙ sym (piece-laid (x₀ ∷ x₁ ∷ p₂ ∷ p₃ ∷ p₄ ∷ p₅ ∷ p₆ ∷ p₇ ∷ r ∷ []) 2 start_counter v₂ p₂ (lit< tt) refl (omega (arith, length-big_endian 8 s.counter)) (omega (arith, g.settings, g.clock))) in
      let s₃ = ap (λ (u : Bytes). over u start_rows v₃) s₂ ∙ sym (piece-laid (x₀ ∷ x₁ ∷ x₂ ∷ p₃ ∷ p₄ ∷ p₅ ∷ p₆ ∷ p₇ ∷ r ∷ []) 3 start_rows v₃ p₃ (lit< tt) refl (omega (arith, f.readers.1)) (omega (arith, g.settings, g.clock, g.counter))) in
      let s₄ = ap (λ (u : Bytes). over u (start_history st) v₄) s₃ ∙ sym (piece-laid (x₀ ∷ x₁ ∷ x₂ ∷ x₃ ∷ p₄ ∷ p₅ ∷ p₆ ∷ p₇ ∷ r ∷ []) 4 (start_history st) v₄ p₄ (lit< tt) refl (omega (arith, f.history.1)) (omega (arith, g.settings, g.clock, g.counter, g.readers))) in
      let s₅ = ap (λ (u : Bytes). over u (start_active st) v₅) s₄ ∙ sym (piece-laid (x₀ ∷ x₁ ∷ x₂ ∷ x₃ ∷ x₄ ∷ p₅ ∷ p₆ ∷ p₇ ∷ r ∷ []) 5 (start_active st) v₅ p₅ (lit< tt) refl (omega (arith, f.active.1)) (omega (arith, g.settings, g.clock, g.counter, g.readers, g.history))) in
      ap (λ (u : Bytes). over u (start_area st) v₆) s₅
      ∙ sym (piece-laid (x₀ ∷ x₁ ∷ x₂ ∷ x₃ ∷ x₄ ∷ x₅ ∷ p₆ ∷ p₇ ∷ r ∷ []) 6 (start_area st) v₆ p₆ (lit< tt) refl (omega (arith, f.frozen.1)) (omega (arith, g.settings, g.clock, g.counter, g.readers, g.history, g.active)))

  -- and the places behind them
  pub write-whole : write_store s b ≡ over (front s b) (start_places st) ((places_slot st).write s.places (places_part st b))
  write-whole =
      let g = lengths s b l f in
      let e = places-end st in
      let m : length (places_part st b) ≡ st.transactions * stride st = length_part b (start_places st) (st.transactions * stride st) (omega arith) in
      let xs : List Bytes = settings_slot.write st (take start_clock b) ∷ number_slot.write s.clock (clock_part b) ∷ number_slot.write s.counter (counter_part b) ∷ (rows_slot st).write s.readers (rows_part st b) ∷ (history_slot st).write s.history (history_part st b) ∷ (active_slot st).write s.active (active_part st b) ∷ (frozen_slot st).write (frozen_of s) (area_part st b) ∷ places_part st b ∷ drop (state_length st) b ∷ [] in
      written-join s b
      ∙ sym (lay-whole xs 7 (start_places st) ((places_slot st).write s.places (places_part st b)) (lit< tt) (g.places ∙ sym m) (omega (arith, g.settings, g.clock, g.counter, g.readers, g.history, g.active, g.frozen)))
      ∙ ap (λ (u : Bytes). over u (start_places st) ((places_slot st).write s.places (places_part st b))) (sym front-laid)

  -- what stands there is still as it was
  front-places : part (front s b) (start_places st) (st.transactions * stride st) ≡ places_part st b
  front-places =
      let g = lengths s b l f in
      let e = places-end st in
      let n : ℕ = st.transactions * stride st in
      let m : length (places_part st b) ≡ n = length_part b (start_places st) n (omega arith) in
      let xs : List Bytes = settings_slot.write st (take start_clock b) ∷ number_slot.write s.clock (clock_part b) ∷ number_slot.write s.counter (counter_part b) ∷ (rows_slot st).write s.readers (rows_part st b) ∷ (history_slot st).write s.history (history_part st b) ∷ (active_slot st).write s.active (active_part st b) ∷ (frozen_slot st).write (frozen_of s) (area_part st b) ∷ places_part st b ∷ drop (state_length st) b ∷ [] in
      let a : start_places st ≡ start xs 7 + 0 = omega (arith, g.settings, g.clock, g.counter, g.readers, g.history, g.active, g.frozen) in
      ap₂ (λ (u : Bytes) (j : ℕ). part u j n) front-laid a ∙ part_in xs 7 0 n (lit< tt) (omega arith) ∙ part-all (places_part st b) n m

  front_long : length (front s b) ≡ length b
  front_long =
      let e = places-end st in
      let b₀ : Bytes = over b 0 (settings_stream.put st) in
      let b₁ : Bytes = over b₀ start_clock (big_endian 8 s.clock) in
      let b₂ : Bytes = over b₁ start_counter (big_endian 8 s.counter) in
      let b₃ : Bytes = over b₂ start_rows ((listed row_stream).put s.readers) in
      let b₄ : Bytes = over b₃ (start_history st) ((listed commit_stream).put s.history) in
      let b₅ : Bytes = over b₄ (start_active st) ((listed version_stream).put s.active) in
      let w₀ : length b₀ ≡ length b = length_over b 0 (settings_stream.put st) (omega (arith, settings-put-long st)) in
      let w₁ : length b₁ ≡ length b = length_over b₀ start_clock (big_endian 8 s.clock) (omega (arith, length-big_endian 8 s.clock)) ∙ w₀ in
      let w₂ : length b₂ ≡ length b = length_over b₁ start_counter (big_endian 8 s.counter) (omega (arith, length-big_endian 8 s.counter)) ∙ w₁ in
      let w₃ : length b₃ ≡ length b = length_over b₂ start_rows ((listed row_stream).put s.readers) (omega (arith, f.readers.1)) ∙ w₂ in
      let w₄ : length b₄ ≡ length b = length_over b₃ (start_history st) ((listed commit_stream).put s.history) (omega (arith, f.history.1)) ∙ w₃ in
      let w₅ : length b₅ ≡ length b = length_over b₄ (start_active st) ((listed version_stream).put s.active) (omega (arith, f.active.1)) ∙ w₄ in
      length_over b₅ (start_area st) (images_stream.put (frozen_of s)) (omega (arith, f.frozen.1)) ∙ w₅

-- ---- slots that are all written alike, by bytes in front of each
module _ {A : Type 0} (S : Slot A) (d : A) (z : Bytes) (alike : (p : Bytes) → length p ≡ S.width → S.write d p ≡ over p 0 z) (k : length z ≤ S.width) where
  rows_more : (n : ℕ) (q : Bytes) → suc n * S.width ≤ length q → write_rows S (replicate (suc n) d) q ≡ over (write_rows S (replicate n d) q) (n * S.width) z
  unfolding write_rows
  rows_more zero q h =
      let w : ℕ = S.width in
      let m : length (take w q) ≡ w = length-take-le w q (omega (arith, suc-mul 0 w)) in
      let e : 0 * w ≡ 0 = zero-mul w in
      ap (λ (u : Bytes). u ++ drop w q) (alike (take w q) m)
      ∙ sym (over-left (take w q) (drop w q) 0 z (omega arith))
      ∙ ap₂ (λ (u : Bytes) (j : ℕ). over u j z) (take-append-drop w q) (sym e)
  rows_more (suc n) q h =
      let w : ℕ = S.width in
      let m : length (take w q) ≡ w = length-take-le w q (omega (arith, suc-mul (suc n) w)) in
      let a : Bytes = S.write d (take w q) in
      let c : length a ≡ w = ap length (alike (take w q) m) ∙ length_over (take w q) 0 z (omega arith) ∙ m in
      let e : length a + n * w ≡ suc n * w = omega (arith, suc-mul n w) in
      let r : Bytes = write_rows S (replicate n d) (drop w q) in
      ap (λ (u : Bytes). a ++ u) (rows_more n (drop w q) (rw length-drop (omega (arith, suc-mul (suc n) w))))
      ∙ sym (over-right a r (n * w) z)
      ∙ ap (λ (j : ℕ). over (a ++ r) j z) e

  rows_long : (n : ℕ) (q : Bytes) → n * S.width ≤ length q → length (write_rows S (replicate n d) q) ≡ length q
  rows_long zero q h = unfold write_rows in refl
  rows_long (suc n) q h =
      let w : ℕ = S.width in
      let i : length (write_rows S (replicate n d) q) ≡ length q = rows_long n q (omega (arith, suc-mul n w)) in
      ap length (rows_more n q h) ∙ length_over (write_rows S (replicate n d) q) (n * w) z (omega (arith, suc-mul n w)) ∙ i

-- ---- places that are all free
module _ (st : Settings) where
  none_alike : (p : Bytes) → length p ≡ (place_slot st).width → (place_slot st).write none p ≡ over p 0 (big_endian 8 0)
  none_alike p l = place-free st p (l ∙ place-width st)

  tag-short : length (big_endian 8 0) ≤ (place_slot st).width
  tag-short = omega (arith, length-big_endian 8 0, place-width st)

  freed-laid : (n m : ℕ) (W : Bytes) → n * stride st ≤ m → start_places st + m ≤ length W
      → over W (start_places st) (write_rows (place_slot st) (replicate n none) (part W (start_places st) m)) ≡ freed st n W
  unfolding freed write_rows
  freed-laid zero m W h l = over-part W (start_places st) m l
  freed-laid (suc n) m W h l =
      let S : Slot (Option Txn) = place_slot st in
      let z : Bytes = big_endian 8 0 in
      let p : Bytes = part W (start_places st) m in
      let w = place-width st in
      let c : length p ≡ m = length_part W (start_places st) m l in
      let j : suc n * S.width ≡ suc n * stride st = ap (λ (i : ℕ). suc n * i) w in
      let i : n * S.width ≡ n * stride st = ap (λ (i : ℕ). n * i) w in
      let a = suc-mul n (stride st) in
      let q : Bytes = write_rows S (replicate n none) p in
      let v : length q ≡ m = rows_long S none z none_alike tag-short n p (omega arith) ∙ c in
      ap (over W (start_places st)) (rows_more S none z none_alike tag-short n p (omega arith) ∙ ap (λ (y : ℕ). over q y z) i)
      ∙ over-inner W q z (start_places st) (n * stride st) (omega arith) (omega (arith, length-big_endian 8 0))
      ∙ ap (λ (u : Bytes). over u (place_at st n) z) (freed-laid n m W (omega arith) l)

-- a store without transactions
pub write-free-places : (s : Store) (b : Bytes) → state_length s.settings ≤ length b → Fits s → s.places ≡ replicate s.settings.transactions none
    → write_store s b ≡ freed s.settings s.settings.transactions (front s b)
unfolding places_slot rows
write-free-places s b l f e =
    let st : Settings = s.settings in
    let n : ℕ = st.transactions in
    let W : Bytes = front s b in
    write-whole s b l f
    ∙ ap₂ (λ (ps : List (Option Txn)) (q : Bytes). over W (start_places st) (write_rows (place_slot st) ps q)) e (sym (front-places s b l f))
    ∙ freed-laid st n (n * stride st) W (omega arith) (omega (arith, places-end st, front_long s b l f))
