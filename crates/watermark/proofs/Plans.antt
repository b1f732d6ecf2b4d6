-- What the plan of a call does, as the paper has it: each way in which adding or removing a reader ends, what the reply says, and what a slice holds after it.
-- Assumes nothing.
use Prim.Native.Nat.{ℕ, zero, suc, ◌+◌, ◌-◌, ◌≤◌, ◌<◌}
use native.Mathlib.Omega.{arith}
use mathlib.Core.Path.{◌≡◌, refl, sym, ap, ap₂, ◌∙◌, subst}
use mathlib.Core.Bool.{Bool, true, false, ◌&&◌}
use mathlib.Core.List.{List, [], ◌∷◌, ◌++◌, map, map-append, append_assoc}
use lib.ListN.{length, take, drop, length-append, length-drop, length-map, take-append-drop}
use lib.Seq.{paste, length-take-le, take-append-le, drop-append-le, take_at, drop-append-add, drop-drop}
use lib.Dec.{leb, ltb}
use borrow.Author.Tests.{leb-true, ltb-true, ltb-false, lt-ltb, le-leb, lt-leb}
use Rattle.paper.specs.Lists.{all, rises}
use Rattle.paper.specs.Readers.{Row, row, cmp_row, sound_rows, readers_at, add_reader, remove_reader}
use Rattle.paper.specs.Refusals.{unsound, no_room, reader_table, counter_full, no_reader, Try, stop, go, must, ◌>>◌}
use Rattle.paper.specs.Settings.{most_number}
use Rattle.paper.specs.Calls.{try_add_row, try_remove_row}
use Rattle.paper.proofs.Bools.{and_left, and_right}
use Rattle.std.specs.Prelude.{max, Some, None, Result, Ok, Err}
use Rattle.watermark.specs.Table.{as_row, add_refused, remove_refused, sized, written}
use Rattle.watermark.specs.Pass.{pick, below, upto, count_at, found, put_in, moved_down, put_at, counted_more, rowed_more, adding, adding_of, counted_less, removing, removing_of}
use Rattle.watermark.specs.declared.pass.Put.{Put}
use Rattle.watermark.specs.declared.pass.Removing.{Removing}
use Rattle.watermark.specs.declared.reply.AddRefusal.{AddRefusal}
use Rattle.watermark.specs.declared.reply.RemoveRefusal.{RemoveRefusal}
use Rattle.watermark.proofs.Splits.{Split, split}

-- ---- a slice that begins with g and goes on with h
module _ {A : Type 0} (g h : List A) where
  put-hit : (b : ℕ) (x : A) → b < length g → put_in (g ++ h) b (b + 1) x ≡ (take b g ++ (x ∷ drop (b + 1) g)) ++ h
  put-hit b x l =
      let one : b + 1 - b ≡ 1 = omega arith in
      ap (paste (g ++ h) b (x ∷ drop b (g ++ h))) one
      ∙ ap₂ {C = List A} (λ p q. p ++ (x ∷ []) ++ q) (take-append-le b g h (omega arith)) (drop-append-le (b + 1) g h (omega arith))
      ∙ append_assoc (take b g) (x ∷ []) (drop (b + 1) g ++ h) ∙ sym (append_assoc (take b g) (x ∷ drop (b + 1) g) h)

  put-miss : (b n : ℕ) (x : A) → length g ≡ n → b ≤ n → put_in (g ++ h) b (n + 1) x ≡ (take b g ++ (x ∷ drop b g)) ++ drop 1 h
  put-miss b n x e l =
      let k : n + 1 - b ≡ suc (n - b) = omega arith in
      let j : b + suc (n - b) ≡ length g + 1 = omega arith in
      let m : take (n - b) (drop b (g ++ h)) ≡ drop b g =
      ap (take (n - b)) (drop-append-le b g h (omega arith)) ∙ take_at (drop b g) h (n - b) (length-drop b g ∙ omega arith) in
      ap (paste (g ++ h) b (x ∷ drop b (g ++ h))) k
      ∙ ap₂ {C = List A} (λ p q. p ++ (x ∷ q) ++ drop (b + suc (n - b)) (g ++ h)) (take-append-le b g h (omega arith)) m
      ∙ ap (λ (q : List A). take b g ++ (x ∷ drop b g) ++ q) (ap (λ (i : ℕ). drop i (g ++ h)) j ∙ drop-append-add g h 1)

  cut-hit : (b n : ℕ) → length g ≡ n → b < n → moved_down (g ++ h) b (b + 1) n ≡ (take b g ++ drop (b + 1) g) ++ drop (n - 1) (g ++ h)
  cut-hit b n e l =
      let j : b + (n - (b + 1)) ≡ n - 1 = omega arith in
      let m : take (n - (b + 1)) (drop (b + 1) (g ++ h)) ≡ drop (b + 1) g =
      ap (take (n - (b + 1))) (drop-append-le (b + 1) g h (omega arith)) ∙ take_at (drop (b + 1) g) h (n - (b + 1)) (length-drop (b + 1) g ∙ omega arith) in
      ap₂ {C = List A} (λ p q. p ++ q ++ drop (b + (n - (b + 1))) (g ++ h)) (take-append-le b g h (omega arith)) m
      ∙ ap (λ (i : ℕ). take b g ++ drop (b + 1) g ++ drop i (g ++ h)) j

module _ {A B : Type 0} (f : A → B) where
  map-take : (n : ℕ) (l : List A) → map f (take n l) ≡ take n (map f l)
  map-take zero l = refl
  map-take (suc n) [] = refl
  map-take (suc n) (x ∷ l) = ap (λ (r : List B). f x ∷ r) (map-take n l)

  map-drop : (n : ℕ) (l : List A) → map f (drop n l) ≡ drop n (map f l)
  map-drop zero l = refl
  map-drop (suc n) [] = refl
  map-drop (suc n) (x ∷ l) = map-drop n l

  map-put : (b u : ℕ) (x : A) (l : List A) → map f (take b l ++ (x ∷ drop u l)) ≡ take b (map f l) ++ (f x ∷ drop u (map f l))
  map-put b u x l = map-append f (take b l) (x ∷ drop u l) ∙ ap₂ {C = List B} (λ p q. p ++ (f x ∷ q)) (map-take b l) (map-drop u l)

  map-cut : (b u : ℕ) (l : List A) → map f (take b l ++ drop u l) ≡ take b (map f l) ++ drop u (map f l)
  map-cut b u l = map-append f (take b l) (drop u l) ∙ ap₂ {C = List B} (λ p q. p ++ q) (map-take b l) (map-drop u l)

length-put : {A : Type 0} (b u : ℕ) (x : A) (l : List A) → b ≤ length l → u ≤ length l → length (take b l ++ (x ∷ drop u l)) ≡ b + suc (length l - u)
length-put b u x l h k = length-append (take b l) (x ∷ drop u l) ∙ ap₂ (λ (m n : ℕ). m + suc n) (length-take-le b l h) (length-drop u l)

length_cut : {A : Type 0} (b u : ℕ) (l : List A) → b ≤ length l → u ≤ length l → length (take b l ++ drop u l) ≡ b + (length l - u)
length_cut b u l h k = length-append (take b l) (drop u l) ∙ ap₂ (λ (m n : ℕ). m + n) (length-take-le b l h) (length-drop u l)

-- ---- the ways in which adding a reader to a sound table ends
pub data AddWay (room t : ℕ) (rows : List Row) : Result Put AddRefusal → Try (List Row) → Type 0 where
  refused : (why : AddRefusal) → AddWay room t rows (Err why) (stop (add_refused why))
  counted : (b n : ℕ) → b < length rows → length rows ≤ room → AddWay room t rows (Ok (put_at b (b + 1) t n)) (go (take b rows ++ (row t n ∷ drop (b + 1) rows)))
  rowed : (b : ℕ) → b ≤ length rows → length rows < room → AddWay room t rows (Ok (put_at b (length rows + 1) t 1)) (go (take b rows ++ (row t 1 ∷ drop b rows)))

module _ (room t : ℕ) (rows : List Row) where
  meant-so : {p : Result Put AddRefusal} {m n : Try (List Row)} → m ≡ n → AddWay room t rows p n → AddWay room t rows p m
  meant-so {p} {m} {n} g w = subst (λ (x : Try (List Row)). AddWay room t rows p x) (sym g) w

  added_is : Split t rows → add_reader t rows ≡ take (below t rows) rows ++ (row t (readers_at t rows + 1) ∷ drop (upto t rows) rows)
  unfolding add_reader
  added_is s = s.puts (readers_at t rows + 1)

  -- sound rows: what adding comes to
  try-add : sound_rows room rows ≡ true → length (add_reader t rows) ≤ room → readers_at t rows < most_number → try_add_row room rows t ≡ go (add_reader t rows)
  unfolding try_add_row must ◌>>◌
  try-add s l c = simp (s, le-leb (length (add_reader t rows)) room l, lt-ltb (readers_at t rows) most_number c)

  add-full : sound_rows room rows ≡ true → room < length (add_reader t rows) → try_add_row room rows t ≡ stop (no_room reader_table)
  unfolding try_add_row must ◌>>◌
  add-full s l = simp (s, lt-leb (length (add_reader t rows)) room l)

  add-count-full : sound_rows room rows ≡ true → length (add_reader t rows) ≤ room → ltb (readers_at t rows) most_number ≡ false → try_add_row room rows t ≡ stop counter_full
  unfolding try_add_row must ◌>>◌
  add-count-full s l c = simp (s, le-leb (length (add_reader t rows)) room l, c)

  pub add-unsound : sound_rows room rows ≡ false → try_add_row room rows t ≡ stop unsound
  unfolding try_add_row must ◌>>◌
  add-unsound s = simp s

  rising : sound_rows room rows ≡ true → rises cmp_row rows ≡ true
  unfolding sound_rows
  rising s = and_left (rises cmp_row rows) (all (λ r. ltb 0 r.count) rows) (and_right (leb (length rows) room) (rises cmp_row rows && all (λ r. ltb 0 r.count) rows) s)

  all-counted : sound_rows room rows ≡ true → all (λ r. ltb 0 r.count) rows ≡ true
  unfolding sound_rows
  all-counted s = and_right (rises cmp_row rows) (all (λ r. ltb 0 r.count) rows) (and_right (leb (length rows) room) (rises cmp_row rows && all (λ r. ltb 0 r.count) rows) s)

  pub fits : sound_rows room rows ≡ true → length rows ≤ room
  unfolding sound_rows
  fits s = leb-true (length rows) room (and_left (leb (length rows) room) (rises cmp_row rows && all (λ r. ltb 0 r.count) rows) s)

  -- the row of t counts one more
  add-hit : sound_rows room rows ≡ true → Split t rows → below t rows < upto t rows → AddWay room t rows (counted_more (found t rows) (readers_at t rows)) (try_add_row room rows t)
  add-hit s p l =
      let u : upto t rows ≡ below t rows + 1 = omega (arith, p.most) in
      let k : length (add_reader t rows) ≡ length rows = ap length (added_is p) ∙ length-put (below t rows) (upto t rows) (row t (readers_at t rows + 1)) rows (omega (arith, p.inside)) p.inside ∙ omega (arith, p.inside) in
      at u k (ltb (readers_at t rows) most_number) refl
    where
      at : upto t rows ≡ below t rows + 1 → length (add_reader t rows) ≡ length rows → (c : Bool) → ltb (readers_at t rows) most_number ≡ c
          → AddWay room t rows (pick c (Ok (put_at (below t rows) (below t rows + 1) t (readers_at t rows + 1))) (Err AddRefusal.CountFull)) (try_add_row room rows t)
      at u k true e =
          meant-so (try-add s (omega (arith, fits s)) (ltb-true (readers_at t rows) most_number e)
          ∙ ap go (added_is p ∙ ap (λ (i : ℕ). take (below t rows) rows ++ (row t (readers_at t rows + 1) ∷ drop i rows)) u))
          (counted (below t rows) (readers_at t rows + 1) (omega (arith, p.inside)) (fits s))
      at u k false e = meant-so (add-count-full s (omega (arith, fits s)) e) (refused AddRefusal.CountFull)

  -- a row for t, if there is room
  add-miss : sound_rows room rows ≡ true → Split t rows → upto t rows ≤ below t rows → AddWay room t rows (rowed_more (found t rows) (length rows) room) (try_add_row room rows t)
  add-miss s p l =
      let u : upto t rows ≡ below t rows = omega (arith, p.least) in
      let k : length (add_reader t rows) ≡ length rows + 1 = ap length (added_is p) ∙ length-put (below t rows) (upto t rows) (row t (readers_at t rows + 1)) rows (omega (arith, p.inside)) p.inside ∙ omega (arith, p.inside) in
      at u k (ltb (length rows) room) refl
    where
      at : upto t rows ≡ below t rows → length (add_reader t rows) ≡ length rows + 1 → (f : Bool) → ltb (length rows) room ≡ f
          → AddWay room t rows (pick f (Ok (put_at (below t rows) (length rows + 1) t 1)) (Err AddRefusal.Full)) (try_add_row room rows t)
      at u k true e =
          let z : readers_at t rows ≡ 0 = p.absent l in
          meant-so (try-add s (omega (arith, ltb-true (length rows) room e)) (omega arith)
          ∙ ap go (added_is p ∙ ap₂ (λ (i n : ℕ). take (below t rows) rows ++ (row t (n + 1) ∷ drop i rows)) u z))
          (rowed (below t rows) (omega (arith, p.inside)) (ltb-true (length rows) room e))
      at u k false e = meant-so (add-full s (omega (arith, ltb-false (length rows) room e))) (refused AddRefusal.Full)

  pub add-way : sound_rows room rows ≡ true → AddWay room t rows (adding_of (found t rows) (length rows) room) (try_add_row room rows t)
  unfolding adding_of count_at
  add-way s = at (ltb (below t rows) (upto t rows)) refl
    where
      at : (h : Bool) → ltb (below t rows) (upto t rows) ≡ h
          → AddWay room t rows (adding (found t rows) (length rows) room (pick h (Some (readers_at t rows)) None)) (try_add_row room rows t)
      at true g = add-hit s (split t rows (rising s)) (ltb-true (below t rows) (upto t rows) g)
      at false g = add-miss s (split t rows (rising s)) (ltb-false (below t rows) (upto t rows) g)

pub add-stops : {room t : ℕ} {rows : List Row} {why : AddRefusal} {m : Try (List Row)} → AddWay room t rows (Err why) m → m ≡ stop (add_refused why)
add-stops (refused why) = refl

-- the reply says what the paper says
pub add-says : {room t : ℕ} {rows : List Row} {p : Put} {m : Try (List Row)} → AddWay room t rows (Ok p) m → go (max (length rows) p.to) ≡ sized m
add-says {rows = rows} (counted b n l k) =
    let m : max (length rows) (b + 1) ≡ b + suc (length rows - (b + 1)) = omega arith in
    ap go (m ∙ sym (length-put b (b + 1) _ rows (omega arith) (omega arith)))
add-says {rows = rows} (rowed b l k) =
    let m : max (length rows) (length rows + 1) ≡ b + suc (length rows - b) = omega arith in
    ap go (m ∙ sym (length-put b b _ rows (omega arith) (omega arith)))

-- what is put in lies within the room
pub add-within : {room t : ℕ} {rows : List Row} {p : Put} {m : Try (List Row)} → AddWay room t rows (Ok p) m → (p.from < p.to) × (p.to ≤ room)
add-within (counted b n l k) = (omega arith, omega arith)
add-within (rowed b l k) = (omega arith, omega arith)

-- ---- a slice of which the rows' part stands in front has the new rows' part in front afterwards
module _ {A : Type 0} (f : Row → A) (rows : List Row) (zs : List A) (e : map f rows ≡ take (length rows) zs) where
  front : length (take (length rows) zs) ≡ length rows
  front = ap length (sym e) ∙ length-map rows f

  whole : zs ≡ take (length rows) zs ++ drop (length rows) zs
  whole = sym (take-append-drop (length rows) zs)

  part : (b u : ℕ) (x : Row) → take b (take (length rows) zs) ++ (f x ∷ drop u (take (length rows) zs)) ≡ map f (take b rows ++ (x ∷ drop u rows))
  part b u x = sym (map-put f b u x rows ∙ ap (λ (l : List A). take b l ++ (f x ∷ drop u l)) e)

  write-counted : (b : ℕ) (x : Row) → b < length rows
      → put_in zs b (b + 1) (f x) ≡ map f (take b rows ++ (x ∷ drop (b + 1) rows)) ++ drop (length (take b rows ++ (x ∷ drop (b + 1) rows))) zs
  write-counted b x l =
      let n : length rows ≡ length (take b rows ++ (x ∷ drop (b + 1) rows)) = sym (length-put b (b + 1) x rows (omega arith) (omega arith) ∙ omega arith) in
      ap (λ (z : List A). put_in z b (b + 1) (f x)) whole ∙ put-hit (take (length rows) zs) (drop (length rows) zs) b (f x) (omega (arith, front))
      ∙ ap₂ {C = List A} (λ p k. p ++ drop k zs) (part b (b + 1) x) n

  write-rowed : (b : ℕ) (x : Row) → b ≤ length rows
      → put_in zs b (length rows + 1) (f x) ≡ map f (take b rows ++ (x ∷ drop b rows)) ++ drop (length (take b rows ++ (x ∷ drop b rows))) zs
  write-rowed b x l =
      let n : length rows + 1 ≡ length (take b rows ++ (x ∷ drop b rows)) = sym (length-put b b x rows (omega arith) (omega arith) ∙ omega arith) in
      ap (λ (z : List A). put_in z b (length rows + 1) (f x)) whole ∙ put-miss (take (length rows) zs) (drop (length rows) zs) b (length rows) (f x) front l
      ∙ ap₂ {C = List A} (λ p q. p ++ q) (part b b x) (drop-drop 1 (length rows) zs ∙ ap (λ (k : ℕ). drop k zs) n)

  write-gone : (b : ℕ) → b < length rows → moved_down zs b (b + 1) (length rows) ≡ map f (take b rows ++ drop (b + 1) rows) ++ drop (length (take b rows ++ drop (b + 1) rows)) zs
  write-gone b l =
      let n : length rows - 1 ≡ length (take b rows ++ drop (b + 1) rows) = sym (length_cut b (b + 1) rows (omega arith) (omega arith) ∙ omega arith) in
      ap (λ (z : List A). moved_down z b (b + 1) (length rows)) whole ∙ cut-hit (take (length rows) zs) (drop (length rows) zs) b (length rows) front l
      ∙ ap₂ {C = List A} (λ p q. p ++ q) (sym (map-cut f b (b + 1) rows ∙ ap (λ (m : List A). take b m ++ drop (b + 1) m) e)) (ap (drop (length rows - 1)) (sym whole) ∙ ap (λ (k : ℕ). drop k zs) n)

pub add-writes : {A : Type 0} (f : Row → A) {room t : ℕ} {rows : List Row} (zs : List A) {p : Put} {m : Try (List Row)} → AddWay room t rows (Ok p) m
    → (length rows ≤ room → map f rows ≡ take (length rows) zs) → put_in zs p.from p.to (f (as_row p.row)) ≡ written f m zs
unfolding written
add-writes f {rows = rows} zs (counted b n l i) k = write-counted f rows zs (k i) b _ l
add-writes f {rows = rows} zs (rowed b l i) k = write-rowed f rows zs (k (omega arith)) b _ l

-- ---- the ways in which removing a reader from a sound table ends
pub data RemoveWay (room t : ℕ) (rows : List Row) : Result Removing RemoveRefusal → Try (List Row) → Type 0 where
  missed : (why : RemoveRefusal) → RemoveWay room t rows (Err why) (stop (remove_refused why))
  fewer : (b n : ℕ) → b < length rows → length rows ≤ room
      → RemoveWay room t rows (Ok (Removing.Fewer (put_at b (b + 1) t n))) (go (take b rows ++ (row t n ∷ drop (b + 1) rows)))
  gone : (b : ℕ) → b < length rows → length rows ≤ room → RemoveWay room t rows (Ok (Removing.Gone b)) (go (take b rows ++ drop (b + 1) rows))

module _ (room t : ℕ) (rows : List Row) where
  means : {p : Result Removing RemoveRefusal} {m n : Try (List Row)} → m ≡ n → RemoveWay room t rows p n → RemoveWay room t rows p m
  means {p} {m} {n} g w = subst (λ (x : Try (List Row)). RemoveWay room t rows p x) (sym g) w

  pub remove-unsound : sound_rows room rows ≡ false → try_remove_row room rows t ≡ stop unsound
  unfolding try_remove_row must ◌>>◌
  remove-unsound s = simp s

  remove-missing : sound_rows room rows ≡ true → readers_at t rows ≡ 0 → try_remove_row room rows t ≡ stop no_reader
  unfolding try_remove_row must ◌>>◌
  remove-missing s z = simp (s, z)

  try-remove : sound_rows room rows ≡ true → 0 < readers_at t rows → try_remove_row room rows t ≡ go (remove_reader t rows)
  unfolding try_remove_row must ◌>>◌
  try-remove s l = simp (s, lt-ltb 0 (readers_at t rows) l)

  removed-last : Split t rows → leb (readers_at t rows) 1 ≡ true → remove_reader t rows ≡ take (below t rows) rows ++ drop (upto t rows) rows
  unfolding remove_reader
  removed-last p e = simp e p.takes

  removed-one : Split t rows → leb (readers_at t rows) 1 ≡ false → remove_reader t rows ≡ take (below t rows) rows ++ (row t (readers_at t rows - 1) ∷ drop (upto t rows) rows)
  unfolding remove_reader
  removed-one p e = simp e (p.puts (readers_at t rows - 1))

  remove-hit : sound_rows room rows ≡ true → Split t rows → below t rows < upto t rows → RemoveWay room t rows (Ok (counted_less (found t rows) (readers_at t rows))) (try_remove_row room rows t)
  remove-hit s p l =
      let u : upto t rows ≡ below t rows + 1 = omega (arith, p.most) in
      at u (leb (readers_at t rows) 1) refl
    where
      at : upto t rows ≡ below t rows + 1 → (c : Bool) → leb (readers_at t rows) 1 ≡ c
          → RemoveWay room t rows (Ok (pick c (Removing.Gone (below t rows)) (Removing.Fewer (put_at (below t rows) (below t rows + 1) t (readers_at t rows - 1))))) (try_remove_row room rows t)
      at u true e =
          means (try-remove s (p.present l (all-counted room t rows s)) ∙ ap go (removed-last p e ∙ ap (λ (i : ℕ). take (below t rows) rows ++ drop i rows) u))
          (gone (below t rows) (omega (arith, p.inside)) (fits room t rows s))
      at u false e =
          means (try-remove s (p.present l (all-counted room t rows s)) ∙ ap go (removed-one p e ∙ ap (λ (i : ℕ). take (below t rows) rows ++ (row t (readers_at t rows - 1) ∷ drop i rows)) u))
          (fewer (below t rows) (readers_at t rows - 1) (omega (arith, p.inside)) (fits room t rows s))

  pub remove-way : sound_rows room rows ≡ true → RemoveWay room t rows (removing_of (found t rows)) (try_remove_row room rows t)
  unfolding removing_of count_at
  remove-way s = at (ltb (below t rows) (upto t rows)) refl
    where
      at : (h : Bool) → ltb (below t rows) (upto t rows) ≡ h → RemoveWay room t rows (removing (found t rows) (pick h (Some (readers_at t rows)) None)) (try_remove_row room rows t)
      at true g = remove-hit s (split t rows (rising room t rows s)) (ltb-true (below t rows) (upto t rows) g)
      at false g =
          means (remove-missing s ((split t rows (rising room t rows s)).absent (ltb-false (below t rows) (upto t rows) g))) (missed RemoveRefusal.Missing)

pub remove-stops : {room t : ℕ} {rows : List Row} {why : RemoveRefusal} {m : Try (List Row)} → RemoveWay room t rows (Err why) m → m ≡ stop (remove_refused why)
remove-stops (missed why) = refl

-- a row that counts one less
pub fewer-writes : {A : Type 0} (f : Row → A) {room t : ℕ} {rows : List Row} (zs : List A) {p : Put} {m : Try (List Row)} → RemoveWay room t rows (Ok (Removing.Fewer p)) m
    → (length rows ≤ room → map f rows ≡ take (length rows) zs) → put_in zs p.from p.to (f (as_row p.row)) ≡ written f m zs
unfolding written
fewer-writes f {rows = rows} zs (fewer b n l i) k = write-counted f rows zs (k i) b _ l

pub fewer-says : {room t : ℕ} {rows : List Row} {p : Put} {m : Try (List Row)} → RemoveWay room t rows (Ok (Removing.Fewer p)) m → go (length rows) ≡ sized m
fewer-says {rows = rows} (fewer b n l k) =
    let m : length rows ≡ b + suc (length rows - (b + 1)) = omega arith in
    ap go (m ∙ sym (length-put b (b + 1) _ rows (omega arith) (omega arith)))

pub fewer-within : {room t : ℕ} {rows : List Row} {p : Put} {m : Try (List Row)} → RemoveWay room t rows (Ok (Removing.Fewer p)) m → (p.from < p.to) × (p.to ≤ room)
fewer-within (fewer b n l k) = (omega arith, omega arith)

-- a row that goes
pub gone-writes : {A : Type 0} (f : Row → A) {room t : ℕ} {rows : List Row} (zs : List A) {b : ℕ} {m : Try (List Row)} → RemoveWay room t rows (Ok (Removing.Gone b)) m
    → (length rows ≤ room → map f rows ≡ take (length rows) zs) → moved_down zs b (b + 1) (length rows) ≡ written f m zs
unfolding written
gone-writes f {rows = rows} zs (gone b l i) k = write-gone f rows zs (k i) b l

pub gone-says : {room t : ℕ} {rows : List Row} {b : ℕ} {m : Try (List Row)} → RemoveWay room t rows (Ok (Removing.Gone b)) m → go (length rows - 1) ≡ sized m
gone-says {rows = rows} (gone b l k) =
    let m : length rows - 1 ≡ b + (length rows - (b + 1)) = omega arith in
    ap go (m ∙ sym (length_cut b (b + 1) rows (omega arith) (omega arith)))

pub gone-within : {room t : ℕ} {rows : List Row} {b : ℕ} {m : Try (List Row)} → RemoveWay room t rows (Ok (Removing.Gone b)) m → (b < length rows) × (length rows ≤ room)
gone-within (gone b l k) = (l, k)
