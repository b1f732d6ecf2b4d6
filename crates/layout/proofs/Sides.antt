-- Slots side by side in some bytes: what stands at each of them, and what one of them written anew changes.
-- Assumes nothing.
use Prim.Native.Nat.{ℕ, zero, suc, ◌+◌, ◌*◌, ◌<◌, ◌≤◌}
use native.Mathlib.Omega.{arith}
use native.Mathlib.Nat.{zero-mul, suc-mul, not-suc-le-zero, add-sub_cancel_left, le-add_right}
use mathlib.Core.Path.{◌≡◌, refl, sym, ap, ap₂, ◌∙◌, subst}
use mathlib.Core.Bool.{true}
use mathlib.Core.List.{List, [], ◌∷◌, ◌++◌, append_assoc, append-nil}
use mathlib.Core.Option.{Option, none, some, none-ne-some, some-injective}
use lib.ListN.{length, take, drop, get_or, set, length-append, length-drop, take-append-drop, drop_of_length-le}
use lib.Seq.{length-take-le, drop-drop, take_at}
use Rattle.paper.specs.Keys.{Bytes, octets}
use Rattle.paper.specs.Lists.{join}
use Rattle.paper.specs.Image.{big_endian}
use Rattle.paper.proofs.ImageLaws.{length-big_endian}
use Rattle.raw.specs.Bytes.{part, over}
use Rattle.raw.proofs.Parts.{length_part, drop-part, take_part, part-part, part_right}
use Rattle.raw.proofs.Over.{over-part, length_over, part-over-after, over-after, over-front, over-left, over-right}
use Rattle.raw.proofs.Pieces.{start, lay-front}
use Rattle.raw.proofs.Octets.{octets-take, octets-drop, octets-part}
use Rattle.layout.specs.Codec.{Stream, Whole, sized, Slot, room, pair_of, beside, cons_of, read_rows, write_rows, rows}
use Rattle.layout.proofs.Slots.{SlotLaws, kept-as, rows-laws}

-- the front of a piece written anew
pub piece-laid : (xs : List Bytes) (i at : ℕ) (x q : Bytes) → i < length xs → get_or xs i [] ≡ q → length x ≤ length q → at ≡ start xs i
    → join (set xs i (x ++ drop (length x) q)) ≡ over (join xs) at x
piece-laid xs i at x q l e k h =
    ap (λ (u : Bytes). join (set xs i (x ++ drop (length x) u))) (sym e) ∙ sym (lay-front xs i at x l (subst (λ (u : Bytes). length x ≤ length u) (sym e) k) h)

-- what is written in a part is written in the whole
pub over-inner : (W p x : Bytes) (at j : ℕ) → at + length p ≤ length W → j + length x ≤ length p → over W at (over p j x) ≡ over (over W at p) (at + j) x
unfolding over
over-inner W p x at j m n =
    let r : Bytes = drop (at + length p) W in
    let a : length (take at W) ≡ at = length-take-le at W (omega arith) in
    let w : length (over p j x) ≡ length p = length_over p j x n in
    ap (λ (u : ℕ). take at W ++ (over p j x ++ drop (at + u) W)) w
    ∙ ap (λ (u : Bytes). take at W ++ u) (sym (over-left p r j x n))
    ∙ sym (over-right (take at W) (p ++ r) j x)
    ∙ ap (λ (u : ℕ). over (take at W ++ (p ++ r)) (u + j) x) a

-- more of what stands in some bytes, with another number in front: the number is written anew, and the new bytes behind the others
pub grown : (b : Bytes) (at : ℕ) (n f y : Bytes) → length n ≡ 8 → part b (at + 8) (length f) ≡ f → at + (8 + length f) ≤ length b
    → over b at (n ++ (f ++ y)) ≡ over (over b at n) (at + (8 + length f)) y
grown b at n f y l e k =
    let m : at + 8 ≡ at + length n = omega arith in
    let c : Bytes = over b at n in
    let w : length c ≡ length b = length_over b at n (omega arith) in
    let g : part c (at + 8) (length f) ≡ f = part-over-after b at n (omega arith) (at + 8) (length f) (omega arith) ∙ e in
    let h : over c (at + 8) f ≡ c = ap (over c (at + 8)) (sym g) ∙ over-part c (at + 8) (length f) (omega arith) in
    let z : at + (8 + length f) ≡ at + length (n ++ f) = omega (arith, length-append n f) in
    ap (over b at) (sym (append_assoc n f y))
    ∙ sym (over-after b at (n ++ f) (omega arith) (at + (8 + length f)) y z)
    ∙ ap (λ (u : Bytes). over u (at + (8 + length f)) y) (sym (over-after b at n (omega arith) (at + 8) f m) ∙ h)

-- the bytes q are those of a slot, and hold the value a: they read as a, and a written over them changes nothing
pub record Has {A : Type 0} (S : Slot A) (q : Bytes) (a : A) : Type 0 where
  pub read : S.read q ≡ some a
  pub long : length q ≡ S.width
  pub kept : S.write a q ≡ q
  pub bytes : octets q ≡ true

pub has : {A : Type 0} {S : Slot A} {Ok : A → Type 0} → SlotLaws S Ok → (q : Bytes) (a : A) → octets q ≡ true → length q ≡ S.width → S.read q ≡ some a → Has S q a
has L q a y l e = record { read = e; long = l; kept = (kept-as L q a y l e).0; bytes = y }

-- ---- room for a stream: the value stands in front
module _ {A : Type 0} (w : ℕ) (S : Stream A) (q : Bytes) (a : A) where
  pub room-put : Has (room w S) q a → q ≡ S.put a ++ drop (length (S.put a)) q
  unfolding room
  room-put h = sym h.kept

  pub room-front : Has (room w S) q a → take (length (S.put a)) q ≡ S.put a
  room-front h = ap (take (length (S.put a))) (room-put h) ∙ take_at (S.put a) (drop (length (S.put a)) q) (length (S.put a)) refl

  -- and what is written is written there
  pub room-over : (room w S).write a q ≡ over q 0 (S.put a)
  unfolding room
  room-over = sym (over-front q (S.put a))

  -- all of it, where the value takes all of it
  pub room_whole : length q ≤ length (S.put a) → (room w S).write a q ≡ S.put a
  unfolding room
  room_whole l = ap (λ (u : Bytes). S.put a ++ u) (drop_of_length-le q {i = length (S.put a)} l) ∙ append-nil (S.put a)

-- behind the number of its bytes, a whole stands
pub room-form : {A : Type 0} (w : ℕ) (W : Whole A) (b : Bytes) (at : ℕ) (a : A) → Has (room w (sized 8 W)) (part b at w) a → 8 + length (W.form a) ≤ w → part b (at + 8) (length (W.form a)) ≡ W.form a
unfolding sized
room-form w W b at a h k =
    let n : Bytes = big_endian 8 (length (W.form a)) in
    let f : Bytes = W.form a in
    let r : Bytes = drop (length (n ++ f)) (part b at w) in
    let e : part b at w ≡ n ++ (f ++ r) = room-put w (sized 8 W) (part b at w) a h ∙ append_assoc n f r in
    let z : 8 ≡ length n + 0 = omega (arith, length-big_endian 8 (length f)) in
    sym (part-part b at w 8 (length f) k)
    ∙ ap₂ (λ (u : Bytes) (j : ℕ). part u j (length f)) e z
    ∙ part_right n (f ++ r) 0 (length f)
    ∙ take_at f r (length f) refl

-- ---- two slots side by side, from index at of b
module _ {A B : Type 0} (S : Slot A) (T : Slot B) (b : Bytes) (at : ℕ) where
  left : take S.width (part b at (S.width + T.width)) ≡ part b at S.width
  left = take_part b at (S.width + T.width) S.width (le-add_right S.width T.width)

  right : drop S.width (part b at (S.width + T.width)) ≡ part b (at + S.width) T.width
  right = drop-part b at (S.width + T.width) S.width ∙ ap (part b (at + S.width)) (add-sub_cancel_left S.width T.width)

  pub beside-read : (beside S T).read (part b at (S.width + T.width)) ≡ pair_of (S.read (part b at S.width)) (T.read (part b (at + S.width) T.width))
  unfolding beside
  beside-read = ap₂ (λ (u v : Bytes). pair_of (S.read u) (T.read v)) left right

  pub beside-write : (a : A) (c : B) → (beside S T).write (a, c) (part b at (S.width + T.width)) ≡ S.write a (part b at S.width) ++ T.write c (part b (at + S.width) T.width)
  unfolding beside
  beside-write a c = ap₂ (λ (u v : Bytes). S.write a u ++ T.write c v) left right

pair-both : {A B : Type 0} (o : Option A) (q : Option B) (a : A) (c : B) → pair_of o q ≡ some (a, c) → (o ≡ some a) × (q ≡ some c)
pair-both none q a c e = absurd (none-ne-some (a, c) e)
pair-both (some x) none a c e = absurd (none-ne-some (a, c) e)
pair-both {A} {B} (some x) (some y) a c e =
    let f : ◌≡◌ {A = A × B} (x, y) (a, c) = some-injective (x, y) (a, c) e in
    (ap (λ (p : A × B). some p.0) f, ap (λ (p : A × B). some p.1) f)

pub has_both : {A B : Type 0} {S : Slot A} {OkA : A → Type 0} (T : Slot B) → SlotLaws S OkA → (b : Bytes) (at : ℕ) (a : A) (c : B) → octets b ≡ true
    → at + (S.width + T.width) ≤ length b → (beside S T).read (part b at (S.width + T.width)) ≡ some (a, c)
    → Has S (part b at S.width) a × (T.read (part b (at + S.width) T.width) ≡ some c)
has_both {S = S} T LS b at a c y l e =
    let p = pair-both (S.read (part b at S.width)) (T.read (part b (at + S.width) T.width)) a c (sym (beside-read S T b at) ∙ e) in
    (has LS (part b at S.width) a (octets-part b at S.width y) (length_part b at S.width (omega arith)) p.0, p.1)

-- ---- one of n slots of one kind
cons-both : {A : Type 0} (o : Option A) (q : Option (List A)) (x : A) (xs : List A) → cons_of o q ≡ some (x ∷ xs) → (o ≡ some x) × (q ≡ some xs)
cons-both none q x xs e = absurd (none-ne-some (x ∷ xs) e)
cons-both (some a) none x xs e = absurd (none-ne-some (x ∷ xs) e)
cons-both (some a) (some as') x xs e =
    let f : a ∷ as' ≡ x ∷ xs = some-injective (a ∷ as') (x ∷ xs) e in
    (let g : a ≡ x = cc in ap some g, let g : as' ≡ xs = cc in ap some g)

cons-not : {A : Type 0} {X : Type 0} (o : Option A) (q : Option (List A)) → ◌≡◌ {A = Option (List A)} (cons_of o q) (some []) → X
cons-not none q e = absurd (none-ne-some [] e)
cons-not (some a) none e = absurd (none-ne-some [] e)
cons-not (some a) (some as') e = let f : a ∷ as' ≡ [] = some-injective (a ∷ as') [] e in absurd (let z : ◌≡◌ {A = ℕ} 0 1 = cc in omega arith)

-- slot i holds the value i, and another value written there changes that slot alone
pub record RowOf {A : Type 0} (S : Slot A) (b : Bytes) (xs : List A) (i : ℕ) (d : A) : Type 0 where
  pub has-row : Has S (part b (i * S.width) S.width) (get_or xs i d)
  pub lay-row : (x : A) → length (S.write x (part b (i * S.width) S.width)) ≡ S.width
      → write_rows S (set xs i x) b ≡ over b (i * S.width) (S.write x (part b (i * S.width) S.width))

module _ {A : Type 0} {S : Slot A} {Ok : A → Type 0} (L : SlotLaws S Ok) (d : A) where
  rest-kept : (n : ℕ) (b : Bytes) (xs : List A) → octets b ≡ true → length b ≡ n * S.width → read_rows S n b ≡ some xs → write_rows S xs b ≡ b
  unfolding rows
  rest-kept n b xs y l e = (kept-as (rows-laws L n) b xs y l e).0

  cut : (w r : ℕ) (q : Bytes) → length q ≡ w + r → (length (take w q) ≡ w) × (length (drop w q) ≡ r)
  cut w r q e = (length-take-le w q (omega arith), rw length-drop (omega arith))

  pub row_of : (n : ℕ) (b : Bytes) (xs : List A) → octets b ≡ true → length b ≡ n * S.width → read_rows S n b ≡ some xs → (i : ℕ) → i < n → RowOf S b xs i d
  unfolding read_rows write_rows
  row_of zero b xs y l e i h = absurd (not-suc-le-zero h)
  row_of (suc n) b [] y l e i h = cons-not (S.read (take S.width b)) (read_rows S n (drop S.width b)) e
  row_of (suc n) b (x ∷ xs) y l e zero h =
      let w : ℕ = S.width in
      let m = cut w (n * w) b (omega (arith, l ∙ suc-mul n w)) in
      let p = cons-both (S.read (take w b)) (read_rows S n (drop w b)) x xs e in
      let z : 0 * w ≡ 0 = zero-mul w in
      record {
        has-row = rw z (has L (take w b) x (octets-take w b y) m.0 p.0);
        lay-row = rw z (λ v k. ap (λ (u : Bytes). S.write v (take w b) ++ u) (rest-kept n (drop w b) xs (octets-drop w b y) m.1 p.1 ∙ ap (λ (j : ℕ). drop j b) (sym k)) ∙ sym (over-front b (S.write v (take w b))));
      }
  row_of (suc n) b (x ∷ xs) y l e (suc i) h =
      let w : ℕ = S.width in
      let m = cut w (n * w) b (omega (arith, l ∙ suc-mul n w)) in
      let p = cons-both (S.read (take w b)) (read_rows S n (drop w b)) x xs e in
      let r = row_of n (drop w b) xs (octets-drop w b y) m.1 p.1 i (omega arith) in
      let z : suc i * w ≡ w + i * w = omega (arith, suc-mul i w) in
      let q : part b (w + i * w) w ≡ part (drop w b) (i * w) w = ap (take w) (sym (drop-drop (i * w) w b)) in
      let o : (v : Bytes) → over b (w + i * w) v ≡ take w b ++ over (drop w b) (i * w) v =
      λ v. ap₂ (λ (u : Bytes) (j : ℕ). over u (j + i * w) v) (sym (take-append-drop w b)) (sym m.0) ∙ over-right (take w b) (drop w b) (i * w) v in
      let k : S.write x (take w b) ≡ take w b = (kept-as L (take w b) x (octets-take w b y) m.0 p.0).0 in
      record {
        has-row = rw (z, q) r.has-row;
        lay-row = rw (z, q) (λ v g. ap₂ (λ (u t : Bytes). u ++ t) k (r.lay-row v g) ∙ sym (o (S.write v (part (drop w b) (i * w) w))));
      }
