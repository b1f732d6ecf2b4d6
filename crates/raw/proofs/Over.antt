-- Laws of bytes with a part replaced: what was written stands there and nothing else changed; writes side by side are one
-- write, a second write at the same place hides the first, and writes at places apart may be made in either order.
-- Assumes nothing.
use native.Mathlib.Omega.{arith}
use native.Mathlib.Nat.{le_of_lt, add-zero, zero-add, add-suc, suc-add, add_assoc}
use mathlib.Core.Path.{◌≡◌, refl, sym, ap, ap₂, ◌∙◌}
use mathlib.Core.List.{[], ◌∷◌, ◌++◌, append_assoc, append-nil}
use Prim.Native.Nat.{ℕ, suc, ◌+◌, ◌-◌, ◌≤◌, ◌<◌}
use lib.ListN.{length, take, drop, get_or, set, length-append, length-take, length-drop, take-append-drop, drop_of_length-le, get_or-append}
use lib.Seq.{take-suc, drop-cons, set_at, take_at, drop_at, get_or-take, get_or-drop, get_or-append-add, drop-drop, take-take, take-append-le, drop-append-le, take-append-add, drop-append-add, length-take-le, sets, sets-eq}
use Rattle.paper.specs.Keys.{Bytes}
use Rattle.raw.specs.Bytes.{part, over}
use Rattle.raw.proofs.Parts.{length_part, part-whole, drop-take}

-- ---- where a write begins and ends

-- nothing written
pub over_none : (l : Bytes) (j : ℕ) → l ≡ over l j []
unfolding over
over_none l j = sym (ap (λ (k : ℕ). take j l ++ drop k l) (add-zero j) ∙ take-append-drop j l)

-- at the start
pub over-front : (l x : Bytes) → over l 0 x ≡ x ++ drop (length x) l
unfolding over
over-front l x = ap (λ (k : ℕ). x ++ drop k l) (zero-add (length x))

-- all of it
pub over-whole : (l x : Bytes) → length x ≡ length l → over l 0 x ≡ x
over-whole l x e = over-front l x ∙ ap (λ (t : Bytes). x ++ t) (drop_of_length-le l {i = length x} (omega arith)) ∙ append-nil x

-- what stands there already
pub over-part : (l : Bytes) (at n : ℕ) → at + n ≤ length l → over l at (part l at n) ≡ l
unfolding over
over-part l at n h =
    ap (λ (k : ℕ). take at l ++ (part l at n ++ drop (at + k) l)) (length_part l at n h) ∙ part-whole l at n

pub length_over : (l : Bytes) (j : ℕ) (x : Bytes) → j + length x ≤ length l → length (over l j x) ≡ length l
unfolding over
length_over l j x h = simp (length-append, length-take, length-drop) (omega arith)

-- several bytes stored one after the other
pub over-sets : (x l : Bytes) (i : ℕ) → i + length x ≤ length l → sets l i x ≡ over l i x
unfolding over
over-sets x l i h = sets-eq x l i h ∙ append_assoc (take i l) x (drop (i + length x) l)

-- one byte more, stored before what was written
pub over-cons : (l : Bytes) (j a : ℕ) (x : Bytes) → j < length l → set (over l (suc j) x) j a ≡ over l j (a ∷ x)
unfolding over
over-cons l j a x h =
    let rest : Bytes = x ++ drop (suc j + length x) l in
    let b : ℕ = get_or l j 0 in
    ap (λ (p : Bytes). set (p ++ rest) j a) (take-suc l j 0 h)
    ∙ ap (λ (q : Bytes). set q j a) (append_assoc (take j l) (b ∷ []) rest)
    ∙ set_at (take j l) b rest a j (length-take-le j l (le_of_lt h))
    ∙ ap (λ (k : ℕ). take j l ++ (a ∷ (x ++ drop k l))) (suc-add j (length x) ∙ sym (add-suc j (length x)))

-- ---- one write

module _ (l : Bytes) (a : ℕ) (x : Bytes) (h : a ≤ length l) where
  -- what the write leaves in front with what it wrote, and what it leaves behind
  over-split : over l a x ≡ (take a l ++ x) ++ drop (a + length x) l
  unfolding over
  over-split = sym (append_assoc (take a l) x (drop (a + length x) l))

  length-head : length (take a l ++ x) ≡ a + length x
  length-head = length-append (take a l) x ∙ ap (λ (n : ℕ). n + length x) (length-take-le a l h)

  pub over-all : over l a x ≡ (take a l ++ x) ++ drop (length (take a l ++ x)) l
  over-all = over-split ∙ ap (λ (k : ℕ). (take a l ++ x) ++ drop k l) (sym length-head)

  -- what is in front of the write
  pub take-over : (n : ℕ) → n ≤ a → take n (over l a x) ≡ take n l
  unfolding over
  take-over n k = take-append-le n (take a l) (x ++ drop (a + length x) l) (rw (length-take-le a l h) k) ∙ take-take n a l k

  -- what is behind it
  pub drop-over : (n : ℕ) → a + length x ≤ n → drop n (over l a x) ≡ drop n l
  drop-over n k =
      let m : ℕ = n - (a + length x) in
      let e : n ≡ length (take a l ++ x) + m = omega (arith, length-head) in
      let f : a + length x + m ≡ n = omega arith in
      ap (λ (i : ℕ). drop i (over l a x)) e
      ∙ ap (drop (length (take a l ++ x) + m)) over-split
      ∙ drop-append-add (take a l ++ x) (drop (a + length x) l) m
      ∙ drop-drop m (a + length x) l
      ∙ ap (λ (i : ℕ). drop i l) f

  -- what it wrote, and what is behind it
  pub drop-over-in : (j : ℕ) → j ≤ length x → drop (a + j) (over l a x) ≡ drop j x ++ drop (a + length x) l
  unfolding over
  drop-over-in j k =
      ap (λ (i : ℕ). drop (i + j) (take a l ++ (x ++ drop (a + length x) l))) (sym (length-take-le a l h))
      ∙ drop-append-add (take a l) (x ++ drop (a + length x) l) j
      ∙ drop-append-le j x (drop (a + length x) l) k

  -- a part in front of the write, behind it, and within it
  pub part-over-before : (at n : ℕ) → at + n ≤ a → part (over l a x) at n ≡ part l at n
  unfolding over
  part-over-before at n k =
      let w : length (take a l) ≡ a = length-take-le a l h in
      ap (take n) (drop-append-le at (take a l) (x ++ drop (a + length x) l) (omega arith))
      ∙ take-append-le n (drop at (take a l)) (x ++ drop (a + length x) l) (rw length-drop (omega arith))
      ∙ ap (take n) (drop-take at a l)
      ∙ take-take n (a - at) (drop at l) (omega arith)

  pub part-over-after : (at n : ℕ) → a + length x ≤ at → part (over l a x) at n ≡ part l at n
  part-over-after at n k = ap (take n) (drop-over at k)

  pub part-over-in : (j n : ℕ) → j + n ≤ length x → part (over l a x) (a + j) n ≡ part x j n
  part-over-in j n k =
      ap (take n) (drop-over-in j (omega arith)) ∙ take-append-le n (drop j x) (drop (a + length x) l) (rw length-drop (omega arith))

  -- all that was written
  pub part-over : part (over l a x) a (length x) ≡ x
  unfolding over
  part-over =
      ap (take (length x)) (drop_at (take a l) (x ++ drop (a + length x) l) a (length-take-le a l h))
      ∙ take_at x (drop (a + length x) l) (length x) refl

  -- the same, byte by byte
  pub over-low : (j : ℕ) → j < a → get_or (over l a x) j 0 ≡ get_or l j 0
  unfolding over
  over-low j k = get_or-append (take a l) (x ++ drop (a + length x) l) 0 j (rw (length-take-le a l h) k) ∙ get_or-take a l j 0 k

  pub over-high : (j : ℕ) → a + length x ≤ j → get_or (over l a x) j 0 ≡ get_or l j 0
  over-high j k =
      let e : j + 0 ≡ j = omega arith in
      ap (λ (i : ℕ). get_or (over l a x) i 0) (sym e)
      ∙ sym (get_or-drop j (over l a x) 0 0)
      ∙ ap (λ (t : Bytes). get_or t 0 0) (drop-over j k)
      ∙ get_or-drop j l 0 0
      ∙ ap (λ (i : ℕ). get_or l i 0) e

  pub over-mid : (j : ℕ) → j < length x → get_or (over l a x) (a + j) 0 ≡ get_or x j 0
  unfolding over
  over-mid j k =
      ap (λ (i : ℕ). get_or (take a l ++ (x ++ drop (a + length x) l)) (i + j) 0) (sym (length-take-le a l h))
      ∙ get_or-append-add (take a l) (x ++ drop (a + length x) l) j 0
      ∙ get_or-append x (drop (a + length x) l) 0 j k

  -- ---- a second write

  -- y right before x
  pub over-before : (b : ℕ) (y : Bytes) → b + length y ≡ a → over (over l a x) b y ≡ over l b (y ++ x)
  unfolding over
  over-before b y e =
      let r : Bytes = x ++ drop (a + length x) l in
      let t : take b (take a l ++ r) ≡ take b l = take-append-le b (take a l) r (rw (length-take-le a l h) (omega arith)) ∙ take-take b a l (omega arith) in
      let d : drop (b + length y) (take a l ++ r) ≡ r = drop_at (take a l) r (b + length y) (length-take-le a l h ∙ sym e) in
      let n : a + length x ≡ b + length (y ++ x) = omega (arith, length-append y x) in
      ap (λ (u : Bytes). u ++ (y ++ drop (b + length y) (take a l ++ r))) t
      ∙ ap (λ (u : Bytes). take b l ++ (y ++ u)) d
      ∙ ap (λ (u : Bytes). take b l ++ u) (sym (append_assoc y x (drop (a + length x) l)))
      ∙ ap (λ (k : ℕ). take b l ++ ((y ++ x) ++ drop k l)) n

  -- y right after x
  pub over-after : (b : ℕ) (y : Bytes) → b ≡ a + length x → over (over l a x) b y ≡ over l a (x ++ y)
  unfolding over
  over-after b y e =
      let r : Bytes = drop (a + length x) l in
      let t : take b (take a l ++ (x ++ r)) ≡ take a l ++ x = ap (take b) over-split ∙ take_at (take a l ++ x) r b (length-head ∙ sym e) in
      let d : drop (b + length y) (take a l ++ (x ++ r)) ≡ drop (length y) r =
      sym (drop-drop (length y) b (take a l ++ (x ++ r))) ∙ ap (drop (length y)) (ap (drop b) over-split ∙ drop_at (take a l ++ x) r b (length-head ∙ sym e)) in
      let n : a + length x + length y ≡ a + length (x ++ y) = omega (arith, length-append x y) in
      ap (λ (u : Bytes). u ++ (y ++ drop (b + length y) (take a l ++ (x ++ r)))) t
      ∙ ap (λ (u : Bytes). (take a l ++ x) ++ (y ++ u)) (d ∙ drop-drop (length y) (a + length x) l ∙ ap (λ (k : ℕ). drop k l) n)
      ∙ append_assoc (take a l) x (y ++ drop (a + length (x ++ y)) l)
      ∙ ap (λ (u : Bytes). take a l ++ u) (sym (append_assoc x y (drop (a + length (x ++ y)) l)))

  -- one byte more, stored after x
  pub over-snoc : (j v : ℕ) → j ≡ a + length x → j < length l → set (over l a x) j v ≡ over l a (x ++ (v ∷ []))
  unfolding over
  over-snoc j v e k =
      let r : Bytes = drop (suc (a + length x)) l in
      let k' : a + length x < length l = omega arith in
      let n : suc (a + length x) ≡ a + length (x ++ (v ∷ [])) = omega (arith, length-append x (v ∷ [])) in
      ap (λ (u : Bytes). set u j v) (over-split ∙ ap (λ (u : Bytes). (take a l ++ x) ++ u) (drop-cons l (a + length x) 0 k'))
      ∙ set_at (take a l ++ x) (get_or l (a + length x) 0) r v j (length-head ∙ sym e)
      ∙ append_assoc (take a l) x (v ∷ r)
      ∙ ap (λ (u : Bytes). take a l ++ u) (sym (append_assoc x (v ∷ []) r))
      ∙ ap (λ (i : ℕ). take a l ++ ((x ++ (v ∷ [])) ++ drop i l)) n

  -- y at the same place, at least as long as x
  pub over-again : (y : Bytes) → length x ≤ length y → over (over l a x) a y ≡ over l a y
  unfolding over
  over-again y k = ap₂ (λ (p q : Bytes). p ++ (y ++ q)) (take-over a (omega arith)) (drop-over (a + length y) (omega arith))

-- y at a place behind x: in either order
pub over-swap : (l : Bytes) (a : ℕ) (x : Bytes) (b : ℕ) (y : Bytes) → a + length x ≤ b → b ≤ length l → over (over l a x) b y ≡ over (over l b y) a x
unfolding over
over-swap l a x b y h k =
    let r : Bytes = drop (b + length y) l in
    let m : Bytes = part l (a + length x) (b - (a + length x)) in
    let i : b ≡ a + length x + (b - (a + length x)) = omega arith in
    let t : take b (over l a x) ≡ take a l ++ (x ++ m) =
    ap (λ (n : ℕ). take n (over l a x)) i ∙ split-left (b - (a + length x)) in
    let u : drop (b + length y) (over l a x) ≡ r = drop-over l a x (omega arith) (b + length y) (omega arith) in
    let v : take a (over l b y) ≡ take a l = take-over l b y k a (omega arith) in
    let w : drop (a + length x) (over l b y) ≡ m ++ (y ++ r) = later in
    ap₂ (λ (p q : Bytes). p ++ (y ++ q)) t u
    ∙ append_assoc (take a l) (x ++ m) (y ++ r)
    ∙ ap (λ (z : Bytes). take a l ++ z) (append_assoc x m (y ++ r))
    ∙ sym (ap₂ (λ (p q : Bytes). p ++ (x ++ q)) v w)
  where
    al : length (take a l) ≡ a
    al = length-take-le a l (omega arith)

    -- the first bytes after the write of x
    split-left : (n : ℕ) → take (a + length x + n) (over l a x) ≡ take a l ++ (x ++ part l (a + length x) n)
    split-left n =
        let e : a + length x + n ≡ length (take a l) + (length x + n) = omega (arith, al) in
        ap (λ (i : ℕ). take i (take a l ++ (x ++ drop (a + length x) l))) e
        ∙ take-append-add (take a l) (x ++ drop (a + length x) l) (length x + n)
        ∙ ap (λ (z : Bytes). take a l ++ z) (take-append-add x (drop (a + length x) l) n)

    -- the bytes behind x's place after the write of y
    later : drop (a + length x) (over l b y) ≡ part l (a + length x) (b - (a + length x)) ++ (y ++ drop (b + length y) l)
    later =
        drop-append-le (a + length x) (take b l) (y ++ drop (b + length y) l) (rw (length-take-le b l k) (omega arith))
        ∙ ap (λ (z : Bytes). z ++ (y ++ drop (b + length y) l)) (drop-take (a + length x) b l)

-- ---- two byte strings, one behind the other

pub over-right : (p r : Bytes) (k : ℕ) (x : Bytes) → over (p ++ r) (length p + k) x ≡ p ++ over r k x
unfolding over
over-right p r k x = rw (take-append-add, add_assoc, drop-append-add, append_assoc)

pub over-left : (p r : Bytes) (j : ℕ) (x : Bytes) → j + length x ≤ length p → over (p ++ r) j x ≡ over p j x ++ r
unfolding over
over-left p r j x h =
    let a : j ≤ length p = omega arith in
    rw (take-append-le j p r a, drop-append-le (j + length x) p r h, append_assoc, append_assoc)

-- ---- a part that is lent and comes back

-- the part from a, k bytes long, replaced by as many
pub over-lent : (l x : Bytes) (a k : ℕ) → length x ≡ k → take a l ++ (x ++ drop k (drop a l)) ≡ over l a x
unfolding over
over-lent l x a k e =
    let n : a + k ≡ a + length x = omega arith in
    ap (λ (t : Bytes). take a l ++ (x ++ t)) (drop-drop k a l ∙ ap (λ (m : ℕ). drop m l) n)

-- a write as long as the part
over-long : (l y : Bytes) (a n : ℕ) → length y ≡ n → over l a y ≡ take a l ++ (y ++ drop (a + n) l)
unfolding over
over-long l y a n e = ap (λ (m : ℕ). take a l ++ (y ++ drop (a + m) l)) e

-- a write within the part is a write in the whole
pub over-within : (l : Bytes) (a n j : ℕ) (x : Bytes) → a + n ≤ length l → j + length x ≤ n → over l a (over (part l a n) j x) ≡ over l (a + j) x
over-within l a n j x h k =
    let p : Bytes = part l a n in
    let r : Bytes = drop (a + n) l in
    let al : length (take a l) ≡ a = length-take-le a l (omega arith) in
    let pl : length p ≡ n = length_part l a n h in
    let ol : length (over p j x) ≡ n = length_over p j x (omega arith) ∙ pl in
    over-long l (over p j x) a n ol
    ∙ sym (over-right (take a l) (p ++ r) j x ∙ ap (λ (t : Bytes). take a l ++ t) (over-left p r j x (omega arith)))
    ∙ ap₂ (λ (t : Bytes) (i : ℕ). over t (i + j) x) (part-whole l a n) al
