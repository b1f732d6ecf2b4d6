-- The laws of slots: what was read is written back without a change, what is written is read, and the width stays.
-- Assumes nothing.
use Prim.Native.Nat.{ℕ, zero, suc, ◌+◌, ◌*◌, ◌-◌, ◌^◌, ◌<◌, ◌≤◌}
use native.Mathlib.Omega.{arith}
use native.Mathlib.Nat.{suc-mul, add-sub_cancel_left}
use mathlib.Core.Path.{◌≡◌, refl, sym, ap, ap₂, ◌∙◌, subst}
use mathlib.Core.Bool.{Bool, true, false, cond}
use mathlib.Core.List.{List, [], ◌∷◌, ◌++◌}
use mathlib.Core.Option.{Option, none, some}
use lib.ListN.{length, take, drop, length-append, length-drop, take-append-drop}
use lib.Seq.{length-take-le, take_at, drop_at}
use lib.Dec.{eqb, lit<}
use borrow.Author.Tests.{eqb-true, eqb-false, ne_eqb}
use Rattle.paper.specs.Keys.{Bytes, octets}
use Rattle.paper.specs.Image.{big_endian, number}
use Rattle.paper.proofs.ImageLaws.{length-big_endian, number_at}
use Rattle.raw.proofs.Octets.{octets-take, octets-drop}
use Rattle.layout.specs.Codec.{Stream, Slot, first_of, room, pair_of, beside, cons_of, read_rows, write_rows, rows, named, taken, write_named, optional, map_option, slot_via}
use Rattle.layout.proofs.Streams.{Got, StreamLaws, Below, number-again, All}

-- what was read in b
abbrev pub Kept : {A : Type 0} → (A → Bytes → Bytes) → (A → Type 0) → Bytes → Option A → Type 0
Kept write Ok b none = Unit {0}
Kept write Ok b (some a) = (write a b ≡ b) × Ok a

pub record SlotLaws {A : Type 0} (S : Slot A) (Ok : A → Type 0) : Type 0 where
  pub kept : (b : Bytes) → octets b ≡ true → length b ≡ S.width → Kept S.write Ok b (S.read b)
  pub back : (b : Bytes) (a : A) → length b ≡ S.width → Ok a → S.read (S.write a b) ≡ some a
  pub long : (b : Bytes) (a : A) → length b ≡ S.width → Ok a → length (S.write a b) ≡ S.width

-- the same, of a value that was read
pub kept-as : {A : Type 0} {S : Slot A} {Ok : A → Type 0} → SlotLaws S Ok → (b : Bytes) (a : A) → octets b ≡ true → length b ≡ S.width → S.read b ≡ some a → (S.write a b ≡ b) × Ok a
kept-as {S = S} {Ok = Ok} L b a y l e = subst (Kept S.write Ok b) e (L.kept b y l)

pub room-laws : {A : Type 0} {S : Stream A} {Ok : A → Type 0} (w : ℕ) → StreamLaws S Ok → SlotLaws (room w S) (λ a. Ok a × (length (S.put a) ≤ w))
unfolding room
room-laws {A} {S} {Ok} w L =
    record {
      kept = λ b y l. go b l (S.get b) (L.again b y);
      back = λ b a l k. ap first_of (L.back a (drop (length (S.put a)) b) k.0);
      long = λ b a l k. let m = k.1 in simp (length-append, length-drop) (omega arith);
    }
  where
    go : (b : Bytes) → length b ≡ w → (o : Option (A × Bytes)) → Got S.put Ok b o → Kept (λ a c. S.put a ++ drop (length (S.put a)) c) (λ a. Ok a × (length (S.put a) ≤ w)) b (first_of o)
    go b l none g = tt
    go b l (some p) g =
        let x : Bytes = S.put p.0 in
        let d : drop (length x) b ≡ p.1 = ap (drop (length x)) g.0 ∙ drop_at x p.1 (length x) refl in
        (ap (λ (u : Bytes). x ++ u) d ∙ sym g.0, (g.1, omega (arith, ap length g.0 ∙ length-append x p.1)))

module _ {A B : Type 0} {S : Slot A} {OkA : A → Type 0} (LS : SlotLaws S OkA) where
  pub slot_via-laws : (f : A → B) (g : B → A) → ((a : A) → g (f a) ≡ a) → ((b : B) → f (g b) ≡ b) → SlotLaws (slot_via f g S) (λ b. OkA (g b))
  unfolding slot_via
  slot_via-laws f g gf fg =
      record {
        kept = λ b y l. go b (S.read b) (LS.kept b y l);
        back = λ b a l k. rw (LS.back b (g a) l k, fg a);
        long = λ b a l k. LS.long b (g a) l k;
      }
    where
      go : (b : Bytes) (o : Option A) → Kept S.write OkA b o → Kept (λ a c. S.write (g a) c) (λ a. OkA (g a)) b (map_option f o)
      go b none k = tt
      go b (some a) k = rw (gf a) k

  module _ {T : Slot B} {OkB : B → Type 0} (Lt : SlotLaws T OkB) (b : Bytes) (l : length b ≡ S.width + T.width) where
    pub left-long : length (take S.width b) ≡ S.width
    left-long = length-take-le S.width b (omega arith)

    pub right-long : length (drop S.width b) ≡ T.width
    right-long = length-drop S.width b ∙ ap (λ (n : ℕ). n - S.width) l ∙ add-sub_cancel_left S.width T.width

    beside-kept : (o : Option A) (q : Option B) → Kept S.write OkA (take S.width b) o → Kept T.write OkB (drop S.width b) q
        → Kept (λ p c. S.write p.0 (take S.width c) ++ T.write p.1 (drop S.width c)) (λ p. OkA p.0 × OkB p.1) b (pair_of o q)
    beside-kept none q g h = tt
    beside-kept (some a) none g h = tt
    beside-kept (some a) (some c) g h = (ap₂ (λ (u v : Bytes). u ++ v) g.0 h.0 ∙ take-append-drop S.width b, (g.1, h.1))

    beside_back : (a : A) (c : B) → OkA a → OkB c → (beside S T).read ((beside S T).write (a, c) b) ≡ some (a, c)
    unfolding beside
    beside_back a c k m =
        let x : Bytes = S.write a (take S.width b) in
        let y : Bytes = T.write c (drop S.width b) in
        let e : length x ≡ S.width = LS.long (take S.width b) a left-long k in
        simp (take_at x y S.width e, drop_at x y S.width e, LS.back (take S.width b) a left-long k, Lt.back (drop S.width b) c right-long m)

    beside_long : (a : A) (c : B) → OkA a → OkB c → length ((beside S T).write (a, c) b) ≡ S.width + T.width
    unfolding beside
    beside_long a c k m =
        length-append (S.write a (take S.width b)) (T.write c (drop S.width b))
        ∙ ap₂ (λ (u v : ℕ). u + v) (LS.long (take S.width b) a left-long k) (Lt.long (drop S.width b) c right-long m)

  pub beside_laws : {T : Slot B} {OkB : B → Type 0} → SlotLaws T OkB → SlotLaws (beside S T) (λ p. OkA p.0 × OkB p.1)
  unfolding beside
  beside_laws {T} Lt =
      record {
        kept = λ b y l.
            beside-kept Lt b l (S.read (take S.width b)) (T.read (drop S.width b))
            (LS.kept (take S.width b) (octets-take S.width b y) (left-long Lt b l))
            (Lt.kept (drop S.width b) (octets-drop S.width b y) (right-long Lt b l));
        back = λ b p l k. beside_back Lt b l p.0 p.1 k.0 k.1;
        long = λ b p l k. beside_long Lt b l p.0 p.1 k.0 k.1;
      }

-- ---- n slots of one kind
module _ {A : Type 0} {S : Slot A} {Ok : A → Type 0} (L : SlotLaws S Ok) where
  rows-kept : (n : ℕ) (b : Bytes) → octets b ≡ true → length b ≡ n * S.width → Kept (write_rows S) (λ as'. All Ok as' × (length as' ≡ n)) b (read_rows S n b)
  unfolding read_rows write_rows
  rows-kept zero b y l = (refl, (tt, refl))
  rows-kept (suc n) b y l = go (S.read (take w b)) (read_rows S n (drop w b)) (L.kept (take w b) (octets-take w b y) hl) (rows-kept n (drop w b) (octets-drop w b y) tl)
    where
      w : ℕ
      w = S.width

      m : length b ≡ n * w + w
      m = l ∙ suc-mul n w

      hl : length (take w b) ≡ w
      hl = length-take-le w b (omega arith)

      tl : length (drop w b) ≡ n * w
      tl = rw length-drop (omega arith)

      go : (o : Option A) (q : Option (List A)) → Kept S.write Ok (take w b) o → Kept (write_rows S) (λ as'. All Ok as' × (length as' ≡ n)) (drop w b) q
          → Kept (write_rows S) (λ as'. All Ok as' × (length as' ≡ suc n)) b (cons_of o q)
      go none q g h = tt
      go (some a) none g h = tt
      go (some a) (some as') g h = (ap₂ (λ (u v : Bytes). u ++ v) g.0 h.0 ∙ take-append-drop w b, ((g.1, h.1.0), ap suc h.1.1))

  rows_long : (as' : List A) (b : Bytes) → length b ≡ length as' * S.width → All Ok as' → length (write_rows S as' b) ≡ length as' * S.width
  unfolding write_rows
  rows_long [] b l k = l
  rows_long (a ∷ as') b l k =
      let w : ℕ = S.width in
      let m : length b ≡ length as' * w + w = l ∙ suc-mul (length as') w in
      let hl : length (take w b) ≡ w = length-take-le w b (omega arith) in
      let tl : length (drop w b) ≡ length as' * w = rw length-drop (omega arith) in
      let h = L.long (take w b) a hl k.0 in
      let t = rows_long as' (drop w b) tl k.1 in
      rw (length-append, suc-mul) (omega arith)

  rows_back : (as' : List A) (b : Bytes) → length b ≡ length as' * S.width → All Ok as' → read_rows S (length as') (write_rows S as' b) ≡ some as'
  unfolding read_rows write_rows
  rows_back [] b l k = refl
  rows_back (a ∷ as') b l k =
      let w : ℕ = S.width in
      let m : length b ≡ length as' * w + w = l ∙ suc-mul (length as') w in
      let hl : length (take w b) ≡ w = length-take-le w b (omega arith) in
      let tl : length (drop w b) ≡ length as' * w = rw length-drop (omega arith) in
      let x : Bytes = S.write a (take w b) in
      let y : Bytes = write_rows S as' (drop w b) in
      let e : length x ≡ w = L.long (take w b) a hl k.0 in
      simp (take_at x y w e, drop_at x y w e, L.back (take w b) a hl k.0, rows_back as' (drop w b) tl k.1)

  pub rows-laws : (n : ℕ) → SlotLaws (rows n S) (λ as'. All Ok as' × (length as' ≡ n))
  unfolding rows
  rows-laws n =
      record {
        kept = λ b y l. rows-kept n b y l;
        back = λ b as' l k. ap (λ (m : ℕ). read_rows S m (write_rows S as' b)) (sym k.1) ∙ rows_back as' b (l ∙ ap (λ (m : ℕ). m * S.width) (sym k.1)) k.0;
        long = λ b as' l k. rows_long as' b (l ∙ ap (λ (m : ℕ). m * S.width) (sym k.1)) k.0 ∙ ap (λ (m : ℕ). m * S.width) k.1;
      }

-- ---- a slot that may be free
abbrev pub OkNamed : {A : Type 0} → (A → Type 0) → Option (ℕ × A) → Type 0
OkNamed Ok none = Unit {0}
OkNamed Ok (some p) = (0 < p.0) × (p.0 < 256 ^ 8) × Ok p.1

module _ {A : Type 0} {S : Slot A} {Ok : A → Type 0} (L : SlotLaws S Ok) where
  rest-long : (b : Bytes) → length b ≡ 8 + S.width → length (drop 8 b) ≡ S.width
  rest-long b l = rw length-drop (omega arith)

  optional-kept : (b : Bytes) → octets b ≡ true → length b ≡ 8 + S.width → (o : Option (ℕ × Bytes)) (q : Option A) → Got (big_endian 8) (Below 8) b o
      → Kept S.write Ok (drop 8 b) q → Kept (write_named S) (OkNamed Ok) b (taken q o)
  unfolding write_named
  optional-kept b y l none q g h = tt
  optional-kept b y l (some p) q g h = go (eqb p.0 0) refl q h
    where
      front : b ≡ big_endian 8 p.0 ++ drop 8 b
      front =
          g.0 ∙ ap (λ (u : Bytes). big_endian 8 p.0 ++ u) (sym (ap (drop 8) g.0 ∙ drop_at (big_endian 8 p.0) p.1 8 (length-big_endian 8 p.0)))

      go : (t : Bool) → eqb p.0 0 ≡ t → (q : Option A) → Kept S.write Ok (drop 8 b) q → Kept (write_named S) (OkNamed Ok) b (cond t (some none) (named p.0 q))
      go true e q h = (ap (λ (n : ℕ). big_endian 8 n ++ drop 8 b) (sym (eqb-true p.0 0 e)) ∙ sym front, tt)
      go false e none h = tt
      go false e (some a) h = (ap (λ (u : Bytes). big_endian 8 p.0 ++ u) h.0 ∙ sym front, (omega (arith, eqb-false p.0 0 e), g.1, h.1))

  optional-back : (b : Bytes) (o : Option (ℕ × A)) → length b ≡ 8 + S.width → OkNamed Ok o → (optional S).read (write_named S o b) ≡ some o
  unfolding optional write_named
  optional-back b none l k = rw (number_at 8 0 (drop 8 b) (lit< tt))
  optional-back b (some p) l k =
      let x : Bytes = S.write p.1 (drop 8 b) in
      simp (drop_at (big_endian 8 p.0) x 8 (length-big_endian 8 p.0), number_at 8 p.0 x k.1, L.back (drop 8 b) p.1 (rest-long b l) k.2, ne_eqb p.0 0 (λ e. omega (arith, k.0)))

  optional-long : (b : Bytes) (o : Option (ℕ × A)) → length b ≡ 8 + S.width → OkNamed Ok o → length (write_named S o b) ≡ 8 + S.width
  unfolding write_named
  optional-long b none l k = rw (length-append, length-big_endian, length-drop) (omega arith)
  optional-long b (some p) l k = rw (length-append, length-big_endian, L.long (drop 8 b) p.1 (rest-long b l) k.2)

  pub optional-laws : SlotLaws (optional S) (OkNamed Ok)
  unfolding optional
  optional-laws =
      record {
        kept = λ b y l. optional-kept b y l (number 8 b) (S.read (drop 8 b)) (number-again 8 b y) (L.kept (drop 8 b) (octets-drop 8 b y) (rest-long b l));
        back = optional-back;
        long = optional-long;
      }
