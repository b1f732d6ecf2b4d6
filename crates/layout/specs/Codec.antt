-- How values lie in bytes: streams off the front, wholes of exactly their bytes, and slots of a fixed width.
-- Assumes nothing.
use Rattle.std.specs.Prelude.{ℕ, zero, suc, ◌+◌, ◌*◌, Bool, true, false, cond, List, [], ◌∷◌, ◌++◌, length, take, drop, eqb}
use Rattle.std.proofs.Math.Option.{Option, none, some}
use Rattle.paper.specs.Keys.{Bytes}
use Rattle.paper.specs.Image.{big_endian, bytes, number, Reading, give, ◌>>=◌}

-- ---- a stream: a value put in front of other bytes, and taken off again
pub record Stream (A : Type 0) : Type 0 where
  pub put : A → Bytes
  pub get : Reading A

-- n in w bytes
unfoldable pub num : ℕ → Stream ℕ
num w = record { put = big_endian w; get = number w }

-- one after the other
unfoldable pub both : {A B : Type 0} → Stream A → Stream B → Stream (A × B)
both S T =
    record {
      put = λ p. S.put p.0 ++ T.put p.1;
      get = S.get >>= λ a. T.get >>= λ b. give (a, b);
    }

-- the same bytes for another type
unfoldable pub via : {A B : Type 0} → (A → B) → (B → A) → Stream A → Stream B
via f g S = record { put = λ b. S.put (g b); get = S.get >>= λ a. give (f a) }

-- a yes, 1, or a no, 0, in w bytes
abbrev pub flag_number : Bool → ℕ
flag_number true = 1
flag_number false = 0

unfoldable pub flag_of : ℕ → Reading Bool
flag_of n s = cond (eqb n 0) (some (false, s)) (cond (eqb n 1) (some (true, s)) none)

unfoldable pub flag : ℕ → Stream Bool
flag w = record { put = λ b. big_endian w (flag_number b); get = number w >>= flag_of }

abbrev pub map_option : {A B : Type 0} → (A → B) → Option A → Option B
map_option f none = none
map_option f (some a) = some (f a)

-- ---- a whole: a value that takes up all of some bytes
pub record Whole (A : Type 0) : Type 0 where
  pub form : A → Bytes
  pub parse : Bytes → Option A

abbrev pub lift : {A : Type 0} → Option A → Reading A
lift none s = none
lift (some a) s = some (a, s)

-- a whole with the number of its bytes, in w bytes, in front
unfoldable pub sized : {A : Type 0} → ℕ → Whole A → Stream A
sized w W =
    record {
      put = λ a. big_endian w (length (W.form a)) ++ W.form a;
      get = number w >>= λ n. bytes n >>= λ x. lift (W.parse x);
    }

unfoldable pub plain : Whole Bytes
plain = record { form = λ x. x; parse = some }

abbrev pub cons_of : {A : Type 0} → Option A → Option (List A) → Option (List A)
cons_of none o = none
cons_of (some a) none = none
cons_of (some a) (some as') = some (a ∷ as')

abbrev pub further : {A : Type 0} → (Bytes → Option (List A)) → Option (A × Bytes) → Option (List A)
further go none = none
further go (some p) = cons_of (some p.0) (go p.1)

-- values of a stream, one after the other to the end of the bytes
unfoldable pub put_all : {A : Type 0} → Stream A → List A → Bytes
put_all S [] = []
put_all S (a ∷ as') = S.put a ++ put_all S as'

unfoldable pub get_all : {A : Type 0} → Stream A → ℕ → Bytes → Option (List A)
get_all S zero [] = some []
get_all S zero (x ∷ s) = none
get_all S (suc n) [] = some []
get_all S (suc n) (x ∷ s) = further (λ r. get_all S n r) (S.get (x ∷ s))

unfoldable pub many : {A : Type 0} → Stream A → Whole (List A)
many S = record { form = put_all S; parse = λ s. get_all S (length s) s }

-- the same bytes for another type
unfoldable pub whole_via : {A B : Type 0} → (A → B) → (B → A) → Whole A → Whole B
whole_via f g W = record { form = λ b. W.form (g b); parse = λ s. map_option f (W.parse s) }

-- ---- a slot: bytes of a fixed number, some of which a value uses; the others keep what they had
pub record Slot (A : Type 0) : Type 0 where
  pub width : ℕ
  pub read : Bytes → Option A
  pub write : A → Bytes → Bytes

abbrev pub first_of : {A : Type 0} → Option (A × Bytes) → Option A
first_of none = none
first_of (some p) = some p.0

-- room of w bytes for a stream
unfoldable pub room : {A : Type 0} → ℕ → Stream A → Slot A
room w S =
    record {
      width = w;
      read = λ b. first_of (S.get b);
      write = λ a b. S.put a ++ drop (length (S.put a)) b;
    }

abbrev pub pair_of : {A B : Type 0} → Option A → Option B → Option (A × B)
pair_of none o = none
pair_of (some a) none = none
pair_of (some a) (some b) = some (a, b)

unfoldable pub beside : {A B : Type 0} → Slot A → Slot B → Slot (A × B)
beside S T =
    record {
      width = S.width + T.width;
      read = λ b. pair_of (S.read (take S.width b)) (T.read (drop S.width b));
      write = λ p b. S.write p.0 (take S.width b) ++ T.write p.1 (drop S.width b);
    }

-- n slots of one kind
unfoldable pub read_rows : {A : Type 0} → Slot A → ℕ → Bytes → Option (List A)
read_rows S zero b = some []
read_rows S (suc n) b = cons_of (S.read (take S.width b)) (read_rows S n (drop S.width b))

unfoldable pub write_rows : {A : Type 0} → Slot A → List A → Bytes → Bytes
write_rows S [] b = b
write_rows S (a ∷ as') b = S.write a (take S.width b) ++ write_rows S as' (drop S.width b)

unfoldable pub rows : {A : Type 0} → ℕ → Slot A → Slot (List A)
rows n S = record { width = n * S.width; read = read_rows S n; write = write_rows S }

-- a slot that may be free: 8 bytes in front name what is there, and 0 is nothing
abbrev pub named : {A : Type 0} → ℕ → Option A → Option (Option (ℕ × A))
named h none = none
named h (some a) = some (some (h, a))

abbrev pub taken : {A : Type 0} → Option A → Option (ℕ × Bytes) → Option (Option (ℕ × A))
taken o none = none
taken o (some p) = cond (eqb p.0 0) (some none) (named p.0 o)

unfoldable pub write_named : {A : Type 0} → Slot A → Option (ℕ × A) → Bytes → Bytes
write_named S none b = big_endian 8 0 ++ drop 8 b
write_named S (some p) b = big_endian 8 p.0 ++ S.write p.1 (drop 8 b)

unfoldable pub optional : {A : Type 0} → Slot A → Slot (Option (ℕ × A))
optional S =
    record {
      width = 8 + S.width;
      read = λ b. taken (S.read (drop 8 b)) (number 8 b);
      write = write_named S;
    }

-- the same slot for another type
unfoldable pub slot_via : {A B : Type 0} → (A → B) → (B → A) → Slot A → Slot B
slot_via f g S = record { width = S.width; read = λ b. map_option f (S.read b); write = λ a b. S.write (g a) b }
