-- The laws of streams and wholes: what was put is read, and what was read is what is put again.
-- Assumes nothing.
use Prim.Native.Nat.{ℕ, zero, suc, ◌+◌, ◌-◌, ◌^◌, ◌<◌, ◌≤◌}
use native.Mathlib.Omega.{arith}
use native.Mathlib.Nat.{not-suc-le-zero, pow-succ'}
use mathlib.Core.Path.{◌≡◌, refl, sym, ap, ◌∙◌}
use mathlib.Core.Bool.{Bool, true, false, cond}
use mathlib.Core.List.{List, [], ◌∷◌, ◌++◌, append_assoc}
use mathlib.Core.Option.{Option, none, some}
use lib.ListN.{length, length-append}
use lib.Dec.{eqb}
use borrow.Author.Tests.{eqb-true}
use Rattle.paper.specs.Keys.{Bytes, octets}
use Rattle.paper.specs.Image.{big_endian, bytes, number, Reading, after, give, ◌>>=◌}
use Rattle.paper.proofs.ImageLaws.{pow256-pos, length-big_endian, bytes-at, number_at}
use Rattle.paper.proofs.ImageBack.{bytes_read, number_read, octets-left, octets-right}
use Rattle.layout.specs.Codec.{Stream, num, both, via, flag_number, flag_of, flag, map_option, Whole, lift, sized, plain, cons_of, further, put_all, get_all, many, whole_via}

-- what was read off the front of s
abbrev pub Got : {A : Type 0} → (A → Bytes) → (A → Type 0) → Bytes → Option (A × Bytes) → Type 0
Got put Ok s none = Unit {0}
Got put Ok s (some p) = (s ≡ put p.0 ++ p.1) × Ok p.0

-- Of the values that a stream can hold: what was put is read, with the bytes after it; what was read off bytes was put there; no value takes no byte.
pub record StreamLaws {A : Type 0} (S : Stream A) (Ok : A → Type 0) : Type 0 where
  pub back : (a : A) (r : Bytes) → Ok a → S.get (S.put a ++ r) ≡ some (a, r)
  pub again : (s : Bytes) → octets s ≡ true → Got S.put Ok s (S.get s)
  pub long : (a : A) → 0 < length (S.put a)

abbrev pub Formed : {A : Type 0} → (A → Bytes) → (A → Type 0) → Bytes → Option A → Type 0
Formed form Ok s none = Unit {0}
Formed form Ok s (some a) = (s ≡ form a) × Ok a

pub record WholeLaws {A : Type 0} (W : Whole A) (Ok : A → Type 0) : Type 0 where
  pub back : (a : A) → Ok a → W.parse (W.form a) ≡ some a
  pub again : (s : Bytes) → octets s ≡ true → Formed W.form Ok s (W.parse s)

-- from a law about what was read
pub got-from : {A : Type 0} (put : A → Bytes) (Ok : A → Type 0) (s : Bytes) (o : Option (A × Bytes))
    → ((a : A) (r : Bytes) → o ≡ some (a, r) → (s ≡ put a ++ r) × Ok a) → Got put Ok s o
got-from put Ok s none f = tt
got-from put Ok s (some p) f = f p.0 p.1 refl

-- reading on after what was read
pub got-after : {A B : Type 0} (put : A → Bytes) (Ok : A → Type 0) (s : Bytes) (Q : Option (B × Bytes) → Type 0) → Q none
    → (o : Option (A × Bytes)) (f : A → Reading B) → Got put Ok s o
    → ((a : A) (r : Bytes) → s ≡ put a ++ r → Ok a → Q (f a r)) → Q (after o f)
got-after put Ok s Q n none f g h = n
got-after put Ok s Q n (some p) f g h = h p.0 p.1 g.0 g.1

-- the bytes behind what was read
rest : (s a r : Bytes) → octets s ≡ true → s ≡ a ++ r → octets r ≡ true
rest s a r o e = octets-right a r (ap octets (sym e) ∙ o)

-- ---- numbers and flags
abbrev pub Below : ℕ → ℕ → Type 0
Below w n = n < 256 ^ w

pub number-again : (w : ℕ) (s : Bytes) → octets s ≡ true → Got (big_endian w) (Below w) s (number w s)
number-again w s o = got-from (big_endian w) (Below w) s (number w s) (λ n r e. number_read w s n r o e)

pub num_laws : (w : ℕ) → 0 < w → StreamLaws (num w) (Below w)
unfolding num
num_laws w h = record { back = λ a r k. number_at w a r k; again = number-again w; long = λ a. rw length-big_endian h }

-- a byte has room for a 0 and for a 1
flag-fits : (w : ℕ) (b : Bool) → 0 < w → flag_number b < 256 ^ w
flag-fits zero b h = absurd (not-suc-le-zero h)
flag-fits (suc w) true h = let p = pow256-pos w in rw pow-succ' (omega arith)
flag-fits (suc w) false h = pow256-pos (suc w)

flag-read : (b : Bool) (r : Bytes) → flag_of (flag_number b) r ≡ some (b, r)
unfolding flag_of
flag-read true r = refl
flag-read false r = refl

pub flag-laws : (w : ℕ) → 0 < w → StreamLaws (flag w) (λ b. Unit {0})
unfolding flag flag_of
flag-laws w h =
    record {
      back = λ b r k. rw (number_at w (flag_number b) r (flag-fits w b h)) (flag-read b r);
      again = λ s o. got-after (big_endian w) (Below w) s (Q s) tt (number w s) flag_of (number-again w s o) (λ n r e k. flag-of n r s e);
      long = λ b. rw length-big_endian h;
    }
  where
    Q : Bytes → Option (Bool × Bytes) → Type 0
    Q s = Got (λ b. big_endian w (flag_number b)) (λ b. Unit {0}) s

    flag-of : (n : ℕ) (r s : Bytes) → s ≡ big_endian w n ++ r → Q s (flag_of n r)
    flag-of n r s e = go (eqb n 0) (eqb n 1) refl refl
      where
        go : (t u : Bool) → eqb n 0 ≡ t → eqb n 1 ≡ u → Q s (cond t (some (false, r)) (cond u (some (true, r)) none))
        go true u f g = (e ∙ ap (λ (m : ℕ). big_endian w m ++ r) (eqb-true n 0 f), tt)
        go false true f g = (e ∙ ap (λ (m : ℕ). big_endian w m ++ r) (eqb-true n 1 g), tt)
        go false false f g = tt

-- ---- streams out of streams
module _ {A B : Type 0} {S : Stream A} {OkA : A → Type 0} (LS : StreamLaws S OkA) where
  pub both-laws : {T : Stream B} {OkB : B → Type 0} → StreamLaws T OkB → StreamLaws (both S T) (λ p. OkA p.0 × OkB p.1)
  unfolding both
  both-laws {T} {OkB} Lt =
      record {
        back = λ p r k. rw (append_assoc, LS.back p.0 (T.put p.1 ++ r) k.0, Lt.back p.1 r k.1);
        again = λ s o.
            let Q = Got {A = A × B} (λ p. S.put p.0 ++ T.put p.1) (λ p. OkA p.0 × OkB p.1) s in
            got-after S.put OkA s Q tt (S.get s) (λ a. T.get >>= λ c. give (a, c)) (LS.again s o)
            (λ a r e k.
            got-after T.put OkB r Q tt (T.get r) (λ c. give (a, c)) (Lt.again r (rest s (S.put a) r o e))
            (λ c t f m. (e ∙ ap (λ (u : Bytes). S.put a ++ u) f ∙ sym (append_assoc (S.put a) (T.put c) t), (k, m))));
        long = λ p. rw length-append (omega (arith, LS.long p.0));
      }

  pub via-laws : (f : A → B) (g : B → A) → ((a : A) → g (f a) ≡ a) → ((b : B) → f (g b) ≡ b) → StreamLaws (via f g S) (λ b. OkA (g b))
  unfolding via
  via-laws f g gf fg =
      record {
        back = λ b r k. rw (LS.back (g b) r k, fg b);
        again = λ s o.
            got-after S.put OkA s (Got (λ c. S.put (g c)) (λ c. OkA (g c)) s) tt (S.get s) (λ a. give (f a)) (LS.again s o) (λ a r e k. rw (gf a) (e, k));
        long = λ b. LS.long (g b);
      }

-- ---- wholes
pub plain-laws : WholeLaws plain (λ x. Unit {0})
unfolding plain
plain-laws = record { back = λ a k. refl; again = λ s o. (refl, tt) }

module _ {A B : Type 0} {W : Whole A} {Ok : A → Type 0} (LW : WholeLaws W Ok) where
  pub whole_via-laws : (f : A → B) (g : B → A) → ((a : A) → g (f a) ≡ a) → ((b : B) → f (g b) ≡ b) → WholeLaws (whole_via f g W) (λ b. Ok (g b))
  unfolding whole_via
  whole_via-laws f g gf fg =
      record {
        back = λ b k. rw (LW.back (g b) k, fg b);
        again = λ s o. go s (W.parse s) (LW.again s o);
      }
    where
      go : (s : Bytes) (o : Option A) → Formed W.form Ok s o → Formed (λ b. W.form (g b)) (λ b. Ok (g b)) s (map_option f o)
      go s none h = tt
      go s (some a) h = rw (gf a) h

pub sized-laws : {A : Type 0} {W : Whole A} {Ok : A → Type 0} (w : ℕ) → 0 < w → WholeLaws W Ok
    → StreamLaws (sized w W) (λ a. Ok a × (length (W.form a) < 256 ^ w))
unfolding sized
sized-laws {A} {W} {Ok} w h L =
    record {
      back = λ a r k.
          rw (append_assoc, number_at w (length (W.form a)) (W.form a ++ r) k.1, bytes-at (W.form a) r (length (W.form a)) refl, L.back a k.0);
      again = λ s o.
          got-after (big_endian w) (Below w) s (Q s) tt (number w s) (λ n. bytes n >>= λ y. lift (W.parse y)) (number-again w s o)
          (λ n r e k.
          let v : octets r ≡ true = rest s (big_endian w n) r o e in
          got-after (λ x. x) (OkText n r) r (Q s) tt (bytes n r) (λ y. lift (W.parse y)) (text-again n r v)
          (λ y t f m. fin s n y t (e ∙ ap (λ (u : Bytes). big_endian w n ++ u) f) k m.0 (W.parse y) (L.again y m.1)));
      long = λ a. rw (length-append, length-big_endian) (omega arith);
    }
  where
    Q : Bytes → Option (A × Bytes) → Type 0
    Q s = Got (λ a. big_endian w (length (W.form a)) ++ W.form a) (λ a. Ok a × (length (W.form a) < 256 ^ w)) s

    OkText : ℕ → Bytes → Bytes → Type 0
    OkText n r x = (length x ≡ n) × (octets x ≡ true)

    text-again : (n : ℕ) (r : Bytes) → octets r ≡ true → Got (λ x. x) (OkText n r) r (bytes n r)
    text-again n r o =
        got-from (λ x. x) (OkText n r) r (bytes n r)
        (λ x t e. let u = bytes_read n r x t e in (u.0, (u.1, octets-left x t (ap octets (sym u.0) ∙ o))))

    fin : (s : Bytes) (n : ℕ) (y t : Bytes) → s ≡ big_endian w n ++ (y ++ t) → n < 256 ^ w → length y ≡ n → (o : Option A) → Formed W.form Ok y o → Q s (lift o t)
    fin s n y t e k l none g = tt
    fin s n y t e k l (some a) g =
        let m : length (W.form a) ≡ n = ap length (sym g.0) ∙ l in
        rw m (e ∙ ap (λ (u : Bytes). big_endian w n ++ (u ++ t)) g.0 ∙ sym (append_assoc (big_endian w n) (W.form a) t), (g.1, k))

-- ---- many
abbrev pub All : {A : Type 0} → (A → Type 0) → List A → Type 0
All Ok [] = Unit {0}
All Ok (a ∷ as') = Ok a × All Ok as'

module _ {A : Type 0} {S : Stream A} {Ok : A → Type 0} (LS : StreamLaws S Ok) where
  further-back : (n : ℕ) (a : A) (r : Bytes) → Ok a → 0 < n → get_all S n (S.put a ++ r) ≡ cons_of (some a) (get_all S (n - 1) r)
  unfolding get_all
  further-back zero a r k h = absurd (not-suc-le-zero h)
  further-back (suc n) a r k h = go (S.put a ++ r) (LS.back a r k) (rw length-append (omega (arith, LS.long a)))
    where
      m : suc n - 1 ≡ n
      m = omega arith

      go : (s : Bytes) → S.get s ≡ some (a, r) → 0 < length s → get_all S (suc n) s ≡ cons_of (some a) (get_all S (suc n - 1) r)
      go [] e l = absurd (not-suc-le-zero l)
      go (x ∷ s) e l = rw (e, m)

  get-put-all : (n : ℕ) (as' : List A) → All Ok as' → length (put_all S as') ≤ n → get_all S n (put_all S as') ≡ some as'
  unfolding put_all get_all
  get-put-all zero [] k h = refl
  get-put-all (suc n) [] k h = refl
  get-put-all n (a ∷ as') k h =
      let l : length (S.put a ++ put_all S as') ≡ length (S.put a) + length (put_all S as') = length-append (S.put a) (put_all S as') in
      let p = LS.long a in
      further-back n a (put_all S as') k.0 (omega arith) ∙ ap (cons_of (some a)) (get-put-all (n - 1) as' k.1 (omega arith))

  all-again : (n : ℕ) (s : Bytes) → octets s ≡ true → Formed (put_all S) (All Ok) s (get_all S n s)
  unfolding put_all get_all
  all-again zero [] o = (refl, tt)
  all-again zero (x ∷ s) o = tt
  all-again (suc n) [] o = (refl, tt)
  all-again (suc n) (x ∷ s) o = go (S.get (x ∷ s)) (LS.again (x ∷ s) o) (λ r. all-again n r)
    where
      fin : (a : A) (r : Bytes) → x ∷ s ≡ S.put a ++ r → Ok a → (q : Option (List A)) → Formed (put_all S) (All Ok) r q → Formed (put_all S) (All Ok) (x ∷ s) (cons_of (some a) q)
      fin a r e k none g = tt
      fin a r e k (some as') g = (e ∙ ap (λ (u : Bytes). S.put a ++ u) g.0, (k, g.1))

      go : (q : Option (A × Bytes)) → Got S.put Ok (x ∷ s) q → ((r : Bytes) → octets r ≡ true → Formed (put_all S) (All Ok) r (get_all S n r)) → Formed (put_all S) (All Ok) (x ∷ s) (further (λ r. get_all S n r) q)
      go none g ih = tt
      go (some p) g ih = fin p.0 p.1 g.0 g.1 (get_all S n p.1) (ih p.1 (rest (x ∷ s) (S.put p.0) p.1 o g.0))

  pub many-laws : WholeLaws (many S) (All Ok)
  unfolding many
  many-laws = record { back = λ as' k. get-put-all (length (put_all S as')) as' k (omega arith); again = λ s o. all-again (length s) s o }
