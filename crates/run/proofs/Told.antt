-- What the code's answer is for each thing that it finds in an image.
-- Assumes nothing.
use mathlib.Core.Path.{◌≡◌, refl, sym, ap, ap₂, ◌∙◌, subst}
use mathlib.Core.Bool.{Bool, true, false, cond, ◌&&◌, false≢true}
use Prim.Native.Nat.{ℕ, ◌-◌, ◌≤◌, ◌<◌}
use borrow.Author.Tests.{eq-eqb, ne_eqb, leb-true, leb-false}
use lib.Dec.{eqb, leb}
use lib.ListN.{length, take, drop}
use Rattle.std.specs.Prelude.{Option, Some, None, Result, Ok, Err, IsErrAnd, nat_eq}
use Rattle.std.specs.Option.{ok_or}
use Rattle.std.specs.List.{starts_with}
use Rattle.paper.specs.Keys.{Bytes, octets, cmp_key, same_key}
use Rattle.paper.specs.Image.{number_from, mark, verdict, good, broken}
use Rattle.paper.proofs.Bools.{is_same-eq}
use Rattle.paper.proofs.KeyOrder.{key-eq}
use Rattle.raw.specs.Bytes.{part}
use Rattle.key.specs.Versions.{versions}
use Rattle.run.specs.Tallies.{tally_of}
use Rattle.run.specs.Checks.{whole_run, checked, told}
use Rattle.run.specs.declared.tally.Tally.{Tally}
use Rattle.run.specs.declared.BadImage.{BadImage}
use Rattle.run.specs.declared.BadImage.TheVariants.{Broken, Foreign}
use Rattle.run.proofs.Reading.{part-rest}
use Rattle.run.proofs.Judging.{whole_of, marked-long, verdict-cut, verdict-foreign, verdict-headless, verdict-records, verdict-short, verdict-unmarked}

-- what the check of the records says of them
abbrev pub Says : Bytes → Option Tally → Type 0
Says b (Some t) = (whole_run b ≡ true) × (t ≡ tally_of (versions b))
Says b None = whole_run b ≡ false

pub says_of : (b : Bytes) (r : Option Tally) → r ≡ checked b → Says b r
unfolding checked
says_of b r e = go (whole_run b) refl r e
  where
    go : (w : Bool) → whole_run b ≡ w → (r : Option Tally) → r ≡ cond w (Some (tally_of (versions b))) None → Says b r
    go true h (Some t) e = (h, cc)
    go true h None e = cc
    go false h (Some t) e = (cc, cc)
    go false h None e = h

-- what was checked, where its answer goes on as a result
some_of : (r : Option Tally) (t : Tally) → Ok t ≡ ok_or r Broken → r ≡ Some t
some_of None t e = cc
some_of (Some u) t e = cc

none_of : (r : Option Tally) (why : BadImage) → Err why ≡ ok_or r Broken → (r ≡ None) × (why ≡ Broken)
none_of None why e = (refl, cc)
none_of (Some u) why e = cc

-- an error that is passed on is the same error
pub passed-on : (r : Result ℕ BadImage) (why : BadImage) → IsErrAnd r (λ e. e ≡ why) → r ≡ Err why
passed-on (Ok n) why h = absurd h
passed-on (Err e) why h = ap Err h

-- ---- the verdict on an image whose mark is right
module _ (s : Bytes) (m : take 3 s ≡ mark) where
  pub told-cut : length s < 5 → Err Broken ≡ told (verdict s)
  told-cut h = sym (ap told (verdict-cut s (marked-long s m) m h))

  module _ (h : 5 ≤ length s) (version : ℕ) (e : version ≡ number_from 0 (part s 3 2)) where
    pub told-foreign : (version ≡ 1 → ⊥) → Err Foreign ≡ told (verdict s)
    told-foreign f = sym (ap told (verdict-foreign s (marked-long s m) m h (ne_eqb (number_from 0 (part s 3 2)) 1 (λ k. f (e ∙ k)))))

    module _ (one : version ≡ 1) where
      ours : eqb (number_from 0 (part s 3 2)) 1 ≡ true
      ours = eq-eqb (number_from 0 (part s 3 2)) 1 (sym e ∙ one)

      pub told-headless : length s < 9 → Err Broken ≡ told (verdict s)
      told-headless k = sym (ap told (verdict-headless s (marked-long s m) m h ours k))

      module _ (o : octets s ≡ true) (k : 9 ≤ length s) (r : Option Tally) (c : r ≡ checked (part s 9 (length s - 9))) where
        says : Says (drop 9 s) r
        says = says_of (drop 9 s) r (c ∙ ap checked (part-rest s 9))

        judged : verdict s ≡ cond (whole_of (number_from 0 (part s 5 4)) (drop 9 s)) (good (versions (drop 9 s))) broken
        judged = verdict-records s (marked-long s m) m h ours o k

        pub told-wrong : (why : BadImage) → Err why ≡ ok_or r Broken → Err why ≡ told (verdict s)
        told-wrong why w =
            let u = none_of r why w in
            let f : whole_run (drop 9 s) ≡ false = subst (Says (drop 9 s)) u.0 says in
            ap Err u.1 ∙ sym (ap told (judged ∙ ap (λ (b : Bool). cond (b && eqb (number_from 0 (part s 5 4)) (length (versions (drop 9 s)))) (good (versions (drop 9 s))) broken) f))

        module _ (t : Tally) (w : Ok t ≡ ok_or r Broken) (n : ℕ) (f : n ≡ number_from 0 (part s 5 4)) where
          whole : Says (drop 9 s) (Some t)
          whole = subst (Says (drop 9 s)) (some_of r t w) says

          counted : verdict s ≡ cond (eqb n t.count) (good (versions (drop 9 s))) broken
          unfolding tally_of
          counted =
              judged
              ∙ ap (λ (b : Bool). cond (b && eqb (number_from 0 (part s 5 4)) (length (versions (drop 9 s)))) (good (versions (drop 9 s))) broken) whole.0
              ∙ ap₂ (λ (a b : ℕ). cond (eqb a b) (good (versions (drop 9 s))) broken) (sym f) (sym (ap (λ (u : Tally). u.count) whole.1))

          pub told-miscounted : (n ≡ t.count → ⊥) → Err Broken ≡ told (verdict s)
          told-miscounted g = sym (ap told (counted ∙ ap (λ (b : Bool). cond b (good (versions (drop 9 s))) broken) (ne_eqb n t.count g)))

          pub told-good : n ≡ t.count → Ok t.latest ≡ told (verdict s)
          unfolding tally_of
          told-good g =
              ap (λ (u : Tally). Ok u.latest) whole.1
              ∙ sym (ap told (counted ∙ ap (λ (b : Bool). cond b (good (versions (drop 9 s))) broken) (eq-eqb n t.count g)))

-- ---- a wrong mark
pub told-unmarked : (s : Bytes) → starts_with nat_eq s mark ≡ false → Err Broken ≡ told (verdict s)
told-unmarked s e = sym (ap told (go (leb 3 (length s)) refl))
  where
    other : (b : Bool) → same_key (take 3 s) mark ≡ b → same_key (take 3 s) mark ≡ false
    other true k =
        let m : take 3 s ≡ mark = key-eq (take 3 s) mark (is_same-eq (cmp_key (take 3 s) mark) k) in
        let again : take 3 (take 3 s) ≡ take 3 s = ap (take 3) m ∙ sym m in
        let front : starts_with nat_eq s mark ≡ starts_with nat_eq (take 3 s) mark = rw again refl in
        absurd (false≢true (sym e ∙ front ∙ ap (λ (b : Bytes). starts_with nat_eq b mark) m))
    other false k = k

    go : (b : Bool) → leb 3 (length s) ≡ b → verdict s ≡ broken
    go true k = verdict-unmarked s (leb-true 3 (length s) k) (other (same_key (take 3 s) mark) refl)
    go false k = verdict-short s (leb-false 3 (length s) k)

-- the same under a name that an attribute of the code can write
pub ruleset unmarked = (told-unmarked)
