-- Stepping through packed records, one after the other to the end.
-- Assumes nothing.
use native.Mathlib.Omega.{arith}
use Rattle.std.specs.Prelude.{Option, Some, None, Result, Ok, Err}
use Rattle.std.specs.Prelude.{⊤}
use Rattle.std.specs.Option.{ok_or}
use Rattle.std.specs.Iterator.{MakesProgress, at_most}
use mathlib.Core.Path.{◌≡◌, refl, sym, ap, ap₂, ◌∙◌}
use mathlib.Core.Bool.{Bool, true, false, cond}
use mathlib.Core.Option as math
use mathlib.Core.List.{◌∷◌}
use Prim.Native.Nat.{ℕ, ◌+◌, ◌-◌, ◌≤◌, ◌<◌}
use borrow.Author.Tests.{le-leb, lt-leb, leb-false}
use denote.Bor.{Bor}
use lib.Dec.{leb}
use lib.ListN.{length, drop}
use Rattle.paper.specs.Lists.{is_some}
use Rattle.paper.specs.Keys.{Bytes, Version}
use Rattle.paper.specs.Runs.{Run}
use Rattle.paper.specs.Image.{number_from, one_record}
use Rattle.raw.specs.Bytes.{part}
use Rattle.raw.proofs.Parts.{length_part}
use Rattle.key.specs.Versions.{versions, packed}
use Rattle.key.specs.Places.{version_in, Placed}
use Rattle.key.specs.declared.Place.{Place}
use Rattle.key.proofs.Records.{key_length, value_length}
use Rattle.key.proofs.Placing.{place_of, placed, version-placed}
use Rattle.key.proofs.Packed.{record-there, versions-step, onward-packed}
use Rattle.run.specs.Stepping.{place_for, step_of, step_at, behind, after_at, Stepped}
use Rattle.run.specs.declared.reader.Reader.{Reader}
use Rattle.run.specs.Records.{Recorded}
use Rattle.run.specs.declared.reader.Cut.{Cut}
use Rattle.run.proofs.Reading.{part-rest}

-- a version has its parts at its own place
place-for : (s : Bytes) (at : ℕ) (p : Place) → Placed s at p → place_for at (version_in s p) ≡ p
place-for s at p h =
    let k : length (part s p.ks (p.ke - p.ks)) ≡ p.ke - p.ks = length_part s p.ks (p.ke - p.ks) (omega (arith, h.key, h.mid, h.value, h.inside)) in
    let v : length (part s p.vs (p.ve - p.vs)) ≡ p.ve - p.vs = length_part s p.vs (p.ve - p.vs) (omega (arith, h.value, h.inside)) in
    let e₁ : at + 2 ≡ p.ks = omega (arith, h.start) in
    let e₂ : at + 2 + length (part s p.ks (p.ke - p.ks)) ≡ p.ke = omega (arith, h.start, h.key) in
    let e₃ : at + 2 + length (part s p.ks (p.ke - p.ks)) + 10 ≡ p.vs = omega (arith, h.start, h.key, h.mid) in
    let e₄ : at + 2 + length (part s p.ks (p.ke - p.ks)) + 10 + length (part s p.vs (p.ve - p.vs)) ≡ p.ve = omega (arith, h.start, h.key, h.mid, h.value) in
    let e : place_for at (version_in s p) ≡ record { ks = p.ks; ke = p.ke; time = p.time; vs = p.vs; ve = p.ve } = cc in
    e

module _ (s : Bytes) (at : ℕ) where
  pub step_end : length s ≤ at → None ≡ step_at s at
  unfolding step_at
  step_end h = sym (ap (λ (b : Bool). cond b None (step_of at (one_record (drop at s)))) (le-leb (length s) at h))

  module _ (l : at < length s) where
    step-on : step_of at (one_record (drop at s)) ≡ step_at s at
    unfolding step_at
    step-on = sym (ap (λ (b : Bool). cond b None (step_of at (one_record (drop at s)))) (lt-leb (length s) at l))

    pub step_cut : one_record (part s at (length s - at)) ≡ math.none → Some (Err (record {})) ≡ step_at s at
    step_cut e = sym (ap (step_of at) (ap one_record (sym (part-rest s at)) ∙ e)) ∙ step-on

    pub step-version : (p : Place) → Placed s at p → Some (Ok p) ≡ step_at s at
    step-version p h = ap (λ (q : Place). Some (Ok q)) (sym (place-for s at p h)) ∙ sym (ap (step_of at) h.read) ∙ step-on

    pub step-told : (r : Option Place) → Recorded s at (length s) r → Some (ok_or r (record {})) ≡ step_at s at
    step-told (Some p) w = step-version p w.there
    step-told None e = step_cut e

  -- where something stands, the next record starts further on, and not behind the end
  module _ (x : Result Place Cut) (e : step_at s at ≡ Some x) where
    inside : at < length s
    unfolding step_at
    inside = go (leb (length s) at) refl
      where
        go : (b : Bool) → leb (length s) at ≡ b → at < length s
        go true k = let z : None ≡ Some x = sym (ap (λ (b : Bool). cond b None (step_of at (one_record (drop at s)))) k) ∙ e in cc
        go false k = leb-false (length s) at k

    pub onward : (at < length s) × (at < after_at s at) × (after_at s at ≤ length s)
    unfolding after_at
    onward = go (one_record (drop at s)) refl
      where
        cut : one_record (drop at s) ≡ math.none → (at < length s) × (at < behind (length s) (step_at s at)) × (behind (length s) (step_at s at) ≤ length s)
        cut k =
            let a : behind (length s) (step_at s at) ≡ length s = ap (behind (length s)) (sym (step-on inside) ∙ ap (step_of at) k) in
            let l = inside in
            (l, omega arith, omega arith)

        whole : is_some (one_record (drop at s)) ≡ true → (at < length s) × (at < behind (length s) (step_at s at)) × (behind (length s) (step_at s at) ≤ length s)
        whole k =
            let h = placed s at k (key_length s at) (number_from 0 (part s (at + 2 + key_length s at) 8)) (value_length s at) refl refl refl in
            let a = ap (behind (length s)) (step-version inside (place_of at (key_length s at) (number_from 0 (part s (at + 2 + key_length s at) 8)) (value_length s at)) h) in
            (inside, omega (arith, h.start, h.key, h.mid, h.value, a), omega (arith, h.inside, a))

        go : (o : math.Option (Version × Bytes)) → one_record (drop at s) ≡ o → (at < length s) × (at < behind (length s) (step_at s at)) × (behind (length s) (step_at s at) ≤ length s)
        go math.none k = cut k
        go (math.some p) k = whole (ap is_some k)

-- a reader comes nearer to the end
pub nearer : (r t : Reader) (step : Option (Result Place Cut)) → Stepped r step t → MakesProgress (λ _. ⊤) (λ (q : Reader). at_most (length q.src.now - q.at)) r step t
nearer r t None w = record { on = λ _. tt; keeps = tt; rests = λ _. tt }
nearer r t (Some x) w =
    let h = onward r.src.now r.at x (sym w.stands) in
    let l : length t.src.now ≡ length r.src.now = ap (λ (b : Bor Bytes). length b.now) w.same in
    record { on = λ _. (tt, tt, omega (arith, h.0, h.1, h.2, w.onward)); keeps = tt; rests = λ _. tt }

-- what is known where a version stands, of packed records
pub record First (s : Bytes) (at : ℕ) : Type 0 where
  pub place : Place
  pub there : Placed s at place
  pub stands : step_at s at ≡ Some (Ok place)
  pub then : versions (drop at s) ≡ version_in s place ∷ versions (drop (after_at s at) s)
  pub whole : packed (drop (after_at s at) s) ≡ true

-- the first of packed records, and those after it
module _ (s : Bytes) (at : ℕ) (l : at < length s) (whole : packed (drop at s) ≡ true) where
  to_end : packed (part s at (length s - at)) ≡ true
  to_end = ap packed (part-rest s at) ∙ whole

  itself : Placed s at (place_of at (key_length s at) (number_from 0 (part s (at + 2 + key_length s at) 8)) (value_length s at))
  itself = placed s at (record-there s at (length s) l (omega arith) to_end) (key_length s at) (number_from 0 (part s (at + 2 + key_length s at) 8)) (value_length s at) refl refl refl

  pub step-first : First s at
  unfolding after_at
  step-first = go (place_of at (key_length s at) (number_from 0 (part s (at + 2 + key_length s at) 8)) (value_length s at)) itself
    where
      go : (p : Place) → Placed s at p → First s at
      go p h =
          let e : step_at s at ≡ Some (Ok p) = sym (step-version s at l p h) in
          let a : p.ve ≡ behind (length s) (step_at s at) = sym (ap (behind (length s)) e) in
          record {
            place = p;
            there = h;
            stands = e;
            then =
                ap versions (sym (part-rest s at)) ∙ versions-step s at (length s) l (omega arith) to_end p h
                ∙ ap₂ {C = Run} (λ v vs. v ∷ vs) (version-placed s at p h) (ap versions (part-rest s p.ve) ∙ ap (λ (n : ℕ). versions (drop n s)) a);
            whole = ap (λ (n : ℕ). packed (drop n s)) (sym a) ∙ ap packed (sym (part-rest s p.ve)) ∙ onward-packed s at (length s) l (omega arith) to_end p h;
          }
