-- The places of a state that read as transactions: their tags, handles and read numbers are the paper's, and the first place with a tag is where the
-- paper finds, puts and seats a transaction.
-- Assumes nothing.
use Prim.Native.Nat.{ℕ, suc, ◌+◌, ◌*◌, ◌/◌, ◌<◌, ◌≤◌}
use native.Mathlib.Omega.{arith}
use native.Mathlib.Nat.{suc-mul, zero-mul}
use mathlib.Core.Path.{◌≡◌, refl, sym, ap, ap₂, ◌∙◌, subst}
use mathlib.Core.Bool.{Bool, true, false, not, cond}
use mathlib.Core.List.{List, [], ◌∷◌, map}
use mathlib.Core.Option.{Option, none, some}
use lib.ListN.{length, get_or, set}
use lib.Dec.{eqb}
use borrow.Author.Tests.{eq-eqb, ne_eqb, eqb-true, eqb-false}
use Rattle.paper.specs.Keys.{Bytes}
use Rattle.paper.specs.Lists.{keep}
use Rattle.paper.specs.Image.{number_from}
use Rattle.paper.specs.Settings.{Settings}
use Rattle.paper.specs.Store.{Txn, is_of, find_txn, put_txn, seat, txns_of, handles_of, read_numbers_of}
use Rattle.raw.specs.Bytes.{part}
use Rattle.raw.proofs.Parts.{take_part, part-part}
use Rattle.layout.specs.Codec.{map_option}
use Rattle.layout.specs.Offsets.{place_read, stride, start_places, place_at, places_part, place_part}
use Rattle.layout.specs.Layout.{tag_of, place_slot, places_slot}
use Rattle.layout.proofs.Streams.{All}
use Rattle.layout.proofs.Slots.{kept-as}
use Rattle.layout.proofs.LayoutLaws.{OkPlace, places-slot, places-width}
use Rattle.layout.proofs.Sides.{Has}
use Rattle.layout.proofs.Places.{place-fits, seated, place-tag}
use Rattle.layout.proofs.Changes.{has-place}
use Rattle.table.specs.Places.{tag_at, read_at, tags_in, handles_in, reads_in, first_with, placed, found_in}
use Rattle.std.specs.Prelude.{Option as Found, Some, None}
use Rattle.std.proofs.lemmas.Nat.{div-mul-add}
use Rattle.table.proofs.Seats.{tags-part, reads-part}

-- a handle is no 0
abbrev pub OkHandle : Option Txn → Type 0
OkHandle none = Unit {0}
OkHandle (some t) = 0 < t.handle

place-handle : (s : Settings) (p : Option Txn) → OkPlace s p → OkHandle p
place-handle s none o = tt
place-handle s (some t) o = o.0

-- the number behind the tag of a place that is not free
abbrev ReadIs : ℕ → Option Txn → Type 0
ReadIs n none = Unit {0}
ReadIs n (some t) = n ≡ t.read

place_read_lem : (s : Settings) (q : Bytes) (p : Option Txn) → Has (place_slot s) q p → ReadIs (number_from 0 (part q place_read 8)) p
place_read_lem s q none h = tt
place_read_lem s q (some t) h = (seated s q t h).read

-- ---- one place after the other
-- what stands at index at of b is the place p
record Told (b : Bytes) (at : ℕ) (p : Option Txn) : Type 0 where
  tag : tag_at b at ≡ tag_of p
  read : ReadIs (read_at b at) p
  handle : OkHandle p

module _ (b : Bytes) (w : ℕ) where
  -- each of the places ps, w bytes each
  abbrev Each : ℕ → List (Option Txn) → Type 0
  Each at ps = (i : ℕ) → i < length ps → Told b (at + i * w) (get_or ps i none)

  each-head : (at : ℕ) (p : Option Txn) (ps : List (Option Txn)) → Each at (p ∷ ps) → Told b at p
  each-head at p ps e = subst (λ (j : ℕ). Told b j p) (omega (arith, zero-mul w)) (e 0 (omega arith))

  each_tail : (at : ℕ) (p : Option Txn) (ps : List (Option Txn)) → Each at (p ∷ ps) → Each (at + w) ps
  each_tail at p ps e i l =
      let f : at + suc i * w ≡ at + w + i * w = omega (arith, suc-mul i w) in
      subst (λ (j : ℕ). Told b j (get_or ps i none)) f (e (suc i) (omega arith))

  tags-of : (at : ℕ) (ps : List (Option Txn)) → Each at ps → tags_in b at w (length ps) ≡ map tag_of ps
  unfolding tags_in
  tags-of at [] e = refl
  tags-of at (p ∷ ps) e = ap₂ (λ (t : ℕ) (ts : List ℕ). t ∷ ts) (each-head at p ps e).tag (tags-of (at + w) ps (each_tail at p ps e))

  reads_of : (at : ℕ) (ps : List (Option Txn)) → Each at ps → reads_in b at w (length ps) ≡ read_numbers_of ps
  unfolding reads_in read_numbers_of txns_of
  reads_of at [] e = refl
  reads_of at (none ∷ ps) e = simp (eq-eqb (tag_at b at) 0 (each-head at none ps e).tag) (reads_of (at + w) ps (each_tail at none ps e))
  reads_of at (some t ∷ ps) e =
      let h = each-head at (some t) ps e in
      simp (ne_eqb (tag_at b at) 0 (λ z. omega (arith, h.tag, h.handle)))
      (ap₂ (λ (n : ℕ) (ns : List ℕ). n ∷ ns) h.read (reads_of (at + w) ps (each_tail at (some t) ps e)))

  handles-of : (at : ℕ) (ps : List (Option Txn)) → Each at ps → All OkHandle ps
  handles-of at [] e = tt
  handles-of at (p ∷ ps) e = ((each-head at p ps e).handle, handles-of (at + w) ps (each_tail at p ps e))

-- the handles of the places that are not free
kept-handles : (ps : List (Option Txn)) → All OkHandle ps → keep (λ t. not (eqb t 0)) (map tag_of ps) ≡ handles_of ps
unfolding keep handles_of txns_of
kept-handles [] a = refl
kept-handles (none ∷ ps) a = kept-handles ps a.1
kept-handles (some t ∷ ps) a = simp (ne_eqb t.handle 0 (λ z. omega (arith, a.0))) (ap {B = List ℕ} (λ ns. t.handle ∷ ns) (kept-handles ps a.1))

-- ---- the first place with a handle
-- the transaction h is in place i, and nowhere before
pub record TxnAt (h : ℕ) (ps : List (Option Txn)) (i : ℕ) : Type 0 where
  pub inside : i < length ps
  pub txn : Txn
  pub there : get_or ps i none ≡ some txn
  pub handle : txn.handle ≡ h
  pub found : find_txn h ps ≡ some txn
  pub put : (n : Option Txn) → put_txn h n ps ≡ set ps i n

abbrev Finds : ℕ → List (Option Txn) → Option ℕ → Type 0
Finds h ps none = find_txn h ps ≡ none
Finds h ps (some i) = TxnAt h ps i

module _ (h : ℕ) where
  passed : (p : Option Txn) (ps : List (Option Txn)) → is_of h p ≡ false → (o : Option ℕ) → Finds h ps o → Finds h (p ∷ ps) (map_option suc o)
  unfolding find_txn put_txn
  passed p ps e none f = simp e f
  passed p ps e (some i) f =
      record {
        inside = omega (arith, f.inside);
        txn = f.txn;
        there = f.there;
        handle = f.handle;
        found = simp e f.found;
        put = λ n. simp e (ap {B = List (Option Txn)} (λ qs. p ∷ qs) (f.put n));
      }

  here : (t : Txn) (ps : List (Option Txn)) → t.handle ≡ h → TxnAt h (some t ∷ ps) 0
  unfolding find_txn put_txn
  here t ps e =
      let f : eqb h t.handle ≡ true = eq-eqb h t.handle (sym e) in
      record { inside = omega arith; txn = t; there = refl; handle = e; found = simp f; put = λ n. simp f }

  finds : 0 < h → (ps : List (Option Txn)) → Finds h ps (first_with h (map tag_of ps))
  unfolding first_with
  finds z [] = unfold find_txn in refl
  finds z (p ∷ ps) = go p (eqb (tag_of p) h) refl (finds z ps)
    where
      other : (p : Option Txn) → eqb (tag_of p) h ≡ false → is_of h p ≡ false
      other none e = refl
      other (some t) e = ne_eqb h t.handle (λ f. eqb-false t.handle h e (sym f))

      go : (p : Option Txn) (b : Bool) → eqb (tag_of p) h ≡ b → Finds h ps (first_with h (map tag_of ps)) → Finds h (p ∷ ps) (cond b (some 0) (map_option suc (first_with h (map tag_of ps))))
      go none true e f = absurd (omega (arith, eqb-true 0 h e))
      go (some t) true e f = here t ps (eqb-true t.handle h e)
      go p false e f = passed p ps (other p e) (first_with h (map tag_of ps)) f

-- no transaction has the handle 0
pub none-zero : (ps : List (Option Txn)) → All OkHandle ps → find_txn 0 ps ≡ none
unfolding find_txn
none-zero [] a = refl
none-zero (none ∷ ps) a = none-zero ps a.1
none-zero (some t ∷ ps) a = simp (ne_eqb 0 t.handle (λ e. omega (arith, a.0))) (none-zero ps a.1)

-- ---- the first free place
txns-long : (ps : List (Option Txn)) → length (txns_of ps) ≤ length ps
unfolding txns_of
txns-long [] = omega arith
txns-long (none ∷ ps) = omega (arith, txns-long ps)
txns-long (some t ∷ ps) = omega (arith, txns-long ps)

pub record FreeAt (ps : List (Option Txn)) (i : ℕ) : Type 0 where
  pub inside : i < length ps
  pub free : get_or ps i none ≡ none
  pub seated : (t : Txn) → seat t ps ≡ set ps i (some t)
  pub few : length (txns_of ps) < length ps

abbrev Frees : List (Option Txn) → Option ℕ → Type 0
Frees ps none = length (txns_of ps) ≡ length ps
Frees ps (some i) = FreeAt ps i

frees : (ps : List (Option Txn)) → All OkHandle ps → Frees ps (first_with 0 (map tag_of ps))
unfolding first_with seat txns_of
frees [] a = refl
frees (none ∷ ps) a = record { inside = omega arith; free = refl; seated = λ t. refl; few = omega (arith, txns-long ps) }
frees (some u ∷ ps) a = rw (ne_eqb u.handle 0 (λ e. omega (arith, a.0))) (go (first_with 0 (map tag_of ps)) (frees ps a.1))
  where
    go : (o : Option ℕ) → Frees ps o → Frees (some u ∷ ps) (map_option suc o)
    go none f = ap suc f
    go (some i) f =
        record {
          inside = omega (arith, f.inside);
          free = f.free;
          seated = λ t. ap {B = List (Option Txn)} (λ qs. some u ∷ qs) (f.seated t);
          few = omega (arith, f.few);
        }

-- ---- the places of a state
module _ (s : Settings) (b : Bytes) (ps : List (Option Txn)) (h : Has (places_slot s) (places_part s b) ps) where
  pub count-is : length ps ≡ s.transactions
  count-is = (kept-as (places-slot s) (places_part s b) ps h.bytes h.long h.read).1.1

  told : (i : ℕ) → i < s.transactions → Told b (place_at s i) (get_or ps i none)
  told i l =
      let q : Bytes = place_part s b i in
      let p : Option Txn = get_or ps i none in
      let k : Has (place_slot s) q p = has-place s i l b ps h in
      record {
        tag = ap (number_from 0) (sym (take_part b (place_at s i) (stride s) 8 (omega arith))) ∙ place-tag s q p k;
        read = subst (λ (n : ℕ). ReadIs n p) (ap (number_from 0) (part-part b (place_at s i) (stride s) place_read 8 (omega arith))) (place_read_lem s q p k);
        handle = place-handle s p (place-fits s q p k);
      }

  each : Each b (stride s) (start_places s) ps
  each i l = told i (omega (arith, count-is))

  pub ok-handles : All OkHandle ps
  ok-handles = handles-of b (stride s) (start_places s) ps each

  tags-are : tags_in b (start_places s) (stride s) s.transactions ≡ map tag_of ps
  tags-are = ap (tags_in b (start_places s) (stride s)) (sym count-is) ∙ tags-of b (stride s) (start_places s) ps each

  -- the slice of the places, as code lends it
  abbrev lent : Bytes
  lent = places_part s b

  lent-many : length lent / stride s ≡ s.transactions
  lent-many =
      let e : length lent ≡ s.transactions * stride s + 0 = h.long ∙ places-width s ∙ omega arith in
      ap (λ (m : ℕ). m / stride s) e ∙ div-mul-add s.transactions (stride s) 0 (omega arith)

  lent-tags : tags_in lent 0 (stride s) (length lent / stride s) ≡ map tag_of ps
  lent-tags = ap (tags_in lent 0 (stride s)) lent-many ∙ tags-part b (start_places s) (s.transactions * stride s) (stride s) (omega arith) s.transactions 0 (omega arith)
      ∙ ap (λ (i : ℕ). tags_in b i (stride s) s.transactions) (omega arith) ∙ tags-are

  -- the handles and the read numbers are the paper's
  pub handles-are : handles_in lent 0 (stride s) (length lent / stride s) ≡ handles_of ps
  unfolding handles_in
  handles-are = ap (keep (λ t. not (eqb t 0))) lent-tags ∙ kept-handles ps ok-handles

  pub reads-are : reads_in lent 0 (stride s) (length lent / stride s) ≡ read_numbers_of ps
  reads-are =
      ap (reads_in lent 0 (stride s)) lent-many ∙ reads-part b (start_places s) (s.transactions * stride s) (stride s) (omega arith) s.transactions 0 (omega arith)
      ∙ ap₂ (λ (i n : ℕ). reads_in b i (stride s) n) (omega arith) (sym count-is) ∙ reads_of b (stride s) (start_places s) ps each

  -- what a search for a handle says
  abbrev pub TxnFound : ℕ → Found ℕ → Type 0
  TxnFound handle (Some i) = TxnAt handle ps i
  TxnFound handle None = find_txn handle ps ≡ none

  pub txn-found : (handle : ℕ) → 0 < handle → (r : Found ℕ) → r ≡ found_in lent 0 (stride s) (length lent / stride s) handle → TxnFound handle r
  unfolding found_in
  txn-found handle z r e =
      subst (TxnFound handle) (sym (e ∙ ap (λ (ts : List ℕ). placed (first_with handle ts)) lent-tags)) (go (first_with handle (map tag_of ps)) (finds handle z ps))
    where
      go : (o : Option ℕ) → Finds handle ps o → TxnFound handle (placed o)
      go none f = f
      go (some i) f = f

  -- and a search for a free place
  abbrev pub FreeFound : Found ℕ → Type 0
  FreeFound (Some i) = FreeAt ps i
  FreeFound None = length (txns_of ps) ≡ s.transactions

  pub free-found : (r : Found ℕ) → r ≡ found_in lent 0 (stride s) (length lent / stride s) 0 → FreeFound r
  unfolding found_in
  free-found r e =
      subst FreeFound (sym (e ∙ ap (λ (ts : List ℕ). placed (first_with 0 ts)) lent-tags)) (go (first_with 0 (map tag_of ps)) (frees ps ok-handles))
    where
      go : (o : Option ℕ) → Frees ps o → FreeFound (placed o)
      go none f = f ∙ count-is
      go (some i) f = f
