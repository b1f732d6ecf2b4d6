-- A state is sound exactly if its settings are good and every test of its parts passes.
-- Assumes nothing.
use Prim.Native.Nat.{ℕ, zero, suc, ◌+◌, ◌*◌, ◌-◌, ◌≤◌, ◌<◌}
use native.Mathlib.Omega.{arith}
use native.Mathlib.Nat.{suc-mul, zero-mul}
use mathlib.Core.Path.{◌≡◌, refl, sym, ap, ap₂, ◌∙◌}
use mathlib.Core.Bool.{Bool, true, false, ◌&&◌, cond}
use mathlib.Core.List.{List, [], ◌∷◌}
use mathlib.Core.Option.{Option, none, some}
use lib.ListN.{length, take, drop, get_or}
use lib.Dec.{leb, eqb}
use borrow.Author.Tests.{le-leb, eq-eqb, eqb-true, eqb-false}
use Rattle.paper.specs.Lists.{all, is_some, hold_all}
use Rattle.paper.specs.Keys.{Bytes, octets}
use Rattle.paper.specs.Runs.{Run}
use Rattle.paper.specs.Readers.{Row}
use Rattle.paper.specs.History.{Commit}
use Rattle.paper.specs.Image.{number_from}
use Rattle.paper.specs.Settings.{Settings, in_ranges, state_length, most_number, most_runs}
use Rattle.paper.specs.Store.{Txn, Store, txns_of, handles_of, read_numbers_of, rows_of, area_size}
use Rattle.paper.specs.Room.{active_fits, runs_fit}
use Rattle.paper.specs.Sound.{sound_txn, distinct, same_rows, history_rules, sound_run, newer_than, run_rules, sound}
use Rattle.paper.proofs.Bools.{and_left, and_right, and_intro}
use Rattle.paper.proofs.Alls.{rule}
use Rattle.paper.proofs.SoundLaws.{rules, sounds}
use Rattle.raw.specs.Bytes.{part}
use Rattle.raw.proofs.Parts.{length_part, take_part, drop-part}
use Rattle.raw.proofs.Octets.{octets-part}
use Rattle.raw.proofs.Numbers.{number_fits}
use Rattle.layout.specs.Codec.{Slot, num, map_option, first_of, room, pair_of, beside, cons_of, read_rows, rows}
use Rattle.layout.specs.Offsets.{start_clock, start_counter, start_rows, width_rows, start_history, start_active, width_active, start_area, width_area, start_places, stride, clock_part, counter_part, rows_part, history_part, active_part, area_part, places_part, place_part}
use Rattle.layout.specs.Layout.{number_slot, rows_slot, history_slot, active_slot, frozen_slot, place_slot, places_slot, Parts, parts_slot, to_store, parts_in, with_settings, settings_in, read_store, or_no_store, store_in, sound_state}
use Rattle.layout.proofs.Slots.{SlotLaws}
use Rattle.layout.proofs.LayoutLaws.{rows-slot, active-slot, frozen-slot, places-slot, rows-width, active-width, frozen-width, place-width, places-width}
use Rattle.layout.proofs.Sides.{Has, has, beside-read}
use Rattle.layout.proofs.SoundState.{no_store-unsound}
use Rattle.layout.proofs.Changes.{places-end, has-place}
use Rattle.settings.specs.Opening.{good_in}
use Rattle.settings.specs.Parts.{holds_of, or_empty, every, clock_in, counter_in, rows_ok, history_ok, active_ok, area_ok, place_sound, place_ok, rows_in, active_in, frozen_in, places_in, places_ok, part_rules, tie_rules, parts_sound}
use Rattle.std.proofs.Math.Bool.{and-false}
use Rattle.settings.proofs.Reading.{number-here, Ready, ready, ready-good, sound-ready}

-- ---- tests
pub same_truth : (a b : Bool) → (a ≡ true → b ≡ true) → (b ≡ true → a ≡ true) → a ≡ b
same_truth true b f g = sym (f refl)
same_truth false true f g = g refl
same_truth false false f g = refl

and_assoc : (a b c : Bool) → (a && b) && c ≡ a && (b && c)
and_assoc true b c = refl
and_assoc false b c = refl

-- a rule that does not hold
pub rule-fails : (n : ℕ) (l : List Bool) → get_or l n true ≡ false → hold_all l ≡ false
rule-fails n l e = go (hold_all l) refl
  where
    go : (t : Bool) → hold_all l ≡ t → hold_all l ≡ false
    go true h = h ∙ sym (rule n l h) ∙ e
    go false h = h

-- ---- what was found
-- reading, and a test of what was read, are one test
pub read-and : {A : Type 0} (o : Option (List A)) (f : List A → Bool) → is_some o && f (or_empty o) ≡ holds_of o f
read-and none f = refl
read-and (some l) f = refl

found_some : {A : Type 0} (o : Option A) → is_some o ≡ true → holds_of o (λ a. true) ≡ true
found_some none h = h
found_some (some a) h = refl

some-found : {A : Type 0} (o : Option (List A)) (f : List A → Bool) → holds_of o f ≡ true → o ≡ some (or_empty o)
some-found none f h = absurd (let z : ◌≡◌ {A = ℕ} 0 1 = cc in omega arith)
some-found (some l) f h = refl

-- ---- a test at every number below n
pub every-at : (p : ℕ → Bool) (n : ℕ) → every p n ≡ true → (i : ℕ) → i < n → p i ≡ true
unfolding every
every-at p zero h i l = absurd (omega arith)
every-at p (suc n) h i l = go (every-at p n (and_left (every p n) (p n) h) i) (eqb i n) refl
  where
    go : (i < n → p i ≡ true) → (t : Bool) → eqb i n ≡ t → p i ≡ true
    go f true e = ap p (eqb-true i n e) ∙ and_right (every p n) (p n) h
    go f false e = f (omega (arith, eqb-false i n e))

pub every_front : (p : ℕ → Bool) (n : ℕ) → every p (suc n) ≡ p 0 && every (λ i. p (suc i)) n
unfolding every
every_front p zero = sym (same_truth (p 0 && true) (p 0) (and_left (p 0) true) (λ h. and_intro h refl))
every_front p (suc n) = ap (λ t. t && p (suc n)) (every_front p n) ∙ and_assoc (p 0) (every (λ i. p (suc i)) n) (p (suc n))

every-same : (p q : ℕ → Bool) → ((i : ℕ) → p i ≡ q i) → (n : ℕ) → every p n ≡ every q n
unfolding every
every-same p q e zero = refl
every-same p q e (suc n) = ap₂ (λ a b. a && b) (every-same p q e n) (e n)

-- ---- slots of one kind: each of them, and all
module _ {A : Type 0} (S : Slot A) (f : A → Bool) where
  holds-cons : (o : Option A) (q : Option (List A)) → holds_of (cons_of o q) (all f) ≡ holds_of o f && holds_of q (all f)
  unfolding all
  holds-cons none q = refl
  holds-cons (some a) none = sym (and-false (f a))
  holds-cons (some a) (some as') = refl

  each_row : (b : Bytes) (n at : ℕ) → every (λ i. holds_of (S.read (part b (at + i * S.width) S.width)) f) n ≡ holds_of (read_rows S n (part b at (n * S.width))) (all f)
  unfolding every all read_rows
  each_row b zero at = refl
  each_row b (suc n) at =
      let w : ℕ = S.width in
      let test : ℕ → Bool = λ i. holds_of (S.read (part b (at + i * w) w)) f in
      let z : at + 0 * w ≡ at = omega (arith, zero-mul w) in
      let m : suc n * w ≡ n * w + w = suc-mul n w in
      let t : take w (part b at (suc n * w)) ≡ part b at w = take_part b at (suc n * w) w (omega arith) in
      let k : suc n * w - w ≡ n * w = omega arith in
      let d : drop w (part b at (suc n * w)) ≡ part b (at + w) (n * w) = drop-part b at (suc n * w) w ∙ ap (part b (at + w)) k in
      let s : (i : ℕ) → at + suc i * w ≡ at + w + i * w = λ i. omega (arith, suc-mul i w) in
      every_front test n
      ∙ ap₂ (λ x y. x && y) (ap (λ (j : ℕ). holds_of (S.read (part b j w)) f) z)
      (every-same (λ i. test (suc i)) (λ i. holds_of (S.read (part b (at + w + i * w) w)) f) (λ i. ap (λ (j : ℕ). holds_of (S.read (part b j w)) f) (s i)) n ∙ each_row b n (at + w))
      ∙ sym (ap₂ (λ (x y : Bytes). holds_of (cons_of (S.read x) (read_rows S n y)) (all f)) t d ∙ holds-cons (S.read (part b at w)) (read_rows S n (part b (at + w) (n * w))))

-- as many as there are slots
abbrev Many : {A : Type 0} → ℕ → Option (List A) → Type 0
Many n none = Unit {0}
Many n (some xs) = length xs ≡ n

many-rows : {A : Type 0} (S : Slot A) (n : ℕ) (q : Bytes) → Many n (read_rows S n q)
unfolding read_rows
many-rows S zero q = refl
many-rows {A} S (suc n) q = go (S.read (take S.width q)) (read_rows S n (drop S.width q)) (many-rows S n (drop S.width q))
  where
    go : (o : Option A) (r : Option (List A)) → Many n r → Many (suc n) (cons_of o r)
    go none r m = tt
    go (some a) none m = tt
    go (some a) (some as') m = ap suc m

-- ---- what the parts read as, all together
number-reads : (b : Bytes) (at : ℕ) → at + 8 ≤ length b → number_slot.read (part b at 8) ≡ some (number_from 0 (part b at 8))
unfolding number_slot room num
number-reads b at l =
    let q : Bytes = part b at 8 in
    ap first_of (number-here q 0 (omega (arith, length_part b at 8 l))) ∙ ap (λ (x : Bytes). some (number_from 0 x)) (take_part b at 8 8 (omega arith))

parts-read : (st : Settings) (b : Bytes) → (parts_slot st).read (parts_in st b)
    ≡ pair_of (number_slot.read (clock_part b))
    (pair_of (number_slot.read (counter_part b))
    (pair_of ((rows_slot st).read (rows_part st b))
    (pair_of ((history_slot st).read (history_part st b))
    (pair_of ((active_slot st).read (active_part st b)) (pair_of ((frozen_slot st).read (area_part st b)) ((places_slot st).read (places_part st b)))))))
unfolding parts_slot beside number_slot rows_slot history_slot active_slot frozen_slot room
parts-read st b =
    let six = beside (frozen_slot st) (places_slot st) in
    let five = beside (active_slot st) six in
    let four = beside (history_slot st) five in
    let three = beside (rows_slot st) four in
    let two = beside number_slot three in
    beside-read number_slot two b start_clock
    ∙ ap (pair_of (number_slot.read (clock_part b)))
    (beside-read number_slot three b start_counter
    ∙ ap (pair_of (number_slot.read (counter_part b)))
    (beside-read (rows_slot st) four b start_rows
    ∙ ap (pair_of ((rows_slot st).read (rows_part st b)))
    (beside-read (history_slot st) five b (start_history st)
    ∙ ap (pair_of ((history_slot st).read (history_part st b)))
    (beside-read (active_slot st) six b (start_active st)
    ∙ ap (pair_of ((active_slot st).read (active_part st b)))
    (beside-read (frozen_slot st) (places_slot st) b (start_area st)
    ∙ ap (λ (k : ℕ). pair_of ((frozen_slot st).read (area_part st b)) ((places_slot st).read (part b (start_places st) k))) (places-width st))))))

both-numbers : {A : Type 0} (x y : Option ℕ) (m n : ℕ) (r : Option A) → x ≡ some m → y ≡ some n → pair_of x (pair_of y r) ≡ pair_of (some m) (pair_of (some n) r)
both-numbers x y m n r e f = ap₂ (λ (u v : Option ℕ). pair_of u (pair_of v r)) e f

-- ---- the rules of what was read
module _ (st : Settings) (counter clock : ℕ) where
  txns-same : (ps : List (Option Txn)) → all (place_sound st counter clock) ps ≡ all (sound_txn st counter clock) (txns_of ps)
  unfolding all txns_of
  txns-same [] = refl
  txns-same (none ∷ ps) = txns-same ps
  txns-same (some t ∷ ps) = ap (λ x. sound_txn st counter clock t && x) (txns-same ps)

  module _ (o_r : Option (List Row)) (o_h : Option (List Commit)) (o_a : Option Run) (o_f : Option (List Run)) (o_p : Option (List (Option Txn))) where
    abbrev alone : List Bool
    alone =
        is_some o_r
        ∷ holds_of o_h (λ cs. hold_all (history_rules st clock cs))
        ∷ holds_of o_a (λ r. sound_run clock r && active_fits st r)
        ∷ holds_of o_f (λ rs. all (sound_run clock) rs && runs_fit st rs)
        ∷ holds_of o_p (all (place_sound st counter clock))
        ∷ []

    abbrev tied : List Bool
    tied = distinct (handles_of (or_empty o_p)) ∷ same_rows (or_empty o_r) (rows_of (read_numbers_of (or_empty o_p))) ∷ all (newer_than (or_empty o_f)) (or_empty o_a) ∷ []

    abbrev store_of : Store
    store_of = or_no_store (map_option (to_store st) (pair_of (some clock) (pair_of (some counter) (pair_of o_r (pair_of o_h (pair_of o_a (pair_of o_f o_p)))))))

  module _ (h : in_ranges st ≡ true) (k : leb clock most_number ≡ true) (m : leb counter most_number ≡ true) where
    module _ (rs : List Row) (cs : List Commit) (r : Run) (fs : List Run) (ps : List (Option Txn)) (l : length ps ≡ st.transactions) where
      s : Store
      s = store_of (some rs) (some cs) (some r) (some fs) (some ps)

      A : List Bool
      A = alone (some rs) (some cs) (some r) (some fs) (some ps)

      T : List Bool
      T = tied (some rs) (some cs) (some r) (some fs) (some ps)

      apart : sound s ≡ true → hold_all A && hold_all T ≡ true
      unfolding s A T hold_all run_rules
      apart e =
          let q = rules s e in
          let u = run_rules st clock r fs in
          and_intro
          (and_intro refl
          (and_intro q.history
          (and_intro (and_intro (rule 0 u q.runs) (rule 3 u q.runs))
          (and_intro (and_intro (rule 1 u q.runs) (and_intro (rule 4 u q.runs) (rule 5 u q.runs))) (and_intro (txns-same ps ∙ q.txns) refl)))))
          (and_intro q.handles (and_intro q.rows (and_intro (rule 2 u q.runs) refl)))

      together : hold_all A && hold_all T ≡ true → sound s ≡ true
      unfolding s A T hold_all run_rules
      together e =
          let a : hold_all A ≡ true = and_left (hold_all A) (hold_all T) e in
          let t : hold_all T ≡ true = and_right (hold_all A) (hold_all T) e in
          let x = rule 2 A a in
          let y = rule 3 A a in
          let z = and_right (all (sound_run clock) fs) (runs_fit st fs) y in
          sounds s
          (record {
            ranges = h;
            clock = k;
            counter = m;
            places = eq-eqb (length ps) st.transactions l;
            txns = sym (txns-same ps) ∙ rule 4 A a;
            handles = rule 0 T t;
            rows = rule 1 T t;
            history = rule 1 A a;
            runs =
                and_intro (and_left (sound_run clock r) (active_fits st r) x)
                (and_intro (and_left (all (sound_run clock) fs) (runs_fit st fs) y)
                (and_intro (rule 2 T t)
                (and_intro (and_right (sound_run clock r) (active_fits st r) x)
                (and_intro (and_left (leb (length fs) most_runs) (leb (area_size fs) st.area_bytes) z)
                (and_intro (and_right (leb (length fs) most_runs) (leb (area_size fs) st.area_bytes) z) refl)))));
          })

      all_read : sound (store_of (some rs) (some cs) (some r) (some fs) (some ps)) ≡ hold_all (alone (some rs) (some cs) (some r) (some fs) (some ps)) && hold_all (tied (some rs) (some cs) (some r) (some fs) (some ps))
      unfolding s A T
      all_read = same_truth (sound s) (hold_all A && hold_all T) apart together

    -- where a part does not read there is no store
    no_part : (x : List Bool) (t : Bool) (n : ℕ) → get_or x n true ≡ false → false ≡ hold_all x && t
    no_part x t n e = sym (ap (λ u. u && t) (rule-fails n x e))

    judged : (o_r : Option (List Row)) (o_h : Option (List Commit)) (o_a : Option Run) (o_f : Option (List Run)) (o_p : Option (List (Option Txn))) → Many st.transactions o_p
        → sound (store_of o_r o_h o_a o_f o_p) ≡ hold_all (alone o_r o_h o_a o_f o_p) && hold_all (tied o_r o_h o_a o_f o_p)
    judged none o_h o_a o_f o_p l = no_store-unsound ∙ no_part (alone none o_h o_a o_f o_p) _ 0 refl
    judged (some rs) none o_a o_f o_p l = no_store-unsound ∙ no_part (alone (some rs) none o_a o_f o_p) _ 1 refl
    judged (some rs) (some cs) none o_f o_p l = no_store-unsound ∙ no_part (alone (some rs) (some cs) none o_f o_p) _ 2 refl
    judged (some rs) (some cs) (some r) none o_p l = no_store-unsound ∙ no_part (alone (some rs) (some cs) (some r) none o_p) _ 3 refl
    judged (some rs) (some cs) (some r) (some fs) none l = no_store-unsound ∙ no_part (alone (some rs) (some cs) (some r) (some fs) none) _ 4 refl
    judged (some rs) (some cs) (some r) (some fs) (some ps) l = all_read rs cs r fs ps l

-- ---- a state
module _ (st : Settings) (b : Bytes) where
  -- the places one by one, and all together
  places-each : places_ok st b ≡ holds_of ((places_slot st).read (places_part st b)) (all (place_sound st (counter_in b) (clock_in b)))
  unfolding places_ok place_ok places_slot rows
  places-each =
      ap (λ (w : ℕ). every (λ i. holds_of ((place_slot st).read (part b (start_places st + i * w) w)) (place_sound st (counter_in b) (clock_in b))) st.transactions) (sym (place-width st))
      ∙ each_row (place_slot st) (place_sound st (counter_in b) (clock_in b)) b st.transactions (start_places st)
      ∙ ap (λ (w : ℕ). holds_of (read_rows (place_slot st) st.transactions (part b (start_places st) (st.transactions * w))) (all (place_sound st (counter_in b) (clock_in b)))) (place-width st)

  places-many : Many st.transactions ((places_slot st).read (places_part st b))
  unfolding places_slot rows
  places-many = many-rows (place_slot st) st.transactions (places_part st b)

  fits : (at : ℕ) → octets b ≡ true → at + 8 ≤ length b → leb (number_from 0 (part b at 8)) most_number ≡ true
  fits at o l = le-leb (number_from 0 (part b at 8)) most_number (omega (arith, number_fits b at 8 o l))

  store-read : state_length st ≤ length b → settings_in b ≡ some st → store_in b ≡ or_no_store (map_option (to_store st) ((parts_slot st).read (parts_in st b)))
  unfolding store_in read_store
  store-read l e = ap (λ (o : Option Settings). or_no_store (with_settings b o)) e ∙ ap (λ t. or_no_store (cond t (map_option (to_store st) ((parts_slot st).read (parts_in st b))) none)) (le-leb (state_length st) (length b) l)

  -- settings are good: the parts decide
  pub ready-sound : octets b ≡ true → Ready b st → sound_state b ≡ parts_sound st b
  unfolding sound_state parts_sound part_rules tie_rules rows_ok history_ok active_ok area_ok rows_in active_in frozen_in places_in
  ready-sound o g =
      let n = g.enough in
      let c₁ : start_clock + 8 ≤ length b = omega (arith, places-end st) in
      let c₂ : start_counter + 8 ≤ length b = omega (arith, places-end st) in
      ap sound
      (store-read n g.read
      ∙ ap (λ (x : Option Parts). or_no_store (map_option (to_store st) x)) (parts-read st b ∙ both-numbers (number_slot.read (clock_part b)) (number_slot.read (counter_part b)) (clock_in b) (counter_in b) _ (number-reads b start_clock c₁) (number-reads b start_counter c₂)))
      ∙ judged st (counter_in b) (clock_in b) g.ranges (fits start_clock o c₁) (fits start_counter o c₂) ((rows_slot st).read (rows_part st b)) ((history_slot st).read (history_part st b)) ((active_slot st).read (active_part st b)) ((frozen_slot st).read (area_part st b)) ((places_slot st).read (places_part st b)) places-many
      ∙ ap (λ x. hold_all (rows_ok st (rows_part st b) ∷ history_ok st (clock_in b) (history_part st b) ∷ active_ok st (clock_in b) (active_part st b) ∷ area_ok st (clock_in b) (area_part st b) ∷ x ∷ []) && hold_all (tie_rules st b)) (sym places-each)

  -- ---- a test that fails
  pub part-fails : (n : ℕ) → get_or (part_rules st b) n true ≡ false → parts_sound st b ≡ false
  unfolding parts_sound
  part-fails n e = ap (λ x. x && hold_all (tie_rules st b)) (rule-fails n (part_rules st b) e)

  pub tie-fails : (n : ℕ) → get_or (tie_rules st b) n true ≡ false → parts_sound st b ≡ false
  unfolding parts_sound
  tie-fails n e = ap (λ x. hold_all (part_rules st b) && x) (rule-fails n (tie_rules st b) e) ∙ and-false (hold_all (part_rules st b))

  -- ---- every part passes its own test
  pub record Alone : Type 0 where
    pub rows : rows_ok st (rows_part st b) ≡ true
    pub history : history_ok st (clock_in b) (history_part st b) ≡ true
    pub active : active_ok st (clock_in b) (active_part st b) ≡ true
    pub area : area_ok st (clock_in b) (area_part st b) ≡ true
    pub places : places_ok st b ≡ true

  pub alone-all : Alone → hold_all (part_rules st b) ≡ true
  unfolding part_rules hold_all
  alone-all a = and_intro a.rows (and_intro a.history (and_intro a.active (and_intro a.area (and_intro a.places refl))))

  pub all-alone : hold_all (part_rules st b) ≡ true → Alone
  unfolding part_rules
  all-alone h =
      let l = part_rules st b in
      record { rows = rule 0 l h; history = rule 1 l h; active = rule 2 l h; area = rule 3 l h; places = rule 4 l h }

  -- then the ties decide
  pub alone-tied : Alone → parts_sound st b ≡ hold_all (tie_rules st b)
  unfolding parts_sound
  alone-tied a = ap (λ x. x && hold_all (tie_rules st b)) (alone-all a)

  -- and each part reads
  module _ (o : octets b ≡ true) (g : Ready b st) (a : Alone) where
    part-has : {A : Type 0} {S : Slot (List A)} {Ok : List A → Type 0} → SlotLaws S Ok → (at w : ℕ) (xs : List A) → S.width ≡ w → at + w ≤ state_length st → S.read (part b at w) ≡ some xs → Has S (part b at w) xs
    part-has L at w xs e l r = has L (part b at w) xs (octets-part b at w o) (length_part b at w (omega (arith, g.enough)) ∙ sym e) r

    pub has-rows : Has (rows_slot st) (rows_part st b) (rows_in st b)
    unfolding rows_in rows_ok
    has-rows = part-has (rows-slot st) start_rows (width_rows st) _ (rows-width st) (omega (arith, places-end st)) (some-found ((rows_slot st).read (rows_part st b)) (λ x. true) (found_some ((rows_slot st).read (rows_part st b)) a.rows))

    pub has-active : Has (active_slot st) (active_part st b) (active_in st b)
    unfolding active_in active_ok
    has-active = part-has (active-slot st) (start_active st) (width_active st) _ (active-width st) (omega (arith, places-end st)) (some-found ((active_slot st).read (active_part st b)) _ a.active)

    pub has-frozen : Has (frozen_slot st) (area_part st b) (frozen_in st b)
    unfolding frozen_in area_ok
    has-frozen = part-has (frozen-slot st) (start_area st) (width_area st) _ (frozen-width st) (omega (arith, places-end st)) (some-found ((frozen_slot st).read (area_part st b)) _ a.area)

    pub has-places : Has (places_slot st) (places_part st b) (places_in st b)
    unfolding places_in
    has-places = part-has (places-slot st) (start_places st) (st.transactions * stride st) _ (places-width st) (omega (arith, places-end st)) (some-found ((places_slot st).read (places_part st b)) _ (sym places-each ∙ a.places))

    pub many-places : length (places_in st b) ≡ st.transactions
    unfolding places_in
    many-places = go ((places_slot st).read (places_part st b)) places-many (sym places-each ∙ a.places)
      where
        go : (q : Option (List (Option Txn))) → Many st.transactions q → holds_of q (all (place_sound st (counter_in b) (clock_in b))) ≡ true → length (or_empty q) ≡ st.transactions
        go none m e = absurd (let z : ◌≡◌ {A = ℕ} 0 1 = cc in omega arith)
        go (some ps) m e = m

    pub has-seat : (i : ℕ) → i < st.transactions → Has (place_slot st) (place_part st b i) (get_or (places_in st b) i none)
    has-seat i l = has-place st i l b (places_in st b) has-places

-- 9 is given exactly where this is false
pub sound-parts : (b : Bytes) → octets b ≡ true → sound_state b ≡ holds_of (good_in b) (λ st. parts_sound st b)
sound-parts b o = go (good_in b) refl
  where
    no-state : (t : Bool) → sound_state b ≡ t → good_in b ≡ none → sound_state b ≡ false
    no-state true h e = absurd (let f = ready-good b (store_in b).settings (sound-ready b h) in let z : ◌≡◌ {A = ℕ} 0 1 = cc in omega arith)
    no-state false h e = h

    go : (q : Option Settings) → good_in b ≡ q → sound_state b ≡ holds_of q (λ st. parts_sound st b)
    go none e = no-state (sound_state b) refl e
    go (some st) e = ready-sound st b o (ready b st e)
