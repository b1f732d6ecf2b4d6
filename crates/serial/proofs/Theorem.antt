-- Demand 3 holds of the paper's calls, from every opened serializable store on.
-- Assumes nothing.
use Prim.Native.Nat.{ℕ, ◌+◌}
use native.Mathlib.Omega.{arith}
use mathlib.Core.Path.{◌≡◌, refl, sym, ap, ◌∙◌, subst, fun_ext}
use mathlib.Core.Bool.{Bool, true, false, cond}
use mathlib.Core.List.{List, [], ◌∷◌, ◌++◌, append_assoc}
use mathlib.Core.Option.{Option, none, some}
use lib.Dec.{ltb}
use Rattle.paper.specs.Lists.{total}
use Rattle.paper.specs.Keys.{Bytes, octets}
use Rattle.paper.specs.Runs.{Run}
use Rattle.paper.specs.Seen.{visible, own_write, seen}
use Rattle.paper.specs.Settings.{Settings}
use Rattle.paper.specs.Refusals.{go}
use Rattle.paper.specs.Store.{Txn, Store, versions_of}
use Rattle.paper.specs.Calls.{Reply, Call, called, open_runs, opened, open_store, reply_number, of_bytes}
use Rattle.serial.specs.Trace.{Event, event, trace, after, opens_anew, on_one_store}
use Rattle.serial.specs.Plain.{Plain}
use Rattle.serial.specs.Line.{Accepted, accepted, accepted_in, place_of, lined, line_from, line, acts_of}
use Rattle.serial.specs.Serial.{contents, Serial}
use Rattle.serial.proofs.Places.{find-nobody}
use Rattle.serial.proofs.Steps.{step-called, one_store, bind-go, must-go}
use Rattle.serial.proofs.Worlds.{after-later}
use Rattle.serial.proofs.Along.{Along, stop, along-stands, along-alone, along-carried}
use Rattle.serial.proofs.Quiet.{quiet}
use Rattle.serial.proofs.Every.{Every}
use Rattle.paper.specs.Lists.{all}
use Rattle.paper.proofs.OpenSound.{opened-sound}
use Rattle.serial.proofs.Never.{never-nine}
use Rattle.serial.proofs.Keeping.{World, Inv, Next, step-inv}

-- what is visible at each number in a store
abbrev world_of : Store → ℕ → Plain
world_of s q k = visible k q (versions_of s)

-- a store has the world of what it becomes
world-after : (cs : List Call) (s : Store) (from : ℕ) → on_one_store cs ≡ true → World (world_of (after called s cs)) from s
world-after cs s from o = record { same = λ q k h. sym ((after-later cs s o).same q k h) }

-- last: the store in the end; whole: all events; from: the opening clock
module _ (last : Store) (whole : List Event) (from : ℕ) where
  along-all : (cs : List Call) (s : Store) (past : List Event) (line : List Accepted) → on_one_store cs ≡ true → after called s cs ≡ last → past ++ trace called s cs ≡ whole
      → Inv (world_of last) from s past line → Along (world_of last) from (line_from line (accepted_in whole (trace called s cs))) last.clock
  unfolding after trace accepted_in line_from
  along-all [] s past line o f e i = subst (λ (z : Store). Along (world_of last) from line z.clock) f i.along
  along-all (c ∷ cs) s past line o f e i =
      rw (next.adds (accepted_in whole (trace called s' cs)))
      (along-all cs s' (past ++ (event c r ∷ [])) next.line' m.1 f (append_assoc past (event c r ∷ []) (trace called s' cs) ∙ e) next.inv)
    where
      s' : Store
      s' = (called s c).store

      r : Reply
      r = (called s c).reply

      m : (opens_anew c ≡ false) × (on_one_store cs ≡ true)
      m = one_store c cs o

      next : Next (world_of last) from whole past c r s' line
      next =
          step-inv (world_of last) from whole past (trace called s' cs) line (step-called s c m.0)
          (subst (λ z. World (world_of z) from s) f (world-after (c ∷ cs) s from o))
          (subst (λ z. World (world_of z) from s') f (world-after cs s' from m.1))
          (sym e) (λ h q. quiet h cs s' m.1 q) i

-- ---- the line has all of the accepted transactions
lined-total : (f : Accepted → ℕ) (a : Accepted) (l : List Accepted) → total f (lined a l) ≡ f a + total f l
unfolding lined total
lined-total f a [] = refl
lined-total f a (b ∷ bs) = cases (lined-total f a bs) (ltb (place_of a) (place_of b))
  where
    cases : total f (lined a bs) ≡ f a + total f bs → (z : Bool) → total f (cond z (a ∷ (b ∷ bs)) (b ∷ lined a bs)) ≡ f a + (f b + total f bs)
    cases ih true = refl
    cases ih false = omega arith

line_from-total : (f : Accepted → ℕ) (l as' : List Accepted) → total f (line_from l as') ≡ total f l + total f as'
unfolding line_from total
line_from-total f l [] = omega arith
line_from-total f l (a ∷ as') = line_from-total f (lined a l) as' ∙ omega (arith, lined-total f a l)

line-total : (f : Accepted → ℕ) (as' : List Accepted) → total f (line as') ≡ total f as'
unfolding total
line-total f as' = line_from-total f [] as' ∙ omega arith

-- ---- from an opened store on
module _ (st : Settings) (runs : List Run) (mode : st.serializable ≡ true) (cs : List Call) (one : on_one_store cs ≡ true) where
  start : Store
  start = opened st runs

  last : Store
  last = after called start cs

  starts : Inv (world_of last) start.clock start [] []
  unfolding start opened acts_of
  starts =
      record {
        mode = mode;
        open' = λ t f o. let z : ◌≡◌ {A = Option Txn} none (some t) = sym (find-nobody t.handle st.transactions) ∙ f in absurd (nothing t z);
        idle = λ h l. refl;
        unread = λ h l es. refl;
        along = stop;
      }
    where
      nothing : (t : Txn) → none ≡ some t → ⊥
      nothing t z = let y : ◌≡◌ {A = ℕ} 0 1 = cc in omega arith

  along-line : Along (world_of last) start.clock (line_from [] (accepted_in (trace called start cs) (trace called start cs))) last.clock
  unfolding last
  along-line = along-all last (trace called start cs) start.clock cs start [] [] one refl refl starts

  first-world : contents start ≡ world_of last start.clock
  unfolding contents seen own_write last
  first-world = fun_ext (λ k. sym ((after-later cs start one).same start.clock k (omega arith)))

  last-world : contents last ≡ world_of last last.clock
  unfolding contents seen own_write
  last-world = refl

  serial-opened : Serial called (opened st runs) cs
  unfolding start last
  serial-opened =
      record {
        each = λ f. line-total f (accepted (trace called start cs));
        placed = along-stands (world_of last) along-line;
        same = rw first-world (along-alone (world_of last) along-line);
        ends = λ k. rw (first-world, last-world) (ap (λ (m : Plain). m k) (along-carried (world_of last) along-line));
      }

-- what an opening gives
opened-runs : (st : Settings) (images : List Bytes) (room : ℕ) (s : Store) → open_store st images room ≡ go s → (runs : List Run) × (opened st runs ≡ s)
unfolding open_store
opened-runs st images room s e =
    let a = must-go _ _ _ s e in
    let (runs, o, f) = bind-go (open_runs 1 images) _ s a.1 in
    let b = must-go _ _ _ s f in
    let c = must-go _ _ (go (opened st runs)) s b.1 in
    let d = c.1 in
    (runs, cc)

-- Demand 3: 'from a freshly opened serializable store, after any calls on it save an accepted opening anew, refused ones included'
pub serial : (st : Settings) (images : List Bytes) (room : ℕ) (s : Store) → open_store st images room ≡ go s → st.serializable ≡ true
    → (cs : List Call) → on_one_store cs ≡ true → Serial called s cs
serial st images room s e mode cs one =
    let (runs, same) = opened-runs st images room s e in
    subst (λ (z : Store). Serial called z cs) same (serial-opened st runs mode cs one)

-- and no call after an accepted opening answers 9, another opening among them
pub opened-never-nine : (st : Settings) (images : List Bytes) (room : ℕ) (s : Store) → all octets images ≡ true → open_store st images room ≡ go s
    → (cs : List Call) → all of_bytes cs ≡ true → Every (λ (e : Event). reply_number e.reply ≡ 9 → ⊥) (trace called s cs)
opened-never-nine st images room s b e cs o = never-nine cs s o (opened-sound st images room s b e)
