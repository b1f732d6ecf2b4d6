-- What the first 72 bytes of a buffer say of its settings.
-- Assumes nothing.
use Prim.Native.Nat.{ℕ, ◌+◌, ◌<◌, ◌≤◌}
use native.Mathlib.Omega.{arith}
use mathlib.Core.Path.{◌≡◌, refl, sym, ap, ◌∙◌, subst}
use mathlib.Core.Bool.{Bool, true, false, ◌&&◌, cond}
use mathlib.Core.Option.{Option, none, some}
use Rattle.std.specs.Prelude.{Option as Found, Some, None}
use Rattle.std.specs.Bool.{then_some}
use lib.ListN.{length, take, drop, length-take, length-drop}
use lib.Seq.{drop-drop, length-take-le}
use lib.Dec.{leb, eqb, lit<}
use borrow.Author.Tests.{le-leb, leb-true, leb-false, eqb-true, eqb-false, eq-eqb, ne_eqb}
use Rattle.paper.specs.Keys.{Bytes}
use Rattle.paper.specs.Lists.{is_some}
use Rattle.paper.specs.Image.{bytes, number_from, number, Reading, after, give, ◌>>=◌}
use Rattle.paper.specs.Settings.{Settings, in_ranges, state_length}
use Rattle.paper.specs.Room.{buffer_fits}
use Rattle.paper.proofs.Bools.{and_left, and_right, and_intro}
use Rattle.paper.proofs.SoundLaws.{rules}
use Rattle.raw.specs.Bytes.{part}
use Rattle.raw.proofs.Parts.{part-take}
use Rattle.layout.specs.Codec.{Stream, num, both, via, flag_of, flag, first_of, room}
use Rattle.layout.specs.Offsets.{start_clock}
use Rattle.layout.specs.Layout.{to_settings, from_settings, settings_stream, settings_slot, settings_in, store_in, sound_state}
use Rattle.layout.proofs.SoundState.{sound-held, sound-in}
use Rattle.settings.specs.declared.Settings.{Settings as Given}
use Rattle.settings.specs.Opening.{settings_of, only_if, good_in, answered}

-- the number in the 8 bytes at an offset
abbrev pub number_at : Bytes → ℕ → ℕ
number_at b at = number_from 0 (part b at 8)

-- the settings whose numbers stand one after the other in front
abbrev pub standing : Bytes → Settings
standing b =
    record {
      serializable = eqb (number_at b 0) 1;
      transactions = number_at b 8;
      overlay_bytes = number_at b 16;
      read_hashes = number_at b 24;
      write_hashes = number_at b 32;
      history_entries = number_at b 40;
      history_hashes = number_at b 48;
      active_bytes = number_at b 56;
      area_bytes = number_at b 64;
    }

-- ---- how many bytes a stream takes off the front
abbrev Used : {A : Type 0} → ℕ → Bytes → Option (A × Bytes) → Type 0
Used m s none = Unit {0}
Used m s (some p) = length p.1 + m ≡ length s

record Uses {A : Type 0} (S : Stream A) (m : ℕ) : Type 0 where
  off : (s : Bytes) → Used m s (S.get s)

used-after : {A B : Type 0} (m n : ℕ) (s : Bytes) (o : Option (A × Bytes)) (f : A → Reading B) → Used m s o → ((a : A) (r : Bytes) → Used n r (f a r)) → Used (m + n) s (after o f)
used-after m n s none f u v = tt
used-after {B = B} m n s (some p) f u v = go (f p.0 p.1) (v p.0 p.1)
  where
    go : (o : Option (B × Bytes)) → Used n p.1 o → Used (m + n) s o
    go none w = tt
    go (some q) w = omega arith

used-give : {A B : Type 0} (m : ℕ) (s : Bytes) (o : Option (A × Bytes)) (f : A → B) → Used m s o → Used m s (after o (λ a. give (f a)))
used-give m s none f u = tt
used-give m s (some p) f u = u

used-number : (w : ℕ) (s : Bytes) → Used w s (number w s)
unfolding number bytes
used-number w s = go (leb w (length s)) refl
  where
    go : (t : Bool) → leb w (length s) ≡ t → Used w s (after (cond t (some (take w s, drop w s)) none) (λ x. give (number_from 0 x)))
    go true e = let l = leb-true w (length s) e in rw length-drop (omega arith)
    go false e = tt

uses-num : (w : ℕ) → Uses (num w) w
unfolding num
uses-num w = record { off = used-number w }

uses-flag : (w : ℕ) → Uses (flag w) w
unfolding flag flag_of
uses-flag w = record { off = λ s. go s (number w s) (used-number w s) }
  where
    pick : (s r : Bytes) → length r + w ≡ length s → (t u : Bool) → Used {A = Bool} w s (cond t (some (false, r)) (cond u (some (true, r)) none))
    pick s r e true u = e
    pick s r e false true = e
    pick s r e false false = tt

    go : (s : Bytes) (o : Option (ℕ × Bytes)) → Used w s o → Used w s (after o flag_of)
    go s none u = tt
    go s (some p) u = pick s p.1 u (eqb p.0 0) (eqb p.0 1)

module _ {A B : Type 0} {S : Stream A} {m : ℕ} (u : Uses S m) where
  uses-both : {T : Stream B} {n : ℕ} → Uses T n → Uses (both S T) (m + n)
  unfolding both
  uses-both {T} {n} v =
      record { off = λ s. used-after m n s (S.get s) (λ a. T.get >>= λ b. give (a, b)) (u.off s) (λ a r. used-give n r (T.get r) (λ b. (a, b)) (v.off r)) }

  uses-via : (f : A → B) (g : B → A) → Uses (via f g S) m
  unfolding via
  uses-via f g = record { off = λ s. used-give m s (S.get s) f (u.off s) }

uses-settings : Uses settings_stream 72
unfolding settings_stream
uses-settings =
    let n = uses-num 8 in
    uses-via (uses-both (uses-flag 8) (uses-both n (uses-both n (uses-both n (uses-both n (uses-both n (uses-both n (uses-both n n)))))))) to_settings from_settings

-- ---- reading them
pub number-here : (q : Bytes) (j : ℕ) → j + 8 ≤ length q → number 8 (drop j q) ≡ some (number_at q j, drop (j + 8) q)
unfolding number bytes
number-here q j l = let k : 8 ≤ length (drop j q) = rw length-drop (omega arith) in simp (le-leb 8 (length (drop j q)) k, drop-drop 8 j q)

pub flag-here : (n : ℕ) (s : Bytes) → n ≤ 1 → flag_of n s ≡ some (eqb n 1, s)
unfolding flag_of
flag-here n s l = go (eqb n 0) refl
  where
    go : (t : Bool) → eqb n 0 ≡ t → flag_of n s ≡ some (eqb n 1, s)
    go true e = let f : eqb n 1 ≡ false = ne_eqb n 1 (λ g. omega (arith, eqb-true n 0 e)) in simp (e, f)
    go false e = let f : eqb n 1 ≡ true = eq-eqb n 1 (omega (arith, eqb-false n 0 e)) in simp (e, f)

pub flag-none : (n : ℕ) (s : Bytes) → 1 < n → flag_of n s ≡ none
unfolding flag_of
flag-none n s l = simp (ne_eqb n 0 (λ g. omega arith), ne_eqb n 1 (λ g. omega arith))

module _ (b : Bytes) where
  front : Bytes
  front = take start_clock b

  front-number : (j : ℕ) → j + 8 ≤ start_clock → number_at front j ≡ number_at b j
  unfolding front
  front-number j l = ap (number_from 0) (part-take b start_clock j 8 l)

  module _ (l : start_clock ≤ length b) where
    front-here : (j : ℕ) → j + 8 ≤ start_clock → number 8 (drop j front) ≡ some (number_at b j, drop (j + 8) front)
    unfolding front
    front-here j k = number-here front j (rw (length-take-le start_clock b l) k) ∙ ap {B = Option (ℕ × Bytes)} (λ n. some (n, drop (j + 8) front)) (front-number j k)

    -- the mode's number is 0 or 1
    pub settings-standing : number_at b 0 ≤ 1 → settings_in b ≡ some (standing b)
    unfolding settings_in settings_slot room settings_stream via both flag num front
    settings-standing k =
        simp (front-here 0 (lit< tt), flag-here (number_at b 0) (drop 8 front) k, front-here 8 (lit< tt), front-here 16 (lit< tt), front-here 24 (lit< tt), front-here 32 (lit< tt), front-here 40 (lit< tt), front-here 48 (lit< tt), front-here 56 (lit< tt), front-here 64 (lit< tt))

    -- or it is no mode
    pub settings-foreign : 1 < number_at b 0 → settings_in b ≡ none
    unfolding settings_in settings_slot room settings_stream via both flag num front
    settings-foreign k = simp (front-here 0 (lit< tt), flag-none (number_at b 0) (drop 8 front) k)

  -- settings that read take 72 bytes
  pub settings-long : is_some (settings_in b) ≡ true → start_clock ≤ length b
  unfolding settings_in settings_slot room
  settings-long h = go (settings_stream.get (take start_clock b)) (uses-settings.off (take start_clock b)) h
    where
      go : (o : Option (Settings × Bytes)) → Used 72 (take start_clock b) o → is_some (first_of o) ≡ true → start_clock ≤ length b
      go none u h = absurd (let z : ◌≡◌ {A = ℕ} 0 1 = cc in omega arith)
      go (some p) u h = omega (arith, length-take start_clock b)

  -- every case of what was read
  by_read : {P : Type 0} → (settings_in b ≡ none → P) → (is_some (settings_in b) ≡ true → P) → P
  by_read {P} n s = go (settings_in b) refl
    where
      go : (o : Option Settings) → settings_in b ≡ o → P
      go none e = n e
      go (some st) e = s (ap is_some e)

  pub settings-short : length b < start_clock → settings_in b ≡ none
  settings-short l = by_read (λ e. e) (λ h. absurd (omega (arith, settings-long h)))

  pub settings-mode : is_some (settings_in b) ≡ true → number_at b 0 ≤ 1
  settings-mode h = go (leb (number_at b 0) 1) refl
    where
      go : (t : Bool) → leb (number_at b 0) 1 ≡ t → number_at b 0 ≤ 1
      go true e = leb-true _ _ e
      go false e = absurd (let f = settings-foreign (settings-long h) (leb-false _ _ e) in let z : ◌≡◌ {A = ℕ} 0 1 = cc in omega arith)

  pub settings-are : is_some (settings_in b) ≡ true → settings_in b ≡ some (standing b)
  settings-are h = settings-standing (settings-long h) (settings-mode h)

-- ---- what reading answers
-- the settings in front of a state whose rest can be looked at
pub record Ready (b : Bytes) (st : Settings) : Type 0 where
  pub read : settings_in b ≡ some st
  pub ranges : in_ranges st ≡ true
  pub enough : state_length st ≤ length b

module _ (b : Bytes) where
  pub none-good : settings_in b ≡ none → none ≡ good_in b
  unfolding good_in
  none-good e = sym (ap (only_if (λ st. in_ranges st && buffer_fits st (length b))) e)

  module _ (st : Settings) (e : some st ≡ settings_in b) where
    test : Bool
    test = in_ranges st && buffer_fits st (length b)

    tested : (t : Bool) → test ≡ t → cond t (some st) none ≡ good_in b
    unfolding good_in test
    tested t h = sym (ap (only_if (λ s. in_ranges s && buffer_fits s (length b))) (sym e) ∙ ap (λ u. cond u (some st) none) h)

    pub all-good : in_ranges st ≡ true → state_length st ≤ length b → some st ≡ good_in b
    unfolding test
    all-good h l = tested true (and_intro h (le-leb (state_length st) (length b) l))

  -- whatever the test says of those in front
  pub good-tested : (g : Given) → some (settings_of g) ≡ settings_in b → (t : Bool) → in_ranges (settings_of g) && buffer_fits (settings_of g) (length b) ≡ t
      → answered (then_some t g) ≡ good_in b
  unfolding test
  good-tested g e true h = tested (settings_of g) e true h
  good-tested g e false h = tested (settings_of g) e false h

  -- settings that were found
  pub ready : (st : Settings) → good_in b ≡ some st → Ready b st
  unfolding good_in
  ready st = go (settings_in b) refl
    where
      pick : (s : Settings) → settings_in b ≡ some s → (t : Bool) → in_ranges s && buffer_fits s (length b) ≡ t → cond t (some s) none ≡ some st → Ready b st
      pick s e true f g =
          let x : s ≡ st = cc in
          subst (Ready b) x (record { read = e; ranges = and_left (in_ranges s) (buffer_fits s (length b)) f; enough = leb-true _ _ (and_right (in_ranges s) (buffer_fits s (length b)) f) })
      pick s e false f g = absurd (let z : ◌≡◌ {A = ℕ} 0 1 = cc in omega arith)

      go : (o : Option Settings) → settings_in b ≡ o → only_if (λ s. in_ranges s && buffer_fits s (length b)) o ≡ some st → Ready b st
      go none e g = absurd (let z : ◌≡◌ {A = ℕ} 0 1 = cc in omega arith)
      go (some s) e g = pick s e (in_ranges s && buffer_fits s (length b)) refl g

  pub ready-good : (st : Settings) → Ready b st → good_in b ≡ some st
  ready-good st r = sym (all-good st (sym r.read) r.ranges r.enough)

  pub ready-some : (st : Settings) → Ready b st → is_some (settings_in b) ≡ true
  ready-some st r = ap is_some r.read

  -- those of a sound state
  pub sound-ready : sound_state b ≡ true → Ready b (store_in b).settings
  sound-ready h =
      let k = sound-held b h in
      record { read = k.settings; ranges = (rules (store_in b) (sound-in b h)).ranges; enough = k.enough }

-- ---- a contract determines its answer
given_of : Settings → Given
given_of s =
    record {
      serializable = s.serializable;
      transactions = s.transactions;
      overlay = s.overlay_bytes;
      reads = s.read_hashes;
      writes = s.write_hashes;
      entries = s.history_entries;
      hashes = s.history_hashes;
      active = s.active_bytes;
      area = s.area_bytes;
    }

pub settings-same : (a b : Given) → settings_of a ≡ settings_of b → a ≡ b
unfolding given_of
settings-same a b e = ap given_of e

pub answered-same : (r q : Found Given) → answered r ≡ answered q → r ≡ q
answered-same (Some a) (Some b) e = let f : settings_of a ≡ settings_of b = cc in ap Some (settings-same a b f)
answered-same (Some a) None e = cc
answered-same None (Some b) e = cc
answered-same None None e = refl
