-- The tests of the parts, and of what ties them together, are the rule of a whole state.
-- Assumes nothing.
use native.Mathlib.Omega.{arith}
use mathlib.Core.Path.{◌≡◌, refl, sym, ap, ap₂, ◌∙◌}
use mathlib.Core.Bool.{Bool, true, false, ◌&&◌}
use mathlib.Core.Option.{Option, some}
use Prim.Native.Nat.{ℕ, ◌+◌, ◌-◌, ◌*◌, ◌/◌, ◌≤◌}
use lib.ListN.{length}
use Rattle.paper.specs.Lists.{all, is_some, hold_all}
use Rattle.paper.specs.Keys.{Bytes, octets}
use Rattle.paper.specs.Settings.{Settings, most_number}
use Rattle.paper.specs.Store.{handles_of, read_numbers_of, rows_of}
use Rattle.paper.specs.Sound.{distinct, same_rows, newer_than}
use Rattle.paper.proofs.Bools.{and_left, and_right, and_intro}
use Rattle.paper.proofs.Alls.{rule}
use Rattle.raw.specs.Bytes.{part}
use Rattle.raw.proofs.Parts.{length_part}
use Rattle.layout.specs.Offsets.{places_part, start_active, width_active, start_area, width_area, rows_part, history_part, active_part, area_part}
use Rattle.layout.specs.Layout.{sound_state}
use Rattle.settings.specs.Opening.{good_in, answered, settings_of}
use Rattle.settings.specs.Parts.{holds_of, clock_in, counter_in, rows_ok, history_ok, active_ok, area_ok, rows_in, active_in, frozen_in, places_in, places_ok, part_rules, tie_rules, parts_sound}
use Rattle.settings.specs.declared.Settings.{Settings as Given}
use Rattle.std.specs.Prelude.{Option as Found, None, Some, MatchOption}
use Rattle.settings.specs.declared.Shape.{Shape}
use Rattle.settings.proofs.Shapes.{Shaped}
use Rattle.settings.proofs.Reading.{ready}
use Rattle.settings.proofs.SoundParts.{sound-parts, rule-fails, part-fails, tie-fails, Alone, alone-tied, has-rows, has-places}
use Rattle.table.specs.Rows.{read_in, are_rows}
use Rattle.table.specs.Places.{handles_in, reads_in}
use Rattle.table.proofs.RowsLie.{slot-reads}
use Rattle.table.proofs.StateRules.{match_is, distinct-is}
use Rattle.area.specs.Told.{active_told, area_told, ActiveTold, AreaTold, newer_by}
use Rattle.area.specs.declared.check.Active.{Active}
use Rattle.area.specs.declared.check.Others.{Others}
use Rattle.area.proofs.Checked.{ActiveSays, active-says, AreaSays, area-says, newer-says}
use Rattle.state.specs.Whole.{run_rules, seats_ok, table_rules}

-- ---- the rows
pub rows_is : (st : Settings) (b : Bytes) (n : ℕ) → n ≡ 8 + 16 * st.transactions → (r : Bytes) → r ≡ part b 88 n → is_some (read_in r) ≡ rows_ok st (rows_part st b)
unfolding rows_ok
rows_is st b n e r f = ap (λ (u : Bytes). is_some (read_in u)) f ∙ ap (λ (m : ℕ). is_some (read_in (part b 88 m))) e ∙ sym (ap is_some (slot-reads st (rows_part st b)))

-- ---- the runs
module _ (st : Settings) (b : Bytes) (clock at width : ℕ) where
  -- what the two checks say, where the parts lie
  pub active-told : at ≡ start_active st → width ≡ width_active st → at + width ≤ length b → (r : Found Active) → ActiveTold (part b at width) clock r → ActiveSays st b clock r
  active-told e f fit r h =
      active-says st b clock r (h st (sym (length_part b at width fit ∙ f)) ∙ ap₂ (λ (i w : ℕ). active_told st clock (part b i w)) e f)

  pub area-told : at ≡ start_area st → width ≡ width_area st → at + width ≤ length b → (r : Found Others) → AreaTold (part b at width) clock r → AreaSays st b clock r
  area-told e f fit r h =
      area-says st b clock r (h st (sym (length_part b at width fit ∙ f)) ∙ ap₂ (λ (i w : ℕ). area_told st clock (part b i w)) e f)

module _ (st : Settings) (b : Bytes) (clock : ℕ) where
  pub runs-active : ActiveSays st b clock None → false ≡ hold_all (run_rules st clock b)
  unfolding run_rules
  runs-active h = sym (rule-fails 0 (run_rules st clock b) h)

  pub runs-area : AreaSays st b clock None → false ≡ hold_all (run_rules st clock b)
  unfolding run_rules
  runs-area h = sym (rule-fails 1 (run_rules st clock b) h)

  pub runs-tied : clock ≤ most_number → (a : Active) (k : Others) → ActiveSays st b clock (Some a) → AreaSays st b clock (Some k)
      → newer_by a.tally k ≡ hold_all (run_rules st clock b)
  unfolding run_rules hold_all
  runs-tied c a k x y =
      newer-says st b clock c a.tally k x.0 x.2 y.1
      ∙ sym (ap₂ (λ u v. u && (v && (all (newer_than (frozen_in st b)) (active_in st b) && true))) x.0 y.0 ∙ last (all (newer_than (frozen_in st b)) (active_in st b)))
    where
      last : (u : Bool) → u && true ≡ u
      last true = refl
      last false = refl

-- ---- the reader table
-- with the slice of the places, and that of the rows, as code lends them
module _ (st : Settings) (b : Bytes) (o : octets b ≡ true) (g : good_in b ≡ some st) (a : Alone st b) (z : Shape) (S : Shaped st z) (q : Bytes) (lent : q ≡ part b z.places (z.count * z.stride)) where
  lent-same : q ≡ places_part st b
  lent-same = lent ∙ ap₂ (part b) S.places (ap₂ (λ (n w : ℕ). n * w) S.count S.stride)

  distinct-are : distinct (handles_in q 0 z.stride (length q / z.stride)) ≡ distinct (handles_of (places_in st b))
  distinct-are =
      ap₂ (λ (u : Bytes) (w : ℕ). distinct (handles_in u 0 w (length u / w))) lent-same S.stride
      ∙ distinct-is st b (places_in st b) (has-places st b o (ready b st g) a)

  pub handles-fail : distinct (handles_in q 0 z.stride (length q / z.stride)) ≡ false → false ≡ hold_all (table_rules st b)
  unfolding table_rules
  handles-fail e = sym (rule-fails 0 (table_rules st b) (sym distinct-are ∙ e))

  pub rows-tied : (r : Bytes) → r ≡ part b 88 (z.history - 88) → distinct (handles_in q 0 z.stride (length q / z.stride)) ≡ true
      → are_rows (read_in r) (rows_of (reads_in q 0 z.stride (length q / z.stride))) ≡ hold_all (table_rules st b)
  unfolding table_rules hold_all
  rows-tied r f e =
      ap (λ (u : Bytes). are_rows (read_in u) (rows_of (reads_in q 0 z.stride (length q / z.stride)))) (f ∙ ap (part b 88) (let n : z.history - 88 ≡ 8 + 16 * st.transactions = omega (arith, S.rows-wide) in n))
      ∙ ap₂ (λ (u : Bytes) (w : ℕ). are_rows (read_in (rows_part st b)) (rows_of (reads_in u 0 w (length u / w)))) lent-same S.stride
      ∙ match_is st b (places_in st b) (has-places st b o (ready b st g) a) (rows_in st b) (has-rows st b o (ready b st g) a)
      ∙ sym (ap (λ u. u && (same_rows (rows_in st b) (rows_of (read_numbers_of (places_in st b))) && true)) (sym distinct-are ∙ e) ∙ last _)
    where
      last : (u : Bool) → u && true ≡ u
      last true = refl
      last false = refl

-- ---- the parts, and the state
module _ (st : Settings) (b : Bytes) (clock counter : ℕ) (c : clock ≡ clock_in b) (n : counter ≡ counter_in b) where
  seats-are : seats_ok st counter clock b ≡ places_ok st b
  unfolding seats_ok places_ok
  seats-are = ap₂ (λ (x y : ℕ). seats_ok st x y b) n c

  runs-are : run_rules st clock b ≡ run_rules st (clock_in b) b
  runs-are = ap (λ (x : ℕ). run_rules st x b) c

  pub rows-bad : rows_ok st (rows_part st b) ≡ false → false ≡ parts_sound st b
  unfolding part_rules
  rows-bad h = sym (part-fails st b 0 h)

  pub history-bad : history_ok st clock (history_part st b) ≡ false → false ≡ parts_sound st b
  unfolding part_rules
  history-bad h = sym (part-fails st b 1 (ap (λ (x : ℕ). history_ok st x (history_part st b)) (sym c) ∙ h))

  pub places-bad : seats_ok st counter clock b ≡ false → false ≡ parts_sound st b
  unfolding part_rules
  places-bad h = sym (part-fails st b 4 (sym seats-are ∙ h))

  -- one of the three rules of the runs does not hold
  pub runs-bad : hold_all (run_rules st clock b) ≡ false → false ≡ parts_sound st b
  unfolding run_rules hold_all part_rules tie_rules
  runs-bad h = sym (go (active_ok st (clock_in b) (active_part st b)) refl (area_ok st (clock_in b) (area_part st b)) refl (all (newer_than (frozen_in st b)) (active_in st b)) refl (sym (ap hold_all runs-are) ∙ h))
    where
      go : (x : Bool) → active_ok st (clock_in b) (active_part st b) ≡ x → (y : Bool) → area_ok st (clock_in b) (area_part st b) ≡ y → (t : Bool) → all (newer_than (frozen_in st b)) (active_in st b) ≡ t
          → active_ok st (clock_in b) (active_part st b) && (area_ok st (clock_in b) (area_part st b) && (all (newer_than (frozen_in st b)) (active_in st b) && true)) ≡ false → parts_sound st b ≡ false
      go false x y e t f h = part-fails st b 2 x
      go true x false e t f h = part-fails st b 3 e
      go true x true e false f h = tie-fails st b 2 f
      go true x true e true f h = absurd (let q : ◌≡◌ {A = Bool} false true = sym h ∙ and_intro x (and_intro e (and_intro f refl)) in let w : ◌≡◌ {A = ℕ} 0 1 = cc in omega arith)

  -- the tests of the parts, one after the other
  abbrev four : Bool
  four = ((rows_ok st (rows_part st b) && history_ok st clock (history_part st b)) && seats_ok st counter clock b) && hold_all (run_rules st clock b)

  pub parts-bad : four ≡ false → false ≡ parts_sound st b
  parts-bad = go (rows_ok st (rows_part st b)) refl (history_ok st clock (history_part st b)) refl (seats_ok st counter clock b) refl (hold_all (run_rules st clock b)) refl
    where
      go : (r : Bool) → rows_ok st (rows_part st b) ≡ r → (h : Bool) → history_ok st clock (history_part st b) ≡ h → (p : Bool) → seats_ok st counter clock b ≡ p → (u : Bool) → hold_all (run_rules st clock b) ≡ u
          → ((r && h) && p) && u ≡ false → false ≡ parts_sound st b
      go false r h e p f u g z = rows-bad r
      go true r false e p f u g z = history-bad e
      go true r true e false f u g z = places-bad f
      go true r true e true f false g z = runs-bad g
      go true r true e true f true g z = absurd (let w : ◌≡◌ {A = ℕ} 0 1 = cc in omega arith)

  pub four-hold : four ≡ true
      → (rows_ok st (rows_part st b) ≡ true) × (history_ok st clock (history_part st b) ≡ true) × (seats_ok st counter clock b ≡ true) × (hold_all (run_rules st clock b) ≡ true)
  four-hold e =
      let R : Bool = rows_ok st (rows_part st b) in
      let H : Bool = history_ok st clock (history_part st b) in
      let P : Bool = seats_ok st counter clock b in
      let U : Bool = hold_all (run_rules st clock b) in
      let x = and_left ((R && H) && P) U e in
      let y = and_left (R && H) P x in
      (and_left R H y, and_right R H y, and_right (R && H) P x, and_right ((R && H) && P) U e)

  module _ (r : rows_ok st (rows_part st b) ≡ true) (h : history_ok st clock (history_part st b) ≡ true) (p : seats_ok st counter clock b ≡ true) (u : hold_all (run_rules st clock b) ≡ true) where
    there : hold_all (run_rules st (clock_in b) b) ≡ true
    there = sym (ap hold_all runs-are) ∙ u

    -- every part keeps its own rules
    pub all-alone : Alone st b
    unfolding run_rules
    all-alone =
        record {
          rows = r;
          history = ap (λ (x : ℕ). history_ok st x (history_part st b)) (sym c) ∙ h;
          active = rule 0 (run_rules st (clock_in b) b) there;
          area = rule 1 (run_rules st (clock_in b) b) there;
          places = sym seats-are ∙ p;
        }

    -- then the reader table decides
    pub table-decides : hold_all (table_rules st b) ≡ parts_sound st b
    unfolding table_rules tie_rules hold_all run_rules
    table-decides =
        sym (alone-tied st b all-alone
        ∙ ap (λ x. distinct (handles_of (places_in st b)) && (same_rows (rows_in st b) (rows_of (read_numbers_of (places_in st b))) && (x && true))) (rule 2 (run_rules st (clock_in b) b) there))

-- what reading the settings answered, and the test of the parts behind those that were found
pub sound-told : (b : Bytes) → octets b ≡ true → (o : Found Given) → answered o ≡ good_in b → (r : Bool) (P : Given → Type 0)
    → MatchOption o (r ≡ false) P → ((g : Given) → P g → r ≡ parts_sound (settings_of g) b) → r ≡ sound_state b
sound-told b o None e r P h f = h ∙ sym (sound-parts b o ∙ ap (λ (q : Option Settings). holds_of q (λ st. parts_sound st b)) (sym e))
sound-told b o (Some g) e r P h f = f g h ∙ sym (sound-parts b o ∙ ap (λ (q : Option Settings). holds_of q (λ st. parts_sound st b)) (sym e))
