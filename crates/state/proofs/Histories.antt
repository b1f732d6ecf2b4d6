-- The history's part of a state: the number in front of it, and the check of the bytes behind that, are its rule.
-- Assumes nothing.
use native.Mathlib.Omega.{arith}
use mathlib.Core.Path.{◌≡◌, refl, sym, ap, ap₂, ◌∙◌}
use mathlib.Core.Bool.{Bool, false, cond}
use mathlib.Core.List.{List}
use mathlib.Core.Option.{Option, none, some}
use Prim.Native.Nat.{ℕ, ◌+◌, ◌-◌, ◌≤◌, ◌<◌}
use lib.ListN.{length}
use Rattle.paper.specs.Lists.{hold_all}
use Rattle.paper.specs.Keys.{Bytes}
use Rattle.paper.specs.History.{Commit}
use Rattle.paper.specs.Image.{number_from}
use Rattle.paper.specs.Settings.{Settings}
use Rattle.paper.specs.Sound.{history_rules}
use Rattle.raw.specs.Bytes.{part}
use Rattle.layout.specs.Codec.{many, first_of, room}
use Rattle.layout.specs.Offsets.{width_history, history_part}
use Rattle.layout.specs.Layout.{commit_stream, listed, history_slot}
use Rattle.settings.specs.Parts.{holds_of, history_ok}
use Rattle.mvcc.specs.Histories.{history_read, sound_read}
use Rattle.mvcc.proofs.Checked.{rules-limits}
use Rattle.settings.specs.declared.Shape.{Shape}
use Rattle.settings.proofs.Shapes.{Shaped}
use Rattle.area.proofs.Sizing.{first-lift, sized-cut, sized-here}

-- the rules of what was read, in either mode
rules-read : (st : Settings) (clock : ℕ) (o : Option (List Commit))
    → sound_read (cond st.serializable st.history_entries 0) st.history_hashes clock o ≡ holds_of o (λ cs. hold_all (history_rules st clock cs))
rules-read st clock none = refl
rules-read st clock (some cs) = ap hold_all (sym (rules-limits st clock cs))

module _ (st : Settings) (s : Bytes) (at clock : ℕ) (fit : at + width_history st ≤ length s) (n : ℕ) (e : n ≡ number_from 0 (part s at 8)) where
  same : part s at (at + width_history st - at) ≡ part s at (width_history st)
  same = let z : at + width_history st - at ≡ width_history st = omega arith in ap (part s at) z

  -- more bytes are in use than there are
  history-cut : at + width_history st - (at + 8) < n → false ≡ history_ok st clock (part s at (width_history st))
  unfolding history_ok history_slot room
  history-cut l =
      sym (ap (λ (u : Bytes). holds_of (first_of ((listed commit_stream).get u)) (λ cs. hold_all (history_rules st clock cs))) (sym same)
      ∙ ap (λ p. holds_of (first_of p) (λ cs. hold_all (history_rules st clock cs))) (sized-cut (many commit_stream) s at (at + width_history st) fit (omega arith) n e l))

  history-is : at + 8 + n ≤ at + width_history st
      → sound_read (cond st.serializable st.history_entries 0) st.history_hashes clock (history_read (part s (at + 8) (at + 8 + n - (at + 8)))) ≡ history_ok st clock (part s at (width_history st))
  unfolding history_ok history_slot room
  history-is l =
      let z : at + 8 + n - (at + 8) ≡ n = omega arith in
      rules-read st clock (history_read (part s (at + 8) (at + 8 + n - (at + 8))))
      ∙ ap (λ (m : ℕ). holds_of ((many commit_stream).parse (part s (at + 8) m)) (λ cs. hold_all (history_rules st clock cs))) z
      ∙ sym (ap (λ (u : Bytes). holds_of (first_of ((listed commit_stream).get u)) (λ cs. hold_all (history_rules st clock cs))) (sym same)
      ∙ ap (λ p. holds_of (first_of p) (λ cs. hold_all (history_rules st clock cs))) (sized-here (many commit_stream) s at (at + width_history st) fit (omega arith) n e l)
      ∙ ap (λ (o : Option (List Commit)). holds_of o (λ cs. hold_all (history_rules st clock cs))) (first-lift ((many commit_stream).parse (part s (at + 8) n)) _))

-- where its shape puts it
module _ (st : Settings) (z : Shape) (S : Shaped st z) (b : Bytes) (clock : ℕ) (fit : z.active ≤ length b) (n : ℕ) (e : n ≡ number_from 0 (part b z.history 8)) where
  here : history_ok st clock (part b z.history (width_history st)) ≡ history_ok st clock (history_part st b)
  here = ap (λ (i : ℕ). history_ok st clock (part b i (width_history st))) S.history

  pub history-short : z.active - (z.history + 8) < n → false ≡ history_ok st clock (history_part st b)
  history-short l = history-cut st b z.history clock (omega (arith, S.history-wide)) n e (omega (arith, S.history-wide)) ∙ here

  pub history-told : (entries : ℕ) → n ≤ z.active - (z.history + 8) → entries ≡ cond z.serializable z.entries 0
      → sound_read entries z.hashes clock (history_read (part b (z.history + 8) (z.history + 8 + n - (z.history + 8)))) ≡ history_ok st clock (history_part st b)
  history-told entries l f =
      let o : Option (List Commit) = history_read (part b (z.history + 8) (z.history + 8 + n - (z.history + 8))) in
      let q : entries ≡ cond st.serializable st.history_entries 0 = f ∙ ap₂ (λ (m : Bool) (k : ℕ). cond m k 0) S.serializable S.entries in
      ap₂ (λ (x y : ℕ). sound_read x y clock o) q S.hashes
      ∙ history-is st b z.history clock (omega (arith, S.history-wide)) n e (omega (arith, S.history-wide))
      ∙ here
