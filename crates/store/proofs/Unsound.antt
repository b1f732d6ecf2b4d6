-- A state that is not sound is refused by every call but an opening, and no byte changes.
-- Assumes nothing.
use mathlib.Core.Path.{◌≡◌, sym, ap, ◌∙◌}
use mathlib.Core.Bool.{false}
use Rattle.paper.specs.Keys.{Bytes}
use Rattle.paper.specs.Calls.{Call}
use Rattle.layout.specs.Layout.{sound_state}
use Rattle.layout.specs.Runs.{is_opening}
use Rattle.reply.specs.Told.{Told, why, refusal_of}
use Rattle.reply.specs.OnBytes.{told_on, value_on, key_on}
use Rattle.reply.specs.declared.Refusal.{Refusal}
use Rattle.reply.specs.declared.Refusal.TheVariants.{Unsound}
use Rattle.reply.proofs.Ends.{unsound-told, unsound-value, unsound-key}

module _ (c : Call) (b : Bytes) (i : is_opening c ≡ false) (w : Refusal) (e : (w ≡ Unsound) × (sound_state b ≡ false)) where
  pub refused : ◌≡◌ {A = Told × Bytes} (why (refusal_of w), b) (told_on c b)
  refused = ap (λ (x : Refusal). (why (refusal_of x), b)) e.0 ∙ sym (unsound-told c b e.1 i)

  -- nor does a byte of the out buffers
  pub refused-value : (out : Bytes) → out ≡ value_on c b out
  refused-value out = sym (unsound-value c b e.1 i out)

  pub refused-key : (out : Bytes) → out ≡ key_on c b out
  refused-key out = sym (unsound-key c b e.1 i out)
