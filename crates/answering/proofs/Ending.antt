-- The two checks of 5 that get and scan share, and what a call that ends by them is on a state's bytes.
-- Assumes nothing.
use mathlib.Core.Path.{◌≡◌, refl, ap, ap₂, ◌∙◌}
use mathlib.Core.Bool.{Bool, true, false}
use Rattle.paper.specs.Keys.{Bytes}
use Rattle.paper.specs.Refusals.{Refusal, go, must, ◌>>◌}
use Rattle.paper.specs.Store.{Store}
use Rattle.paper.specs.Calls.{Reply, outcome, Call, tried}
use Rattle.layout.specs.Layout.{write_store, store_in}
use Rattle.reply.specs.Told.{Told, told}
use Rattle.reply.specs.OnBytes.{told_on, value_on, key_on}
use Rattle.reply.proofs.Ends.{refused-told, refused-value, refused-key, done-told, done-value, done-key}
use Rattle.answering.specs.Rests.{told_by, state_by, value_by, key_by}

-- ---- 5: two checks, and then a reply with a store
module _ (c : Call) (b : Bytes) (r q : Refusal) (a : Reply) (x : Store) (after : Bytes) where
  pub rest-told : (f g : Bool) → tried (store_in b) c ≡ must f r >> (must g q >> outcome a x) → (f ≡ true → write_store x b ≡ after)
      → told_on c b ≡ (told_by (must f r >> (must g q >> go a)), state_by b after (must f r >> (must g q >> go a)))
  unfolding must ◌>>◌
  rest-told false g e w = refused-told c b r e
  rest-told true false e w = refused-told c b q e
  rest-told true true e w = done-told c b (record { reply = a; store = x }) e ∙ ap (λ (y : Bytes). (told a, y)) (w refl)

  pub rest-value : (f g : Bool) → tried (store_in b) c ≡ must f r >> (must g q >> outcome a x) → (out : Bytes) → value_on c b out ≡ value_by (must f r >> (must g q >> go a)) out
  unfolding must ◌>>◌
  rest-value false g e = refused-value c b r e
  rest-value true false e = refused-value c b q e
  rest-value true true e = done-value c b (record { reply = a; store = x }) e

  pub rest-key : (f g : Bool) → tried (store_in b) c ≡ must f r >> (must g q >> outcome a x) → (out : Bytes) → key_on c b out ≡ key_by (must f r >> (must g q >> go a)) out
  unfolding must ◌>>◌
  rest-key false g e = refused-key c b r e
  rest-key true false e = refused-key c b q e
  rest-key true true e = done-key c b (record { reply = a; store = x }) e

-- what is told and the bytes, side by side
pub both_told : {t u : Told} {b d : Bytes} → t ≡ u → b ≡ d → ◌≡◌ {A = Told × Bytes} (t, b) (u, d)
both_told e f = ap₂ {C = Told × Bytes} (λ x y. (x, y)) e f
