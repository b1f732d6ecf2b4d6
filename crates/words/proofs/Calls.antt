-- The call of a line, by the number of its fields and its letter.
-- Assumes nothing.
use mathlib.Core.Path.{◌≡◌, refl, sym, ap, ap₂, ◌∙◌}
use mathlib.Core.Bool.{Bool, true, false, ◌&&◌}
use mathlib.Core.List.{List, [], ◌∷◌}
use mathlib.Core.Option.{none, some}
use Prim.Native.Nat.{ℕ}
use lib.ListN.{length, get_or}
use lib.Dec.{eqb}
use Rattle.std.proofs.Common.{arith}
use Rattle.std.specs.Prelude.{Some, None}
use Rattle.std.specs.Bool.{then_some}
use Rattle.std.specs.List.{slice_split}
use Rattle.paper.specs.Lists.{all}
use Rattle.paper.specs.Keys.{Bytes, cmp_key}
use Rattle.paper.specs.Bounds.{excluded, unbounded}
use Rattle.paper.specs.Settings.{longest}
use Rattle.paper.specs.Calls.{scan}
use Rattle.paper.specs.Replay.{pieces, is_word, is, given, from_of, line_call}
use Rattle.paper.proofs.Bools.{is_same-eq}
use Rattle.paper.proofs.KeyOrder.{key-eq}
use Rattle.words.specs.Fields.{handle_in}
use Rattle.words.specs.Commands.{call_of, lone_call, handled_call}
use Rattle.words.specs.declared.Command.TheVariants as command
use Rattle.words.proofs.Handles.{handle-is, handle-not}
use Rattle.words.proofs.Letters.{and-false, and-true, is_one, is-not-one}
use Rattle.words.proofs.Pieces.{pieces-are}

-- ---- lines that are no call by their first or second field
-- the first field is not one byte
pub not-letter : (f : Bytes) (fs : List Bytes) → (length f ≡ 1 → ⊥) → line_call (f ∷ fs) ≡ none
unfolding line_call
not-letter f [] n = rw (is-not-one f 98 n, is-not-one f 122 n)
not-letter f (h ∷ []) n = rw (is-not-one f 99 n, is-not-one f 101 n)
not-letter f (h ∷ (k ∷ [])) n = rw (is-not-one f 103 n, is-not-one f 100 n, is-not-one f 102 n)
not-letter f (h ∷ (k ∷ (b ∷ []))) n = rw (is-not-one f 112 n)
not-letter f (h ∷ (k ∷ (b ∷ (x ∷ xs)))) n = refl

-- the second is no handle
pub not-handle : (f h : Bytes) (fs : List Bytes) → handle_in h ≡ None → line_call (f ∷ (h ∷ fs)) ≡ none
unfolding line_call
not-handle f h [] e = rw (handle-not h e, and-false (is f 99), and-false (is f 101))
not-handle f h (k ∷ []) e = rw (handle-not h e, and-false (is f 103), and-false (is f 100), and-false (is f 102))
not-handle f h (k ∷ (b ∷ [])) e = rw (handle-not h e, and-false (is f 112))
not-handle f h (k ∷ (b ∷ (x ∷ xs))) e = refl

-- ---- lines that may be one
pub lone : (f : ℕ) → line_call ((f ∷ []) ∷ []) ≡ lone_call f
unfolding line_call
lone f = rw (is_one f 98, is_one f 122)

pub handled : (f : ℕ) (h : Bytes) (n : ℕ) (fs : List Bytes) → handle_in h ≡ Some n → line_call ((f ∷ []) ∷ (h ∷ fs)) ≡ handled_call f n fs
unfolding line_call
handled f h n [] e = let w = handle-is h n e in rw (w.0, w.1, is_one f 99, is_one f 101, and-true (eqb f 99), and-true (eqb f 101))
handled f h n (k ∷ []) e = let w = handle-is h n e in rw (w.0, w.1, is_one f 103, is_one f 100, is_one f 102)
handled f h n (k ∷ (b ∷ [])) e = let w = handle-is h n e in rw (w.0, w.1, is_one f 112)
handled f h n (k ∷ (b ∷ (x ∷ xs))) e = refl

-- '`-` for unbounded': it is no key
not-word : is_word (45 ∷ []) ≡ false
unfolding is_word all
not-word = refl

pub dash-no-word : (k : Bytes) → is k 45 ≡ true → is_word k ≡ false
dash-no-word k q = ap is_word (key-eq k (45 ∷ []) (is_same-eq (cmp_key k (45 ∷ [])) q)) ∙ not-word

word-no-dash : (k : Bytes) → is_word k ≡ true → is k 45 ≡ false
word-no-dash k w = go (is k 45) (dash-no-word k)
  where
    go : (t : Bool) → (t ≡ true → is_word k ≡ false) → t ≡ false
    go true f = cc (w, f refl)
    go false f = refl

-- ---- a key behind the handle
module _ (f h : ℕ) (k : Bytes) where
  pub dashed : is k 45 ≡ true → handled_call f h (k ∷ []) ≡ call_of (then_some (eqb f 102) (command.First h))
  unfolding from_of
  dashed q = rw (q, dash-no-word k q, and-false (eqb f 103), and-false (eqb f 100)) (go (eqb f 102))
    where
      go : (s : Bool) → given (s && true) (scan h unbounded unbounded longest longest) ≡ call_of (then_some s (command.First h))
      go true = refl
      go false = refl

  pub no-key : is k 45 ≡ false → is_word k ≡ false → handled_call f h (k ∷ []) ≡ none
  no-key q w = rw (q, w, and-false (eqb f 103), and-false (eqb f 100), and-false (eqb f 102))

  pub above : f ≡ 102 → is_word k ≡ true → handled_call f h (k ∷ []) ≡ some (scan h (excluded k) unbounded longest longest)
  unfolding from_of
  above e w = rw (e, w, word-no-dash k w)

-- ---- a line by its fields, as the library's `split` gives them
one-byte : (f : Bytes) → length f ≡ 1 → f ≡ get_or f 0 0 ∷ []
one-byte [] e = absurd (omega arith)
one-byte (b ∷ []) e = refl
one-byte (b ∷ (x ∷ xs)) e = absurd (omega arith)

module _ (l f : Bytes) (r : List Bytes) (p : slice_split (λ b. eqb b 32) l ≡ f ∷ r) where
  fielded : pieces 32 l ≡ f ∷ r
  fielded = sym (pieces-are 32 l) ∙ p

  pub no-letter : (length f ≡ 1 → ⊥) → line_call (pieces 32 l) ≡ none
  no-letter n = ap line_call fielded ∙ not-letter f r n

  module _ (o : length f ≡ 1) where
    pub lone-line : r ≡ [] → line_call (pieces 32 l) ≡ lone_call (get_or f 0 0)
    lone-line e = ap line_call fielded ∙ ap₂ (λ (x : Bytes) (xs : List Bytes). line_call (x ∷ xs)) (one-byte f o) e ∙ lone (get_or f 0 0)

    module _ (h : Bytes) (s : List Bytes) (q : r ≡ h ∷ s) where
      pub no-handle : handle_in h ≡ None → line_call (pieces 32 l) ≡ none
      no-handle e = ap line_call (fielded ∙ ap (λ (xs : List Bytes). f ∷ xs) q) ∙ not-handle f h s e

      pub handled-line : (n : ℕ) → handle_in h ≡ Some n → (fs : List Bytes) → s ≡ fs → line_call (pieces 32 l) ≡ handled_call (get_or f 0 0) n fs
      handled-line n e fs g =
          ap line_call fielded ∙ ap₂ (λ (x : Bytes) (xs : List Bytes). line_call (x ∷ xs)) (one-byte f o) q
          ∙ handled (get_or f 0 0) h n s e ∙ ap (handled_call (get_or f 0 0) n) g
