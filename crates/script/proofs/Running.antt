-- The lines of a script, one after the other: what is shown, and what is left to read.
-- Assumes nothing.
use native.Mathlib.Numerals.{add-one}
use mathlib.Core.Path.{◌≡◌, refl, sym, ap, ap₂, ◌∙◌}
use mathlib.Core.List.{List, [], ◌∷◌, ◌++◌, append_assoc, append-nil}
use Prim.Native.Nat.{ℕ, suc, ◌+◌}
use Rattle.paper.specs.Keys.{Bytes}
use Rattle.paper.specs.Replay.{output_line}
use Rattle.printing.specs.Shows.{Shows}
use Rattle.printing.specs.declared.Page.{Page}
use Rattle.printing.proofs.Showing.{shown-nothing, shows_both, shows_as}
use Rattle.script.specs.OnLines.{on_line, lines_on}
use Rattle.script.specs.OnPages.{AnswersLine}

-- with the bytes b and the page p at the start: a and q after the first n of the lines ls, where these are left
pub record Running (ls : List Bytes) (b : Bytes) (p : Page) (n : ℕ) (a : Bytes) (q : Page) (left : List Bytes) : Type 0 where
  pub sofar : Bytes
  pub shows : Shows p q sofar
  pub rest : lines_on 1 b ls ≡ sofar ++ lines_on (n + 1) a left

module _ (ls : List Bytes) (b : Bytes) (p : Page) where
  pub start : Running ls b p 0 b p ls
  start = record { sofar = []; shows = record { same_buffer = refl; text = sym (shown-nothing p.out.now p.at) }; rest = refl }

  module _ {n : ℕ} {a : Bytes} {q : Page} {left : List Bytes} (r : Running ls b p n a q left) where
    -- one line more, which is x
    pub step : (x : Bytes) (xs : List Bytes) → left ≡ x ∷ xs → {c : Bytes} {s : Page} → AnswersLine (n + 1) x a q c s → Running ls b p (n + 1) c s xs
    unfolding lines_on
    step x xs e {c} {s} f =
        let y : Bytes = output_line (n + 1) (on_line x a).0 in
        let z : Bytes = lines_on (suc (n + 1)) (on_line x a).1 xs in
        record {
          sofar = r.sofar ++ y;
          shows = shows_both r.sofar y r.shows f.page;
          rest = r.rest
              ∙ ap (λ (ws : List Bytes). r.sofar ++ lines_on (n + 1) a ws) e
              ∙ sym (append_assoc r.sofar y z)
              ∙ ap₂ (λ (k : ℕ) (t : Bytes). (r.sofar ++ y) ++ lines_on k t xs) (sym (add-one (n + 1))) (sym f.state);
        }

    -- no line is left
    pub finish : left ≡ [] → Shows p q (lines_on 1 b ls)
    unfolding lines_on
    finish e = shows_as (sym (r.rest ∙ ap (λ (ws : List Bytes). r.sofar ++ lines_on (n + 1) a ws) e ∙ append-nil r.sofar)) r.shows
