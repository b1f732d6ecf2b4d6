-- The first of the places that are left, and the others.
use Prim.Native.Nat.{ℕ, ◌/◌}
use native.Mathlib.Omega.{arith}
use mathlib.Core.Path.{◌≡◌, sym, ap, ap₂, ◌∙◌}
use mathlib.Core.Bool.{true, false}
use mathlib.Core.List.{◌++◌}
use lib.ListN.{length, take-append-drop}
use Rattle.std.specs.Option.{is_some as is_found}
use Rattle.paper.specs.Keys.{Bytes}
use Rattle.paper.specs.Lists.{among}
use Rattle.paper.specs.Sound.{distinct}
use Rattle.table.specs.Places.{handles_in}
use Rattle.table.proofs.Tags.{taken-found}
use Rattle.table.proofs.Seats.{tag_of, distinct-free, distinct-on, distinct-not, distinct-none}
use Rattle.table.proofs.distinct_handles.Goals as goal
use Rattle.table.proofs.distinct_handles.Goals.{else-handle-ne0-via-then-handle-ne0+else-is_some, else-handle-ne0-via-else-handle-ne0}

pub returns-then-is_some : goal.returns-then-is_some
returns-then-is_some c =
    let e = c.in-Some.ensures.cases in
    let w = c.args.stride in
    let x : Bytes = c.in-Some.place.now in
    let b : Bytes = c.in-Some.others.now in
    let whole : c.loop-place.left.now ≡ x ++ b = sym (take-append-drop w c.loop-place.left.now) ∙ ap₂ (λ (u v : Bytes). u ++ v) (sym e.1) (sym e.2) in
    let so_far = c.loop-place.invariant ∙ ap (λ (u : Bytes). distinct (handles_in u 0 w (length u / w))) whole in
    let h = c.number-handle.ensures.value in
    let f : among (tag_of x) (handles_in b 0 w (length b / w)) ≡ true =
    ap (λ (n : ℕ). among n (handles_in b 0 w (length b / w))) (sym h) ∙ sym (taken-found b 0 w (length b / w) c.number-handle.result (omega (arith, c.if-handle-ne0.true)))
    ∙ ap is_found (sym c.find_place.ensures) ∙ sym c.is_some.ensures ∙ c.if-is_some.true in
    sym (so_far ∙ distinct-not w x b e.3 c.requires (λ z. c.if-handle-ne0.true (h ∙ z)) f)

pub loop-place-preserved : goal.loop-place-preserved
loop-place-preserved c =
    let e = c.in-Some.ensures.cases in
    let w = c.args.stride in
    let x : Bytes = c.in-Some.place.now in
    let b : Bytes = c.in-Some.others.now in
    let whole : c.loop-place.left.now ≡ x ++ b = sym (take-append-drop w c.loop-place.left.now) ∙ ap₂ (λ (u v : Bytes). u ++ v) (sym e.1) (sym e.2) in
    let so_far = c.loop-place.invariant ∙ ap (λ (u : Bytes). distinct (handles_in u 0 w (length u / w))) whole in
    let h = c.number-handle.ensures.value in
    elim c.else-handle-ne0.branch [
      | else-handle-ne0-via-then-handle-ne0+else-is_some v ↦
          let f : among (tag_of x) (handles_in b 0 w (length b / w)) ≡ false =
          ap (λ (n : ℕ). among n (handles_in b 0 w (length b / w))) (sym h) ∙ sym (taken-found b 0 w (length b / w) c.number-handle.result (omega (arith, v.if-handle-ne0.true)))
          ∙ ap is_found (sym v.find_place.ensures) ∙ sym v.is_some.ensures ∙ v.if-is_some.false in
          so_far ∙ distinct-on w x b e.3 c.requires (λ z. v.if-handle-ne0.true (h ∙ z)) f
      | else-handle-ne0-via-else-handle-ne0 v ↦ so_far ∙ distinct-free w x b e.3 c.requires (sym h ∙ v.if-handle-ne0.false)
    ]

pub returns : goal.returns
returns c = sym (c.loop-place.invariant ∙ distinct-none c.args.stride c.loop-place.left.now c.requires c.in_default.ensures.cases)
