-- A scan's answer is the paper's.
-- Assumes nothing.
use mathlib.Core.Path.{◌≡◌, sym, ap, ap₂, ◌∙◌, subst}
use mathlib.Core.List.{List, []}
use mathlib.Core.Option.{Option, none}
use Rattle.std.specs.Prelude as std
use Prim.Native.Nat.{ℕ}
use Rattle.paper.specs.Lists.{keep, first, rises}
use Rattle.paper.specs.Keys.{Bytes, Pair, cmp_pair}
use Rattle.paper.specs.Bounds.{Bound, unbounded}
use Rattle.paper.specs.Runs.{Run}
use Rattle.paper.specs.Seen.{present, scanned}
use Rattle.merge.specs.Unread.{unread}
use Rattle.lsm.specs.Shown.{shown, coming_from, Answered}
use Rattle.lsm.specs.Edges.{is_from, pair_from, pair_up_to}
use Rattle.lsm.specs.Overlay.{put_all, Standing}
use Rattle.lsm.specs.Answers.{Says}
use Rattle.merge.specs.declared.heap.Heap.{Heap}
use Rattle.lsm.specs.declared.answer.Span.{Span}
use Rattle.lsm.proofs.PresentLaws.{shown-present}
use Rattle.merge.proofs.Handing.{unread-run}
use Rattle.lsm.proofs.LowLaws.{present-from}
use Rattle.lsm.proofs.OverlayLaws.{scanned-own, present-rises}

-- ---- what the walk of a snapshot has to show
module _ (s : Bytes) (r : ℕ) (lo hi : Bound) (vs : Run) (g : Heap) (from : unread s g ≡ keep (is_from lo) vs) where
  pub to-show : shown r hi none (unread s g) ≡ present [] vs r lo hi
  to-show =
      shown-present r hi (unread s g) (unread-run s g)
      ∙ ap (λ (l : Run). present [] l r unbounded hi) from
      ∙ present-from lo hi r vs

  module _ (h : Heap) (w : std.Option Span) (a : Answered s r hi (shown r hi none (unread s g)) h w) where
    shows-all : coming_from s r hi w h ≡ present [] vs r lo hi
    shows-all = a.same ∙ to-show

    pub stands : Standing s r hi h w
    stands = record { sound = a.sound; inside = a.inside; rising = ap (rises cmp_pair) shows-all ∙ present-rises [] vs r lo hi }

    -- the answer on top of it
    pub answers : (own kept : List Pair) (x : std.Option Span) → kept ≡ keep (pair_from lo) own → Says s (first (put_all (keep (pair_up_to hi) kept) (coming_from s r hi w h))) x → Says s (scanned own vs r lo hi) x
    answers own kept x k y =
        subst (λ (o : Option Pair). Says s o x)
        (ap₂ (λ (l ps : List Pair). first (put_all (keep (pair_up_to hi) l) ps)) k shows-all ∙ sym (scanned-own vs r lo hi own)) y
