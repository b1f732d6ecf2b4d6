-- Steps of a scan: own pairs on top of a walk.
-- Assumes nothing.
use native.Mathlib.Omega.{arith}
use native.Mathlib.Decide.{dec_lt}
use mathlib.Core.Path.{◌≡◌, refl, sym, ap, ◌∙◌, subst}
use mathlib.Core.Bool.{Bool, true, false, ◌&&◌, cond, true≢false}
use mathlib.Core.List.{List, [], ◌∷◌}
use mathlib.Core.Option.{Option, some}
use Rattle.std.specs.Prelude as std
use Rattle.std.specs.Prelude.{None, Some}
use Rattle.merge.specs.Unread.{unread}
use Rattle.merge.specs.declared.heap.Heap.{Heap}
use Prim.Native.Nat.{ℕ, ◌-◌, ◌≤◌, ◌<◌}
use lib.ListN.{length, drop, length-take, length-drop}
use Rattle.paper.specs.Lists.{all, keep, first, rises}
use Rattle.paper.specs.Keys.{Bytes, Pair, cmp_key, same_key, cmp_pair}
use Rattle.paper.specs.Bounds.{Bound}
use Rattle.paper.proofs.Bools.{and_left, and_right, and_intro, is_lt-lt}
use Rattle.paper.proofs.Alls.{all-mono, all_keep}
use Rattle.paper.proofs.KeyOrder.{pair-order}
use Rattle.paper.proofs.Rising.{rises-of}
use Rattle.paper.proofs.ScanLaws.{above-up}
use Rattle.raw.specs.Bytes.{part}
use Rattle.lsm.specs.Pairs.{own_in, OwnAt, pair_at, InBytes, PairAt, own_low}
use Rattle.lsm.specs.Shown.{shown, left_in, same_key_at, coming_from, Answered}
use Rattle.lsm.specs.Overlay.{put_all, own_first, past_key, own_first_at, Standing}
use Rattle.lsm.specs.Edges.{pair_from, pair_up_to}
use Rattle.lsm.specs.Answers.{InAnswer, Says}
use Rattle.lsm.specs.declared.answer.Span.{Span}
use Rattle.merge.proofs.KeepLaws.{keep_all, keep-yes, keep-no, keep-none}
use Rattle.lsm.proofs.Basics.{not-true, not-false}
use Rattle.lsm.proofs.PresentLaws.{After, below-after}
use Rattle.lsm.proofs.PairLaws.{pairs_is, own-none}
use Rattle.lsm.proofs.OverlayLaws.{AfterAll, pairs-after, snapshot-first, own-here, own-gone}

-- ---- by the pair that a walk found
module _ (s : Bytes) (r : ℕ) (hi : Bound) (h : Heap) (k : Bytes) where
  first-at : (o : std.Option Span) → own_first_at s o k ≡ own_first k (coming_from s r hi o h)
  first-at None = refl
  first-at (Some p) = refl

  past_same : (o : std.Option Span) → same_key_at s o k ≡ true → shown r hi (left_in s o) (unread s h) ≡ past_key k (coming_from s r hi o h)
  past_same None e = absurd (true≢false (sym e))
  past_same (Some p) e = sym (ap (λ b. cond b (shown r hi (left_in s (Some p)) (unread s h)) (coming_from s r hi (Some p) h)) e)

  pub past-other : (o : std.Option Span) → same_key_at s o k ≡ false → coming_from s r hi o h ≡ past_key k (coming_from s r hi o h)
  past-other None e = refl
  past-other (Some p) e = sym (ap (λ b. cond b (shown r hi (left_in s (Some p)) (unread s h)) (coming_from s r hi (Some p) h)) e)

says_at : (s : Bytes) (r : ℕ) (hi : Bound) (h : Heap) (o : std.Option Span) → InAnswer s o → Says s (first (coming_from s r hi o h)) o
says_at s r hi h None i = record { is = refl; inside = tt }
says_at s r hi h (Some p) i = record { is = refl; inside = i }

-- the walk's own answer
pub says-walk : (s : Bytes) (r : ℕ) (hi : Bound) (h : Heap) (a : std.Option Span) (o : Option Pair) → Standing s r hi h a → first (coming_from s r hi a h) ≡ o → Says s o a
says-walk s r hi h a o st z = subst (λ (x : Option Pair). Says s x a) z (says_at s r hi h a st.inside)

tail-rises : (p : Pair) (ps : List Pair) → rises cmp_pair (p ∷ ps) ≡ true → rises cmp_pair ps ≡ true
unfolding rises
tail-rises p ps r = rises-of cmp_pair pair-order p ps r

past-rises : (k : Bytes) (ps : List Pair) → rises cmp_pair ps ≡ true → rises cmp_pair (past_key k ps) ≡ true
past-rises k [] r = r
past-rises k (p ∷ ps) r = go (same_key k p.key)
  where
    go : (b : Bool) → rises cmp_pair (cond b ps (p ∷ ps)) ≡ true
    go true = tail-rises p ps r
    go false = r

pub passed-pair : (s : Bytes) (r : ℕ) (hi : Bound) (h g : Heap) (k : Bytes) (a b : std.Option Span) → Standing s r hi h a → same_key_at s a k ≡ true → Answered s r hi (shown r hi (left_in s a) (unread s h)) g b
    → Standing s r hi g b × (coming_from s r hi b g ≡ past_key k (coming_from s r hi a h))
passed-pair s r hi h g k a b st e x =
    let z : coming_from s r hi b g ≡ past_key k (coming_from s r hi a h) = x.same ∙ past_same s r hi h k a e in
    (record { sound = x.sound; inside = x.inside; rising = ap (rises cmp_pair) z ∙ past-rises k (coming_from s r hi a h) st.rising }, z)

-- ---- own pairs
pub own-rises : (s : Bytes) (at end : ℕ) → OwnAt s at end → rises cmp_pair (own_in s at end) ≡ true
own-rises s at end ok = (pairs_is (part s at (end - at)) ok.whole).1

own-later : (o : Pair) (os : List Pair) → rises cmp_pair (o ∷ os) ≡ true → AfterAll o.key os
unfolding rises
own-later o os r = pairs-after o os r

value-length : (s : Bytes) (p : Span) → InBytes s p → length (pair_at s p).value ≡ p.ve - p.vs
value-length s p i = length-take (p.ve - p.vs) (drop p.vs s) ∙ omega (arith, length-drop p.vs s, i.value, i.value_in)

-- the answer: the own pairs up to the bound put into those of the walk
abbrev pub over_at : Bytes → ℕ → Bound → ℕ → ℕ → std.Option Span → Heap → Option Pair
over_at s r hi at end w h = first (put_all (keep (pair_up_to hi) (own_in s at end)) (coming_from s r hi w h))

module _ (s : Bytes) (r : ℕ) (hi : Bound) (at end : ℕ) (w : std.Option Span) (h : Heap) (st : Standing s r hi h w) where
  pub over-end : end ≤ at → first (coming_from s r hi w h) ≡ over_at s r hi at end w h
  unfolding keep put_all
  over-end l = sym (ap (λ (l : List Pair). first (put_all (keep (pair_up_to hi) l) (coming_from s r hi w h))) (own-none s at end l))

  module _ (ok : OwnAt s at end) (p : Span) (pa : PairAt s at end p) where
    abbrev o : Pair
    o = pair_at s p

    abbrev os : List Pair
    os = own_in s p.ve end

    abbrev ps : List Pair
    ps = coming_from s r hi w h

    later : AfterAll o.key os
    later = own-later o os (ap (rises cmp_pair) (sym pa.first) ∙ own-rises s at end ok)

    later-kept : AfterAll o.key (keep (pair_up_to hi) os)
    later-kept = all_keep (λ q. After o.key q.key) (pair_up_to hi) os later

    taken : pair_up_to hi o ≡ true → over_at s r hi at end w h ≡ first (put_all (o ∷ keep (pair_up_to hi) os) ps)
    taken e = ap (λ (l : List Pair). first (put_all l ps)) (ap (keep (pair_up_to hi)) pa.first ∙ keep-yes (pair_up_to hi) o os e)

    none_left : pair_up_to hi o ≡ false → over_at s r hi at end w h ≡ first ps
    unfolding put_all
    none_left e =
        ap (λ (l : List Pair). first (put_all l ps))
        (ap (keep (pair_up_to hi)) pa.first ∙ keep-no (pair_up_to hi) o os e
        ∙ keep-none (pair_up_to hi) os (all-mono (λ q. After o.key q.key) (λ q. cond (pair_up_to hi q) false true) (λ q a. ap (λ b. cond b false true) (below-after hi o.key q.key a e)) os later))

    own-is-first : own_first_at s w o.key ≡ own_first o.key ps
    own-is-first = first-at s r hi h o.key w

    pub over-stop : pair_up_to hi o && own_first_at s w o.key ≡ false → first ps ≡ over_at s r hi at end w h
    over-stop e = go (pair_up_to hi o) refl
      where
        go : (b : Bool) → pair_up_to hi o ≡ b → first ps ≡ over_at s r hi at end w h
        go true q =
            sym (taken q
            ∙ snapshot-first o (keep (pair_up_to hi) os) later-kept ps
            (sym own-is-first ∙ ap (λ (b : Bool). b && own_first_at s w o.key) (sym q) ∙ e))
        go false q = sym (none_left q)

    module _ (e : pair_up_to hi o && own_first_at s w o.key ≡ true) where
      up_to : pair_up_to hi o ≡ true
      up_to = and_left (pair_up_to hi o) (own_first_at s w o.key) e

      ahead : own_first o.key ps ≡ true
      ahead = sym own-is-first ∙ and_right (pair_up_to hi o) (own_first_at s w o.key) e

      pub over-own : p.vs < p.ve → some o ≡ over_at s r hi at end w h
      over-own l = sym (taken up_to ∙ own-here o (keep (pair_up_to hi) os) later-kept ps st.rising ahead (omega (arith, value-length s p pa.inside)))

      pub over-on : (v : std.Option Span) (g : Heap) → coming_from s r hi v g ≡ past_key o.key ps → p.ve ≤ p.vs → over_at s r hi p.ve end v g ≡ over_at s r hi at end w h
      over-on v g z l =
          ap (λ (q : List Pair). first (put_all (keep (pair_up_to hi) os) q)) z
          ∙ sym (taken up_to ∙ own-gone o (keep (pair_up_to hi) os) later-kept ps st.rising ahead (omega (arith, value-length s p pa.inside)))

-- ---- the lower bound of own pairs
pub low-some : (s : Bytes) (lo : Bound) (at end : ℕ) → own_low lo (own_in s at end) ≡ true → at < end
low-some s lo at end e = go (dec_lt at end)
  where
    go : Dec (at < end) → at < end
    go (yes l) = l
    go (no n) = absurd (true≢false (sym e ∙ ap (own_low lo) (own-none s at end (omega arith))))

pub low-past : (s : Bytes) (lo : Bound) (at end : ℕ) (p : Span) → PairAt s at end p → own_low lo (own_in s at end) ≡ true → keep (pair_from lo) (own_in s p.ve end) ≡ keep (pair_from lo) (own_in s at end)
low-past s lo at end p pa e =
    sym (ap (keep (pair_from lo)) pa.first ∙ keep-no (pair_from lo) (pair_at s p) (own_in s p.ve end) (not-true (pair_from lo (pair_at s p)) (ap (own_low lo) (sym pa.first) ∙ e)))

low-none : (lo : Bound) (os : List Pair) → rises cmp_pair os ≡ true → own_low lo os ≡ false → os ≡ keep (pair_from lo) os
unfolding keep rises all
low-none lo [] r e = refl
low-none lo (o ∷ os) r e =
    let a : pair_from lo o ≡ true = not-false (pair_from lo o) e in
    sym (keep_all (pair_from lo) (o ∷ os) (and_intro a (all-mono (λ q. After o.key q.key) (pair_from lo) (λ q l. above-up lo o.key q.key (is_lt-lt (cmp_key o.key q.key) l) a) os (pairs-after o os r))))

pub low-done : (s : Bytes) (lo : Bound) (at end : ℕ) → OwnAt s at end → own_low lo (own_in s at end) ≡ false → own_in s at end ≡ keep (pair_from lo) (own_in s at end)
low-done s lo at end ok e = low-none lo (own_in s at end) (own-rises s at end ok) e
