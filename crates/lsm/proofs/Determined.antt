-- What a contract of this crate leaves open changes nothing that can be seen: places that it allows are the same, or have the same bytes.
-- Assumes nothing.
use native.Mathlib.Omega.{arith}
use mathlib.Core.Path.{◌≡◌, refl, sym, ap, ◌∙◌}
use mathlib.Core.Bool.{Bool}
use mathlib.Core.Option.{Option}
use Rattle.std.specs.Prelude as std
use Rattle.std.specs.Prelude.{None, Some}
use mathlib.Core.List.{List, [], ◌∷◌, head-eq_of_cons-eq}
use Prim.Native.Nat.{ℕ, ◌-◌, Ordering}
use lib.ListN.{length}
use Rattle.paper.specs.Lists.{first}
use Rattle.paper.specs.Keys.{Bytes, Version, Pair, cmp_version, cmp_pair}
use Rattle.paper.specs.Bounds.{Bound}
use Rattle.paper.specs.Image.{Reading, record_bytes, one_record, storable}
use Rattle.raw.specs.Bytes.{part}
use Rattle.raw.proofs.Parts.{length_part}
use Rattle.key.specs.Packing.{read_all, pack_all, packed_by}
use Rattle.key.proofs.Packing.{Codec, packed-is}
use Rattle.key.proofs.Packed.{version-codec}
use Rattle.merge.specs.declared.heap.Cursor.{Cursor}
use Rattle.merge.proofs.CursorLaws.{lawful-is}
use Rattle.lsm.specs.Lying.{LiesIn, FromOn}
use Rattle.lsm.specs.Pairs.{pair_bytes, one_pair, fitting, pair_at, PairAt, OwnFrom}
use Rattle.lsm.specs.Answers.{answer_in, value_in, Says}
use Rattle.lsm.specs.Seeking.{SoughtAt, PastKey, LowAt, Sought}
use Rattle.lsm.specs.Shown.{shown, left_in, coming_from, OverAfter, Answered}
use Rattle.merge.specs.Unread.{unread}
use Rattle.merge.specs.declared.heap.Heap.{Heap}
use Rattle.lsm.specs.declared.answer.Span.{Span}
use Rattle.lsm.proofs.PairLaws.{pair-codec}

-- ---- answers
-- `scan`: two answers that say the same have the same bytes
pub says_same : (s : Bytes) (o : Option Pair) (a b : std.Option Span) → Says s o a → Says s o b → answer_in s a ≡ answer_in s b
says_same s o a b h k = h.is ∙ sym k.is

-- `get`: two answers have the same value
pub got_same : (s : Bytes) (o : Option Bytes) (a b : std.Option Span) → value_in s a ≡ o → value_in s b ≡ o → value_in s a ≡ value_in s b
got_same s o a b h k = h ∙ sym k

-- ---- offsets
-- things packed up to one end start where their bytes do
module _ {A : Type 0} (enc : A → Bytes) (dec : Reading A) (cmp : A → A → Ordering) (fits : A → Bool) (codec : Codec enc dec cmp fits) (s : Bytes) (end : ℕ) where
  lies_same : (r q : ℕ) → LiesIn (packed_by enc dec cmp fits) s r end → LiesIn (packed_by enc dec cmp fits) s q end
      → read_all dec (part s r (end - r)) ≡ read_all dec (part s q (end - q)) → r ≡ q
  lies_same r q h k e =
      let b : part s r (end - r) ≡ part s q (end - q) =
      sym (packed-is enc dec cmp fits codec (part s r (end - r)) h.whole).0 ∙ ap (pack_all enc) e ∙ (packed-is enc dec cmp fits codec (part s q (end - q)) k.whole).0 in
      let n : end - r ≡ end - q =
      sym (length_part s r (end - r) (omega (arith, h.order, h.inside))) ∙ ap (λ (x : Bytes). length x) b ∙ length_part s q (end - q) (omega (arith, k.order, k.inside)) in
      omega (arith, h.order, k.order)

  from-same : (p : A → Bool) (at r q : ℕ) → FromOn (packed_by enc dec cmp fits) (read_all dec) p s at end r → FromOn (packed_by enc dec cmp fits) (read_all dec) p s at end q → r ≡ q
  from-same p at r q h k = lies_same r q h.lies k.lies (h.kept ∙ sym k.kept)

-- `seek`
pub sought-at-same : (s : Bytes) (v : Version) (at end r q : ℕ) → SoughtAt s v at end r → SoughtAt s v at end q → r ≡ q
sought-at-same s v at end r q h k = from-same record_bytes one_record cmp_version storable version-codec s end _ at r q h k

-- `low_at`
pub low-at-same : (s : Bytes) (lo : Bound) (at end r q : ℕ) → LowAt s lo at end r → LowAt s lo at end q → r ≡ q
low-at-same s lo at end r q h k = from-same record_bytes one_record cmp_version storable version-codec s end _ at r q h k

-- `past_key`
pub past-key-same : (s k : Bytes) (at end r q : ℕ) → PastKey s k at end r → PastKey s k at end q → r ≡ q
past-key-same s k at end r q h g =
    lies_same record_bytes one_record cmp_version storable version-codec s end r q h.lies g.lies (h.past ∙ sym g.past)

-- `own_from`
pub own-from-same : (s : Bytes) (lo : Bound) (at end r q : ℕ) → OwnFrom s lo at end r → OwnFrom s lo at end q → r ≡ q
own-from-same s lo at end r q h k = from-same pair_bytes one_pair cmp_pair fitting pair-codec s end _ at r q h k

-- `seek_low`
pub sought-same : (s : Bytes) (lo : Bound) (c r q : Cursor) → Sought s lo c r → Sought s lo c q → r ≡ q
sought-same s lo c r q h k =
    let e : r.end ≡ q.end = h.end ∙ sym k.end in
    let l = lawful-is s r h.lawfully in
    let m = lawful-is s q k.lawfully in
    let a : r.at ≡ q.at = at_same r.at q.at r.end q.end e (record { order = l.order; inside = l.inside; whole = l.whole }) (record { order = m.order; inside = m.inside; whole = m.whole }) (h.kept ∙ sym k.kept) in
    let f : r.run ≡ q.run = h.run ∙ sym k.run in
    let g : ◌≡◌ {A = Cursor} (record { at = r.at; end = r.end; run = r.run }) (record { at = q.at; end = q.end; run = q.run }) = cc in
    g
  where
    at_same : (i j n m : ℕ) → n ≡ m → LiesIn (packed_by record_bytes one_record cmp_version storable) s i n → LiesIn (packed_by record_bytes one_record cmp_version storable) s j m
        → read_all one_record (part s i (n - i)) ≡ read_all one_record (part s j (m - j)) → i ≡ j
    at_same i j n m e x y z =
        lies_same record_bytes one_record cmp_version storable version-codec s n i j x (record { order = omega (arith, y.order); inside = omega (arith, y.inside); whole = ap (λ (l : ℕ). packed_by record_bytes one_record cmp_version storable (part s j (l - j))) e ∙ y.whole })
        (z ∙ ap (λ (l : ℕ). read_all one_record (part s j (l - j))) (sym e))

-- ---- places
-- `pair_at`
pub pair_same : (s : Bytes) (at end : ℕ) (p q : Span) → PairAt s at end p → PairAt s at end q → p ≡ q
pair_same s at end p q h k =
    let e : pair_at s p ≡ pair_at s q = head-eq_of_cons-eq (sym h.first ∙ k.first) in
    let a : p.ke - p.ks ≡ q.ke - q.ks =
    sym (length_part s p.ks (p.ke - p.ks) (omega (arith, h.inside.key, h.inside.key_in))) ∙ ap (λ (x : Pair). length x.key) e ∙ length_part s q.ks (q.ke - q.ks) (omega (arith, k.inside.key, k.inside.key_in)) in
    let b : p.ve - p.vs ≡ q.ve - q.vs =
    sym (length_part s p.vs (p.ve - p.vs) (omega (arith, h.inside.value, h.inside.value_in))) ∙ ap (λ (x : Pair). length x.value) e ∙ length_part s q.vs (q.ve - q.vs) (omega (arith, k.inside.value, k.inside.value_in)) in
    let e₁ : p.ks ≡ q.ks = h.start ∙ sym k.start in
    let e₂ : p.ke ≡ q.ke = omega (arith, h.inside.key, k.inside.key) in
    let e₃ : p.vs ≡ q.vs = omega (arith, h.mid, k.mid) in
    let e₄ : p.ve ≡ q.ve = omega (arith, h.inside.value, k.inside.value) in
    let g : ◌≡◌ {A = Span} (record { ks = p.ks; ke = p.ke; vs = p.vs; ve = p.ve }) (record { ks = q.ks; ke = q.ke; vs = q.vs; ve = q.ve }) = cc in
    g

-- ---- walks
first-answer : (s : Bytes) (r : ℕ) (hi : Bound) (h : Heap) (o : std.Option Span) → answer_in s o ≡ first (coming_from s r hi o h)
first-answer s r hi h None = refl
first-answer s r hi h (Some p) = refl

rest : List Pair → List Pair
rest [] = []
rest (p ∷ ps) = ps

-- the pairs that come where a walk goes on after a pair, or begins anew where it has ended
abbrev pub still : Bytes → ℕ → Bound → std.Option Span → Heap → List Pair
still s r hi o h = shown r hi (left_in s o) (unread s h)

rest-still : (s : Bytes) (r : ℕ) (hi : Bound) (h : Heap) (o : std.Option Span) → OverAfter o s r hi h → still s r hi o h ≡ rest (coming_from s r hi o h)
unfolding rest
rest-still s r hi h None e = e
rest-still s r hi h (Some p) e = refl

-- `next_pair`: two walks from one place are at the same pair, and the same pairs come after it, where they go on; after the end none
pub answered-same : (s : Bytes) (r : ℕ) (hi : Bound) (ps : List Pair) (h g : Heap) (a b : std.Option Span) → Answered s r hi ps h a → Answered s r hi ps g b
    → (answer_in s a ≡ answer_in s b) × (still s r hi a h ≡ still s r hi b g)
answered-same s r hi ps h g a b x y =
    let e : coming_from s r hi a h ≡ coming_from s r hi b g = x.same ∙ sym y.same in (
      first-answer s r hi h a ∙ ap first e ∙ sym (first-answer s r hi g b),
      rest-still s r hi h a x.over ∙ ap rest e ∙ sym (rest-still s r hi g b y.over),
    )
