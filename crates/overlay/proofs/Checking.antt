-- The check of packed entries, from the first on: what is left to be seen is whether the rest rises from the last key.
-- Assumes nothing.
use native.Mathlib.Omega.{arith}
use Rattle.std.proofs.lemmas.Bool.{cases_lt, ne_eqb}
use Rattle.std.proofs.Common.{eqb, eq-eqb, inl, inr}
use mathlib.Core.Path.{◌≡◌, refl, sym, ap, ◌∙◌, subst}
use mathlib.Core.Bool.{Bool, true, false, not, ◌&&◌}
use mathlib.Core.Option.{Option, none, some}
use mathlib.Core.List.{List, [], ◌∷◌, ◌++◌}
use Prim.Native.Nat.{Ordering}
use Prim.Native.Nat.{◌<◌}
use borrow.Author.Tests.{le-leb}
use lib.Dec.{leb}
use lib.ListN.{length}
use Rattle.paper.specs.Lists.{is_lt, all, is_empty, rises, rises_from}
use Rattle.paper.specs.Keys.{Bytes, Pair, octets, cmp_key, cmp_pair}
use Rattle.paper.specs.Settings.{longest}
use Rattle.paper.specs.Sound.{sound_key, sound_value, sound_pair}
use Rattle.paper.specs.Image.{big_endian}
use Rattle.paper.proofs.Bools.{and_intro}
use Rattle.paper.proofs.ImageBack.{octets-left, octets-right}
use Rattle.std.specs.declared.cmp.Ordering as std
use Rattle.std.specs.declared.cmp.Ordering.TheVariants.{Less, Equal, Greater}
use Rattle.raw.specs.Orders.{ordering}
use Rattle.overlay.proofs.Pairs.{pair-bytes}
use Rattle.layout.specs.Codec.{many, cons_of}
use Rattle.layout.specs.Layout.{pair_stream}
use Rattle.layout.proofs.Streams.{Got}
use Rattle.layout.proofs.LayoutLaws.{OkPair, pair-laws}
use Rattle.overlay.specs.Overlay.{pair, orderly, is_overlay}
use Rattle.layout.proofs.Many.{many-end, many-step, many-cut, rest-less}

-- the entries, if they could be read, rise from a key and are sound
abbrev pub onward : Bytes → Option (List Pair) → Bool
onward k none = false
onward k (some own) = rises_from cmp_pair (pair k []) own && all sound_pair own

-- no key is before the empty one
pub from_empty : (o : Option (List Pair)) → orderly o ≡ onward [] o
unfolding rises rises_from all sound_pair sound_key cmp_pair cmp_key
from_empty none = refl
from_empty (some []) = refl
from_empty (some (p ∷ own)) = go p.key (rises_from cmp_pair p own) (all sound_pair own) (sound_value p.value)
  where
    never : (r : Bool) → r && false ≡ false
    never true = refl
    never false = refl

    go : (k : Bytes) (r a v : Bool)
        → r && (((not (is_empty k) && (leb (length k) longest && octets k)) && v) && a) ≡ (is_lt (cmp_key [] k) && r) && (((not (is_empty k) && (leb (length k) longest && octets k)) && v) && a)
    go [] r a v = never r
    go (x ∷ k) r a v = refl

-- an entry more
one_more : (k : Bytes) (p : Pair) (o : Option (List Pair)) → cmp_key k p.key ≡ Ordering.lt → sound_pair p ≡ true → onward k (cons_of (some p) o) ≡ onward p.key o
unfolding rises_from all cmp_pair
one_more k p none e h = refl
one_more k p (some own) e h = simp (e, h) (from p own)
  where
    -- the order does not see the value
    from : (p : Pair) (own : List Pair) → rises_from cmp_pair p own && all sound_pair own ≡ rises_from cmp_pair (pair p.key []) own && all sound_pair own
    from p [] = refl
    from p (q ∷ own) = refl

not-above : (k : Bytes) (p : Pair) (o : Option (List Pair)) → is_lt (cmp_key k p.key) ≡ false → onward k (cons_of (some p) o) ≡ false
unfolding rises_from cmp_pair
not-above k p none e = refl
not-above k p (some own) e = simp e

-- a key above another is not empty
above-some : (k j : Bytes) → cmp_key k j ≡ Ordering.lt → not (is_empty j) ≡ true
unfolding cmp_key
above-some [] [] e = cc
above-some (x ∷ k) [] e = cc
above-some k (y ∷ j) e = refl

-- the check has come to the bytes s, behind a key k
abbrev pub Verdict : Bytes → Bytes → Bool → Type 0
Verdict s k b = b ≡ onward k ((many pair_stream).parse s)

pub verdict-start : (s : Bytes) → Verdict s [] (is_overlay s)
unfolding is_overlay
verdict-start s = from_empty ((many pair_stream).parse s)

module _ (s : Bytes) (o : octets s ≡ true) (k : Bytes) (b : Bool) (v : Verdict s k b) where
  -- no entry is left: all is well where no bytes are
  pub verdict-end : pair_stream.get s ≡ none → (e : Bool) → e ≡ eqb (length s) 0 → e ≡ b
  unfolding rises_from all
  verdict-end n e i = elim (cases_lt 0 (length s)) [
    | inl l ↦ i ∙ ne_eqb (length s) 0 (λ z. omega arith) ∙ sym (v ∙ ap (onward k) (many-cut pair-laws s l n))
    | inr l ↦ let z : length s ≡ 0 = omega arith in i ∙ eq-eqb (length s) 0 z ∙ sym (v ∙ ap (onward k) (many-end pair-laws s z))
  ]

  module _ (p : Pair) (r : Bytes) (read : pair_stream.get s ≡ some (p, r)) where
    long : 0 < length s
    long = let l = (rest-less pair-laws s p r o read).1 in omega arith

    stepped : (many pair_stream).parse s ≡ cons_of (some p) ((many pair_stream).parse r)
    stepped = many-step pair-laws s p r o long read

    pub verdict-low : is_lt (cmp_key k p.key) ≡ false → false ≡ b
    verdict-low e = sym (v ∙ ap (onward k) stepped ∙ not-above k p ((many pair_stream).parse r) e)

    -- what was read fits its fields, which have 16 bits
    got : (s ≡ pair_stream.put p ++ r) × OkPair p
    got = let g = subst (Got pair_stream.put OkPair s) read (pair-laws.again s o) in (g.0, g.1)

    fields : (octets p.key ≡ true) × (octets p.value ≡ true)
    fields =
        let x : Bytes = big_endian 2 (length p.key) ++ p.key in
        let y : Bytes = big_endian 2 (length p.value) ++ p.value in
        let e : octets (x ++ y) ≡ true = octets-left (x ++ y) r (ap octets (ap (λ (t : Bytes). t ++ r) (sym (pair-bytes p)) ∙ sym got.0) ∙ o) in
        (octets-right (big_endian 2 (length p.key)) p.key (octets-left x y e), octets-right (big_endian 2 (length p.value)) p.value (octets-right x y e))

    -- the bytes behind it are fewer
    pub verdict-rest : (octets r ≡ true) × (length r < length s)
    verdict-rest = rest-less pair-laws s p r o read

    pub verdict-next : cmp_key k p.key ≡ Ordering.lt → Verdict r p.key b
    unfolding sound_pair sound_key sound_value
    verdict-next e =
        v ∙ ap (onward k) stepped
        ∙ one_more k p ((many pair_stream).parse r) e
        (and_intro
        (and_intro (above-some k p.key e) (and_intro (le-leb (length p.key) longest (omega (arith, got.1.0.1))) fields.0))
        (and_intro (le-leb (length p.value) longest (omega (arith, got.1.1.1))) fields.1))

-- an order that is not Less
pub not-less : (q : std.Ordering) → (q ≡ Less → ⊥) → is_lt (ordering q) ≡ false
not-less Less f = absurd (f refl)
not-less Equal f = refl
not-less Greater f = refl
