-- The places of a state, one after the other.
-- Assumes nothing.
use native.Mathlib.Omega.{arith}
use mathlib.Core.Path.{◌≡◌, refl, sym, ap, ap₂, ◌∙◌}
use mathlib.Core.Bool.{Bool, ◌&&◌}
use mathlib.Core.Option.{Option, none, some}
use Prim.Native.Nat.{ℕ, zero, suc, ◌+◌, ◌*◌, ◌/◌, ◌<◌, ◌≤◌}
use Rattle.paper.specs.Keys.{Bytes}
use Rattle.paper.specs.Settings.{Settings}
use Rattle.paper.specs.Store.{Txn}
use Rattle.raw.specs.Bytes.{part}
use Rattle.raw.proofs.Parts.{part-part, part-of-drop}
use native.Mathlib.Nat.{suc-mul, zero-mul, mul-le-mul_right}
use lib.ListN.{length, drop}
use Rattle.std.specs.List.{list_all}
use Rattle.std.specs.Simd.{first_chunks}
use Rattle.table.proofs.Seats.{seats}
use Rattle.layout.specs.Offsets.{place_part}
use Rattle.layout.specs.Layout.{place_slot}
use Rattle.settings.specs.Parts.{holds_of, every, place_sound, place_ok}
use Rattle.settings.specs.declared.Shape.{Shape}
use Rattle.settings.proofs.Shapes.{Shaped}
use Rattle.settings.proofs.SoundParts.{every_front}
use Rattle.txn.specs.Place.{settings_of, rooms_of, rooms_in}
use Rattle.txn.specs.Checks as checks
use Rattle.txn.specs.declared.Rooms.{Rooms}
use Rattle.txn.proofs.Callers.{sound-same}
use Rattle.state.specs.Whole.{seats_ok}

-- what the check of a place says
abbrev pub seat_ok : Shape → Rooms → ℕ → ℕ → Bytes → ℕ → Bool
seat_ok z rooms counter clock b i = checks.place_sound (settings_of rooms.serializable rooms) counter clock (part b (z.places + i * z.stride) z.stride)

-- the rooms that a shape grants
pub rooms-are : (st : Settings) (z : Shape) → Shaped st z → rooms_in z ≡ rooms_of st
rooms-are st z S = let e = S.own in let f = S.reads in let g = S.writes in let h = S.serializable in cc

-- two tests that agree below n
every-below : (f g : ℕ → Bool) (n : ℕ) → ((i : ℕ) → i < n → f i ≡ g i) → every f n ≡ every g n
unfolding every
every-below f g zero h = refl
every-below f g (suc n) h = ap₂ (λ x y. x && y) (every-below f g n (λ i l. h i (omega arith))) (h n (omega arith))

-- place i lies among n of them
step : (i n w : ℕ) → i < n → i * w + w ≤ n * w
step i n w h = omega (arith, suc-mul i w, mul-le-mul_right w h)

-- the places of a slice, one by one
all-every : (f : Bytes → Bool) (w n : ℕ) (q : Bytes) → list_all f (first_chunks w n q) ≡ every (λ i. f (part q (i * w) w)) n
all-every f w zero q = unfold every in refl
all-every f w (suc n) q =
    ap₂ (λ x y. x && y) (let e : 0 ≡ 0 * w = omega (arith, zero-mul w) in ap (λ (j : ℕ). f (part q j w)) e)
    (all-every f w n (drop w q) ∙ every-below (λ i. f (part (drop w q) (i * w) w)) (λ i. f (part q (suc i * w) w)) n (λ i l. ap f (part-of-drop q w (i * w) w ∙ ap (λ (j : ℕ). part q j w) (omega (arith, suc-mul i w)))))
    ∙ sym (every_front (λ i. f (part q (i * w) w)) n)

module _ (z : Shape) (rooms : Rooms) (counter clock : ℕ) (b : Bytes) where
  module _ (st : Settings) (S : Shaped st z) (r : rooms ≡ rooms_of st) where
    -- under the settings' own words
    passes_same : (o : Option (Option Txn)) → checks.passes (checks.place_passes st counter clock) o ≡ holds_of o (place_sound st counter clock)
    passes_same none = refl
    passes_same (some none) = refl
    passes_same (some (some t)) = refl

    seat-same : (i : ℕ) → seat_ok z rooms counter clock b i ≡ place_ok st counter clock (place_part st b i)
    unfolding checks.place_sound place_ok
    seat-same i =
        ap (λ (x : Rooms). checks.place_sound (settings_of x.serializable x) counter clock (part b (z.places + i * z.stride) z.stride)) r
        ∙ ap₂ (λ (p w : ℕ). checks.place_sound (settings_of st.serializable (rooms_of st)) counter clock (part b (p + i * w) w)) S.places S.stride
        ∙ sound-same st counter clock (place_part st b i)
        ∙ passes_same ((place_slot st).read (place_part st b i))

    every_same : (n : ℕ) → every (seat_ok z rooms counter clock b) n ≡ every (λ i. place_ok st counter clock (place_part st b i)) n
    unfolding every
    every_same zero = refl
    every_same (suc n) = ap₂ (λ x y. x && y) (every_same n) (seat-same n)

    -- all of them, as code lends them
    pub seats-told : (q : Bytes) → q ≡ part b z.places (z.count * z.stride) → length q / z.stride ≡ z.count → (x : Bool)
        → x ≡ list_all (checks.place_sound (settings_of rooms.serializable rooms) counter clock) (seats z.stride q) → x ≡ seats_ok st counter clock b
    unfolding seats_ok
    seats-told q lent many x h =
        let f : Bytes → Bool = checks.place_sound (settings_of rooms.serializable rooms) counter clock in
        h ∙ all-every f z.stride (length q / z.stride) q
        ∙ ap (every (λ i. f (part q (i * z.stride) z.stride))) many
        ∙ every-below (λ i. f (part q (i * z.stride) z.stride)) (seat_ok z rooms counter clock b) z.count (λ i l. ap f (ap (λ (u : Bytes). part u (i * z.stride) z.stride) lent ∙ part-part b z.places (z.count * z.stride) (i * z.stride) z.stride (step i z.count z.stride l)))
        ∙ every_same z.count
        ∙ ap (every (λ i. place_ok st counter clock (place_part st b i))) S.count
