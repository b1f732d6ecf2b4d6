-- Bytes past a state's length are never looked at and never changed.
-- Assumes nothing.
use Prim.Native.Nat.{ℕ, ◌≤◌}
use native.Mathlib.Omega.{arith}
use mathlib.Core.Path.{◌≡◌, refl, sym, ap, ap₂, ◌∙◌}
use mathlib.Core.Bool.{true, false}
use mathlib.Core.List.{◌++◌, append_assoc}
use mathlib.Core.Option.{some}
use lib.ListN.{length, take, drop, length-append, length-drop, length-take, take-append-drop}
use lib.Seq.{take-take, take-append-le, drop-append-le, length-take-le, drop_at}
use Rattle.paper.specs.Keys.{Bytes}
use Rattle.paper.specs.Refusals.{Try, stop, go}
use Rattle.paper.specs.Settings.{Settings, state_length}
use Rattle.paper.specs.Store.{Store}
use Rattle.paper.specs.Calls.{Reply, Outcome, Call, tried, of_bytes}
use Rattle.paper.proofs.SoundLaws.{After}
use Rattle.raw.specs.Bytes.{part}
use Rattle.raw.proofs.Parts.{part-take, part_left}
use Rattle.layout.specs.Offsets.{start_clock}
use Rattle.layout.specs.Layout.{settings_slot, parts_slot, parts_in, parts_of, behind, settings_in, read_store, write_store, store_in, sound_state, settled_on, on_bytes}
use Rattle.layout.specs.Runs.{is_opening}
use Rattle.layout.proofs.LayoutLaws.{Fits, width_is}
use Rattle.layout.proofs.StoreLaws.{held, read_held, in-read, fits-length}
use Rattle.layout.proofs.SoundState.{sound-read, sound-enough}
use Rattle.layout.proofs.Outcomes.{Holdable, tried-holds}
use Rattle.layout.proofs.CallBytes.{lent_other}

-- ---- reading looks at the first bytes alone
pub read_same : (b c : Bytes) (s : Store) → read_store b ≡ some s → state_length s.settings ≤ length c → take (state_length s.settings) c ≡ take (state_length s.settings) b → read_store c ≡ some s
unfolding settings_in
read_same b c s e l k =
    let h = held b s e in
    let st : Settings = s.settings in
    let w = width_is s.settings in
    let n : ℕ = state_length st in
    let f : take start_clock c ≡ take start_clock b = sym (take-take start_clock n c (omega arith)) ∙ ap (take start_clock) k ∙ take-take start_clock n b (omega arith) in
    let g : parts_in st c ≡ parts_in st b =
    sym (part-take c n start_clock (parts_slot st).width (omega arith)) ∙ ap (λ (u : Bytes). part u start_clock (parts_slot st).width) k ∙ part-take b n start_clock (parts_slot st).width (omega arith) in
    read_held c s (record { enough = l; settings = ap settings_slot.read f ∙ h.settings; parts = ap (parts_slot st).read g ∙ h.parts })

-- a state cut off behind its length
pub read_first : (b : Bytes) (s : Store) (n : ℕ) → read_store b ≡ some s → state_length s.settings ≤ n → read_store (take n b) ≡ some s
read_first b s n e l =
    let m = (held b s e).enough in
    read_same b (take n b) s e (rw length-take (omega arith)) (take-take (state_length s.settings) n b l)

-- and one with other bytes behind it
pub read-tail : (b t : Bytes) (s : Store) → read_store b ≡ some s → read_store (b ++ t) ≡ some s
read-tail b t s e =
    let m = (held b s e).enough in
    read_same b (b ++ t) s e (rw length-append (omega arith)) (take-append-le (state_length s.settings) b t m)

-- ---- writing changes the first bytes alone
pub write-tail : (s : Store) (b t : Bytes) → state_length s.settings ≤ length b → write_store s (b ++ t) ≡ write_store s b ++ t
unfolding write_store
write-tail s b t l =
    let st : Settings = s.settings in
    let w = width_is s.settings in
    let v : ℕ = (parts_slot st).width in
    let f : take start_clock (b ++ t) ≡ take start_clock b = take-append-le start_clock b t (omega arith) in
    let g : parts_in st (b ++ t) ≡ parts_in st b = part_left b t start_clock v (omega arith) in
    let d : behind st (b ++ t) ≡ behind st b ++ t =
    ap (drop v) (drop-append-le start_clock b t (omega arith)) ∙ drop-append-le v (drop start_clock b) t (rw length-drop (omega arith)) in
    let x : Bytes = settings_slot.write st (take start_clock b) in
    let y : Bytes = (parts_slot st).write (parts_of s) (parts_in st b) in
    ap (λ (u : Bytes). settings_slot.write st u ++ ((parts_slot st).write (parts_of s) (parts_in st (b ++ t)) ++ behind st (b ++ t))) f
    ∙ ap₂ (λ (u z : Bytes). x ++ ((parts_slot st).write (parts_of s) u ++ z)) g d
    ∙ ap (λ (u : Bytes). x ++ u) (sym (append_assoc y (behind st b) t))
    ∙ sym (append_assoc x (y ++ behind st b) t)

pub write-past : (s : Store) (b : Bytes) → Fits s → state_length s.settings ≤ length b → drop (state_length s.settings) (write_store s b) ≡ drop (state_length s.settings) b
write-past s b f l =
    let n : ℕ = state_length s.settings in
    let k : length (take n b) ≡ n = length-take-le n b l in
    let m : n ≤ length (take n b) = omega arith in
    ap (λ (u : Bytes). drop n (write_store s u)) (sym (take-append-drop n b))
    ∙ ap (drop n) (write-tail s (take n b) (drop n b) m)
    ∙ drop_at (write_store s (take n b)) (drop n b) n (fits-length s (take n b) m f ∙ k)

-- ---- and so does every call on a sound state, save an opening, whose room is the whole buffer
settled-tail : (b t : Bytes) (m : Try Outcome) → After (Holdable (length b)) m → settled_on (b ++ t) m ≡ ((settled_on b m).0, (settled_on b m).1 ++ t)
unfolding After
settled-tail b t (stop r) h = refl
settled-tail b t (go o) h = ap {B = Reply × Bytes} (λ u. (o.reply, u)) (write-tail o.store b t h.1)

pub on_bytes-tail : (c : Call) (b t : Bytes) → sound_state b ≡ true → is_opening c ≡ false → of_bytes c ≡ true → on_bytes c (b ++ t) ≡ ((on_bytes c b).0, (on_bytes c b).1 ++ t)
unfolding on_bytes sound_state
on_bytes-tail c b t h i o =
    let e : store_in (b ++ t) ≡ store_in b = in-read (b ++ t) (store_in b) (read-tail b t (store_in b) (sound-read b h)) in
    ap (λ (s : Store). settled_on (b ++ t) (tried s c)) e
    ∙ settled-tail b t (tried (store_in b) c) (tried-holds (store_in b) (length b) (sound-enough b) c (lent_other b c i o))
