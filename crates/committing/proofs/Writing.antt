-- The bytes that an accepted commit writes, part by part.
-- Assumes nothing.
use Prim.Native.Nat.{ℕ, ◌+◌, ◌-◌, ◌≤◌}
use native.Mathlib.Omega.{arith}
use mathlib.Core.Path.{◌≡◌, refl, sym, ap, ap₂, ◌∙◌, subst}
use mathlib.Core.Bool.{true}
use mathlib.Core.List.{List, ◌++◌}
use mathlib.Core.Option.{Option, some}
use lib.ListN.{length, take, drop, set, take-append-drop}
use lib.Seq.{length-take-le}
use borrow.Author.Tests.{leb-true}
use Rattle.paper.specs.Keys.{Bytes, octets}
use Rattle.paper.specs.Runs.{Run, run_size}
use Rattle.paper.specs.History.{Commit, opponent}
use Rattle.paper.specs.Image.{big_endian, records_bytes}
use Rattle.paper.proofs.ImageBack.{length-records}
use Rattle.paper.specs.Refusals.{go}
use Rattle.paper.specs.Settings.{Settings, state_length}
use Rattle.paper.specs.Store.{Txn, Store, put_txn, closed, with_clock, with_places, with_history, with_active}
use Rattle.paper.specs.Calls.{committed, history_after, active_after, stored, judged, Call, tried, of_bytes}
use Rattle.raw.specs.Bytes.{part, over}
use Rattle.raw.proofs.Parts.{length_part, take_part, part-take}
use Rattle.raw.proofs.Over.{length_over, over-lent, over-within, over-left, part-over-after}
use Rattle.layout.specs.Offsets.{start_clock, start_history}
use Rattle.layout.specs.Layout.{listed, commit_stream, version_stream, store_in, write_store}
use Rattle.layout.proofs.LayoutLaws.{Fits}
use Rattle.layout.proofs.StoreLaws.{fits-length}
use Rattle.layout.proofs.SoundState.{sound-read, sound-enough, sound-in}
use Rattle.layout.proofs.SoundFits.{sound-fits}
use Rattle.layout.proofs.Lies.{Laid}
use Rattle.layout.proofs.Inside as inside
use Rattle.layout.proofs.Changes.{write-clock, write-active, write-closed, fits-history, fits-active, fits-places}
use Rattle.settings.specs.declared.Shape.{Shape}
use Rattle.overlay.specs.Overlay.{pairs_in, is_overlay}
use Rattle.key.specs.Versions.{versions, packed}
use Rattle.versions.specs.Absorbing as absorbing
use Rattle.versions.specs.Absorbing.{older}
use Rattle.versions.proofs.Callers.{listed-records}
use Rattle.reply.proofs.Ends.{done-fits}
use Rattle.committing.specs.Held.{Placed, held_at}
use Rattle.committing.specs.Storing.{end_at, Ready, run_with, MayCommit, MayWrite}
use Rattle.committing.proofs.Held.{held_shape, held_lies, held-is, held-here}
use Rattle.committing.proofs.Joining.{ready, joined, ready-same, joined_same}
use Rattle.committing.proofs.Closing.{seat_placed}
use Rattle.committing.proofs.Checks.{commit-some, judged-clear, store-done}

-- the place of a transaction that may commit
abbrev pub placed : (b : Bytes) (z : Shape) (place : ℕ) → MayCommit b z place → Placed b z place
placed b z place k = seat_placed b k.sound z k.shape k.handle place k.read true k.seat

-- ---- the active run: its records, and then the number of their bytes in front
-- the state is cut where the own writes begin: in front of them lies the room of the run, whose records take `used` bytes, and they take `size` bytes
module _ (b : Bytes) (z : Shape) (place n : ℕ) (r : Ready b z place n) (fit : z.active + 8 + run_size (run_with b z place n) ≤ place) (front back : Bytes) (f : front ≡ take (place + 32) b) (g : back ≡ drop (place + 32) b)
    (used size : ℕ) (u : used ≡ end_at b z.active - (z.active + 8)) (v : size ≡ end_at b (place + 24) - (place + 32)) where
  abbrev room : Bytes
  room = part front (z.active + 8) (length front - (z.active + 8))

  front-long : length front ≡ place + 32
  front-long = ap length f ∙ length-take-le (place + 32) b (omega (arith, r.onward, r.inside))

  pub room-long : length room ≡ place + 32 - (z.active + 8)
  room-long = length_part front (z.active + 8) (length front - (z.active + 8)) (omega (arith, front-long, fit)) ∙ omega (arith, front-long)

  -- the records, and the own writes
  records-are : take used room ≡ part b (z.active + 8) (end_at b z.active - (z.active + 8))
  records-are =
      take_part front (z.active + 8) (length front - (z.active + 8)) used (omega (arith, front-long, u, r.apart))
      ∙ ap₂ (λ (t : Bytes) (m : ℕ). part t (z.active + 8) m) f u
      ∙ part-take b (place + 32) (z.active + 8) (end_at b z.active - (z.active + 8)) (omega (arith, r.order, r.apart))

  own-are : take size back ≡ part b (place + 32) (end_at b (place + 24) - (place + 32))
  own-are = ap₂ take v g

  pub active-own : is_overlay (take size back) ≡ true
  active-own = ap is_overlay own-are ∙ r.entries

  module _ (own : Bytes) (e : own ≡ take size back) where
    same-run : absorbing.joined n (pairs_in own) (versions (take used room)) ≡ run_with b z place n
    same-run = ap₂ (λ (p q : Bytes). absorbing.joined n (pairs_in p) (versions q)) (e ∙ own-are) records-are

    pub active-ready : (used ≤ length room) × (packed (take used room) ≡ true) × (older n (versions (take used room)) ≡ true) × (run_size (absorbing.joined n (pairs_in own) (versions (take used room))) ≤ length room)
    active-ready = (
      omega (arith, room-long, u, r.apart),
      ap packed records-are ∙ r.whole,
      ap (λ (t : Bytes). older n (versions t)) records-are ∙ r.aged,
      omega (arith, room-long, ap run_size same-run, fit),
    )

    pub active-written : (count : ℕ) (x d : Bytes) → count ≡ run_size (absorbing.joined n (pairs_in own) (versions (take used room))) → x ≡ over room 0 (records_bytes (absorbing.joined n (pairs_in own) (versions (take used room))))
        → d ≡ over ((take (z.active + 8) front ++ (x ++ drop (length front - (z.active + 8)) (drop (z.active + 8) front))) ++ back) z.active (big_endian 8 count) → d ≡ over b z.active ((listed version_stream).put (run_with b z place n))
    active-written count x d c h k =
        let a : Run = run_with b z place n in
        let y : Bytes = records_bytes a in
        let ly : length y ≡ run_size a = length-records a in
        let lr = room-long in
        let h₁ : x ≡ over room 0 y = h ∙ ap (λ (t : Run). over room 0 (records_bytes t)) same-run in
        let lx : length x ≡ length front - (z.active + 8) = ap length h₁ ∙ length_over room 0 y (omega (arith, ly, lr, fit)) ∙ omega (arith, lr, front-long) in
        let i : z.active + 8 + 0 ≡ z.active + 8 = omega arith in
        k
        ∙ ap₂ (λ (t : Bytes) (m : ℕ). over (t ++ back) z.active (big_endian 8 m))
        (over-lent front x (z.active + 8) (length front - (z.active + 8)) lx ∙ ap (over front (z.active + 8)) h₁
        ∙ over-within front (z.active + 8) (length front - (z.active + 8)) 0 y (omega (arith, front-long, fit)) (omega (arith, ly, front-long, fit)) ∙ ap (λ (j : ℕ). over front j y) i)
        (c ∙ ap run_size same-run)
        ∙ ap (λ (t : Bytes). over t z.active (big_endian 8 (run_size a)))
        (sym (over-left front back (z.active + 8) y (omega (arith, ly, front-long, fit))) ∙ ap (λ (t : Bytes). over t (z.active + 8) y) (ap₂ (λ (p q : Bytes). p ++ q) f g ∙ take-append-drop (place + 32) b))
        ∙ listed-records b z.active a (omega (arith, r.order, r.apart, r.onward, r.inside))

-- ---- all of it
module _ (b : Bytes) (o : octets b ≡ true) (z : Shape) (place n : ℕ) (m : MayWrite b z place n) where
  abbrev k : MayCommit b z place
  k = m.stores.commits

  abbrev p : Placed b z place
  p = placed b z place m.stores.commits

  abbrev s : Store
  s = store_in b

  abbrev st : Settings
  st = (store_in b).settings

  abbrev i : ℕ
  i = m.stores.commits.seat.index

  same-txn : held_at b place ≡ k.seat.txn
  same-txn = held-is b o z place p

  puts : put_txn (held_at b place).handle (some (closed (held_at b place))) s.places ≡ set s.places i (some (closed (held_at b place)))
  puts = ap (λ (h : ℕ). put_txn h (some (closed (held_at b place))) s.places) (ap (λ (u : Txn). u.handle) same-txn ∙ k.seat.handle) ∙ k.seat.put (some (closed (held_at b place)))

  -- one part after the other
  abbrev H : List Commit
  H = history_after (store_in b) (held_at b place)

  abbrev A : Run
  A = active_after (store_in b) (held_at b place)

  abbrev s₁ : Store
  s₁ = with_history H (store_in b)

  abbrev s₂ : Store
  s₂ = with_active A s₁

  abbrev s₃ : Store
  s₃ = with_places (set (store_in b).places i (some (closed (held_at b place)))) s₂

  stored_is : stored (store_in b) (held_at b place) ≡ with_clock n s₃
  unfolding stored
  stored_is = ap₂ (λ (ps : List (Option Txn)) (c : ℕ). with_active A (with_history H (with_places ps (with_clock c (store_in b))))) puts (sym m.next)

  -- the store that a commit leaves fits its layout
  commits : tried (store_in b) (Call.commit k.handle) ≡ go (record { reply = committed (some ((store_in b).clock + 1)); store = stored (store_in b) (held_at b place) })
  unfolding tried
  commits =
      commit-some s (sound-in b k.sound) k.handle k.seat.txn k.seat.found k.seat.marked k.writes
      ∙ ap (λ (u : Txn). judged s u (opponent u.read u.reads s.history)) (sym same-txn)
      ∙ ap (judged s (held_at b place)) m.stores.clear
      ∙ judged-clear s (held_at b place)
      ∙ store-done s (held_at b place) m.number m.history m.active

  fits : Fits (with_clock n s₃)
  unfolding of_bytes
  fits = subst Fits stored_is (done-fits (Call.commit k.handle) b (record { reply = committed (some ((store_in b).clock + 1)); store = stored (store_in b) (held_at b place) }) commits refl)

  enough : state_length (store_in b).settings ≤ length b
  enough = sound-enough b k.sound

  fits₁ : Fits s₁
  fits₁ = fits-history s b enough (sound-fits s (sound-in b k.sound)) H fits.history

  fits₂ : Fits s₂
  fits₂ = fits-active s₁ b enough fits₁ A fits.active

  fits₃ : Fits s₃
  fits₃ = fits-places s₂ b enough fits₂ (set s.places i (some (closed (held_at b place)))) fits.places

  lies : Laid b (store_in b)
  lies = inside.lies b s o (sound-read b k.sound)

  -- what enters the history is in front of the active run
  kept : (at w : ℕ) → z.active ≤ at → part (write_store s₁ b) at w ≡ part b at w
  kept at w h =
      let S = held_shape p in
      let L = held_lies p in
      ap (λ (u : Bytes). part u at w) (inside.change-history b s o (sound-read b k.sound) H fits.history)
      ∙ part-over-after b (start_history st) ((listed commit_stream).put H) (omega (arith, S.history, L.history, L.active, L.area, L.places, L.inside)) at w (omega (arith, fits.history.1, S.history, S.history-wide))

  -- ---- the same as code has it
  module _ (c₁ : Bytes) (e₁ : c₁ ≡ write_store s₁ b) where
    long₁ : length c₁ ≡ length b
    long₁ = ap length e₁ ∙ fits-length s₁ b enough fits₁

    kept₁ : (at w : ℕ) → z.active ≤ at → part c₁ at w ≡ part b at w
    kept₁ at w h = ap (λ (u : Bytes). part u at w) e₁ ∙ kept at w h

    behind : z.active ≤ place
    behind = let L = held_lies p in omega (arith, L.active, L.area, L.places)

    run₁ : run_with c₁ z place n ≡ A
    run₁ = joined_same b c₁ z place n long₁ kept₁ behind ∙ joined b o z place p n m.next

    -- what is asked to join the own writes with the active run
    pub join-ready : Ready c₁ z place n × (z.active + 8 + run_size (run_with c₁ z place n) ≤ place)
    join-ready =
        let S = held_shape p in
        let L = held_lies p in
        (ready-same b c₁ z place n long₁ kept₁ behind (ready b o z place p n m.next), omega (arith, ap run_size run₁, leb-true (run_size A) st.active_bytes m.active, S.active-wide, L.area, L.places))

    module _ (c₂ : Bytes) (e₂ : c₂ ≡ over c₁ z.active ((listed version_stream).put (run_with c₁ z place n))) where
      written₂ : c₂ ≡ write_store s₂ b
      written₂ =
          let S = held_shape p in
          e₂
          ∙ ap₂ (λ (u : Bytes) (r : Run). over u z.active ((listed version_stream).put r)) e₁ run₁
          ∙ ap (λ (j : ℕ). over (write_store s₁ b) j ((listed version_stream).put A)) S.active
          ∙ sym (write-active s₁ b enough fits₁ lies.active A fits.active)

      pub mark-inside : place + 24 ≤ length c₂
      mark-inside = let L = held_lies p in omega (arith, L.inside, L.wide, ap length written₂, fits-length s₂ b enough fits₂)

      module _ (c₃ : Bytes) (e₃ : c₃ ≡ over c₂ (place + 16) (big_endian 8 0)) where
        written₃ : c₃ ≡ write_store s₃ b
        written₃ =
            e₃
            ∙ ap₂ (λ (u : Bytes) (j : ℕ). over u (j + 16) (big_endian 8 0)) written₂ k.seat.start
            ∙ sym (write-closed s₂ b enough fits₂ lies.places i k.seat.inside (held_at b place) (held-here b o z place p))

        pub head-inside : 88 ≤ length c₃
        head-inside = let L = held_lies p in omega (arith, L.rows, L.history, L.active, L.area, L.places, L.inside, ap length written₃, fits-length s₃ b enough fits₃)

        pub all-written : (c₄ : Bytes) → c₄ ≡ over c₃ 72 (big_endian 8 n) → c₄ ≡ write_store (stored (store_in b) (held_at b place)) b
        all-written c₄ e₄ =
            e₄
            ∙ ap (λ (u : Bytes). over u start_clock (big_endian 8 n)) written₃
            ∙ sym (write-clock s₃ b enough fits₃ lies.clock n)
            ∙ ap (λ (x : Store). write_store x b) (sym stored_is)
