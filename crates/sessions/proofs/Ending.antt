-- How an end ends, and the bytes that it writes.
-- Assumes nothing.
use Prim.Native.Nat.{ℕ, ◌+◌, ◌-◌, ◌≤◌}
use native.Mathlib.Omega.{arith}
use mathlib.Core.Path.{◌≡◌, refl, sym, ap, ap₂, ◌∙◌, subst}
use mathlib.Core.Bool.{Bool, true}
use mathlib.Core.List.{List, ◌++◌}
use mathlib.Core.Option.{Option, none, some}
use lib.ListN.{length, set, take, drop}
use Rattle.paper.specs.Keys.{Bytes, octets}
use Rattle.paper.specs.Image.{big_endian}
use Rattle.paper.specs.Readers.{Row, remove_reader}
use Rattle.paper.specs.Refusals.{no_handle, stop, go, must, ◌>>=◌, ◌>>◌}
use Rattle.paper.specs.Settings.{Settings}
use Rattle.paper.specs.Sound.{sound}
use Rattle.paper.specs.Store.{Txn, Store, with_places, with_readers, find_txn, put_txn}
use Rattle.paper.specs.Calls.{done, in_txn, ended, try_end, Call, tried, of_bytes}
use Rattle.paper.proofs.ImageLaws.{length-big_endian}
use Rattle.raw.specs.Bytes.{part, over}
use Rattle.raw.proofs.Parts.{length_part}
use Rattle.raw.proofs.Over.{length_over, part-over-before, over-lent}
use Rattle.layout.specs.Offsets.{start_rows, rows_part}
use Rattle.layout.specs.Layout.{store_in, sound_state, write_store, listed, row_stream}
use Rattle.layout.proofs.LayoutLaws.{Fits}
use Rattle.layout.proofs.SoundState.{sound-read, sound-enough, sound-in}
use Rattle.layout.proofs.SoundFits.{sound-fits}
use Rattle.layout.proofs.Inside as inside
use Rattle.layout.proofs.Changes.{place_end, write-readers, fits-places}
use Rattle.settings.specs.declared.Shape.{Shape}
use Rattle.settings.proofs.Shapes.{Shaped}
use Rattle.table.specs.Rows.{Rowed, rows_in, lay_rows}
use Rattle.table.proofs.RowsLie.{part-rows, rows-laid, sound-rowed}
use Rattle.table.proofs.RowsAnew.{lay-over}
use Rattle.reply.specs.Told.{Told, told, why, nothing}
use Rattle.reply.specs.OnBytes.{told_on}
use Rattle.reply.proofs.Ends.{refused-told, done-told, done-fits}
use Rattle.seat.specs.Seats.{Seated}
use Rattle.seat.proofs.Finding.{shape-fits}
use Rattle.sessions.specs.Sessions.{MayEnd, HasEnded}
use Rattle.sessions.proofs.Beginning.{rows-lent}

-- ---- the checks
module _ (s : Store) (h : sound s ≡ true) (handle : ℕ) where
  pub end-missing : find_txn handle s.places ≡ none → try_end s handle ≡ stop no_handle
  unfolding try_end in_txn must ◌>>◌ ◌>>=◌
  end-missing e = rw h (rw e refl)

  pub end-done : (t : Txn) → find_txn handle s.places ≡ some t → try_end s handle ≡ go (record { reply = done; store = ended s t })
  unfolding try_end in_txn must ◌>>◌ ◌>>=◌
  end-done t e = rw h (rw e refl)

  pub tried-end : (t : Txn) → find_txn handle s.places ≡ some t → tried s (Call.end handle) ≡ go (record { reply = done; store = ended s t })
  unfolding tried
  tried-end t e = end-done t e

end-bytes : (handle : ℕ) → of_bytes (Call.end handle) ≡ true
unfolding of_bytes
end-bytes handle = refl

ended-as : (s : Store) (t : Txn) (read : ℕ) (ps : List (Option Txn)) → t.read ≡ read → put_txn t.handle none s.places ≡ ps → ended s t ≡ with_readers (remove_reader read s.readers) (with_places ps s)
unfolding ended
ended-as s t read ps e f = ap₂ (λ (r : ℕ) (q : List (Option Txn)). with_readers (remove_reader r s.readers) (with_places q s)) e f

-- ---- the bytes
module _ (b : Bytes) (o : octets b ≡ true) (z : Shape) (place read : ℕ) (m : MayEnd b z place read) where
  abbrev s : Store
  s = store_in b

  abbrev st : Settings
  st = (store_in b).settings

  abbrev h : sound_state b ≡ true
  h = m.sound

  abbrev i : ℕ
  i = m.seat.index

  S : Shaped (store_in b).settings z
  S = shape-fits b o h z m.shape

  pub place_inside : (88 ≤ z.history) × ((z.history ≤ place) × (place + 8 ≤ length b))
  place_inside =
      let e = place_end st i m.seat.inside in
      (omega (arith, S.rows-wide), (omega (arith, m.seat.start, S.rows-wide, S.history-wide, S.active-wide, S.area-wide, S.places), omega (arith, m.seat.start, e, sound-enough b h)))

  -- the place freed
  abbrev b₁ : Bytes
  b₁ = over b place (big_endian 8 0)

  long₁ : length b₁ ≡ length b
  long₁ = length_over b place (big_endian 8 0) (omega (arith, length-big_endian 8 0, place_inside))

  -- the rows are still as they were
  rows₁ : part b₁ start_rows (z.history - start_rows) ≡ rows_part st b
  rows₁ =
      part-over-before b place (big_endian 8 0) (omega (arith, place_inside)) start_rows (z.history - start_rows) (omega (arith, place_inside))
      ∙ rows-lent b o h z m.shape b

  pub rowed₁ : Rowed (part b₁ start_rows (z.history - start_rows))
  rowed₁ = subst Rowed (sym rows₁) (sound-rowed b s (inside.lies b s o (sound-read b h)) (sound-in b h))

  rows-still : rows_in (part b₁ start_rows (z.history - start_rows)) ≡ s.readers
  rows-still = ap rows_in rows₁ ∙ part-rows st (rows_part st b) s.readers (inside.lies b s o (sound-read b h)).readers

  -- the store that an end leaves
  module _ (handle : ℕ) (mark : Bool) (p : Seated (store_in b) handle place read mark) where
    abbrev rs : List Row
    rs = remove_reader read s.readers

    abbrev s₁ : Store
    s₁ = with_places (set s.places p.index none) s

    is : ended s p.txn ≡ with_readers rs s₁
    is = ended-as s p.txn read (set s.places p.index none) p.reads (ap (λ (n : ℕ). put_txn n none s.places) p.handle ∙ p.put none)

    fits : Fits (with_readers rs s₁)
    fits = subst Fits is (done-fits (Call.end handle) b (record { reply = done; store = ended s p.txn }) (tried-end s (sound-in b h) handle p.txn p.found) (end-bytes handle))

    -- the place freed, and then the rows
    left : over b₁ start_rows (lay_rows (remove_reader read (rows_in (part b₁ start_rows (z.history - start_rows)))) (part b₁ start_rows (z.history - start_rows))) ≡ write_store (ended s p.txn) b
    left =
        let w : b₁ ≡ write_store s₁ b = ap (λ (n : ℕ). over b n (big_endian 8 0)) p.start ∙ sym (inside.change-free b s o (sound-read b h) p.index p.inside) in
        let f₁ : Fits s₁ = fits-places s b (sound-enough b h) (sound-fits s (sound-in b h)) (set s.places p.index none) fits.places in
        ap₂ (λ (q : List Row) (u : Bytes). over b₁ start_rows (lay_rows (remove_reader read q) u)) rows-still (rows-lent b o h z m.shape b₁)
        ∙ rows-laid st b₁ rs fits.readers (omega (arith, long₁, S.rows-wide, place_inside))
        ∙ ap (λ (u : Bytes). over u start_rows ((listed row_stream).put rs)) w
        ∙ sym (write-readers s₁ b (sound-enough b h) f₁ (inside.lies b s o (sound-read b h)).readers rs fits.readers)
        ∙ ap (λ (x : Store). write_store x b) (sym is)

  -- ---- the same as code has it: the rows lent, and what they came back as
  module _ (c₁ : Bytes) (e₁ : c₁ ≡ over b place (big_endian 8 0)) where
    pub lent-inside : length c₁ ≡ length b
    lent-inside = ap length e₁ ∙ long₁

    pub lent-rowed : Rowed (part c₁ start_rows (z.history - start_rows))
    lent-rowed = subst (λ (u : Bytes). Rowed (part u start_rows (z.history - start_rows))) (sym e₁) rowed₁

    pub lent-left : (x : Bytes) → x ≡ lay_rows (remove_reader read (rows_in (part c₁ start_rows (z.history - start_rows)))) (part c₁ start_rows (z.history - start_rows))
        → HasEnded b place read (take start_rows c₁ ++ (x ++ drop (z.history - start_rows) (drop start_rows c₁)))
    lent-left x e₃ handle mark p =
        let q : Bytes = part c₁ start_rows (z.history - start_rows) in
        let l : length q ≡ z.history - start_rows = length_part c₁ start_rows (z.history - start_rows) (omega (arith, lent-inside, place_inside)) in
        let e : rows_in q ≡ s.readers = ap (λ (u : Bytes). rows_in (part u start_rows (z.history - start_rows))) e₁ ∙ rows-still in
        let n : length x ≡ z.history - start_rows = ap length (e₃ ∙ ap (λ (rs : List Row). lay_rows (remove_reader read rs) q) e ∙ lay-over (remove_reader read s.readers) q) ∙ length_over q 0 ((listed row_stream).put (remove_reader read s.readers)) (omega (arith, (fits handle mark p).readers.1, l, S.rows-wide)) ∙ l in
        over-lent c₁ x start_rows (z.history - start_rows) n
        ∙ ap (over c₁ start_rows) e₃
        ∙ ap (λ (u : Bytes). over u start_rows (lay_rows (remove_reader read (rows_in (part u start_rows (z.history - start_rows)))) (part u start_rows (z.history - start_rows)))) e₁
        ∙ left handle mark p

-- ---- each return of `end`
module _ (b : Bytes) (h : sound_state b ≡ true) (handle : ℕ) where
  pub no-handle : find_txn handle (store_in b).places ≡ none → ◌≡◌ {A = Told × Bytes} (why no_handle, b) (told_on (Call.end handle) b)
  unfolding tried
  no-handle e = sym (refused-told (Call.end handle) b no_handle (end-missing (store_in b) (sound-in b h) handle e))

  pub ends-told : (place read : ℕ) (mark : Bool) (p : Seated (store_in b) handle place read mark) (a : Bytes) → HasEnded b place read a → ◌≡◌ {A = Told × Bytes} (nothing, a) (told_on (Call.end handle) b)
  unfolding told
  ends-told place read mark p a w =
      ap (λ (u : Bytes). (nothing, u)) (w handle mark p)
      ∙ sym (done-told (Call.end handle) b (record { reply = done; store = ended (store_in b) p.txn }) (tried-end (store_in b) (sound-in b h) handle p.txn p.found))
