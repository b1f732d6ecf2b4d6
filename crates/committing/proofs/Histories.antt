-- The history and the reader rows of a sound state, where its shape puts them; and who is in the way of a transaction.
-- Assumes nothing.
use Prim.Native.Nat.{ℕ, ◌+◌, ◌*◌, ◌-◌, ◌<◌, ◌≤◌, compare}
use native.Mathlib.Omega.{arith}
use mathlib.Core.Path.{◌≡◌, sym, ap, ap₂, ◌∙◌, subst}
use mathlib.Core.Bool.{true, cond}
use mathlib.Core.List.{List}
use mathlib.Core.Option.{Option, some}
use lib.ListN.{length}
use Rattle.paper.specs.Lists.{is_some, rises, hold_all}
use Rattle.paper.specs.Keys.{Bytes, octets}
use Rattle.paper.specs.Image.{number_from}
use Rattle.paper.specs.Readers.{watermark}
use Rattle.paper.specs.History.{Commit, Opponent, opponent}
use Rattle.paper.specs.Settings.{Settings}
use Rattle.paper.specs.Store.{Store}
use Rattle.paper.proofs.SoundLaws.{rules}
use Rattle.raw.specs.Bytes.{part}
use Rattle.layout.specs.Codec.{many, sized, room}
use Rattle.layout.specs.Offsets.{start_rows, width_rows, width_history, rows_part}
use Rattle.layout.specs.Layout.{store_in, sound_state, commit_stream, history_slot}
use Rattle.layout.proofs.SoundState.{sound-read, sound-enough, sound-in}
use Rattle.layout.proofs.Inside as inside
use Rattle.settings.specs.Shapes.{shape_of}
use Rattle.settings.specs.declared.Shape.{Shape}
use Rattle.settings.proofs.Shapes.{Shaped, shaped}
use Rattle.table.specs.Rows.{read_in, rows_in}
use Rattle.table.proofs.RowsLie.{part-reads, part-rows}
use Rattle.sets.specs.Sets.{set_hashes}
use Rattle.sets.proofs.Hashes.{set-part}
use Rattle.txn.specs.Place.{used_at, set_count}
use Rattle.txn.proofs.Reading.{room-holds, SetAt}
use Rattle.mvcc.specs.Histories.{history_read, or_empty, history_in, is_history, sound_read}
use Rattle.mvcc.proofs.Checked.{rules-limits, checked-order}
use Rattle.committing.specs.declared.history.SetStarts.{SetStarts}
use Rattle.committing.specs.Held.{Placed, held_at}
use Rattle.committing.specs.Regions.{list_at, set_starts}
use Rattle.committing.proofs.Held.{held-read, held_reads, held-reads-set, held_lies, set-rises}

-- where the rows end and the history lies: in the first 128 MiB of the state
pub record Room (b : Bytes) (z : Shape) : Type 0 where
  pub rows : 88 ≤ z.history
  pub wide : z.history + (8 + 16 * z.entries + 4 * z.hashes) ≡ z.active
  pub inside : z.active ≤ length b
  pub small : z.active < 134217728

shape_there : (b : Bytes) (z : Shape) → sound_state b ≡ true → z ≡ shape_of (store_in b).settings → Shaped (store_in b).settings z
shape_there b z h e = shaped (store_in b).settings (rules (store_in b) (sound-in b h)).ranges z e

pub history_room : (b : Bytes) (z : Shape) → sound_state b ≡ true → z ≡ shape_of (store_in b).settings → Room b z
history_room b z h e =
    let S = shape_there b z h e in
    record {
      rows = omega (arith, S.rows-wide);
      wide = omega (arith, S.history-wide, S.entries, S.hashes);
      inside = omega (arith, S.active-wide, S.area-wide, S.places-wide, sound-enough b h);
      small = omega (arith, S.active-wide, S.area-wide, S.places-wide, S.small);
    }

module _ (b : Bytes) (o : octets b ≡ true) (h : sound_state b ≡ true) (z : Shape) (e : z ≡ shape_of (store_in b).settings) where
  abbrev s : Store
  s = store_in b

  abbrev st : Settings
  st = (store_in b).settings

  shape : Shaped (store_in b).settings z
  shape = shape_there b z h e

  -- ---- the history
  held : (used_at b z.history ≤ 16 * z.entries + 4 * z.hashes) × ((many commit_stream).parse (part b (z.history + 8) (used_at b z.history)) ≡ some s.history)
  unfolding history_slot
  held =
      let S = shape in
      let m : ℕ = 16 * z.entries + 4 * z.hashes in
      let w : 8 + m ≡ width_history st = omega (arith, S.entries, S.hashes) in
      let r : (room (8 + m) (sized 8 (many commit_stream))).read (part b z.history (8 + m)) ≡ some s.history =
      ap₂ (λ (at n : ℕ). (room n (sized 8 (many commit_stream))).read (part b at n)) S.history w ∙ (inside.lies b s o (sound-read b h)).history.read in
      room-holds (many commit_stream) b z.history m (omega (arith, S.history-wide, S.active-wide, S.area-wide, S.places-wide, sound-enough b h, w)) s.history r

  -- it takes at most its room
  pub history-used : used_at b z.history ≤ 16 * z.entries + 4 * z.hashes
  history-used = held.0

  -- they lie in the state
  pub history-lies : z.history + 8 + used_at b z.history ≤ length b
  history-lies = let R = history_room b z h e in omega (arith, history-used, R.wide, R.inside)

  -- the entries behind the number of their bytes are the store's history
  pub history-reads : history_read (list_at b z.history) ≡ some (store_in b).history
  history-reads = held.1

  pub history-is : history_in (list_at b z.history) ≡ (store_in b).history
  unfolding history_in
  history-is = ap or_empty history-reads

  -- they are in order
  pub history-ordered : is_history (list_at b z.history) ≡ true
  history-ordered =
      let entries : ℕ = cond st.serializable st.history_entries 0 in
      checked-order (list_at b z.history) entries st.history_hashes s.clock
      (ap (sound_read entries st.history_hashes s.clock) history-reads
      ∙ sym (ap hold_all (rules-limits st s.clock s.history))
      ∙ (rules s (sound-in b h)).history)

  -- ---- the reader rows, as code lends them
  rows-lent : part b start_rows (z.history - start_rows) ≡ rows_part st b
  rows-lent = let w : z.history - start_rows ≡ width_rows st = omega (arith, shape.rows-wide) in ap (part b start_rows) w

  pub rows-read : is_some (read_in (part b start_rows (z.history - start_rows))) ≡ true
  rows-read = ap (λ (u : Bytes). is_some (read_in u)) rows-lent ∙ ap is_some (part-reads st (rows_part st b) s.readers (inside.lies b s o (sound-read b h)).readers)

  -- 'the smallest timestamp with a reader; with no reader, the clock'
  pub watermark-is : (r clock : ℕ) → r ≡ watermark clock (rows_in (part b start_rows (z.history - start_rows))) → r ≡ watermark clock (store_in b).readers
  watermark-is r clock q =
      q ∙ ap (λ (u : Bytes). watermark clock (rows_in u)) rows-lent ∙ ap (watermark clock) (part-rows st (rows_part st b) s.readers (inside.lies b s o (sound-read b h)).readers)

-- ---- where the sets of a place begin
pub starts-are : (z : Shape) (place : ℕ) (r : SetStarts) → r ≡ set_starts z place → (r.reads ≡ (set_starts z place).reads) × (r.writes ≡ (set_starts z place).writes)
starts-are z place r e = (ap (λ (x : SetStarts). x.reads) e, ap (λ (x : SetStarts). x.writes) e)

-- they lie in the state
pub sets-inside : (b : Bytes) (z : Shape) (place : ℕ) (r : SetStarts) → Placed b z place → r ≡ set_starts z place → (r.writes + 8 ≤ length b) × (r.writes + 8 < 134217728) × (z.active ≤ r.writes)
sets-inside b z place r p e =
    let L = held_lies p in
    let q = starts-are z place r e in
    (omega (arith, q, L.wide, L.inside), omega (arith, q, L.wide, L.small), omega (arith, q, L.active, L.area, L.places))

-- ---- who is in the way of the transaction at a place
module _ (b : Bytes) (o : octets b ≡ true) (z : Shape) (place : ℕ) (p : Placed b z place) (reads : ℕ) (d : reads ≡ (set_starts z place).reads) where
  -- the read set
  R : SetAt b reads z.reads (held_at b place).reads
  R = subst (λ (x : ℕ). SetAt b x z.reads (held_at b place).reads) (sym d) (held_reads b o z place p)

  pub reads-lie : reads + 8 + used_at b reads ≤ length b
  reads-lie = let L = held_lies p in omega (arith, d, R.used, R.count, L.inside, L.wide)

  reads-are : set_hashes (list_at b reads) ≡ (held_at b place).reads
  reads-are = let m = reads-lie in set-part b (reads + 8) (used_at b reads) (set_count b reads) (omega (arith, R.used)) (omega arith) ∙ R.set

  pub reads-rise : rises compare (set_hashes (list_at b reads)) ≡ true
  reads-rise = ap (rises compare) reads-are ∙ set-rises (held_at b place).reads (held-reads-set b o z place p)

  pub opposed-told : (read : ℕ) (r : Option Opponent) → read ≡ number_from 0 (part b (place + 8) 8)
      → r ≡ opponent read (set_hashes (list_at b reads)) (history_in (list_at b z.history))
      → r ≡ opponent (held_at b place).read (held_at b place).reads (store_in b).history
  opposed-told read r g k =
      k
      ∙ ap (λ (n : ℕ). opponent n (set_hashes (list_at b reads)) (history_in (list_at b z.history))) (g ∙ held-read b o z place p)
      ∙ ap₂ (λ (hs : List ℕ) (cs : List Commit). opponent (held_at b place).read hs cs) reads-are (history-is b o p.sound z p.shape)
