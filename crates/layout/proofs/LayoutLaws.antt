-- The laws of each part's slot and of all of them together, what each part can hold, and the widths.
-- Assumes nothing.
use Prim.Native.Nat.{ℕ, ◌+◌, ◌*◌, ◌≤◌}
use native.Mathlib.Omega.{arith}
use native.Mathlib.Nat.{mul-add}
use mathlib.Core.Path.{◌≡◌, refl, sym, ap, ◌∙◌}
use mathlib.Core.Bool.{Bool}
use mathlib.Core.List.{List, reverse, reverse-reverse}
use mathlib.Core.Option.{Option, none, some}
use lib.ListN.{length}
use lib.Dec.{lit<}
use Rattle.paper.specs.Keys.{Bytes, Pair}
use Rattle.paper.specs.Runs.{Run}
use Rattle.paper.specs.Readers.{Row}
use Rattle.paper.specs.History.{Commit}
use Rattle.paper.specs.Settings.{Settings, state_length}
use Rattle.paper.specs.Store.{Txn, Store, frozen_of}
use Rattle.layout.specs.Codec.{Stream, num, both, flag, sized, plain, many, room, beside, rows, optional, slot_via}
use Rattle.layout.specs.Offsets.{start_clock, width_rows, width_history, width_active, width_area, width_overlay, width_reads, width_writes, stride, start_places}
use Rattle.layout.specs.Layout.{to_settings, from_settings, n8, settings_stream, listed, row_stream, hashes_stream, commit_stream, pair_stream, version_stream, image, images_whole, images_stream, TxnParts, head_slot, overlay_slot, reads_slot, writes_slot, txn_slot, to_txn, from_txn, place_slot, settings_slot, number_slot, rows_slot, history_slot, active_slot, frozen_slot, places_slot, Parts, parts_slot, parts_of}
use Rattle.layout.proofs.Streams.{StreamLaws, Below, All, num_laws, both-laws, via-laws, flag-laws, plain-laws, sized-laws, many-laws, whole_via-laws}
use Rattle.layout.proofs.Images.{OkVersion, version-laws, OkImage, image-laws}
use Rattle.layout.proofs.Slots.{SlotLaws, room-laws, slot_via-laws, beside_laws, rows-laws, OkNamed, optional-laws}

-- ---- what a stream can hold
n8-laws : StreamLaws n8 (Below 8)
n8-laws = num_laws 8 (lit< tt)

-- values of a stream, and the number of their bytes
abbrev pub Listed : {A : Type 0} → Stream A → (A → Type 0) → List A → Type 0
Listed S Ok as' = All Ok as' × Below 8 (length ((many S).form as'))

listed-laws : {A : Type 0} {S : Stream A} {Ok : A → Type 0} → StreamLaws S Ok → StreamLaws (listed S) (Listed S Ok)
listed-laws L = sized-laws 8 (lit< tt) (many-laws L)

abbrev pub OkSettings : Settings → Type 0
OkSettings s =
    Unit {0} × (Below 8 s.transactions × (Below 8 s.overlay_bytes × (Below 8 s.read_hashes × (Below 8 s.write_hashes × (Below 8 s.history_entries × (Below 8 s.history_hashes × (Below 8 s.active_bytes × Below 8 s.area_bytes)))))))

pub settings-laws : StreamLaws settings_stream OkSettings
unfolding settings_stream
settings-laws =
    via-laws
    (both-laws (flag-laws 8 (lit< tt)) (both-laws n8-laws (both-laws n8-laws (both-laws n8-laws (both-laws n8-laws (both-laws n8-laws (both-laws n8-laws (both-laws n8-laws n8-laws))))))))
    to_settings from_settings (λ p. refl) (λ s. refl)

abbrev pub OkRow : Row → Type 0
OkRow r = Below 8 r.time × Below 8 r.count

pub row_laws : StreamLaws row_stream OkRow
unfolding row_stream
row_laws = via-laws (both-laws n8-laws n8-laws) _ _ (λ p. refl) (λ r. refl)

abbrev pub OkHashes : List ℕ → Type 0
OkHashes hs = Listed (num 4) (Below 4) hs

pub hashes-laws : StreamLaws hashes_stream OkHashes
hashes-laws = listed-laws (num_laws 4 (lit< tt))

abbrev pub OkCommit : Commit → Type 0
OkCommit c = Below 8 c.number × OkHashes c.hashes

pub commit-laws : StreamLaws commit_stream OkCommit
unfolding commit_stream
commit-laws = via-laws (both-laws n8-laws hashes-laws) _ _ (λ p. refl) (λ r. refl)

-- a key or a value
abbrev pub OkText : Bytes → Type 0
OkText x = Unit {0} × Below 2 (length x)

text-laws : StreamLaws (sized 2 plain) OkText
unfolding plain
text-laws = sized-laws 2 (lit< tt) plain-laws

abbrev pub OkPair : Pair → Type 0
OkPair p = OkText p.key × OkText p.value

pub pair-laws : StreamLaws pair_stream OkPair
unfolding pair_stream
pair-laws = via-laws (both-laws text-laws text-laws) _ _ (λ p. refl) (λ r. refl)

abbrev pub OkSized : Run → Type 0
OkSized r = OkImage r × Below 8 (length (image.form r))

abbrev pub OkImages : List Run → Type 0
OkImages rs = All OkSized (reverse rs) × Below 8 (length (images_whole.form rs))

pub images-laws : StreamLaws images_stream OkImages
unfolding images_whole
images-laws = sized-laws 8 (lit< tt) (whole_via-laws (many-laws (sized-laws 8 (lit< tt) image-laws)) reverse reverse reverse-reverse reverse-reverse)

-- ---- what a slot can hold: a value that its stream can hold, in room of w bytes
abbrev pub In : {A : Type 0} → Stream A → (A → Type 0) → ℕ → A → Type 0
In S Ok w a = Ok a × (length (S.put a) ≤ w)

-- read number and mark
abbrev pub OkHead : ℕ × Bool → Type 0
OkHead = In (both n8 (flag 8)) (λ q. Below 8 q.0 × Unit {0}) 16

abbrev pub OkOverlay : Settings → List Pair → Type 0
OkOverlay s = In (listed pair_stream) (Listed pair_stream OkPair) (width_overlay s)

abbrev pub OkReads : Settings → List ℕ → Type 0
OkReads s = In hashes_stream OkHashes (width_reads s)

abbrev pub OkWrites : Settings → List ℕ → Type 0
OkWrites s = In hashes_stream OkHashes (width_writes s)

abbrev pub OkTxn : Settings → TxnParts → Type 0
OkTxn s p = OkHead p.0 × (OkOverlay s p.1.0 × (OkReads s p.1.1.0 × OkWrites s p.1.1.1))

pub head-laws : SlotLaws head_slot OkHead
head-laws = room-laws 16 (both-laws n8-laws (flag-laws 8 (lit< tt)))

pub overlay-laws : (s : Settings) → SlotLaws (overlay_slot s) (OkOverlay s)
overlay-laws s = room-laws (width_overlay s) (listed-laws pair-laws)

pub reads-laws : (s : Settings) → SlotLaws (reads_slot s) (OkReads s)
reads-laws s = room-laws (width_reads s) hashes-laws

pub writes-laws : (s : Settings) → SlotLaws (writes_slot s) (OkWrites s)
writes-laws s = room-laws (width_writes s) hashes-laws

pub txn-laws : (s : Settings) → SlotLaws (txn_slot s) (OkTxn s)
unfolding txn_slot
txn-laws s = beside_laws head-laws (beside_laws (overlay-laws s) (beside_laws (reads-laws s) (writes-laws s)))

abbrev pub OkPlace : Settings → Option Txn → Type 0
OkPlace s t = OkNamed (OkTxn s) (from_txn t)

to-from : (t : Option Txn) → to_txn (from_txn t) ≡ t
to-from none = refl
to-from (some t) = refl

from-to : (t : Option (ℕ × TxnParts)) → from_txn (to_txn t) ≡ t
from-to none = refl
from-to (some t) = refl

pub place-laws : (s : Settings) → SlotLaws (place_slot s) (OkPlace s)
unfolding place_slot
place-laws s = slot_via-laws (optional-laws (txn-laws s)) to_txn from_txn from-to to-from

-- ---- the parts of a store
abbrev pub OkSet : Settings → Type 0
OkSet = In settings_stream OkSettings start_clock

pub settings-slot : SlotLaws settings_slot OkSet
unfolding settings_slot
settings-slot = room-laws start_clock settings-laws

abbrev pub OkNumber : ℕ → Type 0
OkNumber = In n8 (Below 8) 8

pub number-slot : SlotLaws number_slot OkNumber
unfolding number_slot
number-slot = room-laws 8 n8-laws

abbrev pub OkRows : Settings → List Row → Type 0
OkRows s = In (listed row_stream) (Listed row_stream OkRow) (width_rows s)

pub rows-slot : (s : Settings) → SlotLaws (rows_slot s) (OkRows s)
unfolding rows_slot
rows-slot s = room-laws (width_rows s) (listed-laws row_laws)

abbrev pub OkHistory : Settings → List Commit → Type 0
OkHistory s = In (listed commit_stream) (Listed commit_stream OkCommit) (width_history s)

pub history-slot : (s : Settings) → SlotLaws (history_slot s) (OkHistory s)
unfolding history_slot
history-slot s = room-laws (width_history s) (listed-laws commit-laws)

abbrev pub OkActive : Settings → Run → Type 0
OkActive s = In (listed version_stream) (Listed version_stream OkVersion) (width_active s)

pub active-slot : (s : Settings) → SlotLaws (active_slot s) (OkActive s)
unfolding active_slot
active-slot s = room-laws (width_active s) (listed-laws version-laws)

abbrev pub OkFrozen : Settings → List Run → Type 0
OkFrozen s = In images_stream OkImages (width_area s)

pub frozen-slot : (s : Settings) → SlotLaws (frozen_slot s) (OkFrozen s)
unfolding frozen_slot
frozen-slot s = room-laws (width_area s) images-laws

abbrev pub OkPlaces : Settings → List (Option Txn) → Type 0
OkPlaces s ps = All (OkPlace s) ps × (length ps ≡ s.transactions)

pub places-slot : (s : Settings) → SlotLaws (places_slot s) (OkPlaces s)
unfolding places_slot
places-slot s = rows-laws (place-laws s) s.transactions

abbrev pub OkParts : Settings → Parts → Type 0
OkParts s p =
    OkNumber p.0
    × (OkNumber p.1.0
    × (OkRows s p.1.1.0
    × (OkHistory s p.1.1.1.0 × (OkActive s p.1.1.1.1.0 × (OkFrozen s p.1.1.1.1.1.0 × OkPlaces s p.1.1.1.1.1.1)))))

pub parts_laws : (s : Settings) → SlotLaws (parts_slot s) (OkParts s)
unfolding parts_slot
parts_laws s =
    beside_laws number-slot
    (beside_laws number-slot
    (beside_laws (rows-slot s) (beside_laws (history-slot s) (beside_laws (active-slot s) (beside_laws (frozen-slot s) (places-slot s))))))

-- a store whose parts all fit their fields and rooms: its state can hold it
pub record Fits (s : Store) : Type 0 where
  pub settings : OkSet s.settings
  pub clock : OkNumber s.clock
  pub counter : OkNumber s.counter
  pub readers : OkRows s.settings s.readers
  pub history : OkHistory s.settings s.history
  pub active : OkActive s.settings s.active
  pub frozen : OkFrozen s.settings (frozen_of s)
  pub places : OkPlaces s.settings s.places

pub fit_parts : (s : Store) → Fits s → OkParts s.settings (parts_of s)
fit_parts s f = (f.clock, (f.counter, (f.readers, (f.history, (f.active, (f.frozen, f.places))))))

pub parts-fit : (s : Store) → OkSet s.settings → OkParts s.settings (parts_of s) → Fits s
parts-fit s o p =
    record {
      settings = o;
      clock = p.0;
      counter = p.1.0;
      readers = p.1.1.0;
      history = p.1.1.1.0;
      active = p.1.1.1.1.0;
      frozen = p.1.1.1.1.1.0;
      places = p.1.1.1.1.1.1;
    }

-- ---- widths
pub settings-width : settings_slot.width ≡ start_clock
unfolding settings_slot room
settings-width = refl

pub number-width : number_slot.width ≡ 8
unfolding number_slot room
number-width = refl

module _ (s : Settings) where
  pub rows-width : (rows_slot s).width ≡ width_rows s
  unfolding rows_slot room
  rows-width = refl

  pub history-width : (history_slot s).width ≡ width_history s
  unfolding history_slot room
  history-width = refl

  pub active-width : (active_slot s).width ≡ width_active s
  unfolding active_slot room
  active-width = refl

  pub frozen-width : (frozen_slot s).width ≡ width_area s
  unfolding frozen_slot room
  frozen-width = refl

  pub place-width : (place_slot s).width ≡ stride s
  unfolding place_slot slot_via optional txn_slot beside room
  place-width = omega arith

  pub places-width : (places_slot s).width ≡ s.transactions * stride s
  unfolding places_slot rows
  places-width = ap (λ (w : ℕ). s.transactions * w) place-width

  -- the places end the parts
  pub parts-width : start_clock + (parts_slot s).width ≡ start_places s + s.transactions * stride s
  unfolding parts_slot beside
  parts-width = omega (arith, number-width, rows-width, history-width, active-width, frozen-width, places-width)

  -- and the parts end the state
  pub width_is : start_clock + (parts_slot s).width ≡ state_length s
  unfolding state_length
  width_is =
      let t : ℕ = s.transactions in
      let o : ℕ = s.overlay_bytes in
      let h : ℕ = s.read_hashes + s.write_hashes in
      let e : stride s + 16 ≡ 64 + o + 4 * h = omega arith in
      let q : t * (64 + o + 4 * h) ≡ t * stride s + t * 16 = ap (λ (n : ℕ). t * n) (sym e) ∙ mul-add t (stride s) 16 in
      parts-width ∙ omega arith
