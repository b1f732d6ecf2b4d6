-- The calls by numbers: what a call of the store told and left, told by numbers.
-- Assumes nothing.
use Rattle.std.specs.Prelude.{Result, Err, ⊤}
use Prim.Native.Nat.{ℕ, ◌≤◌, ◌<◌}
use mathlib.Core.Path.{◌≡◌, sym, ap, ◌∙◌}
use mathlib.Core.Bool.{Bool, true, false, cond, ◌&&◌}
use mathlib.Core.List.{List}
use borrow.Author.Tests.{le-leb, lt-leb}
use lib.ListN.{length}
use Rattle.paper.specs.Keys.{Bytes}
use Rattle.paper.specs.Settings.{Settings, in_ranges, state_length}
use Rattle.paper.specs.Refusals.{bad_setting}
use Rattle.paper.specs.Calls.{Call}
use Rattle.reply.specs.Told.{Told, why, told_number, told_by, number_of, done_told, told_settled}
use Rattle.reply.specs.declared.Refusal.{Refusal}
use Rattle.reply.specs.declared.Refusal.TheVariants.{BadSetting}
use Rattle.reply.proofs.Numbers.{settled-number}
use Rattle.paper.specs.Bounds.{Bound}
use Rattle.reply.specs.OnBytes.{told_on}
use Rattle.store.specs.Asked.{scan_of}
use Rattle.host.specs.Numbers.{by_numbers, noted, values_of, numbers_on, number_on, length_by, opened_by}

-- ---- a call
-- a reply x that tells f of its answer, by the number n, and the reply buffer went from ns to ms
abbrev pub Tells : {A : Type 0} → (A → Told) → Result A Refusal → ℕ → List ℕ → List ℕ → Type 0
Tells f x n ns ms = (n ≡ number_of x) × (ms ≡ noted (values_of (told_by f x)) ns)

module _ {A : Type 0} (f : A → Told) (numbers : (y : Result A Refusal) → number_of y ≡ told_number (told_by f y)) (x : Result A Refusal) where
  by-numbers : (p : Told × Bytes) (a : Bytes) (n : ℕ) (ns ms : List ℕ) → ◌≡◌ {A = Told × Bytes} (told_by f x, a) p → Tells f x n ns ms → ◌≡◌ {A = ℕ × (Bytes × List ℕ)} (n, (a, ms)) (by_numbers p ns)
  by-numbers p a n ns ms e k =
      ap {B = ℕ × (Bytes × List ℕ)} (λ (m : ℕ). (m, (a, ms))) (k.0 ∙ numbers x)
      ∙ ap {B = ℕ × (Bytes × List ℕ)} (λ (l : List ℕ). (told_number (told_by f x), (a, l))) k.1
      ∙ ap (λ (q : Told × Bytes). by_numbers q ns) e

  pub numbers_on_lem : (c : Call) (b a : Bytes) (n : ℕ) (ns ms : List ℕ) → ◌≡◌ {A = Told × Bytes} (told_by f x, a) (told_on c b) → Tells f x n ns ms → ◌≡◌ {A = ℕ × (Bytes × List ℕ)} (n, (a, ms)) (numbers_on c b ns)
  unfolding numbers_on
  numbers_on_lem c b = by-numbers (told_on c b)

  pub number-on : (c : Call) (b a : Bytes) (n : ℕ) → ◌≡◌ {A = Told × Bytes} (told_by f x, a) (told_on c b) → n ≡ number_of x → ◌≡◌ {A = ℕ × Bytes} (n, a) (number_on c b)
  unfolding number_on
  number-on c b a n e k = ap {B = ℕ × Bytes} (λ (m : ℕ). (m, a)) (k ∙ numbers x) ∙ ap {B = ℕ × Bytes} (λ (q : Told × Bytes). (told_number q.0, q.1)) e

-- ---- a scan, with its out buffers
-- a scan by kinds of bounds is one by their bounds
pub scan-by : (handle : ℕ) (l low h high : Bound) (keys values : Bytes) → l ≡ low → h ≡ high → scan_of handle l h keys values ≡ scan_of handle low high keys values
scan-by handle l low h high keys values e f = cc

-- ---- an opening: another mode is 'outside its range', and else the settings decide
module _ (mode : ℕ) (st : Settings) (images : Bytes) (lengths : List ℕ) (b : Bytes) (ns ms : List ℕ) (n : ℕ) (x : Result ⊤ Refusal) (k : Tells done_told x n ns ms) where
  abbrev opened_if : Bool → ℕ × (Bytes × List ℕ)
  opened_if v = by_numbers (cond v (told_on (Call.opening st images lengths (length b)) b) (why bad_setting, b)) ns

  pub opened-not : 1 < mode → x ≡ Err BadSetting → ◌≡◌ {A = ℕ × (Bytes × List ℕ)} (n, (b, ms)) (opened_by mode st images lengths b ns)
  unfolding opened_by
  opened-not l e = by-numbers done_told settled-number x (why bad_setting, b) b n ns ms (ap (λ (y : Result ⊤ Refusal). (told_settled y, b)) e) k ∙ ap opened_if (sym (lt-leb mode 1 l))

  pub opened-by : (given : Settings) (a : Bytes) → mode ≤ 1 → given ≡ st → ◌≡◌ {A = Told × Bytes} (told_settled x, a) (told_on (Call.opening given images lengths (length b)) b) → ◌≡◌ {A = ℕ × (Bytes × List ℕ)} (n, (a, ms)) (opened_by mode st images lengths b ns)
  unfolding opened_by
  opened-by given a l g e =
      by-numbers done_told settled-number x (told_on (Call.opening st images lengths (length b)) b) a n ns ms (e ∙ ap (λ (z : Settings). told_on (Call.opening z images lengths (length b)) b) g) k
      ∙ ap opened_if (sym (le-leb mode 1 l))

-- ---- the length of a state
module _ (mode : ℕ) (st : Settings) where
  abbrev length_if : Bool → Bool → ℕ
  length_if x y = cond (x && y) (state_length st) 0

  pub length-no-mode : 1 < mode → 0 ≡ length_by mode st
  unfolding length_by
  length-no-mode l = sym (ap (λ (x : Bool). length_if x (in_ranges st)) (lt-leb mode 1 l))

  module _ (given : Settings) (l : mode ≤ 1) (g : given ≡ st) where
    length-mode : length_if true (in_ranges given) ≡ length_by mode st
    unfolding length_by
    length-mode = ap (λ (x : Settings). length_if true (in_ranges x)) g ∙ ap (λ (x : Bool). length_if x (in_ranges st)) (sym (le-leb mode 1 l))

    pub length-out : (x : Bool) → x ≡ in_ranges given → x ≡ false → 0 ≡ length_by mode st
    length-out x e f = ap (length_if true) (sym f ∙ e) ∙ length-mode

    pub length-in : (x : Bool) (r : ℕ) → x ≡ in_ranges given → x ≡ true → r ≡ state_length given → r ≡ length_by mode st
    length-in x r e f n = n ∙ ap state_length g ∙ ap (length_if true) (sym f ∙ e) ∙ length-mode
