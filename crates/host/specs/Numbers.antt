-- The calls by numbers, for hosts in other languages: the numbers that a host hands over, and what it has of a call: document 01's number, the state's
-- bytes, and the reply's values in a buffer of its own.
-- Assumes nothing.
use Rattle.std.specs.Prelude.{ℕ, cond, ◌&&◌, List, [], ◌∷◌, ◌++◌, leb, eqb, length, take, drop}
use Rattle.std.proofs.Math.Option.{Option, none, some}
use Rattle.paper.specs.Keys.{Bytes}
use Rattle.paper.specs.Settings.{Settings, in_ranges, state_length}
use Rattle.paper.specs.Refusals.{Refusal, empty_key, too_long, no_handle, is_closed, no_room, conflicts, counter_full, no_reader, unsound, bad_run, foreign_run, bad_setting, not_understood}
use Rattle.paper.specs.Calls.{Call}
use Rattle.reply.specs.Told.{Told, nothing, handle, value, pair, number, why, told_number}
use Rattle.reply.specs.OnBytes.{told_on}

-- ---- the values of a reply
-- an opening run 'cut .., overlong, unsorted, with an empty key or a wrong mark; its place, from 1, is told', and 'told as in 10' with another version;
-- no other refusal has a value
unfoldable pub cause_values : Refusal → List ℕ
cause_values empty_key = []
cause_values too_long = []
cause_values no_handle = []
cause_values is_closed = []
cause_values (no_room r) = []
cause_values (conflicts o) = []
cause_values counter_full = []
cause_values no_reader = []
cause_values unsound = []
cause_values (bad_run n) = n ∷ []
cause_values (foreign_run n) = n ∷ []
cause_values bad_setting = []
cause_values not_understood = []

-- 1 and what there is, or 0 where there is nothing
abbrev pub one_or_none : Option ℕ → List ℕ
one_or_none none = 0 ∷ []
one_or_none (some n) = 1 ∷ n ∷ []

abbrev pub two_or_none : Option (ℕ × ℕ) → List ℕ
two_or_none none = 0 ∷ []
two_or_none (some p) = 1 ∷ p.0 ∷ p.1 ∷ []

-- a begin's handle and read number; whether a get found a value, and its length; whether a scan found a pair, and the lengths of its key and its value;
-- whether a commit stored its writes under a number, and that number
unfoldable pub values_of : Told → List ℕ
values_of nothing = []
values_of (handle h r) = h ∷ r ∷ []
values_of (value n) = one_or_none n
values_of (pair p) = two_or_none p
values_of (number n) = one_or_none n
values_of (why r) = cause_values r

-- a reply buffer that held ns, with as many of the values in front as it has room for
unfoldable pub noted : List ℕ → List ℕ → List ℕ
noted vs ns = take (length ns) vs ++ drop (length vs) ns

-- ---- what a host has of a call
-- of one that told something and left a state's bytes: the number returned, those bytes, and the reply buffer that held ns
abbrev pub by_numbers : Told × Bytes → List ℕ → ℕ × (Bytes × List ℕ)
by_numbers p ns = (told_number p.0, (p.1, noted (values_of p.0) ns))

-- of a call on the bytes b
unfoldable pub numbers_on : Call → Bytes → List ℕ → ℕ × (Bytes × List ℕ)
numbers_on c b ns = by_numbers (told_on c b) ns

-- of a call without values, on the bytes b: the number returned, and the bytes
unfoldable pub number_on : Call → Bytes → ℕ × Bytes
number_on c b = (told_number (told_on c b).0, (told_on c b).1)

-- ---- what a host hands over by numbers
-- the settings in their order, the mode first: 1 is serializable
abbrev pub settings_by : ℕ → ℕ → ℕ → ℕ → ℕ → ℕ → ℕ → ℕ → ℕ → Settings
settings_by mode transactions overlay reads writes entries hashes active area =
    record {
      serializable = eqb mode 1;
      transactions = transactions;
      overlay_bytes = overlay;
      read_hashes = reads;
      write_hashes = writes;
      history_entries = entries;
      history_hashes = hashes;
      active_bytes = active;
      area_bytes = area;
    }

-- the length of a state with such settings; 0 where one is outside its range, and the mode's range is 0 to 1
unfoldable pub length_by : ℕ → Settings → ℕ
length_by mode st = cond (leb mode 1 && in_ranges st) (state_length st) 0

-- an opening on the bytes b: 12 where the mode is neither 0 nor 1, else as the settings say
unfoldable pub opened_by : ℕ → Settings → Bytes → List ℕ → Bytes → List ℕ → ℕ × (Bytes × List ℕ)
opened_by mode st images lengths b ns = by_numbers (cond (leb mode 1) (told_on (Call.opening st images lengths (length b)) b) (why bad_setting, b)) ns
