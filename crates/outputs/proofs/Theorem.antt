-- The output of `replay` is never longer than `most_output`.
-- Assumes nothing.
use Prim.Native.Nat.{ℕ, suc, ◌+◌, ◌*◌, ◌≤◌, ◌<◌}
use native.Mathlib.Omega.{arith}
use mathlib.Core.Path.{◌≡◌, refl}
use mathlib.Core.Bool.{Bool, true, false, cond}
use mathlib.Core.List.{List, [], ◌∷◌}
use mathlib.Core.Option.{Option, none, some}
use lib.ListN.{length, length-append}
use lib.Dec.{leb}
use borrow.Author.Tests.{leb-true}
use Rattle.paper.specs.Lists.{all, total}
use Rattle.paper.specs.Keys.{Bytes, cmp_key}
use Rattle.paper.specs.Refusals.{Refusal, empty_key, too_long, no_handle, is_closed, no_room, conflicts, counter_full, no_reader, unsound, bad_run, foreign_run, bad_setting, not_understood, room_number, refusal_number}
use Rattle.paper.specs.Store.{Store, txns_of}
use Rattle.paper.specs.Calls.{Reply, done, began, found, answered, committed, refused, Call, opened, reply_number}
use Rattle.paper.specs.Replay.{pieces, lines_of, line_call, decimal, decimal_of, fields_of, spaced, output_line, line_outcome, replay_lines, replay_settings, replayed}
use Rattle.paper.proofs.Bools.{and_left, and_right}
use Rattle.paper.proofs.Decimals.{decimal-length, decimal-digits}
use Rattle.outputs.specs.Output.{most_output, Fits}
use Rattle.outputs.proofs.Short.{short, Passes}
use Rattle.outputs.proofs.Kept.{Short, brings, Brief, called-short}
use Rattle.outputs.proofs.Lines.{line_size, lines-size, lines-count, line-brings}

-- ---- a line of the output
refusal-digits : (r : Refusal) → length (decimal_of (refusal_number r)) ≤ 2
unfolding refusal_number room_number decimal
refusal-digits empty_key = omega arith
refusal-digits too_long = omega arith
refusal-digits no_handle = omega arith
refusal-digits is_closed = omega arith
refusal-digits (no_room r) = omega arith
refusal-digits (conflicts o) = omega arith
refusal-digits counter_full = omega arith
refusal-digits no_reader = omega arith
refusal-digits unsound = omega arith
refusal-digits (bad_run n) = omega arith
refusal-digits (foreign_run n) = omega arith
refusal-digits bad_setting = omega arith
refusal-digits not_understood = omega arith

fields-size : (r : Reply) → Brief r → total line_size (decimal_of (reply_number r) ∷ fields_of r) ≤ 44
unfolding total fields_of reply_number decimal
fields-size done h = omega arith
fields-size (began n r) h = omega (arith, decimal-length n, decimal-length r)
fields-size (found none) h = omega arith
fields-size (found (some b)) h = omega (arith, leb-true (length b) 16 h)
fields-size (answered none) h = omega arith
fields-size (answered (some p)) h =
    omega (arith, leb-true (length p.key) 16 (and_left (short p.key) (short p.value) h), leb-true (length p.value) 16 (and_right (short p.key) (short p.value) h))
fields-size (committed none) h = omega arith
fields-size (committed (some n)) h = omega (arith, decimal-length n)
fields-size (refused r) h = omega (arith, refusal-digits r)

spaced-size : (fs : List Bytes) → length (spaced fs) ≡ suc (total line_size fs)
unfolding spaced total
spaced-size [] = refl
spaced-size (f ∷ fs) = omega (arith, length-append f (spaced fs), spaced-size fs)

output-size : (n : ℕ) (r : Reply) → n < 100_000 → length (output_line n r) ≤ 6 + total line_size (decimal_of (reply_number r) ∷ fields_of r)
unfolding output_line
output-size n r l =
    let fs : List Bytes = decimal_of (reply_number r) ∷ fields_of r in
    omega (arith, length-append (decimal_of n) (spaced fs), spaced-size fs, decimal-digits n 5 l (omega arith))

-- ---- the run
outcome-short : (s : Store) (o : Option Call) → Passes brings o → Short s → Short (line_outcome s o).store × Brief (line_outcome s o).reply
outcome-short s none b h = (h, tt)
outcome-short s (some c) b h = called-short s c b h

module _ (n : ℕ) (s : Store) (below : n < 100_000) (h : Short s) where
  abbrev reply_to : Bytes → Reply
  reply_to l = (line_outcome s (line_call (pieces 32 l))).reply

  line-short : (l : Bytes) → Short (line_outcome s (line_call (pieces 32 l))).store × Brief (reply_to l)
  line-short l = outcome-short s (line_call (pieces 32 l)) (line-brings (pieces 32 l)) h

  -- an empty line is not understood
  line-fits : (l : Bytes) → length (output_line n (reply_to l)) ≤ 25 * line_size l
  unfolding pieces line_call cmp_key total fields_of reply_number refusal_number decimal
  line-fits [] = omega (arith, output-size n (refused not_understood) below)
  line-fits (b ∷ bs) = omega (arith, output-size n (reply_to (b ∷ bs)) below, fields-size (reply_to (b ∷ bs)) (line-short (b ∷ bs)).1)

lines_fit : (ls : List Bytes) (n : ℕ) (s : Store) → n + length ls ≤ 100_000 → Short s → length (replay_lines n s ls) ≤ 25 * total line_size ls
unfolding replay_lines total
lines_fit [] n s l h = omega arith
lines_fit (x ∷ ls) n s l h =
    let below : n < 100_000 = omega arith in
    let o = line_outcome s (line_call (pieces 32 x)) in
    let further = lines_fit ls (suc n) o.store (omega arith) (line-short n s below h x).0 in
    omega (arith, length-append (output_line n o.reply) (replay_lines (suc n) o.store ls), line-fits n s below h x, further)

opened-short : Short (opened replay_settings [])
unfolding opened replay_settings txns_of all
opened-short = record { txns = refl; runs = refl }

pub output-fits : (input : Bytes) → Fits input
unfolding replayed
output-fits input = go (leb (length input) 32_768) refl
  where
    output : Bytes
    output = replay_lines 1 (opened replay_settings []) (lines_of (pieces 10 input))

    go : (b : Bool) → leb (length input) 32_768 ≡ b → length (cond b output (output_line 0 (refused not_understood))) ≤ most_output
    go true e =
        let l : length input ≤ 32_768 = leb-true (length input) 32_768 e in
        let ls = lines_of (pieces 10 input) in
        let size : total line_size ls ≤ suc (length input) = lines-size input in
        let count : length ls ≤ total line_size ls = lines-count ls in
        omega (arith, lines_fit ls 1 (opened replay_settings []) (omega arith) opened-short)
    go false e = omega (arith, output-size 0 (refused not_understood) (omega arith), fields-size (refused not_understood) tt)
