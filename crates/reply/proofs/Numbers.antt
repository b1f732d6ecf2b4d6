-- The number of a reply is that of what it tells.
-- Assumes nothing.
use Prim.Native.Nat.{ℕ}
use Rattle.std.specs.Prelude as std
use Rattle.std.specs.Prelude.{Some, None, Result, Ok, Err, ⊤}
use mathlib.Core.Path.{◌≡◌, refl}
use Rattle.reply.specs.Told.{told_number, told_settled, told_begun, told_got, told_scanned, told_committed, number_of}
use Rattle.reply.specs.declared.Refusal.{Refusal}
use Rattle.reply.specs.declared.Begun.{Begun}
use Rattle.reply.specs.declared.PairLengths.{PairLengths}

pub settled-number : (r : Result ⊤ Refusal) → number_of r ≡ told_number (told_settled r)
unfolding told_number
settled-number (Ok u) = refl
settled-number (Err w) = refl

pub begun-number : (r : Result Begun Refusal) → number_of r ≡ told_number (told_begun r)
unfolding told_number
begun-number (Ok b) = refl
begun-number (Err w) = refl

pub got-number : (r : Result (std.Option ℕ) Refusal) → number_of r ≡ told_number (told_got r)
unfolding told_number
got-number (Ok (Some n)) = refl
got-number (Ok None) = refl
got-number (Err w) = refl

pub scanned-number : (r : Result (std.Option PairLengths) Refusal) → number_of r ≡ told_number (told_scanned r)
unfolding told_number
scanned-number (Ok (Some p)) = refl
scanned-number (Ok None) = refl
scanned-number (Err w) = refl

pub committed-number : (r : Result (std.Option ℕ) Refusal) → number_of r ≡ told_number (told_committed r)
unfolding told_number
committed-number (Ok (Some n)) = refl
committed-number (Ok None) = refl
committed-number (Err w) = refl
