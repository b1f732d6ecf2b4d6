-- An answer told by numbers: what the read path answers of a view is told of an equal one.
-- Assumes nothing.
use Prim.Native.Nat.{ℕ}
use Rattle.std.specs.Prelude.{Ok, Err}
use mathlib.Core.Path.{◌≡◌, refl, sym, ap, ◌∙◌, subst}
use mathlib.Core.List.{List}
use mathlib.Core.Option.{Option}
use Rattle.paper.specs.Keys.{Bytes, Pair}
use Rattle.paper.specs.Image as paper
use Rattle.paper.specs.Bounds.{Bound}
use Rattle.paper.specs.Seen.{seen, scanned}
use Rattle.run.specs.Checks.{told}
use Rattle.run.specs.declared.BadImage.TheVariants.{Broken, Foreign}
use Rattle.lsm.specs.Answers.{Says, value_in, InAnswer}
use Rattle.lsm.specs.Views.{versions_in, writes_in, Readable}
use Rattle.std.specs.Prelude as std
use Rattle.std.specs.Prelude.{Some}
use Rattle.lsm.specs.declared.answer.Span.{Span}
use Rattle.lsm.specs.declared.view.View.{View}
use Rattle.probe.specs.Told.{code_of, numbers_of, Told, Value, verdict_number}

pub told_at : (a : std.Option Span) (p : Span) (ns : List ℕ) → a ≡ Some p → (◌≡◌ {A = ℕ} 1 (code_of a)) × (numbers_of (Some p) ns ≡ numbers_of a ns)
told_at a p ns e = (sym (ap code_of e), sym (ap (λ (b : std.Option Span). numbers_of b ns) e))

pub readable-same : (s : Bytes) (v w : View) → v ≡ w → Readable s w → Readable s v
readable-same s v w e r = subst (λ (u : View). Readable s u) (sym e) r

-- what a scan and a get of a view answer
abbrev scan_of : Bytes → View → Bound → Bound → Option Pair
scan_of s v low high = scanned (writes_in s v) (versions_in s v) v.read low high

abbrev get_of : Bytes → View → Bytes → Option Bytes
get_of s v key = seen (writes_in s v) (versions_in s v) v.read key

pub scan-told : (s : Bytes) (v w : View) (l m h k : Bound) (a : std.Option Span) (code : ℕ) (before after : List ℕ)
    → v ≡ w → l ≡ m → h ≡ k → Says s (scan_of s v l h) a → (code ≡ code_of a) × (after ≡ numbers_of a before)
    → Told (Says s (scan_of s w m k)) code before after
scan-told s v w l m h k a code before after e f g says told =
    record {
      answer = a;
      is_right = record {
        is = says.is ∙ ap (λ (u : View). scan_of s u l h) e ∙ ap (λ (u : Bound). scan_of s w u h) f ∙ ap (λ (u : Bound). scan_of s w m u) g;
        inside = says.inside;
      };
      code_is = told.0;
      numbers = told.1;
    }

pub get-told : (s key : Bytes) (v w : View) (a : std.Option Span) (code : ℕ) (before after : List ℕ)
    → v ≡ w → (value_in s a ≡ get_of s v key) × InAnswer s a → (code ≡ code_of a) × (after ≡ numbers_of a before)
    → Told (Value s (get_of s w key)) code before after
get-told s key v w a code before after e got told =
    record {
      answer = a;
      is_right = record { is = got.0 ∙ ap (λ (u : View). get_of s u key) e; inside = got.1 };
      code_is = told.0;
      numbers = told.1;
    }

-- ---- the verdict on an image
pub told-good : (v : paper.Verdict) (n : ℕ) → Ok n ≡ told v → 0 ≡ verdict_number v
told-good (paper.good r) n e = refl
told-good paper.broken n e = cc
told-good paper.foreign n e = cc

pub told-broken : (v : paper.Verdict) → Err Broken ≡ told v → 10 ≡ verdict_number v
told-broken (paper.good r) e = cc
told-broken paper.broken e = refl
told-broken paper.foreign e = cc

pub told-foreign : (v : paper.Verdict) → Err Foreign ≡ told v → 11 ≡ verdict_number v
told-foreign (paper.good r) e = cc
told-foreign paper.broken e = cc
told-foreign paper.foreign e = refl
