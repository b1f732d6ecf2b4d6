-- The same records and the same own writes in other bytes, and at other places: the run that they make is the same.
-- Assumes nothing.
use mathlib.Core.Path.{◌≡◌, ap, ap₂, ◌∙◌}
use Prim.Native.Nat.{ℕ, ◌≤◌}
use lib.ListN.{length}
use Rattle.paper.specs.Lists.{insert_all}
use Rattle.paper.specs.Keys.{Bytes, cmp_version}
use Rattle.paper.specs.Calls.{stamped}
use Rattle.key.specs.Versions.{versions, packed}
use Rattle.overlay.specs.Overlay.{pairs_in, is_overlay}
use Rattle.overlay.specs.Entries.{span}
use Rattle.versions.specs.Absorbing.{older, Absorbable, absorbed}

module _ (s t : Bytes) (at end at' end' own stop n : ℕ) (run : span t at' end' ≡ span s at end) (entries : span t own stop ≡ span s own stop) where
  pub absorbable-same : at' ≤ end' → end' ≤ own → stop ≤ length t → Absorbable s at end own stop n → Absorbable t at' end' own stop n
  absorbable-same order apart inside h =
      record {
        order = order;
        apart = apart;
        onward = h.onward;
        inside = inside;
        whole = ap packed run ∙ h.whole;
        aged = ap (λ (u : Bytes). older n (versions u)) run ∙ h.aged;
        entries = ap is_overlay entries ∙ h.entries;
      }

  pub absorbed-same : absorbed t at' end' own stop n ≡ absorbed s at end own stop n
  absorbed-same = ap₂ (λ (u w : Bytes). insert_all cmp_version (stamped n (pairs_in u)) (versions w)) entries run
