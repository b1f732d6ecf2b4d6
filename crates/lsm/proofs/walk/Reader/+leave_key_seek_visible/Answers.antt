-- Each return is a step of the walk, `Walking`, and each call has fewer versions left to read.
use Rattle.lsm.proofs.Walking.{nothing-shown, leaves-on, leaves-off, fewer-unread, inside-it, seek-end, seek-later, seek-gone, seek_found, from}
use Rattle.merge.proofs.HeapSteps.{root_live}
use Rattle.merge.proofs.CursorLaws.{live-record}
use Rattle.paper.specs.Bounds.{Bound, below}
use Rattle.std.proofs.Math.Option.{none}
use Rattle.lsm.specs.Edges.{bound_of}
use native.Mathlib.Omega.{arith}
use mathlib.Core.Path.{sym, ap, ◌∙◌}
use Rattle.lsm.proofs.walk.Reader.+leave_key_seek_visible.Goals as goal

pub leave_key-returns-then-heap-eq0 : goal.leave_key-returns-then-heap-eq0
leave_key-returns-then-heap-eq0 t c =
    record { sound = c.requires.0; inside = tt; same = sym (nothing-shown _ _ _ _ c.requires.0 _ c.if-heap-eq0.true); on = tt; over = nothing-shown _ _ _ _ c.requires.0 none c.if-heap-eq0.true }

pub leave_key-returns-then-key_is : goal.leave_key-returns-then-key_is
leave_key-returns-then-key_is t c =
    let f = fewer-unread c.args.self.s.now 0 Bound.unbounded _ c.requires.0 _ c.pass.ensures in
    from _ _ _ _ _ _ _ _ _ _ _ c.leave_key.ensures (leaves-on _ _ _ _ c.requires.0 _ _ c.pass.ensures (sym c.key_is.ensures ∙ c.if-key_is.true)) (omega arith) (omega arith)

pub leave_key-returns : goal.leave_key-returns
leave_key-returns t c =
    from _ _ _ _ _ _ _ _ _ _ _ c.seek_visible.ensures (leaves-off _ _ _ _ c.requires.0 (omega arith) _ (sym c.key_is.ensures ∙ c.if-key_is.false)) (omega arith) (omega arith)

pub seek_visible-returns-then-heap-eq0 : goal.seek_visible-returns-then-heap-eq0
seek_visible-returns-then-heap-eq0 t c =
    record { sound = c.requires; inside = tt; same = sym (nothing-shown _ _ _ _ c.requires _ c.if-heap-eq0.true); on = tt; over = nothing-shown _ _ _ _ c.requires none c.if-heap-eq0.true }

pub seek_visible-version_at-version-requires : goal.seek_visible-version_at-version-requires
seek_visible-version_at-version-requires t c = live-record _ _ (root_live _ _ c.requires (omega arith))

pub seek_visible-returns-then-not-is_below : goal.seek_visible-returns-then-not-is_below
seek_visible-returns-then-not-is_below t c =
    let e = seek-end _ _ _ _ c.requires (omega arith) _ c.version_at-version.ensures _ c.from-p.ensures (sym c.if-not-is_below.true ∙ c.is_below.ensures ∙ ap (below (bound_of c.args.self.high)) c.key.ensures) in
    record { sound = c.requires; inside = tt; same = sym e; on = tt; over = e }

pub seek_visible-returns-then-self-version : goal.seek_visible-returns-then-self-version
seek_visible-returns-then-self-version t c =
    let f = fewer-unread c.args.self.s.now 0 Bound.unbounded _ c.requires _ c.pass.ensures in
    from _ _ _ _ _ _ _ _ _ _ _ c.seek_visible.ensures
    (seek-later _ _ _ _ c.requires (omega arith) _ c.version_at-version.ensures _ c.from-p.ensures (sym c.if-not-is_below.false ∙ c.is_below.ensures ∙ ap (below (bound_of c.args.self.high)) c.key.ensures) _ c.pass.ensures c.if-self-version.true)
    (omega arith) (omega arith)

pub seek_visible-returns-then-p : goal.seek_visible-returns-then-p
seek_visible-returns-then-p t c =
    record {
      sound = c.requires;
      inside = inside-it _ 0 Bound.unbounded _ c.requires (omega arith) _ c.version_at-version.ensures _ c.from-p.ensures;
      same = seek_found _ _ _ _ c.requires (omega arith) _ c.version_at-version.ensures _ c.from-p.ensures (sym c.if-not-is_below.false ∙ c.is_below.ensures ∙ ap (below (bound_of c.args.self.high)) c.key.ensures) c.if-self-version.false c.if-p.true;
      on = tt;
      over = tt;
    }

pub seek_visible-returns : goal.seek_visible-returns
seek_visible-returns t c =
    let f = fewer-unread c.args.self.s.now 0 Bound.unbounded _ c.requires _ c.pass-2.ensures in
    from _ _ _ _ _ _ _ _ _ _ _ c.leave_key.ensures
    (seek-gone _ _ _ _ c.requires (omega arith) _ c.version_at-version.ensures _ c.from-p.ensures (sym c.if-not-is_below.false ∙ c.is_below.ensures ∙ ap (below (bound_of c.args.self.high)) c.key.ensures) _ c.pass-2.ensures c.if-self-version.false c.if-p.false)
    (omega arith) (omega arith)
