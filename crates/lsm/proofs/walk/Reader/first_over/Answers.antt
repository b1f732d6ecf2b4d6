use Rattle.lsm.proofs.Scanning.{says-walk, over-end, over-stop, over-own, over-on, passed-pair, past-other}
use mathlib.Core.Path.{sym, ◌∙◌}
use Rattle.lsm.proofs.walk.Reader.first_over.Goals as goal

pub returns-then-not-chooses_own : goal.returns-then-not-chooses_own
returns-then-not-chooses_own c =
    let i = c.loop-at.invariant in
    says-walk c.args.self.s.now _ _ c.loop-at.heap c.loop-at.shown _ i.standing
    (over-stop c.args.self.s.now _ _ c.loop-at.at c.args.end c.loop-at.shown c.loop-at.heap i.standing i.own c.pair_at-p.result c.pair_at-p.ensures (sym c.chooses_own.ensures ∙ c.if-not-chooses_own.true) ∙ i.same)

pub returns-then-p : goal.returns-then-p
returns-then-p c =
    let i = c.loop-at.invariant in
    record {
      is = over-own c.args.self.s.now _ _ c.loop-at.at c.args.end c.loop-at.shown c.loop-at.heap i.standing i.own c.pair_at-p.result c.pair_at-p.ensures (sym c.chooses_own.ensures ∙ c.if-not-chooses_own.false) c.if-p.true ∙ i.same;
      inside = c.pair_at-p.ensures.inside;
    }

pub loop-at-preserved-then-same_key : goal.loop-at-preserved-then-same_key
loop-at-preserved-then-same_key c =
    let i = c.loop-at.invariant in
    let x = passed-pair c.args.self.s.now _ _ c.loop-at.heap c.next_pair-shown.new.heap _ c.loop-at.shown c.next_pair-shown.result i.standing (sym c.same_key.ensures ∙ c.if-same_key.true) c.next_pair-shown.ensures in
    record {
      own = c.pair_at-p.ensures.rest;
      standing = x.0;
      same = over-on c.args.self.s.now _ _ c.loop-at.at c.args.end c.loop-at.shown c.loop-at.heap i.standing i.own c.pair_at-p.result c.pair_at-p.ensures (sym c.chooses_own.ensures ∙ c.if-not-chooses_own.false) _ _ x.1 c.if-p.false ∙ i.same;
    }

pub loop-at-preserved : goal.loop-at-preserved
loop-at-preserved c =
    let i = c.loop-at.invariant in
    let x = past-other c.args.self.s.now c.args.self.read _ c.loop-at.heap _ c.loop-at.shown (sym c.same_key.ensures ∙ c.if-same_key.false) in
    record {
      own = c.pair_at-p.ensures.rest;
      standing = i.standing;
      same = over-on c.args.self.s.now _ _ c.loop-at.at c.args.end c.loop-at.shown c.loop-at.heap i.standing i.own c.pair_at-p.result c.pair_at-p.ensures (sym c.chooses_own.ensures ∙ c.if-not-chooses_own.false) _ _ x c.if-p.false ∙ i.same;
    }

pub returns : goal.returns
returns c =
    let i = c.loop-at.invariant in
    says-walk c.args.self.s.now _ _ c.loop-at.heap c.loop-at.shown _ i.standing
    (over-end c.args.self.s.now _ _ c.loop-at.at c.args.end c.loop-at.shown c.loop-at.heap i.standing c.loop-at-test.false ∙ i.same)
