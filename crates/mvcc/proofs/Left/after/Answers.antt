-- Each refusal breaks one of the four rules, and an entry that passes all tests keeps them.
use Rattle.std.proofs.Common.{◌≡◌, ℕ, ◌/◌, true, length, ltb, ap₂, sym, ◌∙◌, rules, arith, MatchOption, Some}
use Rattle.sets.proofs.Hashes.{length-hashes}
use Rattle.mvcc.specs.Histories.{commit_of}
use Rattle.mvcc.specs.declared.Left.{Left}
use Rattle.mvcc.proofs.Checking.{follow-test, out-of-turn, too_late, no-set, too_many, too_large, in-turn}
use Rattle.mvcc.proofs.Left.after.Goals as goal
use Rattle.mvcc.proofs.Left.after.Goals.{then-not-follows-via-then-not-follows, then-not-follows-via-else-not-follows+then-clock-entry, then-not-follows-via-else-not-follows+else-clock-entry+then-not-rising}

pub returns-then-not-follows : goal.returns-then-not-follows
returns-then-not-follows c =
    let l = c.args.self in
    let e = commit_of c.args.entry in
    let f : MatchOption l.last (c.is_none_or-follows.result ≡ true) (λ n. c.is_none_or-follows.result ≡ ltb n e.number) = search rules in
    elim c.then-not-follows.branch [
      | then-not-follows-via-then-not-follows w ↦ out-of-turn l c.args.clock e (sym (follow-test l c.args.clock e l.last _ f) ∙ w.if-not-follows.true)
      | then-not-follows-via-else-not-follows+then-clock-entry w ↦ too_late l c.args.clock e w.if-clock-entry.true
      | then-not-follows-via-else-not-follows+else-clock-entry+then-not-rising w ↦ no-set l c.args.clock e (sym w.if-not-rising.ensures.set)
    ]

pub returns-in_err-entries : goal.returns-in_err-entries
returns-in_err-entries c = c.from_residual.ensures ∙ too_many c.args.self c.args.clock (commit_of c.args.entry) c.in_err-entries.ensures

pub returns-in_err-hashes : goal.returns-in_err-hashes
returns-in_err-hashes c =
    let b = c.args.entry.hashes.now in
    let n = length-hashes (length b / 4) b in
    c.from_residual-in_err-hashes.ensures ∙ too_large c.args.self c.args.clock (commit_of c.args.entry) (λ k. c.in_err-hashes.ensures (omega arith))

pub returns : goal.returns
returns c =
    let l = c.args.self in
    let e = commit_of c.args.entry in
    let b = c.args.entry.hashes.now in
    let n = length-hashes (length b / 4) b in
    let f : MatchOption l.last (c.is_none_or-follows.result ≡ true) (λ n. c.is_none_or-follows.result ≡ ltb n e.number) = search rules in
    let entries = c.in_ok-entries.ensures in
    let hashes = c.in_ok-hashes.ensures in
    ap₂ (λ (m k : ℕ). let x : Left = record { last = Some e.number; entries = m; hashes = k } in Some x) (omega arith) (omega arith)
    ∙ in-turn l c.args.clock e (sym (follow-test l c.args.clock e l.last _ f) ∙ c.if-not-follows.false) c.if-clock-entry.false (sym c.if-not-rising.ensures.set) (omega arith) (omega arith)
