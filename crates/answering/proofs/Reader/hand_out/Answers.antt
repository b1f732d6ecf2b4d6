-- The read set is looked at first, then the out buffers; then the pair is written.
use Rattle.answering.proofs.Resting.{scan-full, scan-fits, short-out, pair-out}
use Rattle.lsm.specs.Pairs.{pair_at}
use Rattle.paper.proofs.HashLaws.{hash-below}
use mathlib.Core.Path.{◌∙◌}
use native.Mathlib.Omega.{arith}
use Rattle.answering.proofs.Reader.hand_out.Goals as goal

pub returns-then-not-read_fits : goal.returns-then-not-read_fits
returns-then-not-read_fits c = scan-full c.args.self.shape c.args.state.now c.args.self.place c.args.keys.now c.args.values.now c.args.p _ (c.from-handed.ensures ∙ c.hash32.ensures) _ c.read_fits.ensures c.if-not-read_fits.true

pub returns-then-keys-key : goal.returns-then-keys-key
returns-then-keys-key c = short-out c.args.self.shape c.args.state.now c.args.self.place c.args.keys.now c.args.values.now c.args.p _ (c.from-handed.ensures ∙ c.hash32.ensures) _ c.read_fits.ensures c.if-not-read_fits.false c.then-keys-key.either

pub note_read-requires : goal.note_read-requires
note_read-requires c =
    (c.requires.0, omega (arith, c.from-handed.ensures, c.hash32.ensures, hash-below (pair_at c.args.state.now c.args.p).key), scan-fits c.args.self.shape c.args.state.now c.args.self.place c.args.keys.now c.args.values.now c.args.p _ (c.from-handed.ensures ∙ c.hash32.ensures) _ c.read_fits.ensures c.if-not-read_fits.false)

pub returns : goal.returns
returns c =
    pair-out c.args.self.shape c.args.state.now c.args.self.place c.args.keys.now c.args.values.now c.args.p _ (c.from-handed.ensures ∙ c.hash32.ensures) _ c.read_fits.ensures c.if-not-read_fits.false c.if-keys-key.false c.if-values-value.false c.note_read.new.state c.copy_out.new.out c.copy_out-2.new.out c.note_read.ensures c.copy_out.ensures c.copy_out-2.ensures
