-- The out buffer is looked at before anything is written.
use Rattle.answering.proofs.Resting.{value-short, value_out_lem}
use Rattle.answering.proofs.Reader.hand_value.Goals as goal

pub returns-then-out-length : goal.returns-then-out-length
returns-then-out-length c =
    value-short c.args.self.shape c.args.state.now c.args.self.place c.args.hash c.args.out.now c.requires.2 c.args.p c.if-out-length.true

pub returns : goal.returns
returns c =
    value_out_lem c.args.self.shape c.args.state.now c.args.self.place c.args.hash c.args.out.now c.requires.2 c.args.p c.if-out-length.false c.note_read.new.state c.copy_out.new.out c.note_read.ensures c.copy_out.ensures
