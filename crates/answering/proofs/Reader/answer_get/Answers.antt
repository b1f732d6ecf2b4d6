-- The read set is looked at first; then the answer decides.
use Rattle.answering.proofs.Resting.{get-full, get-fits, get_absent, span-in, get_present}
use Rattle.answering.proofs.Reader.answer_get.Goals as goal

pub returns-then-not-read_fits : goal.returns-then-not-read_fits
returns-then-not-read_fits c =
    get-full c.args.self.shape c.args.state.now c.args.self.place c.args.hash c.args.out.now c.args.answer c.read_fits.result c.read_fits.ensures c.if-not-read_fits.true

pub note_read-requires : goal.note_read-requires
note_read-requires c =
    (c.requires.0, c.requires.1, get-fits c.args.self.shape c.args.state.now c.args.self.place c.args.hash c.args.out.now c.args.answer c.read_fits.result c.read_fits.ensures c.if-not-read_fits.false)

pub hand_value-requires : goal.hand_value-requires
hand_value-requires c = (
  c.requires.0,
  c.requires.1,
  get-fits c.args.self.shape c.args.state.now c.args.self.place c.args.hash c.args.out.now c.args.answer c.read_fits.result c.read_fits.ensures c.if-not-read_fits.false,
  span-in c.args.self.shape c.args.state.now c.args.self.place c.args.hash c.args.out.now c.args.answer c.read_fits.result c.read_fits.ensures c.in-Some.p c.in-Some.is c.requires.2,
)

pub returns-in-None : goal.returns-in-None
returns-in-None c =
    get_absent c.args.self.shape c.args.state.now c.args.self.place c.args.hash c.args.out.now c.args.answer c.read_fits.result c.read_fits.ensures c.if-not-read_fits.false c.in-None.is c.note_read.new.state c.note_read.ensures

pub returns-in-Some : goal.returns-in-Some
returns-in-Some c =
    get_present c.args.self.shape c.args.state.now c.args.self.place c.args.hash c.args.out.now c.args.answer c.read_fits.result c.read_fits.ensures c.in-Some.p c.in-Some.is _ c.hand_value.new.state c.hand_value.new.out c.hand_value.ensures
