-- Four texts, one behind the other.
use Rattle.script.proofs.Showing.{three-fields}
use Rattle.script.proofs.replies.with_fields.Goals as goal

pub returns : goal.returns
returns g c = three-fields _ _ c.text.ensures c.show.ensures c.show-2.ensures c.text-2.ensures
