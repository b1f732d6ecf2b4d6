-- Three texts, one behind the other.
use Rattle.script.proofs.Showing.{two_fields}
use Rattle.script.proofs.replies.with_field.Goals as goal

pub returns : goal.returns
returns g c = two_fields _ c.text.ensures c.show.ensures c.text-2.ensures
