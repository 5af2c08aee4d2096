use Rattle.std.proofs.Common.{rules}
use Rattle.edit_steps.proofs.order.document_order.turn_of.Goals as goal

pub returns : goal.returns
returns c = search rules
