use Rattle.std.proofs.Common.{rules}
use Rattle.edit_steps.proofs.order.document_order.numbers_back.Goals as goal

pub returns : goal.returns
returns c = search rules
