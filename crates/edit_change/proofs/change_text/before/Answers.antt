use Rattle.std.proofs.Common.{rules}
use Rattle.cst_core.specs.GreenElement.{element_tree}
use Rattle.edit_change.proofs.Slots.{map_before}
use Rattle.edit_change.proofs.change_text.before.Goals as goal

pub returns : goal.returns
returns c = map_before element_tree c.args.elements.now c.args.slot c.min.result (search rules)
