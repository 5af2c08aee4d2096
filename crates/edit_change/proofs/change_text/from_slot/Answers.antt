use Rattle.std.proofs.Common.{rules}
use Rattle.cst_core.specs.GreenElement.{element_tree}
use Rattle.edit_change.proofs.Slots.{map_from}
use Rattle.edit_change.proofs.change_text.from_slot.Goals as goal

pub returns : goal.returns
returns c = map_from element_tree c.args.elements.now c.args.slot c.min.result (search rules)
