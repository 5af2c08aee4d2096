use Rattle.std.proofs.Common.{◌∙◌, rules}
use Rattle.edit_change.proofs.Slots.{first_child_is, children_of}
use Rattle.edit_change.proofs.change_text.write_insert.Goals as goal

pub returns-in-Some-first_of : goal.returns-in-Some-first_of
returns-in-Some-first_of g c =
    let n = c.in-Some-first_of.node.now in
    let first = first_child_is c.args.position.now n (search rules) in
    let below = c.children.ensures ∙ children_of c.as_green.result.now _ c.as_green.ensures.tree in
    rw (first, ← below) c.write_opened-in-Some-first_of.ensures
