use Rattle.std.proofs.Common.{length, sym, ◌∙◌}
use Rattle.std.proofs.lemmas.Bool.{eqb-false}
use Rattle.edit_change.proofs.AimsHere.{some_slot, parent_over}
use Rattle.edit_change.proofs.aimed.Aimed.has_parent.Goals as goal

pub returns-then-not-is_empty : goal.returns-then-not-is_empty
returns-then-not-is_empty c =
    let q = c.args.self.now.path.now in
    let long = some_slot q (eqb-false (length q) 0 (sym c.is_empty-in-Over.ensures ∙ c.if-not-is_empty.true)) in
    rw c.in-Over.is (sym (parent_over c.args.self.now.change q c.in-Over.count long))
