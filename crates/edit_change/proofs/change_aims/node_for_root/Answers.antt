use Rattle.std.proofs.Common.{rules, ◌∙◌, sym}
use Rattle.std.proofs.lemmas.Bool.{false≢true}
use Rattle.edit_change.proofs.RootTargets.{no-root-in}
use Rattle.edit_change.proofs.change_aims.node_for_root.Goals as goal

pub unreachable-requires-in-ReplaceAll : goal.unreachable-requires-in-ReplaceAll
unreachable-requires-in-ReplaceAll c = false≢true (sym (no-root-in c.in-ReplaceAll.is) ∙ c.requires.root)

pub returns-clause-brought : goal.returns-clause-brought
returns-clause-brought c = search rules

pub returns-clause-node : goal.returns-clause-node
returns-clause-node c = search rules
