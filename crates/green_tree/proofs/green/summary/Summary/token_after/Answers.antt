use Rattle.std.proofs.Common.{◌∙◌}
use Rattle.green_tree.proofs.Summaries.{exchanged-token}
use Rattle.green_tree.proofs.green.summary.Summary.token_after.Goals as goal

pub returns-in-Some : goal.returns-in-Some
returns-in-Some c = c.in-Some.ensures.token ∙ exchanged-token c.args.children.now c.args.self c.args.removed c.args.added c.requires c.in-Some.ensures.kept
