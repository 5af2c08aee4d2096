use Rattle.std.proofs.Common.{◌∙◌, sym}
use Rattle.change_list.proofs.Indexed.{said-pushed}
use Rattle.change_list.proofs.Noted.{no-replace}
use Rattle.change_list.proofs.change_list.note.Goals as goal

pub returns-in_default-clause-noted : goal.returns-in_default-clause-noted
returns-in_default-clause-noted c = λ cs long agrees. record {
  says = λ p. agrees.says p ∙ sym (said-pushed cs c.args.change.now (no-replace c.args.change.now c.in_default.not-Replace) p);
  tree = agrees.tree;
}
