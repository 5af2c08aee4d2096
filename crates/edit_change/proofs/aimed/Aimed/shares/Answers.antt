use Rattle.std.proofs.Common.{sym, ◌∙◌}
use Rattle.edit_change.proofs.Shared.{shares-none, shares-there, shares-back}
use Rattle.edit_change.proofs.aimed.Aimed.shares.Goals as goal

pub returns-then-replaces : goal.returns-then-replaces
returns-then-replaces c =
    c.is_over.ensures ∙ shares-there c.args.self.now.path.now c.args.self.now.form c.args.other.now.path.now c.args.other.now.form (sym c.replaces.ensures ∙ c.if-replaces.true)

pub returns-then-is_over : goal.returns-then-is_over
returns-then-is_over c =
    c.replaces-then-is_over.ensures ∙ shares-back c.args.self.now.path.now c.args.self.now.form c.args.other.now.path.now c.args.other.now.form (sym c.replaces.ensures ∙ c.if-replaces.false) (sym c.is_over-2.ensures ∙ c.if-is_over.true)

pub returns-else-is_over : goal.returns-else-is_over
returns-else-is_over c =
    c.if-is_over.false ∙ shares-none c.args.self.now.path.now c.args.self.now.form c.args.other.now.path.now c.args.other.now.form (sym c.is_over-2.ensures ∙ c.if-is_over.false)
