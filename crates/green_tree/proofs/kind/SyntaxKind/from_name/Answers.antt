use Rattle.std.proofs.Common.{sym, ap, ◌∙◌}
use Rattle.green_tree.proofs.KindNames.{kind_at, kind_name-is}
use Rattle.green_tree.proofs.kind.SyntaxKind.from_name.Goals as goal

pub returns-in_err-number : goal.returns-in_err-number
returns-in_err-number c =
    kind_name-is _ c.kind_names.ensures _ _ c.index_of.ensures _ (c.from_residual.ensures ∙ sym (ap kind_at c.in_err-number.was))

pub returns : goal.returns
returns c =
    kind_name-is _ c.kind_names.ensures _ _ c.index_of.ensures _ (sym (ap kind_at c.in_ok-number.was))
