use Rattle.std.specs.Prelude.{IfErr}
use Rattle.std.proofs.Common.{subst}
use Rattle.syntax_editor.specs.RecordCall.{DeletingAll}
use Rattle.syntax_editor.specs.Editor.{RecordRefuses}
use Rattle.list_removal.proofs.Refused.{refuses}
use Rattle.list_removal.proofs.remove.remove_separated.Goals as goal

pub returns-clause-refused : goal.returns-clause-refused
returns-clause-refused c =
    refuses c.args.separator c.args.element.now c.args.editor.now c.delete_all.result
    (subst (λ run. IfErr c.delete_all.result (RecordRefuses (DeletingAll run.0 run.1) c.args.editor.now)) c.in_ok-first.ensures c.delete_all.ensures.refused)
