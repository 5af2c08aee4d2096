use Rattle.std.proofs.Common.{ap, subst}
use Rattle.syned_script.specs.Script.{CarriesOut}
use Rattle.syned_script.specs.inner.SessionState.{editing_of, state_of}
use Rattle.syned_script.proofs.LinesCarried.{gives}
use Rattle.syned_script.proofs.carried_out.finish.Goals as goal

pub returns-clause-done : goal.returns-clause-done
returns-clause-done c =
    let editing = editing_of c.in_ok-editing.field-0.editing in
    let others = c.in_ok-editing.ensures.others in
    let carries = subst (λ n. CarriesOut editing n c.in_ok-edit.edit) others.0 c.in_ok-edit.ensures.done in
    let shown = c.shown_besides-shown in
    (editing, c.in_ok-editing.ensures.editing, gives (state_of c.args.session) editing c.in_ok-edit.edit _ c.in_ok-editing.field-0.language.names c.in_ok-edit.edits shown.result carries others.1 (ap (λ l. l.names) others.2) c.in_ok-edit.ensures.edits shown.ensures.nothing shown.ensures.some shown.ensures.is)
