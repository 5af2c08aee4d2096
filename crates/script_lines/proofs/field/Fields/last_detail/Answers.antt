use Rattle.std.proofs.Common.{[], ◌∙◌, ap, ◌∷◌}
use Rattle.script_lines.specs.inner.Taken.{IsDetail}
use Rattle.script_lines.proofs.NamesRead.{name-read, no-name}
use Rattle.script_lines.proofs.field.Fields.last_detail.Goals as goal

pub returns-clause-ok : goal.returns-clause-ok
returns-clause-ok c =
    let word = c.in_ok-field.field.text.now in
    name-read IsDetail _ [] word (c.in_ok-field.ensures.ok ∙ ap (λ l. word ∷ l) c.in_ok-end.ensures.ok) c.from_name.result c.wanted.result c.ok_or.result c.from_name.ensures.some c.ok_or.ensures.value

pub returns-clause-bad : goal.returns-clause-bad
returns-clause-bad c =
    let word = c.in_ok-field.field.text.now in
    no-name IsDetail _ [] word (c.in_ok-field.ensures.ok ∙ ap (λ l. word ∷ l) c.in_ok-end.ensures.ok) _ (λ d last. ([], last)) c.from_name.result c.wanted.result c.ok_or.result c.from_name.ensures.none c.ok_or.ensures.value
