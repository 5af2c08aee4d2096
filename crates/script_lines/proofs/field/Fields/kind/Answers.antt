use Rattle.script_lines.specs.inner.Taken.{IsKindName}
use Rattle.script_lines.proofs.NamesRead.{name-read, no-name}
use Rattle.script_lines.proofs.field.Fields.kind.Goals as goal

pub returns-clause-ok : goal.returns-clause-ok
returns-clause-ok c =
    name-read (IsKindName c.args.names.now) _ _ c.in_ok-field.field.text.now c.in_ok-field.ensures.ok c.kind.result c.wanted.result c.ok_or.result c.kind.ensures.found c.ok_or.ensures.value

pub returns-clause-bad : goal.returns-clause-bad
returns-clause-bad c =
    no-name (IsKindName c.args.names.now) _ _ c.in_ok-field.field.text.now c.in_ok-field.ensures.ok _ (λ kind begun. begun) c.kind.result c.wanted.result c.ok_or.result (λ none kind says. c.kind.ensures.none none kind.0 says) c.ok_or.ensures.value
