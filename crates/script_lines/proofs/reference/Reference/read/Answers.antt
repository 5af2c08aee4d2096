use Rattle.std.proofs.Common.{refl}
use Rattle.std.proofs.lemmas.Bool.{false≢true}
use Rattle.std.proofs.lemmas.Option.{MatchOption-at_some}
use Rattle.script_lines.specs.Line.{IsRef}
use Rattle.script_lines.proofs.Refusing.{bad-refuses}
use Rattle.script_lines.proofs.ReferencesRead.{not-named, no-path, has-parts}
use Rattle.script_lines.proofs.reference.Reference.read.Goals as goal

pub returns-in_default-clause-bad : goal.returns-in_default-clause-bad
returns-in_default-clause-bad c =
    bad-refuses (IsRef c.args.field.text.now) c.from.result _ c.from.ensures (not-named _ _ _ c.cut_at_slash.ensures (λ named. false≢true (c.in_default.ensures.name.1 named)))

pub returns-in_default-2-clause-bad : goal.returns-in_default-2-clause-bad
returns-in_default-2-clause-bad c =
    bad-refuses (IsRef c.args.field.text.now) c.from-in_default-2.result _ c.from-in_default-2.ensures (no-path _ _ _ c.cut_at_slash.ensures c.in_ok-slots.field-0 c.in_ok-slots.ensures c.in_default-2.not-Some)

pub returns-clause-ok : goal.returns-clause-ok
returns-clause-ok c =
    has-parts _ _ _ c.cut_at_slash.ensures c.in-Some.name.text.now c.in-Some.ensures.text (c.in-Some.ensures.name.0 refl) c.in-Some-2.slots.items (MatchOption-at_some _ _ c.in-Some-2.slots c.in-Some-2.is c.in_ok-slots.ensures)
