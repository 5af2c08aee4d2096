use Rattle.std.proofs.Common.{◌+◌, sym, ◌∙◌, ap, subst, refl}
use Rattle.script_lines.specs.Line.{Each, IsRef, words}
use Rattle.script_lines.specs.LineValue.{texts_of}
use Rattle.script_lines.specs.inner.Taken.{AreRoundBar, IsFirstBar}
use Rattle.script_lines.proofs.Refusing.{bad-refuses, err-also}
use Rattle.script_lines.proofs.RoundBar.{first-bar-splits, no-bar, rest-of-fields}
use Rattle.script_lines.proofs.field.Fields.references_round_bar.Goals as goal

pub returns-in_default-clause-bad : goal.returns-in_default-clause-bad
returns-in_default-clause-bad c =
    let all = ap texts_of c.deref.ensures.value ∙ c.in_ok-fields.ensures in
    bad-refuses (AreRoundBar (words c.args.self.now.rest.now)) c.from.result _ c.from.ensures (λ refs round. no-bar (texts_of c.deref.result.now) (c.in_default.ensures.none refl) refs (subst (λ l. AreRoundBar l refs) (sym all) round))

pub returns-in_err-before-clause-bad : goal.returns-in_err-before-clause-bad
returns-in_err-before-clause-bad c =
    let fields = c.deref-2.result.now in
    let all = ap texts_of c.deref-2.ensures.value ∙ c.in_ok-fields.ensures in
    let first : IsFirstBar fields c.in-Some.bar = subst (λ fs. IsFirstBar fs c.in-Some.bar) (c.deref.ensures.value ∙ sym c.deref-2.ensures.value) c.in-Some.ensures.first in
    err-also _ (AreRoundBar (words c.args.self.now.rest.now)) c.from_residual-in_err-before.result c.in_err-before.field-0.0 c.from_residual-in_err-before.ensures.1 (λ refs round.
    let round' = subst (λ l. AreRoundBar l refs) (sym all) round in
    (refs.0, subst (λ fs. Each IsRef fs refs.0) (sym (first-bar-splits fields c.in-Some.bar first refs round').0) round'.are_before)) c.in_err-before.ensures.bad

pub returns-in_err-after-clause-bad : goal.returns-in_err-after-clause-bad
returns-in_err-after-clause-bad c =
    let fields = c.deref-3.result.now in
    let all = ap texts_of c.deref-3.ensures.value ∙ c.in_ok-fields.ensures in
    let first : IsFirstBar fields c.in-Some.bar = subst (λ fs. IsFirstBar fs c.in-Some.bar) (c.deref.ensures.value ∙ sym c.deref-3.ensures.value) c.in-Some.ensures.first in
    err-also _ (AreRoundBar (words c.args.self.now.rest.now)) c.from_residual-in_err-after.result c.in_err-after.field-0.0 c.from_residual-in_err-after.ensures.1 (λ refs round.
    let round' = subst (λ l. AreRoundBar l refs) (sym all) round in
    (refs.1, subst (λ fs. Each IsRef fs refs.1) (sym (rest-of-fields fields (c.in-Some.bar + 1) ∙ (first-bar-splits fields c.in-Some.bar first refs round').1)) round'.are_after)) c.in_err-after.ensures.bad
