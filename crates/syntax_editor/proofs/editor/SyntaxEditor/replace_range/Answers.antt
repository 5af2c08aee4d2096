use Rattle.std.proofs.Common.{rules, sym, ◌∙◌, subst}
use Rattle.syntax_editor.proofs.Fitting.{replaced_element, replaced_range}
use Rattle.edit_plan.specs.Fits.{Fits}
use Rattle.edit_change.specs.declared.change.Change.TheVariants.{ReplaceAll, ReplaceWithMany}
use Rattle.syntax_editor.proofs.editor.SyntaxEditor.replace_range.Goals as goal

pub record-requires-clause-fits : goal.record-requires-clause-fits
record-requires-clause-fits c = subst (λ es. Fits c.args.self.now.root (ReplaceWithMany c.args.first es)) (c.deref.ensures.value ∙ sym c.into.ensures) (replaced_element c.args.self.now.root c.args.first c.args.last c.deref.result.now c.in_ok-test_replacing_all.ensures.taken)

pub returns-then-eq-clause-recorded : goal.returns-then-eq-clause-recorded
returns-then-eq-clause-recorded c = search rules

pub record-requires-2-clause-fits : goal.record-requires-2-clause-fits
record-requires-2-clause-fits c = subst (λ es. Fits c.args.self.now.root (ReplaceAll c.args.first c.args.last es)) (c.deref.ensures.value ∙ sym c.into-2.ensures) (replaced_range c.args.self.now.root c.args.first c.args.last c.deref.result.now c.in_ok-test_replacing_all.ensures.taken (sym c.eq.ensures ∙ c.if-eq.false))
