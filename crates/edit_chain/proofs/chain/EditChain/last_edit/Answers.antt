use Rattle.std.proofs.Common.{ap, sym, ◌∙◌, option_map}
use Rattle.std.specs.Prelude.{slice_get, length, ◌-◌}
use Rattle.std.specs.Option.{option_copied}
use Rattle.cst_core.specs.Path.{last_item}
use Rattle.edit_chain.specs.Chain.{Chain}
use Rattle.edit_chain.specs.declared.step.Step.{Step}
use Rattle.edit_chain.proofs.Steps.{last-of}
use Rattle.edit_chain.proofs.chain.EditChain.last_edit.Goals as goal

pub returns-in-Some : goal.returns-in-Some
returns-in-Some c =
    let is = last-of c.args.self.now.steps c.deref.result.now c.in-Some.step.now (c.deref.ensures.value ∙ ap (λ (x : Chain). x.steps) c.self.view_is) (sym c.last.ensures.value ∙ ap option_copied c.in-Some.is) in
    sym (ap (option_map (λ (s : Step). s.edit)) is)
