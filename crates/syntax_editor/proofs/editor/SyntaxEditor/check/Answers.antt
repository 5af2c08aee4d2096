use Rattle.std.proofs.Common.{◌∙◌, [], unwrap_or, ap}
use Rattle.edit_change.proofs.Lists.{on-ok-weaker}
use Rattle.syntax_editor.specs.Editor.{editor_of}
use Rattle.syntax_editor.proofs.Checked.{checked-plan, checked-refused}
use Rattle.syntax_editor.proofs.editor.SyntaxEditor.check.Goals as goal

pub returns-clause-planned : goal.returns-clause-planned
returns-clause-planned c =
    let own = c.self.inside in
    let rs = own.registrations.items in
    let is = ap (λ cs. editor_of own.root cs rs own.factory) c.as_slice.ensures ∙ c.self.view_is in
    let keeps = c.mappings_or-mapping.ensures ∙ ap (unwrap_or own.factory) c.new-nothing.ensures.empty in
    on-ok-weaker c.check.result (checked-plan own.root c.as_slice.result.now rs own.factory c.mappings_or-mapping.result.now c.args.self.now is keeps) c.check.ensures.planned

pub returns-clause-refused : goal.returns-clause-refused
returns-clause-refused c =
    let own = c.self.inside in
    let rs = own.registrations.items in
    let is = ap (λ cs. editor_of own.root cs rs own.factory) c.as_slice.ensures ∙ c.self.view_is in
    let keeps = c.mappings_or-mapping.ensures ∙ ap (unwrap_or own.factory) c.new-nothing.ensures.empty in
    checked-refused own.root c.as_slice.result.now rs own.factory c.mappings_or-mapping.result.now c.args.self.now is keeps c.check.result c.check.ensures.refused
