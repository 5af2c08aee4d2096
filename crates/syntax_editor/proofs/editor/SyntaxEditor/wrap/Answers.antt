use Rattle.std.specs.Prelude.{◌≡◌, ◌<◌}
use Rattle.std.proofs.Common.{arith}
use Rattle.syntax_editor.specs.declared.wrap_error.WrapError.TheVariants.{Memory}
use Rattle.syntax_editor.specs.Wrapping.{wrapped_tree, wrapper, WrapRefuses}
use Rattle.syntax_editor.proofs.Wrappers.{copy-there, copy-pair, one_drawn, refused-by}
use Rattle.syntax_editor.proofs.editor.SyntaxEditor.wrap.Goals as goal

pub returns-in_err-number-clause-refused : goal.returns-in_err-number-clause-refused
returns-in_err-number-clause-refused c =
    refused-by (WrapRefuses c.args.self.now.root c.args.ids.now (wrapped_tree c.args.kind c.args.before.now c.args.node.now c.args.after.now) c.args.node.now) c.in_err-number.field-0.0 (c.in_err-number.ensures.refused c.args.kind) c.from_residual.result c.from_residual.ensures.1

pub wrapper_of-requires-clause-fits : goal.wrapper_of-requires-clause-fits
wrapper_of-requires-clause-fits c = (c.in_ok-number.ensures.accepted c.args.kind).can_be_root.0

pub returns-in_err-wrapper-clause-refused : goal.returns-in_err-wrapper-clause-refused
returns-in_err-wrapper-clause-refused c =
    refused-by (WrapRefuses c.args.self.now.root c.args.ids.now (wrapped_tree c.args.kind c.args.before.now c.args.node.now c.args.after.now) c.args.node.now) Memory (c.in_ok-number.ensures.accepted c.args.kind) c.from_residual-in_err-wrapper.result c.from_residual-in_err-wrapper.ensures.1

pub replace_by_wrapper-requires-clause-native : goal.replace_by_wrapper-requires-clause-native
replace_by_wrapper-requires-clause-native c = (c.in_ok-number.ensures.accepted c.args.kind).native

pub replace_by_wrapper-requires-clause-copy : goal.replace_by_wrapper-requires-clause-copy
replace_by_wrapper-requires-clause-copy c =
    let made : c.in_ok-wrapper.wrapper ≡ wrapper c.in_ok-number.number c.args.kind c.args.before.now c.args.node.now c.args.after.now = c.in_ok-wrapper.ensures in
    rw made (copy-there c.in_ok-number.number c.args.kind c.args.before.now c.args.node.now c.args.after.now c.kind.ensures.form)

pub replace_by_wrapper-requires-clause-pair : goal.replace_by_wrapper-requires-clause-pair
replace_by_wrapper-requires-clause-pair c =
    let made : c.in_ok-wrapper.wrapper ≡ wrapper c.in_ok-number.number c.args.kind c.args.before.now c.args.node.now c.args.after.now = c.in_ok-wrapper.ensures in
    let younger : c.args.node.now.number < c.in_ok-number.number = omega (arith, (c.in_ok-number.ensures.accepted c.args.kind).younger, c.in_ok-number.ensures.number) in
    rw made (copy-pair c.in_ok-number.number c.args.kind c.args.before.now c.args.node.now c.args.after.now c.kind.ensures.form younger)

pub returns-in_err-copy-clause-refused : goal.returns-in_err-copy-clause-refused
returns-in_err-copy-clause-refused c =
    refused-by (WrapRefuses c.args.self.now.root c.args.ids.now (wrapped_tree c.args.kind c.args.before.now c.args.node.now c.args.after.now) c.args.node.now) Memory (c.in_ok-number.ensures.accepted c.args.kind) c.from_residual-in_err-copy.result c.from_residual-in_err-copy.ensures.1

pub returns-clause-accepted : goal.returns-clause-accepted
returns-clause-accepted c = c.in_ok-number.ensures.accepted c.args.kind

pub returns-clause-drawn : goal.returns-clause-drawn
returns-clause-drawn c = one_drawn c.next.result c.args.ids.now c.next.new.self c.next.ensures.spent (c.in_ok-number.ensures.accepted c.args.kind).can_be_root.1 c.next.ensures.given
