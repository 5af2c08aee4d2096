use Rattle.std.specs.Prelude.{◌<◌, refl}
use Rattle.std.proofs.Common.{arith, ap, sym, ◌∙◌}
use Rattle.std.proofs.lemmas.Bool.{true≢false}
use Rattle.cst_core.specs.Tree.{text}
use Rattle.cst_core.specs.TreeIds.{IsSpent}
use Rattle.cst_core.specs.declared.element.SyntaxElement.TheVariants.{Node}
use Rattle.edit_plan.specs.Fits.{is_native}
use Rattle.syntax_editor.specs.Editor.{Editor}
use Rattle.syntax_editor.specs.Wrapping.{wrapped_tree}
use Rattle.syntax_editor.proofs.Wrappers.{short_enough}
use Rattle.syntax_editor.proofs.editor.SyntaxEditor.number_to_wrap.Goals as goal

pub returns-then-is_wrapper_too_long-clause-refused : goal.returns-then-is_wrapper_too_long-clause-refused
returns-then-is_wrapper_too_long-clause-refused c kind = (c.is_wrapper_too_long.ensures kind).0 c.if-is_wrapper_too_long.true

pub returns-in_default-clause-refused : goal.returns-in_default-clause-refused
returns-in_default-clause-refused c kind =
    let tree = wrapped_tree kind c.args.before.now c.args.node.now c.args.after.now in
    let short = short_enough c.is_wrapper_too_long.result (text tree) (c.is_wrapper_too_long.ensures kind) c.if-is_wrapper_too_long.false in
    (c.in_default.ensures.spent.0 refl, short)

pub returns-then-number-tree-clause-refused : goal.returns-then-number-tree-clause-refused
returns-then-number-tree-clause-refused c kind =
    let tree = wrapped_tree kind c.args.before.now c.args.node.now c.args.after.now in
    let short = short_enough c.is_wrapper_too_long.result (text tree) (c.is_wrapper_too_long.ensures kind) c.if-is_wrapper_too_long.false in
    let left = λ (is : IsSpent c.args.ids.now). true≢false (c.in-Some.ensures.spent.1 is) in
    ((short, left), omega (arith, c.if-number-tree.true, c.in-Some.ensures.number, c.tree.ensures))

pub returns-then-not-is_native_node-clause-refused : goal.returns-then-not-is_native_node-clause-refused
returns-then-not-is_native_node-clause-refused c kind =
    let tree = wrapped_tree kind c.args.before.now c.args.node.now c.args.after.now in
    let short = short_enough c.is_wrapper_too_long.result (text tree) (c.is_wrapper_too_long.ensures kind) c.if-is_wrapper_too_long.false in
    let left = λ (is : IsSpent c.args.ids.now). true≢false (c.in-Some.ensures.spent.1 is) in
    let younger : c.args.node.now.number < c.args.ids.now = omega (arith, c.if-number-tree.false, c.in-Some.ensures.number, c.tree.ensures) in
    let root = ap (λ (e : Editor). is_native e.root (Node c.args.node.now)) c.self.view_is in
    ((short, left), younger, sym root ∙ sym c.is_native_node.ensures ∙ c.if-not-is_native_node.true)

pub returns-clause-accepted : goal.returns-clause-accepted
returns-clause-accepted c kind =
    let tree = wrapped_tree kind c.args.before.now c.args.node.now c.args.after.now in
    let short = short_enough c.is_wrapper_too_long.result (text tree) (c.is_wrapper_too_long.ensures kind) c.if-is_wrapper_too_long.false in
    let left = λ (is : IsSpent c.args.ids.now). true≢false (c.in-Some.ensures.spent.1 is) in
    let younger : c.args.node.now.number < c.args.ids.now = omega (arith, c.if-number-tree.false, c.in-Some.ensures.number, c.tree.ensures) in
    let root = ap (λ (e : Editor). is_native e.root (Node c.args.node.now)) c.self.view_is in
    record { can_be_root = (short, left); younger = younger; native = sym root ∙ sym c.is_native_node.ensures ∙ c.if-not-is_native_node.false }
