use Rattle.script_lines.specs.Line.{IsLineTree}
use Rattle.script_lines.specs.LineValue.{language_of}
use Rattle.script_lines.proofs.LinesOfTrees.{tree-is}
use Rattle.script_lines.proofs.Refusing.{bad-tree, err-tree}
use Rattle.script_lines.proofs.TreeCommand.{no-name, same-tree}
use Rattle.script_lines.proofs.line.tree_line.Goals as goal

pub returns-in_err-name : goal.returns-in_err-name
returns-in_err-name c = bad-tree (language_of c.args.language.now) c.args.fields.now.rest.now c.from_residual.result _ c.from_residual.ensures.1 (no-name (language_of c.args.language.now) c.args.fields.now.rest.now c.in_err-name.ensures.bad)

pub returns-in_err-root : goal.returns-in_err-root
returns-in_err-root c =
    err-tree (language_of c.args.language.now) (IsLineTree (language_of c.args.language.now) c.take_rest.result.text.now) c.args.fields.now.rest.now c.from_residual-in_err-root.result _ c.from_residual-in_err-root.ensures.1 c.in_err-root.ensures.bad (same-tree (language_of c.args.language.now) _ _ _ c.take_rest.result.text.now c.in_ok-name.ensures.text c.take_rest.ensures)

pub returns : goal.returns
returns c =
    λ line text spread word. tree-is (language_of c.args.language.now) line text c.args.fields.now.rest.now c.in_ok-name.name.text.now c.name.new.self.rest.now c.take_rest.result.text.now _ (record { spread = spread; word = word; second = c.in_ok-name.ensures.text; trimmed = c.take_rest.ensures }) c.in_ok-name.ensures.ok.says.1 c.in_ok-root.ensures.ok
