use Rattle.std.proofs.Common.{◌≡◌, ap, ◌∙◌, subst}
use Rattle.cst_core.specs.Element.{subtree}
use Rattle.whitespace.specs.Level.{level}
use Rattle.whitespace.specs.Indentation.{dedented, reset}
use Rattle.whitespace.specs.IndentCalls.{fresh_root, CanBeRoot}
use Rattle.syntax_editor.proofs.ast_node_edit.AstNodeEdit.reset_indent.Goals as goal

pub returns-clause-ok : goal.returns-clause-ok
returns-clause-ok g c =
    let node = g.Self.AstNode.syntax_node c.args.self.now in
    let own : c.in_ok-own.own.0 ≡ level node = c.in_ok-own.ensures.level.1 ∙ ap level c.syntax.ensures in
    let tree : dedented c.in_ok-own.own.0 (subtree c.syntax-2.result.now) ≡ reset node = ap (λ e. dedented c.in_ok-own.own.0 (subtree e)) c.syntax-2.ensures ∙ ap (λ l. dedented l (subtree node)) own in
    c.view_of.ensures ∙ c.in_ok-dedent.ensures.ok ∙ ap (fresh_root c.args.ids.now) tree

pub returns-clause-fits : goal.returns-clause-fits
returns-clause-fits g c =
    let node = g.Self.AstNode.syntax_node c.args.self.now in
    let own : c.in_ok-own.own.0 ≡ level node = c.in_ok-own.ensures.level.1 ∙ ap level c.syntax.ensures in
    let tree : dedented c.in_ok-own.own.0 (subtree c.syntax-2.result.now) ≡ reset node = ap (λ e. dedented c.in_ok-own.own.0 (subtree e)) c.syntax-2.ensures ∙ ap (λ l. dedented l (subtree node)) own in
    subst (λ t. CanBeRoot t c.args.ids.now) tree c.in_ok-dedent.ensures.accepted
