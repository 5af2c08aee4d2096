use Rattle.std.specs.Prelude.{◌≡◌, ℕ, true, false, cond, [], IsTrue, refl}
use Rattle.std.proofs.Common.{ap, sym, ◌∙◌, subst}
use Rattle.cst_core.specs.Tree.{label}
use Rattle.cst_core.specs.Element.{Element, subtree}
use Rattle.syntax_editor.specs.Editor.{has_parent, edited_root}
use Rattle.syntax_editor.proofs.editor.SyntaxEditor.with_ast_node.Goals as goal

edited_tree : (n : ℕ) (e : Element) → subtree (edited_root n e) ≡ subtree e
edited_tree n e =
    elim (has_parent e) as (λ b. subtree (cond b (record { number = n; root = subtree e; path = [] }) e) ≡ subtree e) [
      | true ↦ refl
      | false ↦ refl
    ]

pub view_of-requires : goal.view_of-requires
view_of-requires g c =
    let is : subtree c.in_ok-editor.edited ≡ subtree (g.N.AstNode.syntax_node c.args.node.now) = ap subtree c.in_ok-editor.ensures.root ∙ edited_tree c.args.ids.now c.in_ok-root.root ∙ ap subtree (c.in_ok-root.ensures ∙ c.syntax-syntax.ensures) in
    subst (λ t. IsTrue (g.N.AstNode.is_kind (label t))) (sym is) (g.met.N.AstNode.has_kind c.args.node.now)
