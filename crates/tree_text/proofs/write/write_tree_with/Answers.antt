use Rattle.std.proofs.Common.{◌≡◌, ◌++◌, None, option_map, refl, sym, ap, ◌∙◌, subst, string_bytes}
use Rattle.cst_core.specs.Green.{branch_tree}
use Rattle.tree_text.specs.Grammar.{IsExpression, is_gap_blank, is_gap_space}
use Rattle.tree_text.specs.KindNames.{name_in}
use Rattle.tree_text.specs.TreeText.{expression_of, unnamed_in}
use Rattle.tree_text.proofs.WrittenTrees.{is-written}
use Rattle.tree_text.proofs.write.write_tree_with.Goals as goal

pub returns-clause-written : goal.returns-clause-written
returns-clause-written c =
    let t = branch_tree c.args.tree.now in
    let none : unnamed_in c.args.names.now t ≡ None = sym c.first_unnamed.ensures ∙ ap (option_map (λ k. k.0)) c.in_default.is in
    let bytes : expression_of c.args.names.now t ≡ string_bytes c.push_node.new.out = sym (c.in_ok-push_node.ensures ∙ ap (λ l. l ++ expression_of c.args.names.now t) c.new-out.ensures.bytes) in
    subst (IsExpression (name_in c.args.names.now) is_gap_blank t) bytes (is-written c.args.names.now is_gap_blank refl t refl none)

pub returns-clause-in_line : goal.returns-clause-in_line
returns-clause-in_line c =
    let t = branch_tree c.args.tree.now in
    let none : unnamed_in c.args.names.now t ≡ None = sym c.first_unnamed.ensures ∙ ap (option_map (λ k. k.0)) c.in_default.is in
    let bytes : expression_of c.args.names.now t ≡ string_bytes c.push_node.new.out = sym (c.in_ok-push_node.ensures ∙ ap (λ l. l ++ expression_of c.args.names.now t) c.new-out.ensures.bytes) in
    subst (IsExpression (name_in c.args.names.now) is_gap_space t) bytes (is-written c.args.names.now is_gap_space refl t refl none)
