use Rattle.std.proofs.Common.{◌≡◌, ◌==◌, false, sym, ◌∙◌, ap}
use Rattle.std.proofs.lemmas.Bool.{ne_eqb}
use Rattle.std.specs.Prelude.{is_none}
use Rattle.std.specs.List.{list_any}
use Rattle.cst_core.specs.SyntaxElement.{element_of}
use Rattle.change_list.specs.Recording.{is_deleted}
use Rattle.change_list.specs.inner.ByPath.{replacements_at}
use Rattle.syntax_editor.proofs.ByPath.{deleted-by-path, deleted-elsewhere}
use Rattle.syntax_editor.proofs.editor.SyntaxEditor.is_deleted.Goals as goal

pub returns-then-tree : goal.returns-then-tree
returns-then-tree c =
    let e = c.args.element.now in
    let root = c.self.inside.root in
    let cs = c.self.inside.changes in
    let foreign : ((element_of e).number == root.number) ≡ false = ne_eqb (element_of e).number root.number (λ same. c.if-tree.true (c.tree.ensures ∙ same ∙ sym c.tree-2.ensures)) in
    sym (deleted-elsewhere root e foreign cs c.self.invariant.fit) ∙ ap (λ s. is_deleted e s.changes) c.self.view_is

pub returns : goal.returns
returns c =
    let e = c.args.element.now in
    let root = c.self.inside.root in
    let cs = c.self.inside.changes in
    let native : (element_of e).number ≡ root.number = sym c.tree.ensures ∙ c.if-tree.false ∙ c.tree-2.ensures in
    c.has_deletion.ensures ∙ ap (λ p. list_any is_none (replacements_at p cs)) c.slots.ensures ∙ sym (deleted-by-path root e native cs c.self.invariant.fit) ∙ ap (λ s. is_deleted e s.changes) c.self.view_is
