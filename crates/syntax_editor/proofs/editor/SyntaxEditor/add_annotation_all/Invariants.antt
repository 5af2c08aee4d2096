use Rattle.std.proofs.Common.{◌≡◌, ◌++◌, map}
use Rattle.syntax_editor.specs.Editor.{registrations_of}
use Rattle.syntax_editor.proofs.editor.SyntaxEditor.add_annotation_all.Given as goal

abbrev pub invariant-loop-element : goal.invariant-loop-element
invariant-loop-element g l =
    l.added.items ++ registrations_of l.annotation (map g.E.Element.element l.element-iterator.rest.items) ≡ registrations_of l.annotation (map g.E.Element.element l.fn.elements.items)
