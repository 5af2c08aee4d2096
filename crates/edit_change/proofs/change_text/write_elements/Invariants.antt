use Rattle.std.specs.Fmt.{IsPlainFormatter}
use Rattle.cst_core.specs.Tree.{text}
use Rattle.cst_core.specs.Element.{subtree}
use Rattle.cst_core.specs.SyntaxElement.{element_of}
use Rattle.edit_change.specs.Display.{element_texts}
use Rattle.green_tree.proofs.Written.{IsWrittenUpTo}
use Rattle.edit_change.proofs.change_text.write_elements.Given as goal

abbrev pub invariant-loop-element : goal.invariant-loop-element
invariant-loop-element g l =
    IsPlainFormatter l.initial.f
    → IsWrittenUpTo g.W.Write.write_str_gives (λ e. text (subtree (element_of e))) element_texts l.elements l.element-index l.initial.f l.f
