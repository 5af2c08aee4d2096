use Rattle.std.specs.Fmt.{IsPlainFormatter}
use Rattle.cst_core.specs.Tree.{text}
use Rattle.cst_core.specs.Green.{texts}
use Rattle.cst_core.specs.GreenElement.{element_tree, element_trees}
use Rattle.green_tree.proofs.Written.{IsWrittenUpTo}
use Rattle.edit_change.proofs.change_text.write_shared.Given as goal

abbrev pub invariant-loop-element : goal.invariant-loop-element
invariant-loop-element g l =
    IsPlainFormatter l.initial.f
    → IsWrittenUpTo g.W.Write.write_str_gives (λ e. text (element_tree e)) (λ es. texts (element_trees es)) l.elements l.element-index l.initial.f l.f
