use Rattle.std.proofs.Common.{◌∷◌, All, take}
use Rattle.cst_core.specs.Element.{NumbersTell}
use Rattle.cst_core.specs.SyntaxElement.{element_of}
use Rattle.edit_map.specs.Mapping.{mapped_elements}
use Rattle.edit_chain.specs.Found.{EachCopied}
use Rattle.edit_chain.proofs.find.copies_of_each.Given as goal

abbrev pub invariant-loop-element : goal.invariant-loop-element
invariant-loop-element l =
    All (λ e. NumbersTell (element_of e ∷ mapped_elements l.step.plan.mapping)) l.elements → EachCopied l.step (take l.element-index l.elements) l.found.items
