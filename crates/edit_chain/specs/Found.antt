-- Where an element is after the steps of a chain.
--     EachCopied                    Elements are the copies, in the tree that a step made, of some elements: those of each, one after another.
--     AreFound                      Elements are what some elements became in the steps: in each tree the copies of what was found before it.
--     roots_and_mapped              The new roots of all steps, with the mapped elements of their plans.
--
-- In the chain of 'edit_chain: Chain' the `1` is found at `2`, and the space that was at `3` nowhere.
use Rattle.std.specs.Prelude.{◌≡◌, List, [], ◌∷◌, ◌++◌, flat_map}
use Rattle.cst_core.specs.Element.{Element}
use Rattle.cst_core.specs.declared.element.SyntaxElement.{SyntaxElement}
use Rattle.edit_map.specs.Mapping.{mapped_elements}
use Rattle.edit_plan.specs.FurtherPlans.{AreCopies}
use Rattle.edit_chain.specs.declared.step.Step.{Step}

abbrev pub EachCopied : Step → List SyntaxElement → List SyntaxElement → Type 0
EachCopied s [] found = found ≡ []
EachCopied s (e ∷ es) found =
    (own : List SyntaxElement) × (others : List SyntaxElement) × AreCopies s.plan s.edit e own × EachCopied s es others × (found ≡ own ++ others)

abbrev pub AreFound : List Step → List SyntaxElement → List SyntaxElement → Type 0
AreFound [] es found = found ≡ es
AreFound (s ∷ ss) es found = (between : List SyntaxElement) × EachCopied s es between × AreFound ss between found

abbrev pub roots_and_mapped : List Step → List Element
roots_and_mapped steps = flat_map (λ s. s.edit.new_root ∷ mapped_elements s.plan.mapping) steps
