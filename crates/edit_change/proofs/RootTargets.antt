-- No range replaces a root.
--     no-root-range, no-root-in     a range, and a change that is known to be one
use Rattle.std.specs.Prelude.{◌≡◌, ℕ, suc, ◌-◌, false, List, [], ◌∷◌, ◌++◌, map, refl}
use Rattle.std.proofs.Common.{ap, ◌∙◌}
use Rattle.cst_core.specs.Path.{Path, has_path, parent_path, last_slot, counted_from}
use Rattle.cst_core.specs.SyntaxElement.{element_of}
use Rattle.cst_core.specs.declared.element.SyntaxElement.{SyntaxElement}
use Rattle.edit_change.specs.Change.{targets}
use Rattle.edit_change.specs.declared.change.Change.{Change}
use Rattle.edit_change.specs.declared.change.Change.TheVariants.{ReplaceAll}

no-root-sibling : (p : Path) (ns : List ℕ) → has_path (map (λ i. p ++ i ∷ []) ns) [] ≡ false
no-root-sibling p [] = refl
no-root-sibling [] (n ∷ ns) = no-root-sibling [] ns
no-root-sibling (j ∷ p) (n ∷ ns) = no-root-sibling (j ∷ p) ns

pub no-root-range : (first last : SyntaxElement) (es : List SyntaxElement) → has_path (targets (ReplaceAll first last es)) [] ≡ false
no-root-range first last es =
    no-root-sibling (parent_path (element_of first).path) (counted_from (last_slot (element_of first).path) (suc (last_slot (element_of last).path) - last_slot (element_of first).path))

-- a change that is known to be one
pub no-root-in : {c : Change} {first last : SyntaxElement} {es : List SyntaxElement} → c ≡ ReplaceAll first last es → has_path (targets c) [] ≡ false
no-root-in {c} {first} {last} {es} is = ap (λ d. has_path (targets d) []) is ∙ no-root-range first last es
