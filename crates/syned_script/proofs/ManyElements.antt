-- The elements that references lead to, one by one.
use Rattle.std.proofs.Common.{◌≡◌, ℕ, suc, ◌+◌, ◌<◌, length, get_or, drop, add-one, refl, ◌++◌, ◌∷◌, [], List, Option, Some, None, map, option_map, append_assoc, sym, subst, ap, ◌∙◌}
use Rattle.std.proofs.Math.Seq.{drop-cons}
use Rattle.cst_core.specs.declared.element.SyntaxElement.{SyntaxElement}
use Rattle.script_lines.specs.LineValue.{ref_of}
use Rattle.script_lines.specs.declared.reference.Reference.{Reference}
use Rattle.syned_script.specs.State.{Roots, element_in, elements_in, of_both}

-- the first of what is left is among those that are there
moved : (done : List SyntaxElement) (e : SyntaxElement) (o : Option (List SyntaxElement)) → option_map (λ es. (done ++ e ∷ []) ++ es) o ≡ option_map (λ es. done ++ es) (of_both (λ e es. e ∷ es) (Some e) o)
moved done e None = refl
moved done e (Some es) = ap Some (append_assoc done (e ∷ []) es)

-- the reference at an index is the first of those that are left
left-is : (rs : List Reference) (i : ℕ) (r : Reference) → i < length rs → r ≡ get_or rs i r → drop i rs ≡ r ∷ drop (i + 1) rs
left-is rs i r within is = drop-cons rs i r within ∙ ap (λ x. x ∷ drop (suc i) rs) (sym is) ∙ ap (λ j. r ∷ drop j rs) (sym (add-one i))

pub one-more : (roots : Roots) (done now : List SyntaxElement) (rs : List Reference) (i : ℕ) (r : Reference) (e : SyntaxElement) (all : Option (List SyntaxElement)) → i < length rs → r ≡ get_or rs i r → element_in roots (ref_of r) ≡ Some e → now ≡ done ++ e ∷ [] → option_map (λ es. done ++ es) (elements_in roots (map ref_of (drop i rs))) ≡ all → option_map (λ es. now ++ es) (elements_in roots (map ref_of (drop (i + 1) rs))) ≡ all
one-more roots done now rs i r e all within is found pushed so =
    let rest = elements_in roots (map ref_of (drop (i + 1) rs)) in
    let before = option_map (λ es. done ++ es) in
    ap (λ l. option_map (λ es. l ++ es) rest) pushed ∙ moved done e rest ∙ ap (λ o. before (of_both (λ e es. e ∷ es) o rest)) (sym found)
    ∙ ap (λ l. before (elements_in roots (map ref_of l))) (sym (left-is rs i r within is)) ∙ so
