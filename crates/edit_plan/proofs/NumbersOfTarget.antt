-- From all elements that a plan holds to the target and the payload of a replacement and the mapping alone: equal numbers have equal trees there too.
--     told-target                    the payload, the target and the elements of the mapping
use Rattle.std.specs.Prelude.{◌≡◌, ℕ, zero, suc, List, [], ◌∷◌, ◌++◌, All, flat_map, slice_get, Some}
use Rattle.std.proofs.Common.{sym, subst, arith}
use Rattle.std.proofs.lemmas.List.{append_assoc}
use Rattle.std.proofs.lemmas.List.Elements.{All-cons}
use Rattle.std.proofs.lemmas.List.Kept.{AllPairs-cons}
use Rattle.std.proofs.lemmas.Option.{none-some, same_Some}
use Rattle.cst_core.specs.Element.{Element, NumbersTell}
use Rattle.cst_core.specs.SyntaxElement.{element_of}
use Rattle.cst_core.specs.declared.element.SyntaxElement.{SyntaxElement}
use Rattle.edit_change.specs.Change.{elements}
use Rattle.edit_change.specs.declared.change.Change.{Change}
use Rattle.edit_change.specs.declared.change.Change.TheVariants.{Replace}
use Rattle.edit_plan.proofs.NumbersOfRegistered.{pairs-after, pairs-without}

abbrev same_tree : Element → Element → Type 0
same_tree e f = e.number ≡ f.number → e.root ≡ f.root

-- the first two exchanged, without some after them
exchanged : (e f : Element) (ys es : List Element) → NumbersTell (e ∷ f ∷ ys ++ es) → NumbersTell (f ∷ e ∷ es)
exchanged e f ys es tell =
    let of_e : NumbersTell (e ∷ es) = pairs-without same_tree e (f ∷ ys) es tell in
    let of_f : NumbersTell (f ∷ es) = pairs-without same_tree f ys es (pairs-after same_tree e (f ∷ ys ++ es) tell) in
    let both : same_tree f e = λ number. sym (tell zero (suc zero) e (omega arith) (omega arith) (sym number)) in
    let others : All (same_tree f) es = λ k d within. of_f zero (suc k) d (omega arith) (omega (arith, within)) in
    AllPairs-cons same_tree f (e ∷ es) (All-cons (same_tree f) e es both others) of_e

pub told-target : (root : Element) (marked es : List Element) (cs : List Change) (owner : ℕ) (target payload : SyntaxElement) → NumbersTell (root ∷ flat_map elements cs ++ (marked ++ es)) → slice_get cs owner ≡ Some (Replace target (Some payload)) → NumbersTell (element_of payload ∷ element_of target ∷ es)
told-target root marked es [] owner target payload tell at = absurd (none-some (Replace target (Some payload)) at)
told-target root marked es (c ∷ cs) zero target payload tell at =
    let is : c ≡ Replace target (Some payload) = same_Some c (Replace target (Some payload)) at in
    let here : NumbersTell (root ∷ flat_map elements (Replace target (Some payload) ∷ cs) ++ (marked ++ es)) = subst (λ d. NumbersTell (root ∷ flat_map elements (d ∷ cs) ++ (marked ++ es))) is tell in
    let after : NumbersTell (element_of target ∷ element_of payload ∷ flat_map elements cs ++ (marked ++ es)) = pairs-after same_tree root (element_of target ∷ element_of payload ∷ flat_map elements cs ++ (marked ++ es)) here in
    exchanged (element_of target) (element_of payload) (flat_map elements cs ++ marked) es (subst (λ ys. NumbersTell (element_of target ∷ element_of payload ∷ ys)) (sym (append_assoc (flat_map elements cs) marked es)) after)
told-target root marked es (c ∷ cs) (suc owner) target payload tell at =
    told-target root marked es cs owner target payload (pairs-without same_tree root (elements c) (flat_map elements cs ++ (marked ++ es)) (subst (λ ys. NumbersTell (root ∷ ys)) (append_assoc (elements c) (flat_map elements cs) (marked ++ es)) tell)) at
