-- From all elements that a plan holds to a registered element and the mapping alone: equal numbers have equal trees there too.
--     pairs-after, pairs-without   pairs of a list without its first element, or without some after the first
--     all-told                      each registered element with the elements of the mapping
use Rattle.std.specs.Prelude.{◌≡◌, ℕ, zero, suc, ◌<◌, List, [], ◌∷◌, ◌++◌, AllPairs, map, flat_map, length, get_or}
use Rattle.std.proofs.Common.{arith, subst}
use Rattle.std.proofs.lemmas.List.{append_assoc}
use Rattle.cst_core.specs.Element.{Element, NumbersTell}
use Rattle.cst_core.specs.SyntaxElement.{element_of}
use Rattle.cst_core.specs.declared.element.SyntaxElement.{SyntaxElement}
use Rattle.edit_map.specs.Mapping.{mapped_elements}
use Rattle.edit_change.specs.Change.{elements}
use Rattle.edit_change.specs.Places.{elements_held}
use Rattle.edit_plan.specs.Plan.{Plan, registered_elements}
use Rattle.edit_plan.specs.inner.Annotating.{TellOf}

module _ {X : Type 0} (R : X → X → Type 0) where
  pub pairs-after : (x : X) (xs : List X) → AllPairs R (x ∷ xs) → AllPairs R xs
  pairs-after x xs all i j d less within = all (suc i) (suc j) d (omega (arith, less)) (omega (arith, within))

  pairs-rest : (ys xs : List X) → AllPairs R (ys ++ xs) → AllPairs R xs
  pairs-rest [] xs all = all
  pairs-rest (a ∷ ys) xs all = pairs-rest ys xs (pairs-after a (ys ++ xs) all)

  without-second : (x a : X) (xs : List X) → AllPairs R (x ∷ a ∷ xs) → AllPairs R (x ∷ xs)
  without-second x a xs all zero zero d less within = absurd (omega (arith, less))
  without-second x a xs all zero (suc j) d less within = all zero (suc (suc j)) d (omega arith) (omega (arith, within))
  without-second x a xs all (suc i) zero d less within = absurd (omega (arith, less))
  without-second x a xs all (suc i) (suc j) d less within = all (suc (suc i)) (suc (suc j)) d (omega (arith, less)) (omega (arith, within))

  pub pairs-without : (x : X) (ys xs : List X) → AllPairs R (x ∷ ys ++ xs) → AllPairs R (x ∷ xs)
  pairs-without x [] xs all = all
  pairs-without x (a ∷ ys) xs all = pairs-without x ys xs (without-second x a (ys ++ xs) all)

abbrev same_tree : Element → Element → Type 0
same_tree e f = e.number ≡ f.number → e.root ≡ f.root

told-each : (rs : List (SyntaxElement × ℕ)) (es : List Element) → NumbersTell (map (λ r. r.0) (registered_elements rs) ++ es) → (k : ℕ) (d : SyntaxElement × ℕ) → k < length rs → NumbersTell (element_of (get_or rs k d).0 ∷ es)
told-each [] es tell k d within = absurd (omega (arith, within))
told-each (r ∷ rs) es tell zero d within = pairs-without same_tree (element_of r.0) (map (λ s. s.0) (registered_elements rs)) es tell
told-each (r ∷ rs) es tell (suc k) d within =
    told-each rs es (pairs-after same_tree (element_of r.0) (map (λ s. s.0) (registered_elements rs) ++ es) tell) k d (omega (arith, within))

pub all-told : (p : Plan) → NumbersTell (elements_held p.root p.changes (registered_elements p.registrations) p.mapping) → TellOf p.mapping p.registrations
all-told p tell k d within =
    let changed = flat_map elements p.changes in
    let marked : List Element = map (λ r. r.0) (registered_elements p.registrations) in
    let mapped = mapped_elements p.mapping in
    let after : AllPairs same_tree (changed ++ (marked ++ mapped)) = subst (AllPairs same_tree) (append_assoc changed marked mapped) (pairs-after same_tree p.root (changed ++ marked ++ mapped) tell) in
    told-each p.registrations mapped (pairs-rest same_tree changed (marked ++ mapped) after) k d within
