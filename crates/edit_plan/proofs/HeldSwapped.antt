-- Of two neighbours of a list that are swapped, equal numbers have equal trees among all elements of a plan as before.
--     told-swapped                  from the swapped list back to the old one
use Rattle.std.specs.Prelude.{◌≡◌, ℕ, zero, suc, ◌<◌, ◌⊎◌, List, [], ◌∷◌, ◌++◌, map, flat_map, length, slice_index_or, refl}
use Rattle.std.proofs.Common.{ap, sym, ◌∙◌, arith}
use Rattle.std.proofs.lemmas.Bool.{cases_eq, cases_lt}
use mathlib.Core.Logic.{inl, inr}
use Rattle.cst_core.specs.Element.{Element, NumbersTell}
use Rattle.edit_map.specs.Mapping.{Mapping, mapped_elements}
use Rattle.edit_change.specs.Change.{elements}
use Rattle.edit_change.specs.declared.change.Change.{Change}
use Rattle.edit_change.specs.Places.{elements_held}

-- ---- members
abbrev IsIn : Element → List Element → Type 0
IsIn x [] = ⊥
IsIn x (e ∷ es) = (e ≡ x) ⊎ IsIn x es

abbrev At : Element → List Element → Type 0
At x es = (i : ℕ) × (i < length es) × ((d : Element) → slice_index_or es i d ≡ x)

at-member : (x : Element) (es : List Element) → IsIn x es → At x es
at-member x [] is = absurd is
at-member x (e ∷ es) (inl same) = (0, omega arith, λ d. same)
at-member x (e ∷ es) (inr is) = let a = at-member x es is in (suc a.0, omega (arith, a.1), λ d. a.2 d)

member-at : (es : List Element) (i : ℕ) (d : Element) → i < length es → IsIn (slice_index_or es i d) es
member-at [] i d within = absurd (omega (arith, within))
member-at (e ∷ es) zero d within = inl refl
member-at (e ∷ es) (suc i) d within = inr (member-at es i d (omega (arith, within)))

abbrev same_tree : Element → Element → Type 0
same_tree e f = e.number ≡ f.number → e.root ≡ f.root

told-members : (es : List Element) → NumbersTell es → (x y : Element) → IsIn x es → IsIn y es → same_tree x y
told-members es tell x y in_x in_y = λ number.
    let a = at-member x es in_x in
    let b = at-member y es in_y in
    elim (cases_eq a.0 b.0) [
      | inl same ↦ ap (λ e. e.root) (sym (a.2 x) ∙ ap (λ i. slice_index_or es i x) same ∙ b.2 x)
      | inr other ↦ elim (cases_lt a.0 b.0) [
        | inl less ↦ sym (ap (λ e. e.root) (a.2 x)) ∙ tell a.0 b.0 x less b.1 (ap (λ e. e.number) (a.2 x) ∙ number ∙ sym (ap (λ e. e.number) (b.2 x))) ∙ ap (λ e. e.root) (b.2 x)
        | inr more ↦ sym (sym (ap (λ e. e.root) (b.2 x)) ∙ tell b.0 a.0 x (omega (arith, more, other)) a.1 (ap (λ e. e.number) (b.2 x) ∙ sym number ∙ sym (ap (λ e. e.number) (a.2 x))) ∙ ap (λ e. e.root) (a.2 x))
      ]
    ]

-- what is told of a list is told of one that has no other members
told-among : (es fs : List Element) → ((x : Element) → IsIn x fs → IsIn x es) → NumbersTell es → NumbersTell fs
told-among es fs among tell = λ i j d less within. told-members es tell (slice_index_or fs i d) (slice_index_or fs j d) (among (slice_index_or fs i d) (member-at fs i d (omega (arith, less, within)))) (among (slice_index_or fs j d) (member-at fs j d within))

-- ---- of lists in parts
in-left : (x : Element) (es fs : List Element) → IsIn x es → IsIn x (es ++ fs)
in-left x [] fs is = absurd is
in-left x (e ∷ es) fs (inl same) = inl same
in-left x (e ∷ es) fs (inr is) = inr (in-left x es fs is)

in-right : (x : Element) (es fs : List Element) → IsIn x fs → IsIn x (es ++ fs)
in-right x [] fs is = is
in-right x (e ∷ es) fs is = inr (in-right x es fs is)

in-parts : (x : Element) (es fs : List Element) → IsIn x (es ++ fs) → IsIn x es ⊎ IsIn x fs
in-parts x [] fs is = inr is
in-parts x (e ∷ es) fs (inl same) = inl (inl same)
in-parts x (e ∷ es) fs (inr is) = elim (in-parts x es fs is) [ inl l ↦ inl (inr l) | inr r ↦ inr r ]

-- another first part
in-first : (x : Element) (es gs fs : List Element) → (IsIn x es → IsIn x gs) → IsIn x (es ++ fs) → IsIn x (gs ++ fs)
in-first x es gs fs among is = elim (in-parts x es fs is) [ inl l ↦ in-left x gs fs (among l) | inr r ↦ in-right x gs fs r ]

module _ (x : Element) (c d : Change) (after : List Change) where
  in-swapped : (before : List Change) → IsIn x (flat_map elements (before ++ c ∷ d ∷ after)) → IsIn x (flat_map elements (before ++ d ∷ c ∷ after))
  in-swapped [] is =
      let rest = flat_map elements after in
      elim (in-parts x (elements c) (elements d ++ rest) is) [
        | inl of_c ↦ in-right x (elements d) (elements c ++ rest) (in-left x (elements c) rest of_c)
        | inr others ↦ elim (in-parts x (elements d) rest others) [
          | inl of_d ↦ in-left x (elements d) (elements c ++ rest) of_d
          | inr after_both ↦ in-right x (elements d) (elements c ++ rest) (in-right x (elements c) rest after_both)
        ]
      ]
  in-swapped (b ∷ before) is =
      elim (in-parts x (elements b) (flat_map elements (before ++ c ∷ d ∷ after)) is) [
        | inl of_b ↦ in-left x (elements b) (flat_map elements (before ++ d ∷ c ∷ after)) of_b
        | inr others ↦ in-right x (elements b) (flat_map elements (before ++ d ∷ c ∷ after)) (in-swapped before others)
      ]

pub told-swapped : (root : Element) (before : List Change) (c d : Change) (after : List Change) (rs : List (Element × ℕ)) (m : Mapping) → NumbersTell (elements_held root (before ++ d ∷ c ∷ after) rs m) → NumbersTell (elements_held root (before ++ c ∷ d ∷ after) rs m)
told-swapped root before c d after rs m tell =
    told-among (elements_held root (before ++ d ∷ c ∷ after) rs m) (elements_held root (before ++ c ∷ d ∷ after) rs m) among tell
  where
    marked : List Element
    marked = map (λ r. r.0) rs

    among : (x : Element) → IsIn x (elements_held root (before ++ c ∷ d ∷ after) rs m) → IsIn x (elements_held root (before ++ d ∷ c ∷ after) rs m)
    among x is = in-first x (root ∷ flat_map elements (before ++ c ∷ d ∷ after) ++ marked) (root ∷ flat_map elements (before ++ d ∷ c ∷ after) ++ marked) (mapped_elements m) (in-first x (root ∷ flat_map elements (before ++ c ∷ d ∷ after)) (root ∷ flat_map elements (before ++ d ∷ c ∷ after)) marked top) is
      where
        top : IsIn x (root ∷ flat_map elements (before ++ c ∷ d ∷ after)) → IsIn x (root ∷ flat_map elements (before ++ d ∷ c ∷ after))
        top (inl same) = inl same
        top (inr is) = inr (in-swapped x c d after before is)
