-- Of which trees elements are that are found, and that equal numbers have equal trees among them as before.
--     told-found                    each element that is found, with the mapped elements of the next plan
--     known-first, known-in         the element that is sought is known, and so is one of the tree of a step
--     found-in                      what is found in the tree of a step is of that tree
use Rattle.std.specs.Prelude.{◌≡◌, ℕ, zero, suc, ◌<◌, ◌⊎◌, List, [], ◌∷◌, ◌++◌, map, flat_map, length, slice_index_or, slice_get, Option, Some, None, option_map, refl}
use Rattle.std.specs.List.{AllByRecursion}
use Rattle.std.proofs.Common.{ap, sym, subst, ◌∙◌, arith}
use Rattle.std.proofs.lemmas.Bool.{cases_eq, cases_lt}
use Rattle.std.proofs.lemmas.Option.{none-some, same_Some}
use mathlib.Core.Logic.{inl, inr}
use Rattle.cst_core.specs.Path.{Path}
use Rattle.cst_core.specs.Tree.{SyntaxTree, Token, Node, at}
use Rattle.cst_core.specs.Element.{Element, NumbersTell, element_at}
use Rattle.cst_core.specs.SyntaxElement.{element_of, syntax_as, syntax_at}
use Rattle.cst_core.specs.declared.element.SyntaxElement.{SyntaxElement}
use Rattle.edit_map.specs.Mapping.{Mapping, mapped_elements}
use Rattle.edit_plan.specs.FurtherPlans.{AreCopies}
use Rattle.edit_chain.specs.Found.{EachCopied, roots_and_mapped}
use Rattle.edit_chain.specs.declared.step.Step.{Step}

-- ---- members
abbrev IsIn : Element → List Element → Type 0
IsIn x [] = ⊥
IsIn x (e ∷ es) = (e ≡ x) ⊎ IsIn x es

abbrev At : Element → List Element → Type 0
At x es = (i : ℕ) × (i < length es) × ((d : Element) → slice_index_or es i d ≡ x)

at-member : (x : Element) (es : List Element) → IsIn x es → At x es
at-member x [] is = absurd is
at-member x (e ∷ es) (inl same) = (0, omega arith, λ d. same)
at-member x (e ∷ es) (inr is) = let a = at-member x es is in (suc a.0, omega (arith, a.1), λ d. a.2 d)

member-at : (es : List Element) (i : ℕ) (d : Element) → i < length es → IsIn (slice_index_or es i d) es
member-at [] i d within = absurd (omega (arith, within))
member-at (e ∷ es) zero d within = inl refl
member-at (e ∷ es) (suc i) d within = inr (member-at es i d (omega (arith, within)))

abbrev same_tree : Element → Element → Type 0
same_tree e f = e.number ≡ f.number → e.root ≡ f.root

told-members : (es : List Element) → NumbersTell es → (x y : Element) → IsIn x es → IsIn y es → same_tree x y
told-members es tell x y in_x in_y = λ number.
    let a = at-member x es in_x in
    let b = at-member y es in_y in
    elim (cases_eq a.0 b.0) [
      | inl same ↦ ap (λ e. e.root) (sym (a.2 x) ∙ ap (λ i. slice_index_or es i x) same ∙ b.2 x)
      | inr other ↦ elim (cases_lt a.0 b.0) [
        | inl less ↦ sym (ap (λ e. e.root) (a.2 x)) ∙ tell a.0 b.0 x less b.1 (ap (λ e. e.number) (a.2 x) ∙ number ∙ sym (ap (λ e. e.number) (b.2 x))) ∙ ap (λ e. e.root) (b.2 x)
        | inr more ↦ sym (sym (ap (λ e. e.root) (b.2 x)) ∙ tell b.0 a.0 x (omega (arith, more, other)) a.1 (ap (λ e. e.number) (b.2 x) ∙ sym number ∙ sym (ap (λ e. e.number) (a.2 x))) ∙ ap (λ e. e.root) (a.2 x))
      ]
    ]

in-left : (x : Element) (es fs : List Element) → IsIn x es → IsIn x (es ++ fs)
in-left x [] fs is = absurd is
in-left x (e ∷ es) fs (inl same) = inl same
in-left x (e ∷ es) fs (inr is) = inr (in-left x es fs is)

in-right : (x : Element) (es fs : List Element) → IsIn x fs → IsIn x (es ++ fs)
in-right x [] fs is = is
in-right x (e ∷ es) fs is = inr (in-right x es fs is)

-- ---- elements of one tree
abbrev pub OfTree : Element → Element → Type 0
OfTree e f = (e.number ≡ f.number) × (e.root ≡ f.root)

-- an element is of the tree of a member
pub record IsKnown (es : List Element) (x : Element) : Type 0 where
  pub member : Element
  pub is_in : IsIn member es
  pub of_tree : OfTree x member

-- what is told of a list is told of one whose elements are all of trees of its members
told-known : (es fs : List Element) → ((x : Element) → IsIn x fs → IsKnown es x) → NumbersTell es → NumbersTell fs
told-known es fs known tell = λ i j d less within number.
    let a = known (slice_index_or fs i d) (member-at fs i d (omega (arith, less, within))) in
    let b = known (slice_index_or fs j d) (member-at fs j d within) in
    a.of_tree.1 ∙ told-members es tell a.member b.member a.is_in b.is_in (sym a.of_tree.0 ∙ number ∙ b.of_tree.0) ∙ sym b.of_tree.1

itself : (es : List Element) (x : Element) → IsIn x es → IsKnown es x
itself es x is = record { member = x; is_in = is; of_tree = (refl, refl) }

-- ---- of the steps of a chain
in-steps : (x : Element) (steps : List Step) (i : ℕ) (s : Step) → slice_get steps i ≡ Some s → IsIn x (s.edit.new_root ∷ mapped_elements s.plan.mapping) → IsIn x (roots_and_mapped steps)
in-steps x [] i s is has = absurd (none-some s is)
in-steps x (t ∷ steps) zero s is has = in-left x (t.edit.new_root ∷ mapped_elements t.plan.mapping) (roots_and_mapped steps) (subst (λ (r : Step). IsIn x (r.edit.new_root ∷ mapped_elements r.plan.mapping)) (sym (same_Some t s is)) has)
in-steps x (t ∷ steps) (suc i) s is has = in-right x (t.edit.new_root ∷ mapped_elements t.plan.mapping) (roots_and_mapped steps) (in-steps x steps i s is has)

pub known-first : (x : Element) (es : List Element) → IsKnown (x ∷ es) x
known-first x es = itself (x ∷ es) x (inl refl)

pub known-in : (first : Element) (steps : List Step) (i : ℕ) (s : Step) (x : Element) → slice_get steps i ≡ Some s → OfTree x s.edit.new_root → IsKnown (first ∷ roots_and_mapped steps) x
known-in first steps i s x is of_tree = record { member = s.edit.new_root; is_in = inr (in-steps s.edit.new_root steps i s is (inl refl)); of_tree = of_tree }

pub told-found : (first : Element) (steps : List Step) (i : ℕ) (s : Step) (x : Element) → slice_get steps i ≡ Some s → IsKnown (first ∷ roots_and_mapped steps) x → NumbersTell (first ∷ roots_and_mapped steps) → NumbersTell (x ∷ mapped_elements s.plan.mapping)
told-found first steps i s x is known tell = told-known (first ∷ roots_and_mapped steps) (x ∷ mapped_elements s.plan.mapping) each tell
  where
    each : (y : Element) → IsIn y (x ∷ mapped_elements s.plan.mapping) → IsKnown (first ∷ roots_and_mapped steps) y
    each y (inl same) = subst (IsKnown (first ∷ roots_and_mapped steps)) same known
    each y (inr has) = itself (first ∷ roots_and_mapped steps) y (inr (in-steps y steps i s is (inr has)))

-- ---- what is found
of-form : (t : SyntaxTree) (e : Element) → element_of (syntax_as t e) ≡ e
of-form (Token k s) e = refl
of-form (Node k f) e = refl

found-at : (root : Element) (q : Path) (e : SyntaxElement) → Some e ≡ syntax_at root q → OfTree (element_of e) root
found-at root q e =
    elim (at root.root q) as (λ o. Some e ≡ option_map (λ t. syntax_as t (element_at root q)) o → OfTree (element_of e) root) [
      | None ↦ λ is. absurd (none-some e (sym is))
      | Some t ↦ λ is.
          let same : element_of e ≡ element_at root q = ap element_of (same_Some e (syntax_as t (element_at root q)) is) ∙ of-form t (element_at root q) in
          (ap (λ x. x.number) same, ap (λ x. x.root) same)
    ]

abbrev pub AllOf : Element → List SyntaxElement → Type 0
AllOf root es = AllByRecursion (λ e. OfTree (element_of e) root) es

found-all : (root : Element) (es : List SyntaxElement) (qs : List Path) → map (λ e. Some e) es ≡ map (syntax_at root) qs → AllOf root es
found-all root [] qs are = tt
found-all root (e ∷ es) [] are = absurd (cc)
found-all root (e ∷ es) (q ∷ qs) are =
    let here : Some e ≡ syntax_at root q = cc in
    let rest : map (λ x. Some x) es ≡ map (syntax_at root) qs = cc in
    (found-at root q e here, found-all root es qs rest)

all-both : (root : Element) (es fs : List SyntaxElement) → AllOf root es → AllOf root fs → AllOf root (es ++ fs)
all-both root [] fs own others = others
all-both root (e ∷ es) fs own others = (own.0, all-both root es fs own.1 others)

pub found-in : (s : Step) (es found : List SyntaxElement) → EachCopied s es found → AllOf s.edit.new_root found
found-in s [] found are = subst (AllOf s.edit.new_root) (sym are) tt
found-in s (e ∷ es) found are = subst (AllOf s.edit.new_root) (sym are.4) (all-both s.edit.new_root are.0 are.1 (found-all s.edit.new_root are.0 _ are.2.found_are) (found-in s es are.1 are.3))
