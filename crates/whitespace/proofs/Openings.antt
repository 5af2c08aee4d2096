-- The whitespace after an anchor, by the kinds of what stands round it.
--     parent_is                    the parent that a call answers
--     opened, not_opened           where the new element is on a line of its own, and where the table says it
use Rattle.std.specs.Prelude.{◌≡◌, ℕ, suc, Bool, true, false, [], ◌∷◌, Some, Result}
use Rattle.std.proofs.Common.{ap, sym, ◌∙◌, subst}
use Rattle.std.proofs.lemmas.Bool.{cond-true, cond-false}
use Rattle.cst_core.specs.Path.{Path, parent_path}
use Rattle.cst_core.specs.Tree.{SyntaxTree}
use Rattle.cst_core.specs.Element.{Element, element_at, parent_of}
use Rattle.whitespace.specs.Spacing.{NewLine, Neighbor, opens_list, space_in_parent, between}
use Rattle.whitespace.specs.inner.SpaceInCode.{FindsSpace}
use Rattle.whitespace.specs.declared.space_error.SpaceError.{SpaceError}
use Rattle.whitespace.specs.declared.space.Space as code

parent_at : (n : ℕ) (t : SyntaxTree) (p : Path) (parent : Element) → parent_of (record { number = n; root = t; path = p }) ≡ Some parent → parent ≡ record { number = n; root = t; path = parent_path p }
parent_at n t [] parent is = cc
parent_at n t (i ∷ p) parent is = cc

pub parent_is : (e parent : Element) → parent_of e ≡ Some parent → parent ≡ element_at e (parent_path e.path)
parent_is e parent is = parent_at e.number e.root e.path parent is

module _ (parent anchor first : Neighbor) (kp ka kf : ℕ) (opens : Bool) (is_parent : kp ≡ parent.kind) (is_anchor : ka ≡ anchor.kind) (is_first : kf ≡ first.kind) (is : (p a f : ℕ) → opens ≡ opens_list (record { kind = kp; level = p }) (record { kind = ka; level = a }) (record { kind = kf; level = f })) where
  test : opens ≡ opens_list parent anchor first
  test =
      is parent.level anchor.level first.level
      ∙ ap (λ k. opens_list (record { kind = k; level = parent.level }) (record { kind = ka; level = anchor.level }) (record { kind = kf; level = first.level })) is_parent
      ∙ ap (λ k. opens_list parent (record { kind = k; level = anchor.level }) (record { kind = kf; level = first.level })) is_anchor
      ∙ ap (λ k. opens_list parent anchor (record { kind = k; level = first.level })) is_first

  module _ (r : Result code.Space SpaceError) where
    pub opened : opens ≡ true → FindsSpace (NewLine (suc parent.level)) r → FindsSpace (space_in_parent parent anchor first) r
    opened does found = subst (λ s. FindsSpace s r) (sym (cond-true _ _ _ (sym test ∙ does))) found

    pub not_opened : opens ≡ false → FindsSpace (between anchor first) r → FindsSpace (space_in_parent parent anchor first) r
    not_opened does found = subst (λ s. FindsSpace s r) (sym (cond-false _ _ _ (sym test ∙ does))) found
