-- Where a change aims, by its own path.
--     one-sibling, range-siblings      the targets of a replacement, counted
--     range-has-parent                 the ends of a range are no roots
--     own-aim                          the aim of a change from its own path
use Rattle.std.specs.Prelude.{◌≡◌, ℕ, suc, ◌-◌, true, not, ◌&&◌, List, [], ◌∷◌, ◌++◌, map, refl}
use Rattle.std.proofs.Common.{ap, sym, ◌∙◌}
use Rattle.std.proofs.lemmas.Bool.{and_parts, or_cases, false≢true}
use mathlib.Core.Logic.{inl, inr}
use Rattle.cst_core.specs.Path.{Path, same_path, siblings, counted_from, parent_path, last_slot}
use Rattle.cst_core.specs.Element.{Element}
use Rattle.cst_core.specs.SyntaxElement.{element_of}
use Rattle.cst_core.specs.declared.element.SyntaxElement.{SyntaxElement}
use Rattle.cst_core.proofs.LastSlot.{parent-and-slot}
use Rattle.edit_change.specs.Aim.{Over}
use Rattle.edit_change.specs.inner.Aimed.{siblings_from}
use Rattle.edit_change.specs.ChangeAim.{position_aim, aim, aim_path}
use Rattle.edit_change.specs.inner.AimFrom.{position_aim_from, aim_from}
use Rattle.edit_change.specs.Fits.{Fits, is_native, is_root, is_range}
use Rattle.edit_change.specs.Position.{anchor}
use Rattle.edit_change.specs.PositionForm.{FirstChild, After}
use Rattle.edit_change.specs.declared.change.Change.{Change}
use Rattle.edit_change.specs.declared.change.Change.TheVariants.{Insert, InsertAll, Replace, ReplaceWithMany, ReplaceAll}
use Rattle.edit_change.specs.declared.position.Position.{Position}

-- ---- targets
pub one-sibling : (p : Path) → siblings_from p 1 ≡ p ∷ []
one-sibling [] = refl
one-sibling (i ∷ p) = ap (λ q. q ∷ []) (sym (parent-and-slot i p))

pub range-siblings : (f l : Path) (n : ℕ) → (f ≡ [] → ⊥) → n ≡ suc (last_slot l) - last_slot f → siblings_from f n ≡ siblings f l
range-siblings [] l n some is = absurd (some refl)
range-siblings (i ∷ f) l n some is = ap (λ k. map (λ j. parent_path (i ∷ f) ++ j ∷ []) (counted_from (last_slot (i ∷ f)) k)) is

pub range-has-parent : (root : Element) (first last : SyntaxElement) (es : List SyntaxElement) → Fits root (ReplaceAll first last es) → (element_of first).path ≡ [] → ⊥
range-has-parent root first last es fits none =
    let whole = and_parts _ (not (same_path (element_of first).path (element_of last).path)) fits in
    let range = and_parts (is_native root first && is_native root last) (is_range first last) whole.0 in
    let root_is : is_root first ≡ true = ap (λ p. same_path p []) none in
    elim (or_cases (same_path (element_of first).path (element_of last).path) _ range.1) [
      | inl same ↦ false≢true (sym (ap not same) ∙ whole.1)
      | inr beside ↦ false≢true (sym (ap not root_is) ∙ (and_parts (not (is_root first)) (not (is_root last)) (and_parts _ _ (and_parts _ _ beside).0).0).0)
    ]

-- ---- where a change aims, by its own path
own-position : (at : Position) → position_aim_from (anchor at).path at ≡ position_aim at
own-position (FirstChild n) = refl
own-position (After e) = refl

pub own-aim : (root : Element) (c : Change) → Fits root c → aim_from (aim_path c) c ≡ aim c
own-aim root (Insert at e) fits = own-position at
own-aim root (InsertAll at es) fits = own-position at
own-aim root (Replace t e) fits = ap Over (one-sibling (element_of t).path)
own-aim root (ReplaceWithMany t es) fits = ap Over (one-sibling (element_of t).path)
own-aim root (ReplaceAll first last es) fits =
    ap Over (range-siblings (element_of first).path (element_of last).path (suc (last_slot (element_of last).path) - last_slot (element_of first).path) (range-has-parent root first last es fits) refl)
