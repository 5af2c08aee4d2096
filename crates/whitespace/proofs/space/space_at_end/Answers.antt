use Rattle.std.specs.Prelude.{◌≡◌, suc, ◌-◌, List, [], ◌∷◌, length, slice_get, refl}
use Rattle.std.specs.Option.{option_map_or}
use Rattle.std.proofs.Common.{ap, sym, ◌∙◌, subst, arith}
use Rattle.cst_core.specs.Path.{last_item}
use Rattle.cst_core.specs.SyntaxElement.{element_of}
use Rattle.cst_core.specs.declared.element.SyntaxElement.{SyntaxElement}
use Rattle.whitespace.specs.Spacing.{NoSpace, space_after}
use Rattle.whitespace.specs.inner.SpaceInCode.{FindsSpace}
use Rattle.whitespace.proofs.space.space_at_end.Goals as goal

last_read : (es : List SyntaxElement) → slice_get es (length es - 1) ≡ last_item es
last_read [] = refl
last_read (e ∷ []) = refl
last_read (e ∷ f ∷ es) =
    let outer : suc (suc (length es)) - 1 ≡ suc (length es) = omega arith in
    let inner : suc (length es) - 1 ≡ length es = omega arith in
    ap (slice_get (e ∷ f ∷ es)) outer ∙ sym (ap (slice_get (f ∷ es)) inner) ∙ last_read (f ∷ es)

pub returns-in-Some : goal.returns-in-Some
returns-in-Some c =
    subst (λ last. FindsSpace (option_map_or (λ e. space_after c.args.at.now (element_of e)) last NoSpace) c.space_after.result) (c.in-Some.ensures.value ∙ last_read c.args.new.now) c.space_after.ensures
