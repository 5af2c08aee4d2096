use Rattle.std.proofs.Common.{◌≡◌, sym, ◌∙◌, subst}
use Rattle.std.specs.Result.{IfOk}
use Rattle.cst_core.specs.Element.{IsNode, root_of}
use Rattle.cst_core.proofs.Families.{family-child, family-root}
use Rattle.cst_core.proofs.location.Location.family.Goals as goal

pub returns-in-Some : goal.returns-in-Some
returns-in-Some c =
    subst (λ x. IfOk c.children_with_tokens.result (λ all. all.items ≡ x)) (sym (family-child c.args.self.now c.in-Some.parent (sym c.in_ok-parent.ensures.ok ∙ c.in-Some.is))) c.children_with_tokens.ensures

pub returns : goal.returns
returns c =
    let top : IsNode (root_of c.args.self.now) = rw (← c.self.view_is) c.self.invariant.top in
    rw (c.in_ok-push.ensures.items, c.new-all.ensures.items, c.in_ok-tree_top.ensures) (sym (family-root c.args.self.now (sym c.in_ok-parent.ensures.ok ∙ c.in_default.is) top))
