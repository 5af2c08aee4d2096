use Rattle.std.specs.Prelude.{◌≡◌}
use Rattle.std.proofs.Common.{sym, ◌∙◌, subst}
use Rattle.cst_core.specs.Path.{parent_path}
use Rattle.cst_core.specs.Element.{element_at}
use Rattle.cst_core.specs.SyntaxElement.{element_of}
use Rattle.whitespace.specs.Spacing.{neighbor, space_in_parent}
use Rattle.whitespace.specs.inner.SpaceInCode.{FindsSpace}
use Rattle.whitespace.proofs.Openings.{parent_is, opened, not_opened}
use Rattle.whitespace.proofs.space.space_in_parent.Goals as goal

pub returns-then-opens_list : goal.returns-then-opens_list
returns-then-opens_list c =
    let there : c.in-Some.parent ≡ element_at (element_of c.args.anchor.now) (parent_path (element_of c.args.anchor.now).path) = parent_is (element_of c.args.anchor.now) c.in-Some.parent (sym c.in_ok-parent.ensures.ok ∙ c.in-Some.is) in
    subst (λ e. FindsSpace (space_in_parent (neighbor e) (neighbor (element_of c.args.anchor.now)) (neighbor (element_of c.args.first.now))) c.line_below.result) there
    (opened (neighbor c.in-Some.parent) (neighbor (element_of c.args.anchor.now)) (neighbor (element_of c.args.first.now)) _ _ _ _ c.kind.ensures.kind c.kind-2.ensures.kind c.kind-3.ensures.kind c.opens_list.ensures c.line_below.result c.if-opens_list.true c.line_below.ensures)

pub returns : goal.returns
returns c =
    let there : c.in-Some.parent ≡ element_at (element_of c.args.anchor.now) (parent_path (element_of c.args.anchor.now).path) = parent_is (element_of c.args.anchor.now) c.in-Some.parent (sym c.in_ok-parent.ensures.ok ∙ c.in-Some.is) in
    subst (λ e. FindsSpace (space_in_parent (neighbor e) (neighbor (element_of c.args.anchor.now)) (neighbor (element_of c.args.first.now))) c.space_between-2.result) there
    (not_opened (neighbor c.in-Some.parent) (neighbor (element_of c.args.anchor.now)) (neighbor (element_of c.args.first.now)) _ _ _ _ c.kind.ensures.kind c.kind-2.ensures.kind c.kind-3.ensures.kind c.opens_list.ensures c.space_between-2.result c.if-opens_list.false c.space_between-2.ensures)
