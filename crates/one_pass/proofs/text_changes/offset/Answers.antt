use Rattle.std.proofs.Common.{◌≡◌}
use Rattle.one_pass.proofs.text_changes.offset.Goals as goal
use Rattle.std.proofs.Common.{ap, sym, ◌∙◌}
use Rattle.std.proofs.lemmas.Bool.{false≢true}
use Rattle.cst_core.specs.AtOffset.{end_of}
use Rattle.cst_core.specs.Order.{start}
use Rattle.cst_core.specs.SyntaxElement.{syntax_at}
use Rattle.edit_change.specs.Aim.{AfterElement}
use Rattle.edit_change.specs.ChangeAim.{aim, aim_path}
use Rattle.one_pass.proofs.TextOrders.{syntax-there, offset-end, offset-start}

pub returns-clause-is : goal.returns-clause-is
returns-clause-is c =
    let root = c.args.root.now in
    let change = c.args.change.now in
    let path = c.in_ok-from_slice.ensures.items ∙ c.aim_path-path.ensures in
    let there = syntax-there root (aim_path change) c.in-Some.element (sym (c.in_ok-element.ensures.ok ∙ ap (syntax_at root) path) ∙ c.in-Some.is) in
    let not_after = λ (h : aim change ≡ AfterElement (aim_path change)). false≢true (sym c.if-is_after.false ∙ c.is_after.ensures.1 (h ∙ ap AfterElement (sym c.aim_path-path.ensures))) in
    c.text_start.ensures ∙ ap (λ e. start e.root e.path) there ∙ sym (offset-start root change not_after)

pub returns-then-is_after-clause-small : goal.returns-then-is_after-clause-small
returns-then-is_after-clause-small c = c.text_end-end.ensures.fits

pub returns-then-is_after-clause-is : goal.returns-then-is_after-clause-is
returns-then-is_after-clause-is c =
    let root = c.args.root.now in
    let change = c.args.change.now in
    let path = c.in_ok-from_slice.ensures.items ∙ c.aim_path-path.ensures in
    let there = syntax-there root (aim_path change) c.in-Some.element (sym (c.in_ok-element.ensures.ok ∙ ap (syntax_at root) path) ∙ c.in-Some.is) in
    let after = c.is_after.ensures.0 c.if-is_after.true ∙ ap AfterElement c.aim_path-path.ensures in
    c.text_end-end.ensures.end ∙ ap end_of there ∙ sym (offset-end root change after)
