use Rattle.std.proofs.Common.{[], ◌++◌, map, ap, ap₂, sym, subst, ◌∙◌}
use Rattle.cst_core.specs.Element.{address}
use Rattle.cst_core.specs.SyntaxElement.{element_of}
use Rattle.cst_core.specs.GreenElement.{element_tree}
use Rattle.edit_change.specs.Rewriting.{rewritten}
use Rattle.edit_change.specs.Effort.{touched, parents_of}
use Rattle.one_pass.specs.inner.Built.{nodes_built, AreBuilt}
use Rattle.edit_change.specs.inner.Aimed.{aims_of}
use Rattle.one_pass.specs.inner.Marked.{marks_seen, InPathOrder, marked, mark_below, marks_of, wanted}
use Rattle.edit_change.specs.inner.KindOnly.{kind_only}
use Rattle.one_pass.specs.inner.Pass.{given_in}
use Rattle.edit_change.specs.TouchedNodes.{Raises}
use Rattle.edit_change.proofs.AlteredNodes.{on_ok-map, if_ok-map}
use Rattle.one_pass.proofs.Counted.{counts-at_most}
use Rattle.one_pass.proofs.TouchedNodes.{counts-touched}
use Rattle.one_pass.proofs.Counting.{raises-built}
use Rattle.one_pass.proofs.Registered.{sought-order}
use Rattle.one_pass.proofs.given_table.rewritten_element.Goals as goal

pub returns-clause-tree : goal.returns-clause-tree
returns-clause-tree c =
    if_ok-map _ _ c.rewrite_element.result (λ e is. is ∙ ap (rewritten kind_only (given_in c.args.given.now) (aims_of c.args.aims.now) []) c.in_ok-old.ensures) c.rewrite_element.ensures.tree

pub returns-clause-marks : goal.returns-clause-marks
returns-clause-marks c =
    on_ok-map c.rewrite_element.result (λ finds trees are.
    let same = ap₂ (λ ms t. marked (rewritten (wanted ms) trees (aims_of c.args.aims.now) [] t)) (ap (marks_seen 0) c.deref.ensures.value ∙ c.in_ok-sought.ensures) c.in_ok-old.ensures in
    finds trees are ∙ ap (λ ms. marks_of c.args.walk.now.found.items ++ map (mark_below c.args.walk.now.path.items) ms) same) c.rewrite_element.ensures.marks

pub returns-clause-count : goal.returns-clause-count
returns-clause-count c =
    let xs = c.args.aims.now in
    let aims = aims_of xs in
    let before = c.args.walk.now.builds in
    let after = c.rewrite_element.new.walk.builds in
    let old = c.in_ok-old.old in
    let own = element_tree old in
    on_ok-map c.rewrite_element.result (λ h. subst (λ t. Raises (AreBuilt aims t) (touched t (parents_of aims)) before after) c.in_ok-old.ensures (raises-built (AreBuilt aims own) (touched own (parents_of aims)) (nodes_built aims own) before after (counts-at_most xs old before after h) h (counts-touched xs old before after h))) c.rewrite_element.ensures.count

pub rewrite_element-requires : goal.rewrite_element-requires
rewrite_element-requires c =
    subst InPathOrder (sym (ap (marks_seen 0) c.deref.ensures.value ∙ c.in_ok-sought.ensures)) (sought-order (address (element_of c.args.element.now)) c.args.registered.now c.requires)
