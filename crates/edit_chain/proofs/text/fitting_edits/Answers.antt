use Rattle.std.proofs.Common.{◌<◌, ℕ, List, length, sym, subst, ◌∙◌}
use Rattle.cst_core.specs.Tree.{text}
use Rattle.cst_core.specs.Green.{length_limit}
use Rattle.cst_core.specs.Element.{subtree}
use Rattle.text_edit.specs.TextPiece.{applied}
use Rattle.edit_chain.proofs.TextOfSteps.{fits-told}
use Rattle.edit_chain.proofs.text.fitting_edits.Goals as goal

pub test_fit-requires-clause-short : goal.test_fit-requires-clause-short
test_fit-requires-clause-short c =
    let s = c.args.step.now in
    let own = text (subtree s.plan.root) in
    let slice = c.as_slice.result.now in
    let makes = c.text_edits_make_the_new_text.ensures.makes s.plan s.edit.new_root.number s.edit slice c.requires.planned c.requires.makes (c.in_ok-edits.ensures.edits slice c.as_slice.ensures.edits) in
    subst (λ es. length (applied es own) < length_limit) c.as_slice.ensures.edits (subst (λ (t : List ℕ). length t < length_limit) (sym makes) c.requires.short)

pub returns-clause-fitting : goal.returns-clause-fitting
returns-clause-fitting c =
    let s = c.args.step.now in
    let slice = c.as_slice.result.now in
    let are = c.in_ok-edits.ensures.edits slice c.as_slice.ensures.edits in
    let makes = c.text_edits_make_the_new_text.ensures.makes s.plan s.edit.new_root.number s.edit slice c.requires.planned c.requires.makes are in
    fits-told c.args.old.now s c.in_ok-edits.edits slice c.as_slice.ensures.edits (λ places there. sym c.as_slice.ensures.edits ∙ are places there) c.requires.makes.is_root makes c.in_ok-test_fit.ensures.same c.in_ok-test_fit.ensures.fit
