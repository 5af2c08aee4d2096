use Rattle.std.specs.Prelude.{◌≡◌}
use Rattle.std.proofs.Common.{ap, ◌∙◌}
use Rattle.cst_core.specs.SyntaxElement.{child_nodes}
use Rattle.whitespace.proofs.ChildPairs.{InPairs, nodes_in, ahead, comes, along}
use Rattle.whitespace.proofs.child_pairs.children_builder.Goals as goal

pub returns-in-Ok-clause-accepted : goal.returns-in-Ok-clause-accepted
returns-in-Ok-clause-accepted c =
    let pairs : InPairs c.args.old.now c.args.new.now (child_nodes c.args.old.now) (child_nodes c.args.new.now) = nodes_in c.args.old.now c.args.new.now c.kind.ensures.form c.kind-2.ensures.form c.requires in
    let parent : c.new-builder.result.parent ≡ c.args.new.now = ap (λ b. b.parent) c.new-builder.ensures.empty ∙ c.in_ok-try_clone.ensures in
    ahead c.args.old.now c.args.new.now c.new-builder.result.parent c.deref.result.now c.deref-2.result.now parent (c.deref.ensures.value ∙ c.in_ok-inputs.ensures) (c.deref-2.ensures.value ∙ c.in_ok-outputs.ensures) pairs c.in-Ok.ensures.taken

pub of_pairs-requires : goal.of_pairs-requires
of_pairs-requires c =
    let pairs : InPairs c.args.old.now c.args.new.now (child_nodes c.args.old.now) (child_nodes c.args.new.now) = nodes_in c.args.old.now c.args.new.now c.kind.ensures.form c.kind-2.ensures.form c.requires in
    let parent : c.new-builder.result.parent ≡ c.args.new.now = ap (λ b. b.parent) c.new-builder.ensures.empty ∙ c.in_ok-try_clone.ensures in
    comes c.args.old.now c.args.new.now c.new-builder.result.parent c.deref.result.now c.deref-2.result.now parent (c.deref.ensures.value ∙ c.in_ok-inputs.ensures) (c.deref-2.ensures.value ∙ c.in_ok-outputs.ensures) pairs c.in-Err.error c.in-Err.ensures.refused

pub returns-clause-refused : goal.returns-clause-refused
returns-clause-refused c =
    let pairs : InPairs c.args.old.now c.args.new.now (child_nodes c.args.old.now) (child_nodes c.args.new.now) = nodes_in c.args.old.now c.args.new.now c.kind.ensures.form c.kind-2.ensures.form c.requires in
    let parent : c.new-builder.result.parent ≡ c.args.new.now = ap (λ b. b.parent) c.new-builder.ensures.empty ∙ c.in_ok-try_clone.ensures in
    along c.args.old.now c.args.new.now c.new-builder.result.parent c.deref.result.now c.deref-2.result.now parent (c.deref.ensures.value ∙ c.in_ok-inputs.ensures) (c.deref-2.ensures.value ∙ c.in_ok-outputs.ensures) pairs c.in-Err.error c.of_pairs.result c.in-Err.ensures.refused c.of_pairs.ensures
