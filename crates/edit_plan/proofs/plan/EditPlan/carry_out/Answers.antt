use Rattle.std.proofs.Common.{◌<◌, ◌∙◌, length, subst, sym, ap, arith}
use Rattle.edit_change.specs.Fits.{Fits}
use Rattle.std.specs.Prelude.{All}
use Rattle.edit_change.specs.inner.OwnerPlaces.{owner_at, places_in}
use Rattle.edit_plan.proofs.RunFacts.{carry-within, carry-can, carry-running, carry-counts, carry-aims}
use Rattle.edit_plan.proofs.plan.EditPlan.carry_out.Goals as goal

pub owner_of-owner-requires-clause-there : goal.owner_of-owner-requires-clause-there
owner_of-owner-requires-clause-there c =
    let within = carry-within _ _ c.self.view_is _ c.requires.running c.args.change c.requires.ready in
    subst (λ cs. c.args.change < length cs) (sym c.deref.ensures.value) within

pub staged_path-requires-clause-there : goal.staged_path-requires-clause-there
staged_path-requires-clause-there c =
    let within = carry-within _ _ c.self.view_is _ c.requires.running c.args.change c.requires.ready in
    subst (λ cs. c.args.change < length cs) (sym c.deref-3.ensures.value) within

pub staged_path-requires-clause-fit : goal.staged_path-requires-clause-fit
staged_path-requires-clause-fit c =
    (c.self.inside.root, subst (λ cs. All (Fits c.self.inside.root) cs) (sym c.deref-3.ensures.value) c.self.invariant.is_plan.fit)

pub staged_path-requires-clause-owner : goal.staged_path-requires-clause-owner
staged_path-requires-clause-owner c =
    c.owner_of-owner.ensures.owner ∙ ap (λ cs. owner_at cs c.args.change) (c.deref.ensures.value ∙ sym c.deref-3.ensures.value)

pub index-requires : goal.index-requires
index-requires c =
    let within = carry-within _ _ c.self.view_is _ c.requires.running c.args.change c.requires.ready in
    let long = ap length c.deref-3.ensures.value in
    omega (arith, within, long, c.deref-3.ensures.len)

pub step-requires-clause-owner : goal.step-requires-clause-owner
step-requires-clause-owner c =
    c.owner_of-owner.ensures.owner ∙ ap (λ cs. owner_at cs c.args.change) (c.deref.ensures.value ∙ sym c.deref-6.ensures.value)

pub step-requires-clause-can : goal.step-requires-clause-can
step-requires-clause-can c =
    let within = carry-within _ _ c.self.view_is _ c.requires.running c.args.change c.requires.ready in
    let aims = carry-aims c.self.inside.changes.items _ c.self.inside.places.items _ c.args.change _ _ _ _ within c.deref-3.ensures.value c.deref-4.ensures.value c.in_ok-path.ensures c.index.ensures c.deref-5.ensures.value c.numbered_aim_from-aim.ensures in
    carry-can _ _ c.self.view_is _ c.requires.running c.args.change c.requires.ready (places_in c.self.inside.places.items) c.self.invariant.placed _ aims _ c.deref-6.ensures.value

pub returns-clause-running : goal.returns-clause-running
returns-clause-running c =
    let within = carry-within _ _ c.self.view_is _ c.requires.running c.args.change c.requires.ready in
    let aims = carry-aims c.self.inside.changes.items _ c.self.inside.places.items _ c.args.change _ _ _ _ within c.deref-3.ensures.value c.deref-4.ensures.value c.in_ok-path.ensures c.index.ensures c.deref-5.ensures.value c.numbered_aim_from-aim.ensures in
    carry-running _ _ c.self.view_is _ c.requires.running c.args.change c.requires.ready (places_in c.self.inside.places.items) c.self.invariant.placed _ aims _ c.deref-6.ensures.value c.agree_on_places.ensures c.step.new.self c.step.result c.step.ensures.done c.step.ensures.list c.step.ensures.refused c.step.ensures.refused_list

pub returns-clause-count : goal.returns-clause-count
returns-clause-count c =
    let within = carry-within _ _ c.self.view_is _ c.requires.running c.args.change c.requires.ready in
    let aims = carry-aims c.self.inside.changes.items _ c.self.inside.places.items _ c.args.change _ _ _ _ within c.deref-3.ensures.value c.deref-4.ensures.value c.in_ok-path.ensures c.index.ensures c.deref-5.ensures.value c.numbered_aim_from-aim.ensures in
    carry-counts _ _ c.self.view_is _ c.requires.running c.args.change c.requires.ready (places_in c.self.inside.places.items) c.self.invariant.placed _ aims _ c.deref-6.ensures.value c.agree_on_places.ensures c.step.new.self c.keep_shapes.ensures c.step.result c.step.ensures.count
