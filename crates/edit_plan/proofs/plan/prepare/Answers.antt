use Rattle.std.proofs.Common.{sym, subst, ◌∙◌}
use Rattle.edit_change.specs.inner.Aimed.{aims_of}
use Rattle.edit_change.specs.inner.DocumentOrder.{AreSorted}
use Rattle.edit_change.specs.inner.OwnerPlaces.{places_in}
use Rattle.edit_plan.specs.Plan.{BuildRefuses}
use Rattle.edit_plan.specs.declared.edit_error.EditError.TheVariants.{Memory}
use Rattle.edit_plan.specs.inner.PlanRun.{unregistered}
use Rattle.edit_plan.proofs.PromisesOfRuns.{err-gives}
use Rattle.edit_plan.proofs.plan.prepare.Goals as goal

pub sorted_aims-requires : goal.sorted_aims-requires
sorted_aims-requires c = λ k d l. (c.args.root.now, c.requires.fit k d l)

pub clash_of-requires-clause-fit : goal.clash_of-requires-clause-fit
clash_of-requires-clause-fit c = λ k d l. (c.args.root.now, c.requires.fit k d l)

pub returns-clause-planned : goal.returns-clause-planned
returns-clause-planned c =
    let cs = c.args.changes.now in
    let placed = c.in_ok-places.ensures.placed in
    record {
      is_plan = record {
        is_root = c.requires.is_root;
        is_node = c.kind.ensures.form;
        fit = c.requires.fit;
        apart = sym c.in_ok-first.ensures ∙ c.in_default.is;
        mapping_is = c.len.ensures.is_mapping;
        places = places_in c.in_ok-places.places.items;
        placed = placed;
      };
      order_is = c.in_ok-numbers.ensures cs (subst (λ xs. AreSorted cs (aims_of xs)) (sym c.deref-4.ensures.value) c.in_ok-aims.ensures);
      fates_are = c.in_ok-fates.ensures;
      long = c.in_ok-places.ensures.long;
      placed = placed;
    }

pub returns-in_err-aims-clause-refused : goal.returns-in_err-aims-clause-refused
returns-in_err-aims-clause-refused c =
    err-gives (BuildRefuses (unregistered c.args.root.now c.args.changes.now c.args.mapping.now)) c.from_residual.result Memory c.from_residual.ensures.1 tt

pub clash_of-requires-clause-sorted : goal.clash_of-requires-clause-sorted
clash_of-requires-clause-sorted c =
    subst (λ xs. AreSorted c.args.changes.now (aims_of xs)) (sym c.deref.ensures.value) c.in_ok-aims.ensures

pub returns-in_err-first-clause-refused : goal.returns-in_err-first-clause-refused
returns-in_err-first-clause-refused c =
    err-gives (BuildRefuses (unregistered c.args.root.now c.args.changes.now c.args.mapping.now)) c.from_residual-in_err-first.result Memory c.from_residual-in_err-first.ensures.1 tt

pub returns-in-Some-clause-refused : goal.returns-in-Some-clause-refused
returns-in-Some-clause-refused c = sym c.in_ok-first.ensures ∙ c.in-Some.is

pub fates-requires-clause-fit : goal.fates-requires-clause-fit
fates-requires-clause-fit c = (c.args.root.now, c.requires.fit)

pub fates-requires-clause-apart : goal.fates-requires-clause-apart
fates-requires-clause-apart c = sym c.in_ok-first.ensures ∙ c.in_default.is

pub fates-requires-clause-sorted : goal.fates-requires-clause-sorted
fates-requires-clause-sorted c =
    subst (λ xs. AreSorted c.args.changes.now (aims_of xs)) (sym c.deref-2.ensures.value) c.in_ok-aims.ensures

pub returns-in_err-fates-clause-refused : goal.returns-in_err-fates-clause-refused
returns-in_err-fates-clause-refused c =
    err-gives (BuildRefuses (unregistered c.args.root.now c.args.changes.now c.args.mapping.now)) c.from_residual-in_err-fates.result Memory c.from_residual-in_err-fates.ensures.1 tt

pub places-requires : goal.places-requires
places-requires c = c.deref-3.ensures.value ∙ c.in_ok-fates.ensures

pub returns-in_err-numbers-clause-refused : goal.returns-in_err-numbers-clause-refused
returns-in_err-numbers-clause-refused c =
    err-gives (BuildRefuses (unregistered c.args.root.now c.args.changes.now c.args.mapping.now)) c.from_residual-in_err-numbers.result Memory c.from_residual-in_err-numbers.ensures.1 tt
