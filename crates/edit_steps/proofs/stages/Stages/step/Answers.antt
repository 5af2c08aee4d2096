use Rattle.std.proofs.Common.{arith}
use Rattle.std.proofs.lemmas.Option.{slice_get_within}
use Rattle.edit_steps.proofs.StepOfStages.{payload-read, splice-can, splice-counts, splice-takes, splice-rooted, splice-top, splice-kept, waits-there}
use Rattle.edit_steps.proofs.stages.Stages.step.Goals as goal

pub offset_bounds-changes-number : goal.offset_bounds-changes-number
offset_bounds-changes-number c = omega (arith, slice_get_within c.args.changes.now c.args.number _ c.requires.can.5.there)

pub bounds-changes-number : goal.bounds-changes-number
bounds-changes-number c = slice_get_within c.args.changes.now c.args.number _ c.requires.can.5.there

pub index-requires : goal.index-requires
index-requires c =
    let way = c.requires.can.5 in
    omega (arith, way.stages.trees.long, slice_get_within c.args.changes.now c.args.number _ way.there)

pub put-requires-clause-can : goal.put-requires-clause-can
put-requires-clause-can c =
    let way = c.requires.can in
    splice-can _ _ _ _ _ _ _ _ _ _ way.5 c.requires.owner

pub put-requires-clause-fits : goal.put-requires-clause-fits
put-requires-clause-fits c =
    let way = c.requires.can in
    let given = payload-read _ _ _ _ _ _ _ _ _ _ _ _ way.5 c.index.ensures c.in_ok-given.ensures in
    (way.3, (splice-rooted _ _ _ _ _ _ _ _ _ _ _ way.5 c.index-changes-number.is given).0)

pub put-requires-clause-node : goal.put-requires-clause-node
put-requires-clause-node c =
    let way = c.requires.can in
    let given = payload-read _ _ _ _ _ _ _ _ _ _ _ _ way.5 c.index.ensures c.in_ok-given.ensures in
    (splice-rooted _ _ _ _ _ _ _ _ _ _ _ way.5 c.index-changes-number.is given).1

pub put-requires-clause-top : goal.put-requires-clause-top
put-requires-clause-top c =
    let way = c.requires.can in
    splice-top _ _ _ _ _ _ _ _ _ _ _ way.5 c.requires.owner c.index-changes-number.is

pub returns-in_err-put-clause-refused : goal.returns-in_err-put-clause-refused
returns-in_err-put-clause-refused c =
    let way = c.requires.can in
    let can = splice-can _ _ _ _ _ _ _ _ _ _ way.5 c.requires.owner in
    splice-kept _ _ _ _ _ can c.in_err-put.ensures.refused c.in_err-put.ensures.refused_root c.in_err-put.ensures.waiting

pub done-requires : goal.done-requires
done-requires c =
    let way = c.requires.can in
    waits-there _ _ _ c.args.self.now c.put.new.self _ _ _ _ _ way.5 c.in_ok-put.ensures.waiting

pub returns-clause-done : goal.returns-clause-done
returns-clause-done c =
    let way = c.requires.can in
    let given = payload-read _ _ _ _ _ _ _ _ _ _ _ _ way.5 c.index.ensures c.in_ok-given.ensures in
    splice-takes _ _ _ _ c.put.new.self _ _ _ _ c.requires.owner c.index-changes-number.is given c.in_ok-put.ensures.done c.in_ok-put.ensures.waiting c.in_ok-put.ensures.root c.done.ensures.waiting

pub returns-clause-count : goal.returns-clause-count
returns-clause-count c =
    λ places g done root d way.
    splice-counts _ _ _ c.args.self.now c.put.new.self _ c.requires.owner c.in_ok-put.ensures.count places g done root d way
