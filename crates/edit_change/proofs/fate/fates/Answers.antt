use Rattle.std.proofs.Common.{◌≡◌, ◌<◌, [], length, cond, get_or, drop, ap, ap₂, sym, subst, ◌∙◌, arith, slice_get}
use Rattle.std.specs.Prelude.{◌-◌}
use Rattle.std.proofs.lemmas.List.{drop_all, length-replicate}
use Rattle.cst_core.specs.Path.{last_item}
use Rattle.edit_change.specs.Change.{targets}
use Rattle.edit_change.specs.inner.Aimed.{aims_of}
use Rattle.edit_change.specs.inner.Open.{inside_last}
use Rattle.edit_change.specs.declared.aimed.Aimed.{Aimed}
use Rattle.edit_change.specs.declared.aimed.AimForm.TheVariants.{FirstIn}
use Rattle.edit_change.proofs.Clashes.{at-index}
use Rattle.edit_change.proofs.Sweeping.{Swept, swept-none, swept-end, swept-there, swept-here, swept-with, swept-without, last-is, last-there}
use Rattle.edit_change.proofs.fate.fates.Goals as goal
use Rattle.edit_change.proofs.fate.fates.Goals.{then-has_region+in_ok-push, else-has_region}

abbrev none : Aimed
none = record { change = 0; path = record { ref_ptr = (0, 0); now = [] }; form = FirstIn }

pub loop-aim-init : goal.loop-aim-init
loop-aim-init c =
    let long : length c.in_ok-fates.fates.items ≡ length c.args.changes.now = ap length (c.in_ok-fates.ensures.items_if_clones_equal (λ y h. h)) ∙ simp length-replicate in
    subst (λ xs. Swept c.args.changes.now c.in_ok-fates.fates.items (aims_of xs) (aims_of c.args.aims.now)) (sym c.new-open.ensures.items) (swept-none c.args.changes.now c.in_ok-fates.fates.items (aims_of c.args.aims.now) c.requires.sorted long)

pub bounds-changes-aim : goal.bounds-changes-aim
bounds-changes-aim c = swept-there c.args.aims.now c.loop-aim.aim-index none c.loop-aim-test.true c.args.changes.now c.loop-aim.fates.items (aims_of c.loop-aim.open.items) c.loop-aim.invariant

pub offset_bounds-changes-aim : goal.offset_bounds-changes-aim
offset_bounds-changes-aim c =
    let l = swept-there c.args.aims.now c.loop-aim.aim-index none c.loop-aim-test.true c.args.changes.now c.loop-aim.fates.items (aims_of c.loop-aim.open.items) c.loop-aim.invariant in
    omega (arith, l)

pub fate_inside-requires-clause-there : goal.fate_inside-requires-clause-there
fate_inside-requires-clause-there c =
    let cs = c.args.changes.now in
    let is_c = at-index cs (get_or c.args.aims.now c.loop-aim.aim-index none).change c.index-changes-aim.result (bounds-there c) c.index-changes-aim.is in
    let here = swept-here c.args.aims.now c.loop-aim.aim-index none c.loop-aim-test.true cs c.requires.fit.0 c.requires.fit.1 c.requires.apart c.loop-aim.fates.items c.index-changes-aim.result is_c c.loop-aim.open.items c.close.new.regions.items _ c.loop-aim.invariant c.innermost.ensures c.close.ensures in
    last-there cs c.close.new.regions.items c.last.result here.of_open (c.last.ensures.value ∙ ap (λ xs. slice_get xs (length xs - 1)) c.deref-in-loop-aim.ensures.value)
  where
    bounds-there : (c : goal.After-last) → (get_or c.args.aims.now c.loop-aim.aim-index none).change < length c.args.changes.now
    bounds-there c = swept-there c.args.aims.now c.loop-aim.aim-index none c.loop-aim-test.true c.args.changes.now c.loop-aim.fates.items (aims_of c.loop-aim.open.items) c.loop-aim.invariant

pub index_mut-requires : goal.index_mut-requires
index_mut-requires c =
    let l = swept-there c.args.aims.now c.loop-aim.aim-index none c.loop-aim-test.true c.args.changes.now c.loop-aim.fates.items (aims_of c.loop-aim.open.items) c.loop-aim.invariant in
    let long = c.loop-aim.invariant.long in
    let same = ap length c.deref.ensures.value in
    omega (arith, l, long, same, c.deref.ensures.len)

pub loop-aim-preserved : goal.loop-aim-preserved
loop-aim-preserved c =
    let cs = c.args.changes.now in
    let aims = c.args.aims.now in
    let k = c.loop-aim.aim-index in
    let change = c.index-changes-aim.result in
    let fates = c.loop-aim.fates.items in
    let closed = c.close.new.regions.items in
    let l = swept-there aims k none c.loop-aim-test.true cs fates (aims_of c.loop-aim.open.items) c.loop-aim.invariant in
    let is_c = at-index cs (get_or aims k none).change change l c.index-changes-aim.is in
    let told : c.fate_inside.result ≡ inside_last cs fates (last_item (aims_of closed)) = c.fate_inside.ensures ∙ ap₂ (inside_last cs) c.deref.ensures.value (last-is closed c.last.result (c.last.ensures.value ∙ ap (λ xs. slice_get xs (length xs - 1)) c.deref-in-loop-aim.ensures.value)) in
    elim c.if-has_region.branch [
      | then-has_region+in_ok-push w ↦
          swept-with aims k none c.loop-aim-test.true cs c.requires.fit.0 c.requires.fit.1 c.requires.apart fates change is_c c.loop-aim.open.items closed _ c.loop-aim.invariant c.innermost.ensures c.close.ensures c.fate_inside.result c.if-has_region.open.items told (ap (λ v. v.items) w.open-is ∙ w.in_ok-push.ensures.items) (c.has_region.ensures ∙ ap (λ b. cond b (targets change) []) w.if-has_region.true)
      | else-has_region w ↦
          swept-without aims k none c.loop-aim-test.true cs c.requires.fit.0 c.requires.fit.1 c.requires.apart fates change is_c c.loop-aim.open.items closed _ c.loop-aim.invariant c.innermost.ensures c.close.ensures c.fate_inside.result c.if-has_region.open.items told (ap (λ v. v.items) w.open-is) (c.has_region.ensures ∙ ap (λ b. cond b (targets change) []) w.if-has_region.false)
    ]

pub returns : goal.returns
returns c =
    let past : drop c.loop-aim.aim-index c.args.aims.now ≡ [] = drop_all c.loop-aim.aim-index c.args.aims.now (omega arith) in
    swept-end c.args.changes.now c.loop-aim.fates.items (aims_of c.loop-aim.open.items) (subst (λ xs. Swept c.args.changes.now c.loop-aim.fates.items (aims_of c.loop-aim.open.items) (aims_of xs)) past c.loop-aim.invariant)
