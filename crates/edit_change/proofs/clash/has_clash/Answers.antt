use denote.Ref.{Bor}
use Rattle.std.specs.Prelude.{◌-◌, List, Bool, Option, option_map, length, slice_get}
use Rattle.std.proofs.Common.{◌≡◌, [], get_or, drop, ap, sym, subst, ◌∙◌, arith}
use Rattle.std.proofs.lemmas.List.{drop_all}
use Rattle.std.specs.Option.{option_map_or, option_copied}
use mathlib.Core.Logic.{inl, inr}
use Rattle.std.proofs.Common.{false}
use Rattle.cst_core.specs.Path.{last_item}
use Rattle.edit_change.specs.Rewriting.{NumberedAim}
use Rattle.edit_change.specs.inner.Aimed.{numbered, aims_of}
use Rattle.edit_change.specs.inner.Clash.{shares}
use Rattle.edit_change.specs.declared.aimed.Aimed.{Aimed}
use Rattle.edit_change.specs.declared.aimed.AimForm.TheVariants.{FirstIn}
use Rattle.edit_change.proofs.Scanning.{Scanned, scanned-none, scanned-end, skip-here, found-here, pushed-here}
use Rattle.edit_change.proofs.Sweeping.{last-is}
use Rattle.edit_change.proofs.clash.has_clash.Goals as goal
use Rattle.edit_change.proofs.clash.has_clash.Goals.{in-Some, in-None, then-aim-below+then-is_over+else-shared+in_ok-push, else-aim-below, else-aim-below-via-then-aim-below+else-is_over, else-aim-below-via-else-aim-below}

abbrev none : Aimed
none = record { change = 0; path = record { ref_ptr = (0, 0); now = [] }; form = FirstIn }

-- whether the last that is open shares a target with an aim, by what `last` gives
shared-last : (regions : List Aimed) (next : Aimed) (r : Option (Bor Aimed)) (s : Bool) → option_copied r ≡ slice_get regions (length regions - 1) → s ≡ option_map_or (λ (o : NumberedAim). shares o.1 (numbered next).1) (option_map (λ a. numbered a.now) r) false → s ≡ option_map_or (λ (o : NumberedAim). shares o.1 (numbered next).1) (last_item (aims_of regions)) false
shared-last regions next r s is told =
    told ∙ ap (λ i. option_map_or (λ (o : NumberedAim). shares o.1 (numbered next).1) i false) (last-is regions r is)

pub loop-aim-init : goal.loop-aim-init
loop-aim-init c = λ cs sorted.
    subst (λ xs. Scanned cs c.args.below (aims_of xs) (aims_of c.args.aims.now)) (sym c.new-open.ensures.items) (scanned-none cs c.args.below (aims_of c.args.aims.now) sorted)

pub returns-then-shared : goal.returns-then-shared
returns-then-shared c = λ cs sorted.
    let next = get_or c.args.aims.now c.loop-aim.aim-index none in
    found-here cs c.args.below c.args.aims.now c.loop-aim.aim-index none c.loop-aim-test.true c.loop-aim.open.items (c.loop-aim.invariant cs sorted) c.if-aim-below.true (sym c.is_over.ensures ∙ c.if-is_over.true) c.close.new.regions.items c.close.ensures (sym (shared-last c.close.new.regions.items next c.last.result c.match-last.shared (c.last.ensures.value ∙ ap (λ xs. slice_get xs (length xs - 1)) c.deref.ensures.value) (elim c.match-last.branch [
      | in-Some w ↦ w.shared-is ∙ w.shares-shared.ensures ∙ ap (λ r. option_map_or (λ (o : NumberedAim). shares o.1 (numbered next).1) (option_map (λ a. numbered a.now) r) false) (sym w.in-Some.is)
      | in-None w ↦ w.shared-is ∙ ap (λ r. option_map_or (λ (o : NumberedAim). shares o.1 (numbered next).1) (option_map (λ a. numbered a.now) r) false) (sym w.in-None.is)
    ])) ∙ c.if-shared.true)

pub loop-aim-preserved : goal.loop-aim-preserved
loop-aim-preserved c = λ cs sorted.
    let next = get_or c.args.aims.now c.loop-aim.aim-index none in
    elim c.if-aim-below.branch [
      | then-aim-below+then-is_over+else-shared+in_ok-push w ↦
          pushed-here cs c.args.below c.args.aims.now c.loop-aim.aim-index none c.loop-aim-test.true c.loop-aim.open.items (c.loop-aim.invariant cs sorted) w.if-aim-below.true (sym w.is_over.ensures ∙ w.if-is_over.true) w.close.new.regions.items w.close.ensures c.if-aim-below.open.items (sym (shared-last w.close.new.regions.items next w.last.result w.match-last.shared (w.last.ensures.value ∙ ap (λ xs. slice_get xs (length xs - 1)) w.deref.ensures.value) (elim w.match-last.branch [
            | in-Some v ↦ v.shared-is ∙ v.shares-shared.ensures ∙ ap (λ r. option_map_or (λ (o : NumberedAim). shares o.1 (numbered next).1) (option_map (λ a. numbered a.now) r) false) (sym v.in-Some.is)
            | in-None v ↦ v.shared-is ∙ ap (λ r. option_map_or (λ (o : NumberedAim). shares o.1 (numbered next).1) (option_map (λ a. numbered a.now) r) false) (sym v.in-None.is)
          ])) ∙ w.if-shared.false) (ap (λ v. v.items) w.open-is ∙ w.in_ok-push.ensures.items)
      | else-aim-below w ↦ elim w.else-aim-below.branch [
        | else-aim-below-via-then-aim-below+else-is_over v ↦ skip-here cs c.args.below c.args.aims.now c.loop-aim.aim-index none c.loop-aim-test.true c.loop-aim.open.items (c.loop-aim.invariant cs sorted) c.if-aim-below.open.items (ap (λ v. v.items) w.open-is) (inr (sym v.is_over.ensures ∙ v.if-is_over.false))
        | else-aim-below-via-else-aim-below v ↦ skip-here cs c.args.below c.args.aims.now c.loop-aim.aim-index none c.loop-aim-test.true c.loop-aim.open.items (c.loop-aim.invariant cs sorted) c.if-aim-below.open.items (ap (λ v. v.items) w.open-is) (inl v.if-aim-below.false)
      ]
    ]

pub returns : goal.returns
returns c = λ cs sorted.
    let past : drop c.loop-aim.aim-index c.args.aims.now ≡ [] = drop_all c.loop-aim.aim-index c.args.aims.now (omega arith) in
    scanned-end cs c.args.below (aims_of c.loop-aim.open.items) (subst (λ xs. Scanned cs c.args.below (aims_of c.loop-aim.open.items) (aims_of xs)) past (c.loop-aim.invariant cs sorted))
