use Rattle.std.proofs.Common.{◌≡◌, ◌<◌, ◌≤◌, ◌+◌, ◌-◌, ℕ, suc, List, Vec, map, drop, length, get_or, None, refl, arith, ap, sym, subst, ◌∙◌}
use Rattle.std.specs.Prelude.{sum_by, All}
use Rattle.std.proofs.Math.ListN.{length-set}
use Rattle.std.proofs.lemmas.Bool.{cases_lt}
use Rattle.std.proofs.lemmas.List.{at_drop_all}
use Rattle.std.proofs.lemmas.List.Sums.{sum_by-drop_more}
use Rattle.std.specs.Global.{Global}
use mathlib.Core.Logic.{inl, inr}
use Rattle.cst_core.specs.Path.{Path}
use Rattle.cst_core.specs.Element.{subtree}
use Rattle.edit_change.specs.Change.{payload}
use Rattle.edit_change.specs.NewTree.{payload_of, dependents}
use Rattle.edit_change.specs.TouchedNodes.{touched_in}
use Rattle.edit_change.specs.declared.change.Change.{Change}
use Rattle.one_pass.specs.declared.dependent.Dependent.{Dependent}
use Rattle.one_pass.specs.declared.marked_element.GivenTable.{GivenTable}
use Rattle.one_pass.specs.inner.Built.{AreBuilt}
use Rattle.one_pass.specs.inner.Pass.{AreMarked}
use Rattle.one_pass.specs.inner.Marks.{payload_sought}
use Rattle.one_pass.specs.inner.GivenTables.{ArePayloadsBuilt, CountsEach, each_rewritten}
use Rattle.one_pass.specs.inner.OwnerTables.{moved_dependent, AreDependents, IsGiven}
use Rattle.one_pass.proofs.EnteredBack.{EnteredFrom, begins, ends, number-there, count-all}
use Rattle.one_pass.proofs.Counting.{raises-none, raises-both, raises-weaker, raises-same, payload-at, by-number}
use Rattle.one_pass.proofs.EmptyLists.{empty-at}
use Rattle.one_pass.proofs.GivenEntered.{given-entered, given-past, owned-at}
use Rattle.one_pass.proofs.MarksEntered.{AreEntered, marks-begin, marks-entered, marks-end}
use Rattle.one_pass.proofs.given_table.given_table.Goals as goal

-- what a change owns
owned-there : (cs : List Change) (places : ℕ → Path) (table : List (Vec Dependent Global)) (o : ℕ) (v : Vec Dependent Global) (owned : List Dependent) → length table ≡ length cs → AreDependents cs places table → o < length cs → v ≡ get_or table o v → owned ≡ v.items → map moved_dependent owned ≡ dependents cs places o
owned-there cs places table o v owned long are l is seen =
    ap (map moved_dependent) seen ∙ sym (owned-at table o v (omega (arith, long, l)) is) ∙ are o

pub bounds-dependents-number : goal.bounds-dependents-number
bounds-dependents-number c =
    let within : c.loop-place.place - 1 < length c.args.order.now = omega (arith, c.loop-place-test.true, c.loop-place.auto.place) in
    omega (arith, number-there c.args.changes.now c.args.order.now c.requires.order (c.loop-place.place - 1) within, c.requires.long)

pub offset_bounds-dependents-number : goal.offset_bounds-dependents-number
offset_bounds-dependents-number c =
    let within : c.loop-place.place - 1 < length c.args.order.now = omega (arith, c.loop-place-test.true, c.loop-place.auto.place) in
    omega (arith, number-there c.args.changes.now c.args.order.now c.requires.order (c.loop-place.place - 1) within, c.requires.long, c.well_formed)

pub bounds-changes-number : goal.bounds-changes-number
bounds-changes-number c =
    let within : c.loop-place.place - 1 < length c.args.order.now = omega (arith, c.loop-place-test.true, c.loop-place.auto.place) in
    number-there c.args.changes.now c.args.order.now c.requires.order (c.loop-place.place - 1) within

pub offset_bounds-changes-number : goal.offset_bounds-changes-number
offset_bounds-changes-number c =
    let within : c.loop-place.place - 1 < length c.args.order.now = omega (arith, c.loop-place-test.true, c.loop-place.auto.place) in
    omega (arith, number-there c.args.changes.now c.args.order.now c.requires.order (c.loop-place.place - 1) within, c.well_formed)

pub index_mut-requires : goal.index_mut-requires
index_mut-requires c =
    let within : c.loop-place.place - 1 < length c.args.order.now = omega (arith, c.loop-place-test.true, c.loop-place.auto.place) in
    omega (arith, number-there c.args.changes.now c.args.order.now c.requires.order (c.loop-place.place - 1) within, c.loop-place.invariant.long, c.loop-place.given.entries.ok.0)

pub loop-place-init : goal.loop-place-init
loop-place-init c =
    let cs = c.args.changes.now in
    let order = c.args.order.now in
    let n : ℕ = length order in
    let past : length order ≤ n = omega arith in
    let lists = c.in_ok-empty_lists.field-0 in
    let table : GivenTable = record { entries = lists; top = None } in
    record {
      long = c.in_ok-empty_lists.ensures.size;
      top = refl;
      count = λ places are. raises-same (ArePayloadsBuilt cs places) 0 _ _ _ (sym (at_drop_all (sum_by (touched_in cs places)) order n past)) (raises-none (ArePayloadsBuilt cs places) c.args.builds.now (omega arith));
      filled = λ places are. begins (IsGiven cs places table) order n past;
      marks = λ places rs are sought. marks-begin rs cs places order n table past (empty-at (λ v. v.items) (λ v none. none) lists.items c.in_ok-empty_lists.ensures.empty);
    }

pub loop-place-preserved : goal.loop-place-preserved
loop-place-preserved c =
    let cs = c.args.changes.now in
    let order = c.args.order.now in
    let by = c.requires.order in
    let root = c.requires.fit.0 in
    let fit = c.requires.fit.1 in
    let k : ℕ = c.loop-place.place - 1 in
    let next : c.loop-place.place ≡ suc k = omega (arith, c.loop-place-test.true) in
    let within : k < length order = omega (arith, c.loop-place-test.true, c.loop-place.auto.place) in
    let o : ℕ = get_or order k 0 in
    let inside : o < length cs = number-there cs order by k within in
    let table = c.loop-place.given in
    let there : o < length table.entries.items = subst (λ n. o < n) (sym c.loop-place.invariant.long) inside in
    let change = c.index-changes-number.result in
    let brought : payload change ≡ payload_of cs o = sym (payload-at cs o change inside c.index-changes-number.is) in
    let v = c.in_ok-entry.entry in
    let owned = map moved_dependent c.as_slice-owned.result.now in
    let index = c.args.registered.now in
    let owns = λ (places : ℕ → Path) (are : AreDependents cs places c.args.dependents.now). owned-there cs places c.args.dependents.now o c.index-dependents-number.result c.as_slice-owned.result.now c.requires.long are inside c.index-dependents-number.is c.as_slice-owned.ensures.value in
    record {
      long = length-set table.entries.items o v ∙ c.loop-place.invariant.long;
      top = c.loop-place.invariant.top;
      count = λ places are.
          let f : ℕ → ℕ = touched_in cs places in
          let W = ArePayloadsBuilt cs places in
          let own = subst (λ es. CountsEach (dependents cs places o) es c.loop-place.builds c.given_by.new.builds) brought (subst (λ ds. CountsEach ds (payload change) c.loop-place.builds c.given_by.new.builds) (owns places are) c.in_ok-entry.ensures.count) in
          let one : c.loop-place.place ≡ k + 1 = omega (arith, next) in
          let before : ℕ = sum_by f (drop c.loop-place.place order) in
          let same : before + f o ≡ sum_by f (drop k order) = omega (arith, sum_by-drop_more f order k 0 within, ap (λ i. sum_by f (drop i order)) one) in
          raises-same W (before + f o) _ _ _ same (raises-both W before (f o) _ c.loop-place.builds _ (c.loop-place.invariant.count places are) (raises-weaker (All (λ e. AreBuilt (dependents cs places o) (subtree e)) (payload_of cs o)) W (f o) _ _ (λ w. w o) own));
      filled = λ places are. given-entered cs places root fit order k o table v owned by within refl there (owns places are) (c.in_ok-entry.ensures.trees ∙ ap (each_rewritten table owned) brought) (subst (EnteredFrom (IsGiven cs places table) order) next (c.loop-place.invariant.filled places are));
      marks = λ places rs are sought. marks-entered rs cs places root fit order k o index table _ v owned sought by within refl inside refl there c.loop-place.invariant.top refl (owns places are) (λ trees marked_are. subst (λ es. AreMarked None v.items (payload_sought index trees owned es)) brought (c.in_ok-entry.ensures.marks trees marked_are)) (subst (λ i. AreEntered rs cs places order i table) next (c.loop-place.invariant.marks places rs are sought));
    }

pub returns-clause-count : goal.returns-clause-count
returns-clause-count c = λ places are.
    let cs = c.args.changes.now in
    let f : ℕ → ℕ = touched_in cs places in
    raises-same (ArePayloadsBuilt cs places) _ _ _ _ (count-all cs c.args.order.now c.requires.order f c.loop-place.place c.loop-place-test.false ∙ by-number f 0 cs) (c.loop-place.invariant.count places are)

pub returns-clause-given : goal.returns-clause-given
returns-clause-given c = λ places are n.
    let cs = c.args.changes.now in
    let table = c.loop-place.given in
    elim (cases_lt n (length cs)) [
      | inl there ↦ ends cs c.args.order.now c.requires.order (IsGiven cs places table) c.loop-place.place c.loop-place-test.false (c.loop-place.invariant.filled places are) n there
      | inr past ↦ given-past cs places table n c.loop-place.invariant.long past
    ]

pub returns-clause-marks : goal.returns-clause-marks
returns-clause-marks c = λ places rs are sought. marks-end rs c.args.changes.now places c.args.order.now c.loop-place.place c.args.registered.now c.loop-place.given sought c.requires.order c.loop-place-test.false (c.loop-place.invariant.marks places rs are sought)
