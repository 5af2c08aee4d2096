use Rattle.std.specs.Prelude.{ℕ, true, false, ◌||◌, List, slice_get, Option, None, Some, option_map}
use Rattle.std.specs.List.{list_any, enumerate_from}
use Rattle.std.proofs.Common.{◌≡◌, ◌+◌, ◌<◌, [], ◌∷◌, suc, length, get_or, drop, filter, refl, ap, sym, subst, ◌∙◌, arith, drop-cons}
use Rattle.std.proofs.lemmas.Bool.{false≢true}
use Rattle.std.proofs.lemmas.List.{drop_all}
use Rattle.std.proofs.lemmas.Option.{none-some, same_Some, slice_get-map, slice_get-get_or, slice_get_within}
use Rattle.cst_core.specs.Path.{Path, has_path}
use Rattle.edit_change.specs.Aim.{Aim, FirstIn, AfterElement, Over, replaces}
use Rattle.edit_change.specs.Change.{targets}
use Rattle.edit_change.specs.ChangeAim.{aim}
use Rattle.edit_change.specs.Fits.{Fits}
use Rattle.edit_change.specs.Nesting.{is_independent}
use Rattle.edit_change.specs.NewTree.{independents}
use Rattle.edit_change.specs.PositionForm.{FirstChild, After}
use Rattle.edit_change.specs.Rewriting.{NumberedAim, is_replaced}
use Rattle.edit_change.specs.inner.Aimed.{aims_of, numbered}
use Rattle.edit_change.specs.declared.aimed.Aimed.{Aimed}
use Rattle.edit_change.specs.declared.aimed.AimForm.TheVariants as form
use Rattle.edit_change.specs.declared.change.Change.{Change}
use Rattle.edit_change.specs.declared.change.Change.TheVariants.{Insert, InsertAll, Replace, ReplaceWithMany, ReplaceAll}
use Rattle.edit_change.proofs.Clashes.{at-index}
use Rattle.edit_change.proofs.Lists.{all_at, all_filter, all_enumerated}
use Rattle.edit_change.proofs.RootAlone.{root-alone}
use Rattle.one_pass.proofs.Rooted.{stays-a-node, takes-its-place}
use Rattle.one_pass.proofs.rewriting.root_replacement.Goals as goal

abbrev none : Aimed
none = record { change = 0; path = record { ref_ptr = (0, 0); now = [] }; form = form.FirstIn }

-- ---- an aim over the top
root-among : (d : Change) → replaces [] (aim d) ≡ true → has_path (targets d) [] ≡ true
root-among (Insert (FirstChild n) e) h = absurd (false≢true h)
root-among (Insert (After f) e) h = absurd (false≢true h)
root-among (InsertAll (FirstChild n) es) h = absurd (false≢true h)
root-among (InsertAll (After f) es) h = absurd (false≢true h)
root-among (Replace t e) h = h
root-among (ReplaceWithMany t es) h = h
root-among (ReplaceAll first last es) h = h

-- ---- the change of an aim
of-change : (cs : List Change) (k : ℕ) (x : NumberedAim) → slice_get (independents cs) k ≡ Some x → (d : Change) × (slice_get cs x.0 ≡ Some d) × (x.1 ≡ aim d)
of-change cs k x there = go (slice_get ds k) refl (sym (slice_get-map (λ (d : ℕ × Change). (d.0, aim d.1)) ds k) ∙ there)
  where
    ds : List (ℕ × Change)
    ds = filter (λ (d : ℕ × Change). is_independent cs d.1) (enumerate_from 0 cs)

    go : (o : Option (ℕ × Change)) → slice_get ds k ≡ o → option_map (λ (d : ℕ × Change). (d.0, aim d.1)) o ≡ Some x → (d : Change) × (slice_get cs x.0 ≡ Some d) × (x.1 ≡ aim d)
    go None at e = absurd (none-some x e)
    go (Some d) at e =
        let same = same_Some (d.0, aim d.1) x e in
        let stands = (all_at (λ (i : ℕ × Change). (slice_get cs i.0 ≡ Some i.1) × (is_independent cs i.1 ≡ true)) ds k d (all_filter (λ (i : ℕ × Change). slice_get cs i.0 ≡ Some i.1) (λ (i : ℕ × Change). is_independent cs i.1) (enumerate_from 0 cs) (all_enumerated cs)) at).0 in
        (d.1, ap (λ (y : NumberedAim). slice_get cs y.0) (sym same) ∙ stands, ap (λ (y : NumberedAim). y.1) (sym same))

replacing : (cs : List Change) (xs : List Aimed) (k : ℕ) → k < length xs → aims_of xs ≡ independents cs → replaces [] (numbered (get_or xs k none)).1 ≡ true → (d : Change) × (slice_get cs (get_or xs k none).change ≡ Some d) × (has_path (targets d) [] ≡ true)
replacing cs xs k l are h =
    let x = get_or xs k none in
    let at : slice_get (independents cs) k ≡ Some (numbered x) = ap (λ ds. slice_get ds k) (sym are) ∙ slice_get-map numbered xs k ∙ ap (option_map numbered) (slice_get-get_or xs k none l) in
    let it = of-change cs k (numbered x) at in
    (it.0, it.1, root-among it.0 (ap (replaces []) (sym it.2) ∙ h))

-- ---- an aim that leaves the top
passed : (xs : List Aimed) (k : ℕ) → k < length xs → replaces [] (numbered (get_or xs k none)).1 ≡ false → is_replaced (aims_of (drop (suc k) xs)) [] ≡ is_replaced (aims_of (drop k xs)) []
passed xs k l h =
    let rest = is_replaced (aims_of (drop (suc k) xs)) [] in
    sym (ap (λ ys. is_replaced (aims_of ys) []) (drop-cons xs k none l) ∙ ap (λ b. b || rest) h)

pub loop-aim-preserved : goal.loop-aim-preserved
loop-aim-preserved c =
    let x = get_or c.args.aims.now c.loop-aim.aim-index none in
    let no = sym c.replaces.ensures ∙ c.if-replaces.false in
    let next : c.loop-aim.aim-index + 1 ≡ suc c.loop-aim.aim-index = omega arith in
    ap (λ n. is_replaced (aims_of (drop n c.args.aims.now)) []) next ∙ passed c.args.aims.now c.loop-aim.aim-index c.loop-aim-test.true no ∙ c.loop-aim.invariant

pub bounds-changes-aim : goal.bounds-changes-aim
bounds-changes-aim c =
    let cs = c.args.changes.now in
    let xs = c.args.aims.now in
    let k = c.loop-aim.aim-index in
    let x = get_or xs k none in
    let it = replacing cs xs k c.loop-aim-test.true c.requires.aims (sym c.replaces.ensures ∙ c.if-replaces.true) in
    slice_get_within cs x.change it.0 it.1

pub offset_bounds-changes-aim : goal.offset_bounds-changes-aim
offset_bounds-changes-aim c =
    let cs = c.args.changes.now in
    let xs = c.args.aims.now in
    let k = c.loop-aim.aim-index in
    let x = get_or xs k none in
    let it = replacing cs xs k c.loop-aim-test.true c.requires.aims (sym c.replaces.ensures ∙ c.if-replaces.true) in
    let within : x.change < length cs = slice_get_within cs x.change it.0 it.1 in
    omega (arith, within, c.well_formed)

pub node_for_root-requires-clause-fits : goal.node_for_root-requires-clause-fits
node_for_root-requires-clause-fits c =
    let cs = c.args.changes.now in
    let xs = c.args.aims.now in
    let k = c.loop-aim.aim-index in
    let x = get_or xs k none in
    let it = replacing cs xs k c.loop-aim-test.true c.requires.aims (sym c.replaces.ensures ∙ c.if-replaces.true) in
    let d = c.index-changes-aim.result in
    (c.args.root.now, subst (Fits c.args.root.now) (sym c.index-changes-aim.is) (c.requires.fit x.change d (slice_get_within cs x.change it.0 it.1)))

pub node_for_root-requires-clause-root : goal.node_for_root-requires-clause-root
node_for_root-requires-clause-root c =
    let cs = c.args.changes.now in
    let xs = c.args.aims.now in
    let k = c.loop-aim.aim-index in
    let x = get_or xs k none in
    let it = replacing cs xs k c.loop-aim-test.true c.requires.aims (sym c.replaces.ensures ∙ c.if-replaces.true) in
    let d = c.index-changes-aim.result in
    let at = at-index cs x.change d (slice_get_within cs x.change it.0 it.1) c.index-changes-aim.is in
    ap (λ (e : Change). has_path (targets e) []) (same_Some d it.0 (sym at ∙ it.1)) ∙ it.2

pub returns-then-replaces-clause-alone : goal.returns-then-replaces-clause-alone
returns-then-replaces-clause-alone c =
    let cs = c.args.changes.now in
    let xs = c.args.aims.now in
    let k = c.loop-aim.aim-index in
    let x = get_or xs k none in
    let it = replacing cs xs k c.loop-aim-test.true c.requires.aims (sym c.replaces.ensures ∙ c.if-replaces.true) in
    root-alone cs x.change it.0 c.requires.apart it.1 it.2

pub returns-then-replaces-clause-there : goal.returns-then-replaces-clause-there
returns-then-replaces-clause-there c =
    let cs = c.args.changes.now in
    let xs = c.args.aims.now in
    let k = c.loop-aim.aim-index in
    let x = get_or xs k none in
    let it = replacing cs xs k c.loop-aim-test.true c.requires.aims (sym c.replaces.ensures ∙ c.if-replaces.true) in
    slice_get_within cs x.change it.0 it.1

pub returns-then-replaces-clause-node : goal.returns-then-replaces-clause-node
returns-then-replaces-clause-node c =
    let cs = c.args.changes.now in
    let xs = c.args.aims.now in
    let k = c.loop-aim.aim-index in
    let x = get_or xs k none in
    let it = replacing cs xs k c.loop-aim-test.true c.requires.aims (sym c.replaces.ensures ∙ c.if-replaces.true) in
    let d = c.index-changes-aim.result in
    let at = at-index cs x.change d (slice_get_within cs x.change it.0 it.1) c.index-changes-aim.is in
    let there = ap (λ (e : Change). has_path (targets e) []) (same_Some d it.0 (sym at ∙ it.1)) ∙ it.2 in
    takes-its-place cs c.args.root.now x.change d c.requires.apart at there (c.node_for_root.result.now, c.node_for_root.ensures.brought, c.node_for_root.ensures.node)

pub returns-clause-alone : goal.returns-clause-alone
returns-clause-alone c =
    let past : drop c.loop-aim.aim-index c.args.aims.now ≡ [] = drop_all c.loop-aim.aim-index c.args.aims.now (omega arith) in
    ap (λ ds. is_replaced ds []) (sym c.requires.aims) ∙ sym c.loop-aim.invariant ∙ ap (λ xs. is_replaced (aims_of xs) []) past

pub returns-clause-node : goal.returns-clause-node
returns-clause-node c = stays-a-node c.args.changes.now c.args.root.now c.requires.node (returns-clause-alone c)
