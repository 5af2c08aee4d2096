use Rattle.std.proofs.Common.{◌≡◌, ◌<◌, ◌∷◌, [], ◌++◌, ℕ, suc, List, Vec, Some, length, get_or, map, refl, sym, subst, ap, ap₂, ◌∙◌, arith, length-append}
use Rattle.std.specs.Global.{Global}
use Rattle.std.specs.Prelude.{zero, option_to_list}
use Rattle.std.proofs.lemmas.List.{append-nil, map-id}
use Rattle.cst_core.specs.Element.{subtree}
use Rattle.cst_core.specs.Green.{branch_tree}
use Rattle.cst_core.specs.GreenElement.{element_tree}
use Rattle.edit_change.specs.Effort.{touched, parents_of}
use Rattle.edit_change.specs.NewTree.{independents}
use Rattle.edit_change.specs.inner.Aimed.{aims_of}
use Rattle.edit_change.specs.inner.KindOnly.{kind_only}
use Rattle.edit_change.specs.inner.OneNode.{IsOneNode}
use Rattle.edit_change.specs.inner.OwnerPlaces.{places_in}
use Rattle.edit_change.specs.Rewriting.{rewritten_whole}
use Rattle.edit_change.specs.Topmost.{paths_of}
use Rattle.edit_change.specs.TouchedNodes.{Raises}
use Rattle.one_pass.specs.declared.marked_element.GivenTable.{GivenTable}
use Rattle.one_pass.specs.inner.Built.{AreBuilt}
use Rattle.one_pass.specs.inner.Marked.{marked, marked_from, mark_below, marks_of}
use Rattle.one_pass.specs.inner.OwnerTables.{AreDependents}
use Rattle.one_pass.specs.inner.Pass.{given_in}
use Rattle.one_pass.specs.inner.Root.{FindsInRoot, IsAlone}
use Rattle.one_pass.specs.inner.Sought.{addresses, AreInOrder, IsTableOf}
use Rattle.one_pass.proofs.AllCounted.{all-counted}
use Rattle.one_pass.proofs.CopiesFound.{under}
use Rattle.one_pass.proofs.MadeOf.{is_made}
use Rattle.cst_core.specs.Tree.{is_token}
use Rattle.one_pass.proofs.Rooted.{if-given, not-token}
use Rattle.one_pass.proofs.rewriting.rewrite.Goals as goal

-- ---- of a list with one item more
front-at : {X : Type 0} (xs : List X) (x : X) (k : ℕ) (d : X) → k < length xs → get_or (xs ++ x ∷ []) k d ≡ get_or xs k d
front-at [] x k d l = absurd (omega (arith, l))
front-at (y ∷ xs) x zero d l = refl
front-at (y ∷ xs) x (suc k) d l = front-at xs x k d (omega (arith, l))

last-at : {X : Type 0} (xs : List X) (x : X) (k : ℕ) (d : X) → length xs ≡ k → get_or (xs ++ x ∷ []) k d ≡ x
last-at [] x zero d is = refl
last-at [] x (suc k) d is = absurd (omega (arith, is))
last-at (y ∷ xs) x zero d is = absurd (omega (arith, is))
last-at (y ∷ xs) x (suc k) d is = last-at xs x k d (omega (arith, is))

pub root_replacement-replacement-requires-clause-aims : goal.root_replacement-replacement-requires-clause-aims
root_replacement-replacement-requires-clause-aims c = ap aims_of c.deref-3.ensures.value ∙ c.in_ok-free.ensures.free

pub rewritten_root-requires-clause-one : goal.rewritten_root-requires-clause-one
rewritten_root-requires-clause-one c =
    let planned = c.args.planned in
    let places = places_in planned.places.now in
    let are : AreDependents planned.changes.now places c.deref.result.now = subst (AreDependents planned.changes.now places) (sym c.deref.ensures.value) c.in_ok-free.ensures.owned in
    let table : GivenTable = record { entries = c.in_ok-given.given.entries; top = Some (length c.args.registered.now) } in
    let told = c.root_replacement-replacement.ensures in
    if-given (independents planned.changes.now) table (subtree planned.root.now) c.root_replacement-replacement.result told.alone (told.node places table (c.in_ok-given.ensures.given places are))

pub unreachable-requires : goal.unreachable-requires
unreachable-requires c =
    let planned = c.args.planned in
    let places = places_in planned.places.now in
    let are : AreDependents planned.changes.now places c.deref.result.now = subst (AreDependents planned.changes.now places) (sym c.deref.ensures.value) c.in_ok-free.ensures.owned in
    let table : GivenTable = record { entries = c.in_ok-given.given.entries; top = Some (length c.args.registered.now) } in
    let aims = ap aims_of c.deref-4.ensures.value ∙ c.in_ok-free.ensures.free in
    let one = c.root_replacement-replacement.ensures.node places table (c.in_ok-given.ensures.given places are) in
    not-token (element_tree c.in_ok-made.made) (ap (λ e. is_token (element_tree e)) c.in_default.is) (subst IsOneNode (ap (λ ds. rewritten_whole kind_only (given_in table) ds (subtree planned.root.now)) (sym aims) ∙ c.in_ok-made.ensures.tree) one)

pub returns-clause-made : goal.returns-clause-made
returns-clause-made c =
    let planned = c.args.planned in
    let root = planned.root.now in
    let changes = planned.changes.now in
    let places = places_in planned.places.now in
    let es = c.args.registered.now in
    let are : AreDependents changes places c.deref.result.now = subst (AreDependents changes places) (sym c.deref.ensures.value) c.in_ok-free.ensures.owned in
    let table : GivenTable = record { entries = c.in_ok-given.given.entries; top = Some (length es) } in
    let found = marks_of c.rewritten_root.new.walk.found.items in
    let copies = c.pop.new.self.items in
    let all = c.in_ok-paths.ensures in
    let whole : c.in_ok-paths.paths.items ≡ copies ++ c.in-Some.changed ∷ [] = c.pop.ensures.items ∙ ap (λ o. copies ++ option_to_list o) c.in-Some.is in
    let long : length copies ≡ length es = omega (arith, all.size, ap length whole, length-append copies (c.in-Some.changed ∷ [])) in
    let first = λ (k : ℕ) (d : Vec (Vec ℕ Global) Global) (l : k < length es). ap (λ (v : Vec (Vec ℕ Global) Global). paths_of v.items) (sym (front-at copies c.in-Some.changed k d (omega (arith, l, long))) ∙ ap (λ xs. get_or xs k d) (sym whole)) ∙ all.lists k d (omega (arith, l)) in
    let last = ap (λ (v : Vec (Vec ℕ Global) Global). paths_of v.items) (sym (last-at copies c.in-Some.changed (length es) c.in-Some.changed long) ∙ ap (λ xs. get_or xs (length es) c.in-Some.changed) (sym whole)) ∙ all.lists (length es) c.in-Some.changed (omega arith) in
    let finds = subst (λ xs. FindsInRoot root c.deref-4.result.now table xs c.begin-walk.result c.rewritten_root.new.walk) c.deref-5.ensures.value c.in_ok-made.ensures.marks in
    is_made root changes places es (element_tree c.in_ok-made.made ∷ []) (map (mark_below (0 ∷ [])) found) (record {
      index = c.in_ok-sought.sought.items;
      sought = c.in_ok-sought.ensures.all;
      given = c.in_ok-given.given;
      without_top = c.in_ok-given.ensures.top;
      given_are = c.in_ok-given.ensures.given places are;
      marks_are = c.in_ok-given.ensures.marks places (addresses es) are (subst (IsTableOf (addresses es)) (sym c.deref-2.ensures.value) c.in_ok-sought.ensures.all);
      table = table;
      with_top = refl;
      same_entries = refl;
      aims = aims_of c.deref-4.result.now;
      aims_are = ap aims_of c.deref-4.ensures.value ∙ c.in_ok-free.ensures.free;
      trees_are = sym c.in_ok-made.ensures.tree;
      marks_answered = λ gs marked_are.
          let it = finds gs marked_are in
          let shown = marked it.0 in
          let own = it.2 ∙ ap₂ (λ ms p. marks_of ms ++ map (mark_below p) shown) c.begin-walk.ensures.found c.begin-walk.ensures.path ∙ map-id shown in
          ap (map (mark_below (0 ∷ []))) own ∙ sym (append-nil (map (mark_below (0 ∷ [])) shown)) ∙ ap (marked_from 0) (sym it.1);
    }) (branch_tree c.in-Node.green) copies (paths_of c.in-Some.changed.items) (ap (λ e. element_tree e ∷ []) c.in-Node.is) long (λ k d l. first k d l ∙ sym (under k found)) (last ∙ sym (under (length es) found))

pub returns-clause-count : goal.returns-clause-count
returns-clause-count c =
    let planned = c.args.planned in
    let root = planned.root.now in
    let changes = planned.changes.now in
    let places = places_in planned.places.now in
    let are : AreDependents changes places c.deref.result.now = subst (AreDependents changes places) (sym c.deref.ensures.value) c.in_ok-free.ensures.owned in
    let middle = c.given_table.new.builds in
    let after = c.rewritten_root.new.walk.builds in
    let aims = ap aims_of c.deref-4.ensures.value ∙ c.in_ok-free.ensures.free in
    let tree = subst (λ n. Raises (AreBuilt (aims_of c.deref-4.result.now) (subtree root)) (touched (subtree root) (parents_of (aims_of c.deref-4.result.now))) n after) c.begin-walk.ensures.builds c.in_ok-made.ensures.count in
    all-counted root changes places c.args.builds.now middle after (c.in_ok-given.ensures.count places are) (subst (λ ds. Raises (AreBuilt ds (subtree root)) (touched (subtree root) (parents_of ds)) middle after) aims tree)

pub by_owner-requires-clause-fit : goal.by_owner-requires-clause-fit
by_owner-requires-clause-fit c = (c.args.planned.root.now, c.requires.fit)

pub given_table-requires-clause-fit : goal.given_table-requires-clause-fit
given_table-requires-clause-fit c = (c.args.planned.root.now, c.requires.fit)

pub given_table-requires-clause-order : goal.given_table-requires-clause-order
given_table-requires-clause-order c = c.requires.order

pub given_table-requires-clause-sought : goal.given_table-requires-clause-sought
given_table-requires-clause-sought c = subst AreInOrder (sym c.deref-2.ensures.value) c.in_ok-sought.ensures.order

pub given_table-requires-clause-long : goal.given_table-requires-clause-long
given_table-requires-clause-long c = ap length c.deref.ensures.value ∙ c.in_ok-free.ensures.long

pub root_replacement-replacement-requires-clause-fit : goal.root_replacement-replacement-requires-clause-fit
root_replacement-replacement-requires-clause-fit c = c.requires.fit

pub rewritten_root-requires-clause-sought : goal.rewritten_root-requires-clause-sought
rewritten_root-requires-clause-sought c = subst AreInOrder (sym c.deref-5.ensures.value) c.in_ok-sought.ensures.order

pub rewritten_root-requires-clause-alone : goal.rewritten_root-requires-clause-alone
rewritten_root-requires-clause-alone c =
    let aims = ap aims_of c.deref-4.ensures.value ∙ c.in_ok-free.ensures.free in
    subst (λ ds. IsAlone ds c.root_replacement-replacement.result) (sym aims) c.root_replacement-replacement.ensures.alone
