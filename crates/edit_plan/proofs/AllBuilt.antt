-- Where numbers tell trees, each node that a change of a plan alters is there, where the change is carried out, and it stays.
--     aims-node                     an aim at what is there alters a node
--     group-built                   so it is of changes that are carried out in one tree
--     root-built                    IN THE OLD TREE
--     payloads-built                IN THE PAYLOADS OF OWNERS
use Rattle.std.specs.Prelude.{◌≡◌, ℕ, zero, suc, ◌<◌, Bool, true, false, List, [], ◌∷◌, ◌++◌, map, filter, flat_map, get_or, length, nat_eq, slice_get, unwrap_or, All, Option, Some, None, IsSome, IsSomeAnd, refl}
use Rattle.std.specs.List.{AllByRecursion, enumerate_from}
use Rattle.std.specs.Option.{option_map_or}
use Rattle.std.proofs.Common.{ap, sym, subst, ◌∙◌, arith}
use Rattle.std.proofs.lemmas.Bool.{false≢true, false_from_ne_true, eq-eqb}
use Rattle.std.proofs.lemmas.List.{append_assoc, length-append}
use Rattle.std.proofs.lemmas.List.Elements.{All-from_recursion}
use Rattle.cst_core.specs.Path.{Path, parent_path, last_slot, first_item}
use Rattle.cst_core.specs.Tree as tree
use Rattle.cst_core.specs.Tree.{SyntaxTree, at, SameShape}
use Rattle.cst_core.specs.Element.{Element, subtree, NumbersTell}
use Rattle.cst_core.specs.declared.element.SyntaxElement.TheVariants.{Node}
use Rattle.cst_core.proofs.LastSlot.{parent-and-slot}
use Rattle.green_tree.proofs.Lookup.{IsNodeThere, at_parent}
use Rattle.edit_change.specs.Aim.{Aim, FirstIn, AfterElement, Over, replaces, parents}
use Rattle.edit_change.specs.Rewriting.{NumberedAim, is_replaced}
use Rattle.one_pass.specs.inner.Built.{IsBuilt, AreBuilt}
use Rattle.edit_map.specs.Mapping.{mapped_elements}
use Rattle.edit_change.specs.Change.{payload, targets, elements}
use Rattle.edit_change.specs.ChangeAim.{aim}
use Rattle.edit_change.specs.Fits.{Fits}
use Rattle.edit_change.specs.Nesting.{is_keeping, owner, is_independent, has_owner}
use Rattle.edit_change.specs.declared.change.Change.{Change}
use Rattle.edit_change.specs.declared.change.Change.TheVariants.{Replace}
use Rattle.edit_change.proofs.Lists.{all_filter, all_weaker, all_enumerated}
use Rattle.edit_change.proofs.Owners.{owner_from}
use Rattle.edit_change.specs.NewTree.{targets_of, payload_of, moved_aim, independents, dependents}
use Rattle.edit_steps.proofs.Altered.{one_item, no_item, parents-inv, region_has, altered, node_over, native_node, target_native}
use Rattle.edit_change.proofs.MovedAims.{fit_at}
use Rattle.edit_change.proofs.AimsApart.{moved-path, owned-at, owned_below}
use Rattle.edit_steps.proofs.Below.{ComesFrom, moved_replaces, targets_under}
use Rattle.edit_steps.proofs.Deepest.{unowned}
use Rattle.edit_steps.proofs.Groups.{IsGroup, free_group, owned_group, group_aims, moved-nowhere, independents-moved, from_target, unmoved_parents}
use Rattle.edit_steps.proofs.LiveAims.{is_node, is_there, AimsAt, fits-aims, AreAlike, alike_from, moved-aims, target-root}
use Rattle.edit_change.proofs.OwnersKeep.{owner-keeps}
use Rattle.edit_steps.proofs.Splits.{all_map, none_any}
use Rattle.edit_change.specs.Places.{ArePlaces, elements_held}
use Rattle.edit_plan.specs.Plan.{Plan, IsPlan, registered_elements}
use Rattle.one_pass.specs.inner.GivenTables.{ArePayloadsBuilt}
use Rattle.edit_plan.specs.inner.PlanStages.{KeepsShapes}

-- ---- the node that an aim alters
some_there : (o : Option SyntaxTree) → is_there o ≡ true → IsSome o
some_there None h = absurd (false≢true h)
some_there (Some t) h = refl

after-node : (t : SyntaxTree) (z p : Path) → is_there (at t z) ≡ true → parents (AfterElement z) ≡ p ∷ [] → is_node (at t p) ≡ true
after-node t z p h altering =
    let back = parents-inv z p altering in
    let node = at_parent t p back.0 (some_there (at t (p ++ back.0 ∷ [])) (ap (λ y. is_there (at t y)) (sym back.1) ∙ h)) in
    ap is_node node.is

pub aims-node : (t : SyntaxTree) (a : Aim) (p : Path) → AimsAt t a → parents a ≡ p ∷ [] → is_node (at t p) ≡ true
aims-node t (FirstIn z) p h altering = ap (λ y. is_node (at t y)) (sym (one_item z p altering)) ∙ h
aims-node t (AfterElement z) p h altering = after-node t z p h altering
aims-node t (Over []) p h altering = absurd (no_item p altering)
aims-node t (Over (z ∷ zs)) p h altering = after-node t z p h altering

-- ---- changes that are carried out in one tree
module _ (cs : List Change) (root : Element) (fit : All (Fits root) cs) (ours : Change → Bool) (top place : Path) (group : IsGroup cs ours top place) where
  abbrev moved : Change → Aim
  moved e = moved_aim top place (aim e)

  abbrev aims : List NumberedAim
  aims = group_aims cs ours top place

  abbrev IsOurs : ℕ → Change → Type 0
  IsOurs n c = (slice_get cs n ≡ Some c) × (ours c ≡ true)

  -- what holds of each of them
  each : (P : NumberedAim → Type 0) → ((n : ℕ) (c : Change) → IsOurs n c → P (n, moved c)) → AllByRecursion P aims
  each P h =
      let known = all_filter (λ d. slice_get cs d.0 ≡ Some d.1) (λ d. ours d.1) (enumerate_from 0 cs) (all_enumerated cs) in
      all_map P (λ d. (d.0, moved d.1)) (filter (λ d. ours d.1) (enumerate_from 0 cs)) (all_weaker (λ d. (slice_get cs d.0 ≡ Some d.1) × (ours d.1 ≡ true)) (λ d. P (d.0, moved d.1)) (filter (λ d. ours d.1) (enumerate_from 0 cs)) (λ d both. h d.0 d.1 both) known)

  none-replaces : (y : Path) → ((n : ℕ) (c : Change) → IsOurs n c → replaces y (moved c) ≡ true → ⊥) → is_replaced aims y ≡ false
  none-replaces y never =
      none_any (λ a. replaces y a) aims (each (λ d. replaces y d.1 ≡ false) (λ n c is. false_from_ne_true (replaces y (moved c)) (never n c is)))

  -- nothing is replaced at the node of one of them or above, but the top
  module _ (n : ℕ) (c : Change) (is_ours : IsOurs n c) (p : Path) (altering : parents (moved c) ≡ p ∷ []) where
    below-stays : (r : Path) (i : ℕ) (s : Path) → r ++ i ∷ s ≡ p → is_replaced aims (r ++ i ∷ []) ≡ false
    below-stays r i s way =
        none-replaces (r ++ i ∷ []) (λ k e is hit.
        let from = from_target cs ours top place group e r i is.1 hit in
        let x : Path = top ++ from.0 ∷ from.1 in
        let long : p ≡ place ++ ((from.0 ∷ from.1) ++ s) = sym way ∙ sym (append_assoc r (i ∷ []) s) ∙ ap (λ y. y ++ s) from.2 ∙ append_assoc place (from.0 ∷ from.1) s in
        let old : parents (aim c) ≡ (top ++ ((from.0 ∷ from.1) ++ s)) ∷ [] = unmoved_parents top place (aim c) ((from.0 ∷ from.1) ++ s) (group.below c is_ours.1) (altering ∙ ap (λ y. y ∷ []) long) in
        let node = altered root c (top ++ ((from.0 ∷ from.1) ++ s)) (fit_at root cs fit n c is_ours.0) old in
        let whole : x ++ s ≡ top ++ ((from.0 ∷ from.1) ++ s) = append_assoc top (from.0 ∷ from.1) s in
        let node_there = node_over root.root x s (subst (λ y. IsNodeThere (at root.root y)) (sym whole) node.node) in
        group.alone c from.0 from.1 is_ours.1 (node.around x s whole) k e is.0 (region_has root e x (fit_at root cs fit k e is.0) node_there from.3))

    all-stay : is_replaced aims [] ≡ false → (s r : Path) → s ++ r ≡ p → is_replaced aims s ≡ false
    all-stay top_stays [] r way = top_stays
    all-stay top_stays (j ∷ s) r way =
        let split : j ∷ s ≡ parent_path (j ∷ s) ++ last_slot (j ∷ s) ∷ [] = parent-and-slot j s in
        ap (is_replaced aims) split ∙ below-stays (parent_path (j ∷ s)) (last_slot (j ∷ s)) r (sym (append_assoc (parent_path (j ∷ s)) (last_slot (j ∷ s) ∷ []) r) ∙ ap (λ y. y ++ r) (sym split) ∙ way)

  pub group-built : (v : SyntaxTree) → ((n : ℕ) (c : Change) → IsOurs n c → AimsAt v (moved c)) → ((n : ℕ) (c : Change) (p : Path) → IsOurs n c → parents (moved c) ≡ p ∷ [] → is_replaced aims [] ≡ false) → AreBuilt aims v
  group-built v aimed top_stays =
      All-from_recursion (λ d. (p : Path) → parents d.1 ≡ p ∷ [] → IsBuilt aims v p) aims (each (λ d. (p : Path) → parents d.1 ≡ p ∷ [] → IsBuilt aims v p) (λ n c is p altering. record {
        node = aims-node v (moved c) p (aimed n c is) altering;
        stays = all-stay n c is p altering (top_stays n c p is altering);
      }))

-- ---- without an owner
module _ (cs : List Change) (root : Element) (fit : All (Fits root) cs) (whole : root.path ≡ []) where
  root-aimed : (c : Change) → Fits root c → AimsAt (subtree root) (moved_aim [] [] (aim c))
  root-aimed c fits =
      let same : root.root ≡ subtree root = sym (ap (λ p. unwrap_or (at root.root p) (tree.Token 0 [])) whole) in
      subst (AimsAt (subtree root)) (sym (moved-nowhere (aim c))) (subst (λ t. AimsAt t (aim c)) same (fits-aims root c fits))

  -- where the root is replaced, nothing is altered in it
  root-stays : (n : ℕ) (c : Change) (p : Path) → IsOurs cs root fit (is_independent cs) [] [] (free_group cs) n c → parents (moved_aim [] [] (aim c)) ≡ p ∷ [] → is_replaced (group_aims cs (is_independent cs) [] []) [] ≡ false
  root-stays n c p is altering =
      none-replaces cs root fit (is_independent cs) [] [] (free_group cs) [] (λ k e its hit.
      let node = altered root c p (fit_at root cs fit n c is.0) (ap parents (sym (moved-nowhere (aim c))) ∙ altering) in
      let there = node_over root.root [] p node.node in
      let inside = region_has root e [] (fit_at root cs fit k e its.0) there (ap (replaces []) (sym (moved-nowhere (aim e))) ∙ hit) in
      unowned cs c k e [] is.1 its.0 inside (node.around [] p refl))

  pub root-built : AreBuilt (independents cs) (subtree root)
  root-built =
      subst (λ ds. AreBuilt ds (subtree root)) (independents-moved cs) (group-built cs root fit (is_independent cs) [] [] (free_group cs) (subtree root) (λ n c is. root-aimed c (fit_at root cs fit n c is.0)) root-stays)

-- ---- in the payload of an owner
no_top : (q r : Path) (i : ℕ) → ◌≡◌ {A = Path} [] (q ++ i ∷ r) → ⊥
no_top q r i e = omega (arith, ap length e, length-append q (i ∷ r))

-- what is owned replaces nothing but what is below the payload's top
payload-stays : (cs : List Change) (root : Element) (fit : All (Fits root) cs) (o : ℕ) (place : Path) → is_replaced (group_aims cs (has_owner cs o) (unwrap_or (first_item (targets_of cs o)) []) place) [] ≡ false
payload-stays cs root fit o place =
    let n : Path = unwrap_or (first_item (targets_of cs o)) [] in
    none-replaces cs root fit (has_owner cs o) n place (owned_group cs o place) [] (λ k e its hit.
    let from : ComesFrom n place (aim e) [] = moved_replaces n place (aim e) [] hit in
    let under = targets_under e n from.0 (owned-at cs o e its.1).around from.1 in
    no_top place under.1 under.0 (from.2 ∙ moved-path n place from.0 (under.0 ∷ under.1, under.2)))

only-item : (es : List Element) (r d : Element) (k : ℕ) → es ≡ r ∷ [] → k < length es → get_or es k d ≡ r
only-item es r d zero one l = ap (λ xs. get_or xs 0 d) one
only-item es r d (suc k) one l = absurd (omega (arith, l, ap length one))

module _ (p : Plan) (is : IsPlan p) (keeps : KeepsShapes p) (tell : NumbersTell (elements_held p.root p.changes (registered_elements p.registrations) p.mapping)) (places : ℕ → Path) (are : ArePlaces p.mapping p.changes places) (o : ℕ) where
  in_payload : (n : ℕ) (c : Change) (t r : Element) (x : Option SyntaxTree) → slice_get p.changes n ≡ Some c → owner p.changes c ≡ Some o → slice_get p.changes o ≡ Some (Replace (Node t) (Some (Node r))) → at (subtree r) (places o) ≡ x → IsSomeAnd x (SameShape (subtree t)) → AimsAt (subtree r) (moved_aim (unwrap_or (first_item (targets_of p.changes o)) []) (places o) (aim c))
  in_payload n c t r None there its by place same = absurd same
  in_payload n c t r (Some u) there its by place same =
      let cs = p.changes in
      let root = p.root in
      let n_path : Path = unwrap_or (first_item (targets_of cs o)) [] in
      let change : Change = Replace (Node t) (Some (Node r)) in
      let registered : List Element = map (λ x. x.0) (registered_elements p.registrations) in
      let all : NumbersTell (root ∷ flat_map elements cs ++ (registered ++ mapped_elements p.mapping)) = subst (λ es. NumbersTell (root ∷ es)) (append_assoc (flat_map elements cs) registered (mapped_elements p.mapping)) tell in
      let whole : t.root ≡ root.root = target-root cs root (registered ++ mapped_elements p.mapping) all is.fit o t r by in
      let own : n_path ≡ t.path = ap (λ x. unwrap_or (first_item (option_map_or targets x [])) []) by in
      let native = target_native root (Node t) (Some (Node r)) (fit_at root cs is.fit o change by) in
      let node = native_node root t native in
      let top : subtree t ≡ tree.Node node.kind node.below = ap (λ w. unwrap_or (at w t.path) (tree.Token 0 [])) whole ∙ ap (λ x. unwrap_or x (tree.Token 0 [])) node.is in
      let there_t : at root.root t.path ≡ Some (subtree t) = node.is ∙ ap (λ w. Some w) (sym top) in
      let alike : AreAlike root.root n_path (subtree r) (places o) = alike_from root.root (subtree r) n_path (places o) (subtree t) u (ap (at root.root) own ∙ there_t) place same in
      let has : has_owner cs o c ≡ true = ap (λ x. option_map_or (nat_eq o) x false) its ∙ eq-eqb o o refl in
      moved-aims root.root (subtree r) n_path (places o) alike (aim c) (owned_below cs o c has) (fits-aims root c (fit_at root cs is.fit n c there))

  owned-aimed : (n : ℕ) (c d : Change) (k : ℕ) (e : Element) → slice_get p.changes n ≡ Some c → owner p.changes c ≡ Some o → slice_get p.changes o ≡ Some d → is_keeping d ≡ true → k < length (payload_of p.changes o) → AimsAt (subtree (get_or (payload_of p.changes o) k e)) (moved_aim (unwrap_or (first_item (targets_of p.changes o)) []) (places o) (aim c))
  owned-aimed n c (Replace (Node t) (Some (Node r))) k e there its by kept l =
      let one : payload_of p.changes o ≡ r ∷ [] = ap (λ x. option_map_or payload x []) by in
      subst (λ x. AimsAt (subtree x) (moved_aim (unwrap_or (first_item (targets_of p.changes o)) []) (places o) (aim c))) (sym (only-item (payload_of p.changes o) r e k one l)) (in_payload n c t r (at (subtree r) (places o)) there its by refl (keeps tell places are n o c t r there its by))
  owned-aimed n c _ k e there its by kept l = absurd (false≢true kept)

  payload-built : All (λ e. AreBuilt (dependents p.changes places o) (subtree e)) (payload_of p.changes o)
  payload-built = λ k e l.
      group-built p.changes p.root is.fit (has_owner p.changes o) (unwrap_or (first_item (targets_of p.changes o)) []) (places o) (owned_group p.changes o (places o)) (subtree (get_or (payload_of p.changes o) k e)) (λ n c its.
      let by = owner_from p.changes o c its.1 in
      let kept = owner-keeps p.changes c o by in
      owned-aimed n c kept.0 k e its.0 by kept.1 kept.2 l) (λ n c q its altering. payload-stays p.changes p.root is.fit o (places o))

pub payloads-built : (p : Plan) → IsPlan p → KeepsShapes p → NumbersTell (elements_held p.root p.changes (registered_elements p.registrations) p.mapping) → (places : ℕ → Path) → ArePlaces p.mapping p.changes places → ArePayloadsBuilt p.changes places
payloads-built p is keeps tell places are c = payload-built p is keeps tell places are c
