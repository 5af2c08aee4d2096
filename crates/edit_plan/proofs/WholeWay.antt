-- A step builds the whole way to its change, where numbers tell trees.
--     KeepsTheShape                 the law of places
--     shapes-kept                   an owner's target has its shape at its place in the payload
--     way-whole                     so each change is carried out at what is there
use Rattle.std.specs.Prelude.{◌≡◌, ℕ, true, List, ◌∷◌, ◌++◌, map, flat_map, slice_get, All, Option, Some, None, IsSome, IsSomeAnd, refl}
use Rattle.std.proofs.Common.{ap, sym, subst, ◌∙◌}
use Rattle.std.proofs.lemmas.Bool.{false≢true}
use Rattle.std.proofs.lemmas.List.{append_assoc}
use Rattle.cst_core.specs.Path.{Path}
use Rattle.cst_core.specs.Tree.{SyntaxTree, at, SameShape}
use Rattle.cst_core.specs.Element.{Element, address, subtree, IsElement, NumbersTell}
use Rattle.cst_core.specs.declared.element.SyntaxElement.TheVariants.{Node}
use Rattle.edit_map.specs.Mapping.{Mapping, StandsFor, mapped_elements}
use Rattle.edit_map.specs.Builder.{ArePairs}
use Rattle.edit_change.specs.Change.{elements}
use Rattle.edit_change.specs.Fits.{Fits}
use Rattle.edit_change.specs.Nesting.{is_keeping, owner}
use Rattle.edit_change.specs.declared.change.Change.{Change}
use Rattle.edit_change.specs.declared.change.Change.TheVariants.{Replace}
use Rattle.edit_steps.specs.StepCount.{step_builds}
use Rattle.edit_change.specs.StagedChange.{staged_aim, tree_of}
use Rattle.edit_change.proofs.MovedAims.{fit_at}
use Rattle.edit_steps.proofs.Altered.{native_node, target_native}
use Rattle.edit_steps.proofs.LiveAims.{free-live, owned-live, target-root, tree_of-free, tree_of-owned}
use Rattle.edit_change.proofs.OwnersKeep.{owner-keeps}
use Rattle.edit_change.specs.Places.{ArePlaces, HasPlace, elements_held}
use Rattle.edit_plan.specs.Plan.{Plan, IsPlan, registered_elements}
use Rattle.edit_plan.specs.Run.{way_length}
use Rattle.edit_plan.specs.inner.PlanStages.{KeepsShapes}
use Rattle.edit_plan.proofs.StagesOfRuns.{place-found}
use Rattle.edit_plan.proofs.NumbersOfTarget.{told-target}

abbrev pub KeepsTheShape : Type 0
KeepsTheShape =
    (m : Mapping) (payload target : Element) (p : Path) → ArePairs m → IsElement target → NumbersTell (payload ∷ target ∷ mapped_elements m) → StandsFor m (address payload) p (address target) → IsSomeAnd (at (subtree payload) p) (SameShape (subtree target))

-- the owner's target is there, in its own tree too
target-element : (root : Element) (t r : Element) → Fits root (Replace (Node t) (Some (Node r))) → t.root ≡ root.root → IsElement t
target-element root t r fit whole =
    let node = native_node root t (target_native root (Node t) (Some (Node r)) fit) in
    subst IsSome (sym (ap (λ w. at w t.path) whole ∙ node.is)) refl

pub shapes-kept : KeepsTheShape → (root : Element) (marked : List (Element × ℕ)) (cs : List Change) (m : Mapping) → ArePairs m → All (Fits root) cs → NumbersTell (elements_held root cs marked m) → (places : ℕ → Path) → ArePlaces m cs places → (n o : ℕ) (c : Change) (t r : Element) → slice_get cs n ≡ Some c → owner cs c ≡ Some o → slice_get cs o ≡ Some (Replace (Node t) (Some (Node r))) → IsSomeAnd (at (subtree r) (places o)) (SameShape (subtree t))
shapes-kept keeps root marked cs m pairs fit tell places are n o c t r is its by =
    let change : Change = Replace (Node t) (Some (Node r)) in
    let registered : List Element = map (λ x. x.0) marked in
    let all : NumbersTell (root ∷ flat_map elements cs ++ (registered ++ mapped_elements m)) = subst (λ es. NumbersTell (root ∷ es)) (append_assoc (flat_map elements cs) registered (mapped_elements m)) tell in
    let told : NumbersTell (r ∷ t ∷ mapped_elements m) = told-target root registered (mapped_elements m) cs o (Node t) (Node r) all by in
    let whole : t.root ≡ root.root = target-root cs root (registered ++ mapped_elements m) all fit o t r by in
    let has : HasPlace m change c (places o) = place-found m cs places are n o c change is its by in
    keeps m r t (places o) pairs (target-element root t r (fit_at root cs fit o change by) whole) told has.0.0

module _ (p : Plan) (is : IsPlan p) (keeps : KeepsShapes p) (tell : NumbersTell (elements_held p.root p.changes (registered_elements p.registrations) p.mapping)) (places : ℕ → Path) (are : ArePlaces p.mapping p.changes places) (n : ℕ) (c : Change) (at_n : slice_get p.changes n ≡ Some c) where
  abbrev BuildsWay : Type 0
  BuildsWay = step_builds (tree_of p.changes (subtree p.root) c) (staged_aim p.changes places c) ≡ way_length p.changes places c

  in_payload : (o : ℕ) (t r : Element) (x : Option SyntaxTree) → owner p.changes c ≡ Some o → slice_get p.changes o ≡ Some (Replace (Node t) (Some (Node r))) → at (subtree r) (places o) ≡ x → IsSomeAnd x (SameShape (subtree t)) → BuildsWay
  in_payload o t r None its by place same = absurd same
  in_payload o t r (Some u) its by place same =
      let registered : List Element = map (λ x. x.0) (registered_elements p.registrations) in
      let all : NumbersTell (p.root ∷ flat_map elements p.changes ++ (registered ++ mapped_elements p.mapping)) = subst (λ es. NumbersTell (p.root ∷ es)) (append_assoc (flat_map elements p.changes) registered (mapped_elements p.mapping)) tell in
      let whole : t.root ≡ p.root.root = target-root p.changes p.root (registered ++ mapped_elements p.mapping) all is.fit o t r by in
      ap (λ w. step_builds w (staged_aim p.changes places c)) (tree_of-owned p.changes (subtree p.root) c o t r by its) ∙ owned-live p.changes p.root is.fit places n o c t r by whole at_n its u place same

  owned : (o : ℕ) (d : Change) → owner p.changes c ≡ Some o → slice_get p.changes o ≡ Some d → is_keeping d ≡ true → BuildsWay
  owned o (Replace (Node t) (Some (Node r))) its by kept = in_payload o t r (at (subtree r) (places o)) its by refl (keeps tell places are n o c t r at_n its by)
  owned o _ its by kept = absurd (false≢true kept)

  pub way-whole : BuildsWay
  way-whole = go (owner p.changes c) refl
    where
      go : (x : Option ℕ) → owner p.changes c ≡ x → BuildsWay
      go None free = ap (λ w. step_builds w (staged_aim p.changes places c)) (tree_of-free p.changes (subtree p.root) c free) ∙ free-live p.changes p.root is.is_root is.fit places n c at_n free
      go (Some o) its = let by = owner-keeps p.changes c o its in owned o by.0 its by.1 by.2
