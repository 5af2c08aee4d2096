-- A plan that is carried out one change at a time, by its stages.
--     places-agree                  any two tables of places agree on owners
--     staged-agree                  so a change aims where it does by either
--     gives-trees                   what changes give, without origins, is what the stages are told
--     shows-tree, shows-payload     the tree and the payloads at a stage, without origins
--     told-false, none-told, one-more-told      what is told as done: at the beginning, and after one change more
--     all-carried                   where all is done, the stage is the new tree
use Rattle.std.specs.Prelude.{◌≡◌, ◌<◌, ◌||◌, ℕ, zero, suc, Bool, true, false, not, nat_eq, List, [], ◌∷◌, map, length, slice_get, unwrap_or, Option, Some, None, IfSome, All, refl}
use Rattle.std.specs.List.{AllByRecursion}
use Rattle.std.specs.Option.{option_map_or}
use Rattle.std.proofs.Common.{ap, sym, subst, ◌∙◌, get_or, get_or-set_same, get_or-set_other}
use Rattle.std.proofs.Math.ListN.{set}
use Rattle.std.proofs.lemmas.Bool.{cases_eq, or_left, and_parts, eq-eqb, ne_eqb, not-true}
use Rattle.std.proofs.lemmas.List.Elements.{recursion_from_All}
use Rattle.std.proofs.lemmas.Option.{none-some, same_Some}
use mathlib.Core.List.{map-map}
use mathlib.Core.Logic.{inl, inr}
use mathlib.Core.Path.{fun_ext}
use Rattle.cst_core.specs.Path.{Path, first_item}
use Rattle.cst_core.specs.Tree.{SyntaxTree}
use Rattle.cst_core.specs.Element.{Address, Element, address, subtree}
use Rattle.edit_map.specs.Mapping.{Mapping, IsRising, StandsFor}
use Rattle.edit_change.specs.Rewriting.{rewritten, rewritten_whole}
use Rattle.edit_change.specs.inner.KindOnly.{kind_only}
use Rattle.edit_change.specs.ChangeAim.{aim}
use Rattle.edit_change.specs.Nesting.{is_dropped, is_independent, owner}
use Rattle.edit_change.specs.declared.change.Change.{Change}
use Rattle.edit_change.specs.declared.change.Change.TheVariants.{Replace}
use Rattle.edit_steps.specs.Schedule.{is_complete}
use Rattle.edit_steps.proofs.Undropped.{all-undropped}
use Rattle.edit_change.specs.NewTree.{plain, origin, targets_of, payload_of, moved_aim, independents, dependents, only, given, new_tree, stage_tree, stage_payload}
use Rattle.edit_steps.specs.inner.Stages.{GivesTrees}
use Rattle.edit_change.specs.StagedChange.{staged_aim}
use Rattle.edit_change.proofs.OwnersKeep.{owner-keeps}
use Rattle.edit_steps.proofs.StepOfStages.{all_grouped, only-all}
use Rattle.edit_change.specs.Places.{ArePlaces, FindsPlace, HasPlace, IsPlaceIn}
use Rattle.edit_plan.specs.inner.PlanStages.{told_done}
use Rattle.edit_change.proofs.BroughtTops.{given-labelled}
use Rattle.edit_change.proofs.Relabelled.{relabelled-rewritten, map-rewritten_whole}

-- ---- places
all-at : {X : Type 0} (P : X → Type 0) (xs : List X) → All P xs → (i : ℕ) (x : X) → slice_get xs i ≡ Some x → P x
all-at {X} P xs a i x is = go xs (recursion_from_All P xs a) i is
  where
    go : (ys : List X) → AllByRecursion P ys → (j : ℕ) → slice_get ys j ≡ Some x → P x
    go [] b j h = absurd (none-some x h)
    go (y ∷ ys) b zero h = subst P (same_Some y x h) b.0
    go (y ∷ ys) b (suc j) h = go ys b.1 j h

abbrev pub PlaceIsUnique : Type 0
PlaceIsUnique =
    (m : Mapping) (payload target : Address) (p q : Path) → IsRising m → StandsFor m payload p target → StandsFor m payload q target → p ≡ q

one-place : PlaceIsUnique → (m : Mapping) (o : Change) (p q : Path) → IsRising m → IsPlaceIn m o p → IsPlaceIn m o q → p ≡ q
one-place unique m (Replace t (Some r)) p q rises h k = unique m _ _ p q rises h.0 k.0
one-place unique m _ p q rises h k = absurd h

pub place-found : (m : Mapping) (cs : List Change) (places : ℕ → Path) → ArePlaces m cs places → (n o : ℕ) (c by : Change) → slice_get cs n ≡ Some c → owner cs c ≡ Some o → slice_get cs o ≡ Some by → HasPlace m by c (places o)
place-found m cs places are n o c by at_n its at_o =
    let found : FindsPlace m cs places c = all-at (FindsPlace m cs places) cs are n c at_n in
    let here : IfSome (slice_get cs o) (λ r. HasPlace m r c (places o)) = subst (λ x. IfSome x (λ d. IfSome (slice_get cs d) (λ r. HasPlace m r c (places d)))) its found in
    subst (λ x. IfSome x (λ r. HasPlace m r c (places o))) at_o here

pub places-agree : PlaceIsUnique → (m : Mapping) (cs : List Change) → IsRising m → (a b : ℕ → Path) → ArePlaces m cs a → ArePlaces m cs b → (n o : ℕ) (c : Change) → slice_get cs n ≡ Some c → owner cs c ≡ Some o → a o ≡ b o
places-agree unique m cs rises a b are_a are_b n o c at_n its =
    let by = owner-keeps cs c o its in
    one-place unique m by.0 (a o) (b o) rises (place-found m cs a are_a n o c by.0 at_n its by.1).0 (place-found m cs b are_b n o c by.0 at_n its by.1).0

pub staged-agree : (cs : List Change) (a b : ℕ → Path) (c : Change) → ((o : ℕ) → owner cs c ≡ Some o → a o ≡ b o) → staged_aim cs a c ≡ staged_aim cs b c
staged-agree cs a b c agree = go (owner cs c) refl
  where
    go : (o : Option ℕ) → owner cs c ≡ o → staged_aim cs a c ≡ staged_aim cs b c
    go None is =
        let f : (ℕ → Path) → Option ℕ → _ = λ p x. option_map_or (λ d. moved_aim (unwrap_or (first_item (targets_of cs d)) []) (p d) (aim c)) x (aim c) in
        ap (f a) is ∙ sym (ap (f b) is)
    go (Some o) is =
        let f : (ℕ → Path) → Option ℕ → _ = λ p x. option_map_or (λ d. moved_aim (unwrap_or (first_item (targets_of cs d)) []) (p d) (aim c)) x (aim c) in
        ap (f a) is ∙ ap (λ p. moved_aim (unwrap_or (first_item (targets_of cs o)) []) p (aim c)) (agree o is) ∙ sym (ap (f b) is)

-- ---- without origins
module _ (cs : List Change) (places : ℕ → Path) where
  abbrev trees_given : ℕ → List SyntaxTree
  trees_given c = map plain (given cs places c)

  pub gives-trees : GivesTrees cs places (λ c. map plain (given cs places c))
  gives-trees c =
      given-labelled cs places (λ o. o.kind) c ∙ sym (map-map (rewritten kind_only trees_given (dependents cs places c) []) subtree (payload_of cs c))

  pub shows-tree : (done : ℕ → Bool) (root : Element) → map plain (stage_tree cs places done root) ≡ rewritten_whole kind_only (λ c. map plain (given cs places c)) (only done (independents cs)) (subtree root)
  shows-tree done root =
      map-rewritten_whole (λ o. o.kind) (origin (address root) None) (given cs places) (only done (independents cs)) (subtree root)

  pub shows-payload : (done : ℕ → Bool) (n : ℕ) → map plain (stage_payload cs places done n) ≡ map (rewritten kind_only (λ c. map plain (given cs places c)) (only done (dependents cs places n)) []) (map subtree (payload_of cs n))
  shows-payload done n =
      let ds = only done (dependents cs places n) in
      map-map plain (λ e. rewritten (origin (address e) (Some n)) (given cs places) ds [] (subtree e)) (payload_of cs n) ∙ ap (λ f. map f (payload_of cs n)) (fun_ext (λ e. relabelled-rewritten (λ o. o.kind) (origin (address e) (Some n)) (given cs places) ds [] (subtree e))) ∙ sym (map-map (rewritten kind_only trees_given ds []) subtree (payload_of cs n))

  pub all-carried : (done : ℕ → Bool) (root : Element) → is_complete cs done ≡ true → stage_tree cs places done root ≡ new_tree cs places root
  all-carried done root complete =
      ap (λ ds. rewritten_whole (origin (address root) None) (given cs places) ds (subtree root)) (only-all done (independents cs) (all_grouped (λ i. done i ≡ true) cs (λ d. is_independent cs d.1) (λ d. (d.0, aim d.1)) (λ d. refl) (λ i d at free. all-undropped (λ c. done c.0) cs complete i d at (not-true (is_dropped cs d) (and_parts (not (is_dropped cs d)) _ free).0))))

-- ---- what is told as done
pub told-false : (cs : List Change) (n : ℕ) → told_done (map (λ c. false) cs) n ≡ false
told-false [] n = refl
told-false (c ∷ cs) zero = refl
told-false (c ∷ cs) (suc n) = told-false cs n

pub none-told : (cs : List Change) → (λ n. false) ≡ told_done (map (λ c. false) cs)
none-told cs = fun_ext (λ n. sym (told-false cs n))

pub one-more-told : (xs : List Bool) (n : ℕ) → n < length xs → (λ m. nat_eq n m || told_done xs m) ≡ told_done (set xs n true)
one-more-told xs n within = fun_ext (λ m. elim (cases_eq n m) [
  | inl same ↦ or_left (nat_eq n m) (told_done xs m) (eq-eqb n m same) ∙ sym (ap (λ k. get_or (set xs n true) k false) (sym same) ∙ get_or-set_same xs n true false within)
  | inr other ↦ ap (λ b. b || told_done xs m) (ne_eqb n m other) ∙ sym (get_or-set_other xs n m true false (λ e. other (sym e)))
])
