-- Of the changes that are carried out in one tree, one that is ready can be the next.
--     one_more                      a set of numbers with one more
--     IsSplit                       the aims of a list that are done, before and after one more of it is, which is the next
--     group-next                    a change of such a group
use Rattle.std.specs.Prelude.{◌≡◌, ℕ, suc, ◌<◌, Bool, true, false, not, ◌&&◌, ◌||◌, nat_eq, List, [], ◌∷◌, ◌++◌, filter, slice_get, All, Some, None, refl}
use Rattle.std.specs.List.{AllByRecursion, list_any, list_all, enumerate_from}
use Rattle.std.specs.Option.{option_map_or}
use Rattle.std.proofs.Common.{ap, ap₂, sym, subst, ◌∙◌, arith}
use Rattle.std.proofs.lemmas.Bool.{and_parts, and_from, or_left, or_right, not-true, not_from_false, false≢true, true≢false, false_from_ne_true, eqb-true, eq-eqb}
use Rattle.std.proofs.lemmas.List.{append_assoc, append_cancel_left, same_from_push}
use Rattle.std.proofs.lemmas.Map.Keys.{any_passes_from_place}
use Rattle.cst_core.specs.Path.{Path, same_path, has_path, up_to, parent_path, last_slot}
use Rattle.cst_core.specs.Tree.{at}
use Rattle.cst_core.specs.Element.{Element}
use Rattle.cst_core.specs.SyntaxElement.{element_of}
use Rattle.cst_core.proofs.LastSlot.{parent-and-slot}
use Rattle.green_tree.proofs.Lookup.{IsNodeThere}
use Rattle.edit_change.specs.Aim.{Aim, FirstIn, AfterElement, Over, Gap, gap_of, aims_at_gap, replaces, parents}
use Rattle.edit_change.specs.Rewriting.{NumberedAim, numbers, inserts_at, is_replaced, gap_order}
use Rattle.edit_change.specs.Change.{targets, shared_targets}
use Rattle.edit_change.specs.ChangeAim.{position_aim, aim}
use Rattle.edit_change.specs.Fits.{Fits}
use Rattle.edit_change.specs.Nesting.{first_clash, region, is_keeping, surroundings, is_around, is_dropped, undropped}
use Rattle.edit_change.specs.Position.{anchor}
use Rattle.edit_change.specs.PositionForm.{FirstChild, After}
use Rattle.edit_change.specs.declared.change.Change.{Change}
use Rattle.edit_change.specs.declared.change.Change.TheVariants.{Insert, InsertAll, Replace, ReplaceWithMany, ReplaceAll}
use Rattle.edit_change.specs.declared.position.Position.{Position}
use Rattle.edit_change.proofs.Lists.{all_filter, all_weaker, all_enumerated}
use Rattle.edit_change.proofs.Paths.{same_path-true, same_path_from, meets}
use Rattle.edit_steps.specs.Schedule.{owned_first, gap_first, token_first, comes_first, is_ready}
use Rattle.edit_steps.specs.inner.Waiting.{IsWaiting}
use Rattle.edit_steps.specs.declared.order.waiting.Waiting.{Waiting}
use Rattle.edit_steps.proofs.LinkTables.{replaces-targets}
use Rattle.edit_steps.proofs.Gaps.{gap_first_from}
use Rattle.edit_steps.proofs.Ordered.{waiting-ordered}
use Rattle.edit_steps.specs.inner.Stage.{IsNext}
use Rattle.edit_steps.proofs.AimSteps.{stands_first-least}
use Rattle.edit_change.specs.NewTree.{moved_aim, only}
use Rattle.edit_steps.proofs.Altered.{own_up_to, no_replacing, region_has, altered, node_over}
use Rattle.edit_change.proofs.MovedAims.{fit_at}
use Rattle.edit_change.proofs.AimsApart.{same_gap_from, moved-same_gap, moved_cancel, only_one}
use Rattle.edit_steps.proofs.Below.{ComesFrom, moved_replaces}
use Rattle.edit_steps.proofs.Groups.{IsGroup, group_aims, from_target, unmoved_parents, one_anchor, unmoved_after}
use Rattle.edit_change.proofs.RootAlone.{unclashed}
use Rattle.edit_steps.proofs.Splits.{all_left, all_map, all_both, all_done, none_any, none_filter, SplitAt, split_from, only-before, only-after}

-- ---- a gap after an element
after_gap : (a : Aim) (p : Path) (i : ℕ) → aims_at_gap p (suc i) a ≡ true → a ≡ AfterElement (p ++ i ∷ [])
after_gap (FirstIn z) p i h =
    let zero_is : suc i ≡ 0 = eqb-true (suc i) 0 (and_parts (same_path p z) (nat_eq (suc i) 0) h).1 in
    absurd (omega (arith, zero_is))
after_gap (AfterElement []) p i h = absurd (false≢true h)
after_gap (AfterElement (j ∷ z)) p i h =
    let parts = and_parts (same_path p (parent_path (j ∷ z))) (nat_eq (suc i) (suc (last_slot (j ∷ z)))) h in
    let up : p ≡ parent_path (j ∷ z) = same_path-true p (parent_path (j ∷ z)) parts.0 in
    let slots : suc i ≡ suc (last_slot (j ∷ z)) = eqb-true (suc i) (suc (last_slot (j ∷ z))) parts.1 in
    let slot : last_slot (j ∷ z) ≡ i = omega (arith, slots) in
    ap AfterElement (parent-and-slot j z ∙ ap₂ (λ q k. q ++ k ∷ []) (sym up) slot)
after_gap (Over zs) p i h = absurd (false≢true h)

surrounds_position : (at : Position) (x : Path) → position_aim at ≡ AfterElement x → has_path (up_to (anchor at).path) x ≡ true
surrounds_position (FirstChild e) x h = cc
surrounds_position (After e) x h =
    subst (λ q. has_path (up_to q) x ≡ true) (sym (one_anchor (element_of e).path x h)) (own_up_to x)

-- the element that an insert stands after is in its surroundings
surrounds_anchor : (e : Change) (x : Path) → aim e ≡ AfterElement x → has_path (surroundings e) x ≡ true
surrounds_anchor (Insert at e) x h = surrounds_position at x h
surrounds_anchor (InsertAll at es) x h = surrounds_position at x h
surrounds_anchor (Replace t e) x h = cc
surrounds_anchor (ReplaceWithMany t es) x h = cc
surrounds_anchor (ReplaceAll first last es) x h = cc

-- ---- what replaces two elements drops what aims at them
pub record IsOfRange (c : Change) (x : Path) : Type 0 where
  pub drops : is_keeping c ≡ false
  pub inside : has_path (region c) x ≡ true

no_two : (z x y : Path) → (x ≡ y → ⊥) → has_path (z ∷ []) x ≡ true → has_path (z ∷ []) y ≡ true → ⊥
no_two z x y apart h k = apart (only_one x z h ∙ sym (only_one y z k))

two_targets : (c : Change) (x y : Path) → (x ≡ y → ⊥) → replaces x (aim c) ≡ true → replaces y (aim c) ≡ true → IsOfRange c x
two_targets (Insert at e) x y apart h k = absurd (no_replacing at x h)
two_targets (InsertAll at es) x y apart h k = absurd (no_replacing at x h)
two_targets (Replace t e) x y apart h k = absurd (no_two (element_of t).path x y apart h k)
two_targets (ReplaceWithMany t es) x y apart h k = absurd (no_two (element_of t).path x y apart h k)
two_targets (ReplaceAll first last es) x y apart h k = record { drops = refl; inside = h }

-- ---- the next of a group
abbrev pub one_more : ℕ → (ℕ → Bool) → ℕ → Bool
one_more n done m = nat_eq n m || done m

pub record IsSplit (cs : List NumberedAim) (done : ℕ → Bool) (n : ℕ) (a : Aim) : Type 0 where
  pub front : List NumberedAim
  pub back : List NumberedAim
  pub before : only done cs ≡ front ++ back
  pub after : only (one_more n done) cs ≡ front ++ (n, a) ∷ back
  pub next : IsNext front (n, a) back

module _ (cs : List Change) (root : Element) (fit : All (Fits root) cs) (apart : first_clash cs ≡ None) (done : ℕ → Bool) (w : Waiting) (waiting : IsWaiting cs done w) (n : ℕ) (c : Change) (there : slice_get cs n ≡ Some c) (ready : is_ready cs done (n, c) ≡ true) (ours : Change → Bool) (top place : Path) (group : IsGroup cs ours top place) (is_ours : ours c ≡ true) where
  undone : done n ≡ false
  undone =
      let test = list_all (λ e. not (comes_first cs e (n, c)) || done e.0) (undropped cs) in
      not-true (done n) (and_parts (not (is_dropped cs c)) (not (done n)) (and_parts (not (is_dropped cs c) && not (done n)) test ready).0).1

  abbrev moved : Change → Aim
  moved e = moved_aim top place (aim e)

  abbrev aims : List NumberedAim
  aims = group_aims cs ours top place

  parts : SplitAt aims n (moved c)
  parts = split_from (λ d. (d.0, moved d.1)) (λ d. refl) (λ d. ours d.1) 0 cs n n c (moved c) there (omega arith) is_ours refl

  abbrev front : List NumberedAim
  front = only done parts.front

  abbrev back : List NumberedAim
  back = only done parts.back

  before : only done aims ≡ front ++ back
  before = only-before done n aims (moved c) parts undone

  -- what holds of each of them
  each : (P : NumberedAim → Type 0) → ((k : ℕ) (e : Change) → slice_get cs k ≡ Some e → ours e ≡ true → P (k, moved e)) → AllByRecursion P aims
  each P h =
      let known = all_filter (λ d. slice_get cs d.0 ≡ Some d.1) (λ d. ours d.1) (enumerate_from 0 cs) (all_enumerated cs) in
      all_map P (λ d. (d.0, moved d.1)) (filter (λ d. ours d.1) (enumerate_from 0 cs)) (all_weaker (λ d. (slice_get cs d.0 ≡ Some d.1) × (ours d.1 ≡ true)) (λ d. P (d.0, moved d.1)) (filter (λ d. ours d.1) (enumerate_from 0 cs)) (λ d both. h d.0 d.1 both.0 both.1) known)

  module _ (test : Aim → Bool) (never : (k : ℕ) (e : Change) → slice_get cs k ≡ Some e → ours e ≡ true → done k ≡ true → test (moved e) ≡ true → ⊥) where
    no_done : AllByRecursion (λ d. test d.1 ≡ false) (only done aims)
    no_done =
        all_weaker (λ d. (done d.0 ≡ true → test d.1 ≡ false) × (done d.0 ≡ true)) (λ d. test d.1 ≡ false) (only done aims) (λ d both. both.0 both.1) (all_done (λ d. done d.0 ≡ true → test d.1 ≡ false) done aims (each (λ d. done d.0 ≡ true → test d.1 ≡ false) (λ k e is h is_done. false_from_ne_true (test (moved e)) (never k e is h is_done))))

    none_of_both : list_any (λ d. test d.1) (front ++ back) ≡ false
    none_of_both = subst (λ ds. list_any (λ d. test d.1) ds ≡ false) before (none_any test (only done aims) no_done)

    nothing_of_both : filter (λ d. test d.1) (front ++ back) ≡ []
    nothing_of_both = subst (λ ds. filter (λ d. test d.1) ds ≡ []) before (none_filter test (only done aims) no_done)

  -- ---- nothing is replaced at its node or above, but the top
  node_stays : (p r : Path) (i : ℕ) (s : Path) → parents (moved c) ≡ p ∷ [] → r ++ i ∷ s ≡ p → is_replaced (front ++ back) (r ++ i ∷ []) ≡ false
  node_stays p r i s altering way =
      none_of_both (λ a. replaces (r ++ i ∷ []) a) (λ k e is h is_done hit.
      let from = from_target cs ours top place group e r i h hit in
      let x : Path = top ++ from.0 ∷ from.1 in
      let long : p ≡ place ++ ((from.0 ∷ from.1) ++ s) = sym way ∙ sym (append_assoc r (i ∷ []) s) ∙ ap (λ y. y ++ s) from.2 ∙ append_assoc place (from.0 ∷ from.1) s in
      let old : parents (aim c) ≡ (top ++ ((from.0 ∷ from.1) ++ s)) ∷ [] = unmoved_parents top place (aim c) ((from.0 ∷ from.1) ++ s) (group.below c is_ours) (altering ∙ ap (λ y. y ∷ []) long) in
      let node = altered root c (top ++ ((from.0 ∷ from.1) ++ s)) (fit_at root cs fit n c there) old in
      let whole : x ++ s ≡ top ++ ((from.0 ∷ from.1) ++ s) = append_assoc top (from.0 ∷ from.1) s in
      let node_there = node_over root.root x s (subst (λ y. IsNodeThere (at root.root y)) (sym whole) node.node) in
      group.alone c from.0 from.1 is_ours (node.around x s whole) k e is (region_has root e x (fit_at root cs fit k e is) node_there from.3))

  -- ---- it stands first in its gap
  least_in_gap : (p : Path) (i : ℕ) → aims_at_gap p i (moved c) ≡ true → filter (λ d. aims_at_gap p i d.1) front ≡ []
  least_in_gap p i here =
      let P : NumberedAim → Type 0 = λ d. d.0 < n → done d.0 ≡ true → aims_at_gap p i d.1 ≡ false in
      let all : AllByRecursion P aims = each P (λ k e is h earlier is_done. false_from_ne_true (aims_at_gap p i (moved e)) (λ hit.
      let gap = moved-same_gap top place (aim c) (aim e) (group.below c is_ours) (group.below e h) (same_gap_from (moved c) (moved e) p i here hit) in
      let first = gap_first_from (n, c) (k, e) gap earlier in
      let comes : comes_first cs (n, c) (k, e) ≡ true = or_left (owned_first cs (n, c) (k, e) || gap_first (n, c) (k, e)) (token_first (n, c) (k, e)) (or_right (owned_first cs (n, c) (k, e)) (gap_first (n, c) (k, e)) first) in
      true≢false (sym (waiting-ordered cs done w waiting n k c e there is (group.stays c is_ours) (group.stays e h) comes is_done) ∙ undone))) in
      let ahead : AllByRecursion P parts.front = (all_left P parts.front ((n, moved c) ∷ parts.back) (subst (AllByRecursion P) parts.is all)).0 in
      let both = all_done (λ d. P d × (d.0 < n)) done parts.front (all_both P (λ d. d.0 < n) parts.front ahead parts.lower) in
      none_filter (λ a. aims_at_gap p i a) front (all_weaker (λ d. (P d × (d.0 < n)) × (done d.0 ≡ true)) (λ d. aims_at_gap p i d.1 ≡ false) front (λ d x. x.0.0 x.0.1 x.1) both)

  stands_first : (g : Gap) → gap_of (moved c) ≡ Some g → gap_order (inserts_at (front ++ (n, moved c) ∷ back) g.node g.index) ≡ n ∷ gap_order (inserts_at (front ++ back) g.node g.index)
  stands_first g is =
      let here : aims_at_gap g.node g.index (moved c) ≡ true = ap (λ o. option_map_or (λ x. same_path g.node x.node && nat_eq g.index x.index) o false) is ∙ and_from (same_path g.node g.node) (nat_eq g.index g.index) (same_path_from g.node g.node refl) (eq-eqb g.index g.index refl) in
      stands_first-least front (n, moved c) back g.node g.index here (least_in_gap g.node g.index here)

  -- ---- what it replaces is not replaced
  unshared : (k : ℕ) (e : Change) → slice_get cs k ≡ Some e → done k ≡ true → shared_targets c e ≡ true → shared_targets e c ≡ true → ⊥
  unshared k e is is_done h g =
      let other : n ≡ k → ⊥ = λ same. true≢false (sym is_done ∙ ap done (sym same) ∙ undone) in
      let not_before : n < k → ⊥ = λ less. true≢false (sym h ∙ unclashed cs n k c e apart less there is) in
      let not_after : k < n → ⊥ = λ less. true≢false (sym g ∙ unclashed cs k n e c apart less is there) in
      omega (arith, other, not_before, not_after)

  targets_stay : (p : Path) → replaces p (moved c) ≡ true → is_replaced (front ++ back) p ≡ false
  targets_stay p own =
      none_of_both (λ a. replaces p a) (λ k e is h is_done hit.
      let mine : ComesFrom top place (aim c) p = moved_replaces top place (aim c) p own in
      let other : ComesFrom top place (aim e) p = moved_replaces top place (aim e) p hit in
      let same : mine.0 ≡ other.0 = moved_cancel top place mine.0 other.0 (group.under c mine.0 is_ours mine.1) (group.under e other.0 h other.1) (sym mine.2 ∙ other.2) in
      let ours_has : has_path (targets c) mine.0 ≡ true = sym (replaces-targets mine.0 c) ∙ mine.1 in
      let other_has : has_path (targets e) mine.0 ≡ true = ap (has_path (targets e)) same ∙ sym (replaces-targets other.0 e) ∙ other.1 in
      unshared k e is is_done (meets (targets c) (targets e) mine.0 ours_has other_has) (meets (targets e) (targets c) mine.0 other_has ours_has))

  -- ---- nothing is put between two of them
  none_between : (p : Path) (i : ℕ) → replaces (p ++ i ∷ []) (moved c) ≡ true → replaces (p ++ suc i ∷ []) (moved c) ≡ true → inserts_at (front ++ back) p (suc i) ≡ []
  none_between p i one two =
      ap numbers (nothing_of_both (λ a. aims_at_gap p (suc i) a) (λ k e is h is_done hit.
      let from = from_target cs ours top place group c p i is_ours one in
      let next = from_target cs ours top place group c p (suc i) is_ours two in
      let x : Path = top ++ from.0 ∷ from.1 in
      let y : Path = top ++ next.0 ∷ next.1 in
      let differ : x ≡ y → ⊥ = λ same. no_next (from.2 ∙ ap (λ t. place ++ t) (append_cancel_left top (from.0 ∷ from.1) (next.0 ∷ next.1) same) ∙ sym next.2) in
      let range : IsOfRange c x = two_targets c x y differ from.3 next.3 in
      let anchored : aim e ≡ AfterElement x = unmoved_after top place (aim e) (p ++ i ∷ []) (from.0 ∷ from.1) (group.below e h) (after_gap (moved e) p i hit) from.2 in
      let around : is_around c e ≡ true = meets (surroundings e) (region c) x (surrounds_anchor e x anchored) range.inside in
      let drops : (not (is_keeping c) && is_around c e) ≡ true = and_from (not (is_keeping c)) (is_around c e) (not_from_false (is_keeping c) range.drops) around in
      let dropped : is_dropped cs e ≡ true = any_passes_from_place (λ r. not (is_keeping r) && is_around r e) cs n c there drops in
      true≢false (sym dropped ∙ group.stays e h)))
    where
      no_next : p ++ i ∷ [] ≡ p ++ suc i ∷ [] → ⊥
      no_next e = let slots : i ≡ suc i = (same_from_push p p i (suc i) e).1 in omega (arith, slots)

  pub group-next : IsSplit (group_aims cs ours top place) done n (moved_aim top place (aim c))
  group-next = record {
    front = front;
    back = back;
    before = before;
    after = only-after done n aims (moved c) parts undone;
    next = record {
      node_stays = node_stays;
      stands_first = stands_first;
      targets_stay = targets_stay;
      none_between = none_between;
    };
  }
