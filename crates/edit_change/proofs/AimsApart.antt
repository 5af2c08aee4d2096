-- Changes that aim at different gaps and share no target, also once they are moved into a payload.
--     same_gap_from                 two aims at one gap
--     start_of, start_in_targets    the first path that a replacement replaces; it is a target
--     IsUnder, IsBelow              a path is this one or below it; an aim's path is
--     moved-path, moved_cancel      a path below the target, moved; two that are moved to one path are one
--     moved-same_gap, moved-start_of      aims below the target, moved
--     above_is_under                what is above a path
--     IsOwned, owned-at             the owner has one target, around what it owns
--     owned_below                   a change that is owned aims at or below the owner's target
use Rattle.std.specs.Prelude.{◌≡◌, ℕ, zero, suc, Bool, true, false, not, ◌&&◌, nat_eq, List, [], ◌∷◌, ◌++◌, map, drop, length, slice_get, unwrap_or, Option, Some, None, IfSome, refl}
use Rattle.std.specs.List.{AllByRecursion, list_any}
use Rattle.std.specs.Option.{option_map_or}
use Rattle.std.proofs.Common.{ap, ap₂, sym, ◌∙◌, arith}
use Rattle.std.proofs.lemmas.Bool.{and_parts, or_cases, or_left, or_right, or_parts, false≢true, eqb-true}
use Rattle.std.proofs.lemmas.List.{append_cancel_left, append-nil}
use Rattle.std.proofs.lemmas.Option.{none-some, same_Some}
use Rattle.std.proofs.Math.Seq.{drop-append_seam}
use mathlib.Core.Logic.{◌⊎◌, inl, inr}
use Rattle.cst_core.specs.Path.{Path, same_path, has_path, parent_path, last_slot, above, up_to, counted_from, first_item}
use Rattle.cst_core.specs.SyntaxElement.{element_of}
use Rattle.cst_core.specs.declared.element.SyntaxElement.TheVariants.{Node, Token}
use Rattle.edit_change.specs.Position.{anchor}
use Rattle.edit_change.specs.Change.{targets, shared_targets}
use Rattle.edit_change.specs.Aim.{Aim, FirstIn, AfterElement, Over, aims_at_gap, same_gap, starts_at}
use Rattle.edit_change.specs.ChangeAim.{position_aim, aim}
use Rattle.edit_change.specs.Nesting.{region, is_keeping, surroundings, is_around, owner, has_owner}
use Rattle.edit_change.specs.NewTree.{moved_path, moved_aim, targets_of}
use Rattle.edit_change.specs.declared.position.Position.{Position}
use Rattle.edit_change.specs.PositionForm.{FirstChild, After}
use Rattle.edit_change.specs.declared.change.Change.{Change}
use Rattle.edit_change.specs.declared.change.Change.TheVariants.{Insert, InsertAll, Replace, ReplaceWithMany, ReplaceAll}
use Rattle.edit_change.proofs.Lists.{all_weaker}
use Rattle.edit_change.proofs.Paths.{same_path-true, same_path_from, meets}
use Rattle.edit_change.proofs.Owners.{owner_cases, owner_from, HasRegion, owner_region}

pub has_own : (p : Path) (ps : List Path) → has_path (p ∷ ps) p ≡ true
has_own p ps = or_left (same_path p p) (has_path ps p) (same_path_from p p refl)

parent_and_slot : (i : ℕ) (p : Path) → i ∷ p ≡ parent_path (i ∷ p) ++ last_slot (i ∷ p) ∷ []
parent_and_slot i [] = refl
parent_and_slot i (j ∷ p) = ap (λ q. i ∷ q) (parent_and_slot j p)

-- ---- one gap
zero_not_suc : (i j : ℕ) → nat_eq i 0 ≡ true → nat_eq i (suc j) ≡ true → ⊥
zero_not_suc i j h k = omega (arith, eqb-true i 0 h, eqb-true i (suc j) k)

pub same_gap_from : (a b : Aim) (p : Path) (i : ℕ) → aims_at_gap p i a ≡ true → aims_at_gap p i b ≡ true → same_gap a b ≡ true
same_gap_from (FirstIn x) (FirstIn y) p i h k =
    same_path_from x y (sym (same_path-true p x (and_parts _ _ h).0) ∙ same_path-true p y (and_parts _ _ k).0)
same_gap_from (FirstIn x) (AfterElement []) p i h k = absurd (false≢true k)
same_gap_from (FirstIn x) (AfterElement (j ∷ y)) p i h k =
    absurd (zero_not_suc i (last_slot (j ∷ y)) (and_parts (same_path p x) _ h).1 (and_parts (same_path p (parent_path (j ∷ y))) _ k).1)
same_gap_from (FirstIn x) (Over ys) p i h k = absurd (false≢true k)
same_gap_from (AfterElement []) b p i h k = absurd (false≢true h)
same_gap_from (AfterElement (j ∷ x)) (FirstIn y) p i h k =
    absurd (zero_not_suc i (last_slot (j ∷ x)) (and_parts (same_path p y) _ k).1 (and_parts (same_path p (parent_path (j ∷ x))) _ h).1)
same_gap_from (AfterElement (j ∷ x)) (AfterElement []) p i h k = absurd (false≢true k)
same_gap_from (AfterElement (j ∷ x)) (AfterElement (l ∷ y)) p i h k =
    let parents : parent_path (j ∷ x) ≡ parent_path (l ∷ y) = sym (same_path-true p (parent_path (j ∷ x)) (and_parts _ _ h).0) ∙ same_path-true p (parent_path (l ∷ y)) (and_parts _ _ k).0 in
    let slots : last_slot (j ∷ x) ≡ last_slot (l ∷ y) = omega (arith, eqb-true i (suc (last_slot (j ∷ x))) (and_parts (same_path p (parent_path (j ∷ x))) _ h).1, eqb-true i (suc (last_slot (l ∷ y))) (and_parts (same_path p (parent_path (l ∷ y))) _ k).1) in
    same_path_from (j ∷ x) (l ∷ y) (parent_and_slot j x ∙ ap₂ (λ q n. q ++ n ∷ []) parents slots ∙ sym (parent_and_slot l y))
same_gap_from (AfterElement (j ∷ x)) (Over ys) p i h k = absurd (false≢true k)
same_gap_from (Over xs) b p i h k = absurd (false≢true h)

-- ---- one start
abbrev pub start_of : Aim → Option Path
start_of (FirstIn p) = None
start_of (AfterElement p) = None
start_of (Over []) = None
start_of (Over (p ∷ ps)) = Some p

pub starts : (a : Aim) (p : Path) → starts_at p a ≡ true → start_of a ≡ Some p
starts (FirstIn q) p h = absurd (false≢true h)
starts (AfterElement q) p h = absurd (false≢true h)
starts (Over []) p h = absurd (false≢true h)
starts (Over (q ∷ qs)) p h = ap Some (sym (same_path-true p q h))

start_in : (ps : List Path) (p : Path) → start_of (Over ps) ≡ Some p → has_path ps p ≡ true
start_in [] p h = absurd (none-some p h)
start_in (q ∷ qs) p h = ap (has_path (q ∷ qs)) (sym (same_Some q p h)) ∙ has_own q qs

no_start : (at : Position) (p : Path) → start_of (position_aim at) ≡ Some p → ⊥
no_start (FirstChild n) p h = none-some p h
no_start (After e) p h = none-some p h

pub start_in_targets : (c : Change) (p : Path) → start_of (aim c) ≡ Some p → has_path (targets c) p ≡ true
start_in_targets (Insert at e) p h = absurd (no_start at p h)
start_in_targets (InsertAll at es) p h = absurd (no_start at p h)
start_in_targets (Replace t e) p h = start_in (targets (Replace t e)) p h
start_in_targets (ReplaceWithMany t es) p h = start_in (targets (ReplaceWithMany t es)) p h
start_in_targets (ReplaceAll first last es) p h = start_in (targets (ReplaceAll first last es)) p h

pub shared_from_start : (c d : Change) (p : Path) → start_of (aim c) ≡ Some p → start_of (aim d) ≡ Some p → shared_targets c d ≡ true
shared_from_start c d p h k = meets (targets c) (targets d) p (start_in_targets c p h) (start_in_targets d p k)

region_in_targets : (r : Change) (p : Path) → has_path (region r) p ≡ true → has_path (targets r) p ≡ true
region_in_targets (Insert at e) p h = h
region_in_targets (InsertAll at es) p h = h
region_in_targets (Replace (Node n) e) p h = h
region_in_targets (Replace (Token t) e) p h = absurd (false≢true h)
region_in_targets (ReplaceWithMany (Node n) es) p h = h
region_in_targets (ReplaceWithMany (Token t) es) p h = absurd (false≢true h)
region_in_targets (ReplaceAll first last es) p h = h

pub shared_from_region : (c d : Change) (p : Path) → has_path (region c) p ≡ true → has_path (region d) p ≡ true → shared_targets c d ≡ true
shared_from_region c d p h k = meets (targets c) (targets d) p (region_in_targets c p h) (region_in_targets d p k)

-- ---- moved into a payload
abbrev path_of : Aim → Option Path
path_of (FirstIn p) = Some p
path_of (AfterElement p) = Some p
path_of (Over []) = None
path_of (Over (p ∷ ps)) = Some p

abbrev pub IsUnder : Path → Path → Type 0
IsUnder n p = (r : Path) × (p ≡ n ++ r)

abbrev pub IsBelow : Path → Aim → Type 0
IsBelow n a = IfSome (path_of a) (IsUnder n)

pub moved-path : (n q p : Path) (u : IsUnder n p) → moved_path n q p ≡ q ++ u.0
moved-path n q p u = ap (λ s. q ++ drop (length n) s) u.1 ∙ ap (λ s. q ++ s) (drop-append_seam n u.0)

pub moved_cancel : (n q x y : Path) → IsUnder n x → IsUnder n y → moved_path n q x ≡ moved_path n q y → x ≡ y
moved_cancel n q x y u v same =
    u.1 ∙ ap (λ s. n ++ s) (append_cancel_left q u.0 v.0 (sym (moved-path n q x u) ∙ same ∙ moved-path n q y v)) ∙ sym v.1

pub moved-same_gap : (n q : Path) (a b : Aim) → IsBelow n a → IsBelow n b → same_gap (moved_aim n q a) (moved_aim n q b) ≡ true → same_gap a b ≡ true
moved-same_gap n q (FirstIn x) (FirstIn y) u v h = same_path_from x y (moved_cancel n q x y u v (same_path-true (moved_path n q x) (moved_path n q y) h))
moved-same_gap n q (FirstIn x) (AfterElement y) u v h = h
moved-same_gap n q (FirstIn x) (Over ys) u v h = h
moved-same_gap n q (AfterElement x) (FirstIn y) u v h = h
moved-same_gap n q (AfterElement x) (AfterElement y) u v h = same_path_from x y (moved_cancel n q x y u v (same_path-true (moved_path n q x) (moved_path n q y) h))
moved-same_gap n q (AfterElement x) (Over ys) u v h = h
moved-same_gap n q (Over xs) b u v h = absurd (false≢true h)

-- two starts that are moved to one path are one
pub moved-start_of : (n q : Path) (a b : Aim) (p : Path) → IsBelow n a → IsBelow n b → start_of (moved_aim n q a) ≡ Some p → start_of (moved_aim n q b) ≡ Some p → (x : Path) × (start_of a ≡ Some x) × (start_of b ≡ Some x)
moved-start_of n q (FirstIn x) b p u v h k = absurd (none-some p h)
moved-start_of n q (AfterElement x) b p u v h k = absurd (none-some p h)
moved-start_of n q (Over []) b p u v h k = absurd (none-some p h)
moved-start_of n q (Over (x ∷ xs)) (FirstIn y) p u v h k = absurd (none-some p k)
moved-start_of n q (Over (x ∷ xs)) (AfterElement y) p u v h k = absurd (none-some p k)
moved-start_of n q (Over (x ∷ xs)) (Over []) p u v h k = absurd (none-some p k)
moved-start_of n q (Over (x ∷ xs)) (Over (y ∷ ys)) p u v h k =
    (x, refl, ap Some (moved_cancel n q y x v u (same_Some _ p k ∙ sym (same_Some _ p h))))

-- ---- what is owned lies below the owner's target
pub has_map : (i : ℕ) (ps : List Path) (n : Path) → has_path (map (λ p. i ∷ p) ps) n ≡ true → (m : Path) × (n ≡ i ∷ m) × (has_path ps m ≡ true)
has_map i [] n h = absurd (false≢true h)
has_map i (p ∷ ps) [] h = absurd (no_empty ps h)
  where
    no_empty : (ps : List Path) → has_path (map (λ p. i ∷ p) ps) [] ≡ true → ⊥
    no_empty [] h = false≢true h
    no_empty (p ∷ ps) h = no_empty ps h
has_map i (p ∷ ps) (j ∷ n) h =
    elim (or_cases (nat_eq j i && same_path n p) (has_path (map (λ q. i ∷ q) ps) (j ∷ n)) h) [
      | inl here ↦ (n, ap (λ k. k ∷ n) (eqb-true j i (and_parts _ _ here).0), or_left (same_path n p) (has_path ps n) (and_parts (nat_eq j i) _ here).1)
      | inr there ↦ let found = has_map i ps (j ∷ n) there in (found.0, found.1, or_right (same_path found.0 p) (has_path ps found.0) found.2)
    ]

pub above_is_under : (p n : Path) → has_path (above p) n ≡ true → (i : ℕ) × (r : Path) × (p ≡ n ++ i ∷ r)
above_is_under [] n h = absurd (false≢true h)
above_is_under (i ∷ p) [] h = (i, p, refl)
above_is_under (i ∷ p) (j ∷ n) h =
    let found : (m : Path) × (j ∷ n ≡ i ∷ m) × (has_path (above p) m ≡ true) = has_map i (above p) (j ∷ n) h in
    let up : (k : ℕ) × (r : Path) × (p ≡ found.0 ++ k ∷ r) = above_is_under p found.0 found.2 in
    (up.0, up.1, ap (λ s. i ∷ s) up.2 ∙ ap (λ s. s ++ up.0 ∷ up.1) (sym found.1))

pub has-append : (ps qs : List Path) (p : Path) → has_path (ps ++ qs) p ≡ true → (has_path ps p ≡ true) ⊎ (has_path qs p ≡ true)
has-append [] qs p h = inr h
has-append (x ∷ ps) qs p h =
    elim (or_cases (same_path p x) (has_path (ps ++ qs) p) h) [
      | inl here ↦ inl (or_left (same_path p x) (has_path ps p) here)
      | inr there ↦ elim (has-append ps qs p there) [ inl l ↦ inl (or_right (same_path p x) (has_path ps p) l) | inr r ↦ inr r ]
    ]

pub only_one : (p q : Path) → has_path (q ∷ []) p ≡ true → p ≡ q
only_one p q h = elim (or_cases (same_path p q) false h) [ inl here ↦ same_path-true p q here | inr none ↦ absurd (false≢true none) ]

up_to_is_under : (p n : Path) → has_path (up_to p) n ≡ true → IsUnder n p
up_to_is_under p n h =
    elim (has-append (above p) (p ∷ []) n h) [
      | inl up ↦ let found = above_is_under p n up in (found.0 ∷ found.1, found.2)
      | inr own ↦ ([], sym (only_one n p own) ∙ sym (append-nil n))
    ]

above_under : (p n : Path) → has_path (above p) n ≡ true → IsUnder n p
above_under p n h = let found = above_is_under p n h in (found.0 ∷ found.1, found.2)

range_below : (n p : Path) (m : ℕ) → has_path (above p) n ≡ true → IsBelow n (Over (map (λ i. parent_path p ++ i ∷ []) (counted_from (last_slot p) m)))
range_below n p zero h = tt
range_below n [] (suc m) h = absurd (false≢true h)
range_below n (i ∷ p) (suc m) h =
    let u : IsUnder n (i ∷ p) = above_under (i ∷ p) n h in (u.0, sym (parent_and_slot i p) ∙ u.1)

position_below : (n : Path) (at : Position) → has_path (up_to (anchor at).path) n ≡ true → IsBelow n (position_aim at)
position_below n (FirstChild e) h = up_to_is_under e.path n h
position_below n (After e) h = up_to_is_under (element_of e).path n h

below_surroundings : (c : Change) (n : Path) → has_path (surroundings c) n ≡ true → IsBelow n (aim c)
below_surroundings (Insert at e) n h = position_below n at h
below_surroundings (InsertAll at es) n h = position_below n at h
below_surroundings (Replace t e) n h = above_under (element_of t).path n h
below_surroundings (ReplaceWithMany t es) n h = above_under (element_of t).path n h
below_surroundings (ReplaceAll first last es) n h = range_below n (element_of first).path _ h

-- a keeping replacement has one target, and it is the region
one_target : (r : Change) → is_keeping r ≡ true → (p : Path) × (region r ≡ p ∷ []) × (targets r ≡ p ∷ [])
one_target (Replace (Node n) (Some (Node r))) h = (n.path, refl, refl)
one_target _ h = absurd (false≢true h)

pub none_at : {X : Type 0} (test : X → Bool) (xs : List X) (i : ℕ) (x : X) → list_any test xs ≡ false → slice_get xs i ≡ Some x → test x ≡ false
none_at test [] i x h is = absurd (none-some x is)
none_at test (y ∷ xs) zero x h is = ap test (sym (same_Some y x is)) ∙ (or_parts (test y) (list_any test xs) h).0
none_at test (y ∷ xs) (suc i) x h is = none_at test xs i x (or_parts (test y) (list_any test xs) h).1 is

keeping_from : (b a : Bool) → a ≡ true → (not b && a) ≡ false → b ≡ true
keeping_from true a h k = refl
keeping_from false a h k = absurd (false≢true (sym k ∙ h))

all_of_itself : (ps : List Path) → AllByRecursion (λ p. has_path ps p ≡ true) ps
all_of_itself [] = tt
all_of_itself (p ∷ ps) =
    (has_own p ps, all_weaker (λ q. has_path ps q ≡ true) (λ q. has_path (p ∷ ps) q ≡ true) ps (λ q h. or_right (same_path q p) (has_path ps q) h) (all_of_itself ps))

-- the change that owns another one has one target, which is around that one
pub record IsOwned (changes : List Change) (o : ℕ) (c : Change) (n : Path) : Type 0 where
  pub by : Change
  pub there : slice_get changes o ≡ Some by
  pub one : region by ≡ n ∷ []
  pub around : has_path (surroundings c) n ≡ true

pub owned-at : (changes : List Change) (o : ℕ) (c : Change) → has_owner changes o c ≡ true → IsOwned changes o c (unwrap_or (first_item (targets_of changes o)) [])
owned-at changes o c owned =
    let by : owner changes c ≡ Some o = owner_from changes o c owned in
    let found : HasRegion (λ q. has_path (surroundings c) q ≡ true) changes o = owner_region (λ q. has_path (surroundings c) q ≡ true) changes c o (all_of_itself (surroundings c)) by in
    let around : is_around found.0 c ≡ true = meets (surroundings c) (region found.0) found.1 found.4 found.3 in
    let keeps : is_keeping found.0 ≡ true = keeping_from (is_keeping found.0) (is_around found.0 c) around (none_at (λ r. not (is_keeping r) && is_around r c) changes o found.0 (owner_cases changes c o by).0 found.2) in
    let one : (p : Path) × (region found.0 ≡ p ∷ []) × (targets found.0 ≡ p ∷ []) = one_target found.0 keeps in
    let target : unwrap_or (first_item (targets_of changes o)) [] ≡ one.0 = ap (λ s. unwrap_or (first_item (option_map_or targets s [])) []) found.2 ∙ ap (λ ps. unwrap_or (first_item ps) []) one.2 in
    let same : found.1 ≡ one.0 = only_one found.1 one.0 (ap (λ ps. has_path ps found.1) (sym one.1) ∙ found.3) in
    record {
      by = found.0;
      there = found.2;
      one = one.1 ∙ ap (λ q. q ∷ []) (sym target);
      around = ap (has_path (surroundings c)) (target ∙ sym same) ∙ found.4;
    }

pub owned_below : (changes : List Change) (o : ℕ) (c : Change) → has_owner changes o c ≡ true → IsBelow (unwrap_or (first_item (targets_of changes o)) []) (aim c)
owned_below changes o c owned = below_surroundings c _ (owned-at changes o c owned).around
