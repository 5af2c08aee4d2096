-- What a deletion of a range leaves of the text, where no other change is recorded.
--     IsDeletion                   a change deletes this run of children of the element at a path
--     LeavesText, text_alone       none of these changes is owned, and they give this text; the text where such a change is the only one
--     IsAccepted, accepted         what is known of a range that is not refused
--     deletes_range, deletes_one   the change that is recorded for a range, for one element
--     range_text                   the text after its deletion
--     whole                        the tree of a root
use Rattle.std.specs.Prelude.{◌≡◌, ℕ, zero, suc, ◌+◌, ◌-◌, ◌≤◌, ◌&&◌, ◌||◌, not, Bool, true, false, cond, List, [], ◌∷◌, ◌++◌, length, map, take, drop, filter_map, unwrap_or, Option, Some, None, All, refl}
use Rattle.std.specs.List.{AllByRecursion}
use Rattle.std.specs.Option.{option_map_or}
use Rattle.std.proofs.Common.{ap, ap₂, sym, subst, ◌∙◌, arith, append_assoc, length-append}
use Rattle.std.proofs.lemmas.Bool.{and_parts, and_right, or_parts, or_cases, or_from, not-false, not-true, leb-true}
use Rattle.std.proofs.lemmas.List.Elements.{All-cons, All-nil}
use Rattle.std.proofs.lemmas.List.Prefix.{front_rest}
use mathlib.Core.Logic.{inl, inr}
use Rattle.cst_core.specs.Path.{Path, same_path, has_path, parent_path, last_slot, above, counted_from, siblings, last_item}
use Rattle.cst_core.specs.Tree.{Token, SyntaxTree, at, text, is_token}
use Rattle.cst_core.specs.Element.{Element, subtree}
use Rattle.cst_core.specs.Order.{start}
use Rattle.cst_core.specs.SyntaxElement.{element_of}
use Rattle.cst_core.specs.declared.element.SyntaxElement.{SyntaxElement}
use Rattle.cst_core.specs.declared.element.SyntaxElement.TheVariants as element
use Rattle.syntax_editor.specs.Aim.{Over}
use Rattle.syntax_editor.specs.ChangeForms.{Change}
use Rattle.syntax_editor.specs.ChangeForms.TheVariants.{Replace, ReplaceAll}
use Rattle.syntax_editor.specs.Change.{payload}
use Rattle.syntax_editor.specs.ChangeAim.{aim}
use Rattle.syntax_editor.specs.Nesting.{region, region_at, region_of_one, surroundings, is_around, is_dropped, is_keeping, owner}
use Rattle.syntax_editor.specs.Recording.{are_one, delete}
use Rattle.syntax_editor.specs.Fits.{is_native, is_root, is_range, have_one_path, are_siblings}
use Rattle.syntax_editor.specs.NewTree.{change_aims}
use Rattle.syntax_editor.specs.RewritingLaws.{brought_text, text_filled, changed_text}
use Rattle.syntax_editor.specs.Table.{first_fit}
use Rattle.syntax_editor.specs.RecordCall.{DeletingAll, recorded, refusal}
use Rattle.syntax_editor.specs.declared.error.RecordError.TheVariants.{Foreign, BadRange, DeletesRoot}
use Rattle.list_removal.specs.RemovalText.{end_of, text_without}
use Rattle.list_removal.proofs.Apart.{same_path-true, all_weaker, none-is, apart}
use Rattle.list_removal.proofs.Kept.{kept, filled_whole}
use Rattle.list_removal.proofs.Siblings.{parent-push, slot-push}
use Rattle.list_removal.proofs.Cut.{is_cut, top_stays, cut-is, IsCut, cut}

-- the tree of a root
pub whole : (root : Element) → root.path ≡ [] → subtree root ≡ root.root
whole root top = ap (λ p. unwrap_or (at root.root p) (Token 0 [])) top

-- what the law of texts asks for, and what it gives
pub record LeavesText (cs : List Change) (t : SyntaxTree) (s : List ℕ) : Type 0 where
  pub unowned : All (λ c. owner cs c ≡ None) cs
  pub text_is : changed_text cs t ≡ s

-- ---- what is above a run
under : (m : ℕ) (q : Path) (i n : ℕ) (ps : List Path) → AllByRecursion (λ p. is_cut q i n p ≡ false) ps → AllByRecursion (λ p. is_cut (m ∷ q) i n p ≡ false) (map (λ p. m ∷ p) ps)
under m q i n [] all = tt
under m q i n (p ∷ ps) all = (and_right _ _ all.0, under m q i n ps all.1)

above_stays : (q : Path) (i n k : ℕ) → AllByRecursion (λ p. is_cut q i n p ≡ false) (above (q ++ k ∷ []))
above_stays [] i n k = (refl, tt)
above_stays (m ∷ q) i n k = (refl, under m q i n (above (q ++ k ∷ [])) (above_stays q i n k))

none_found : (f : Path → Option ℕ) (ps : List Path) → AllByRecursion (λ p. f p ≡ None) ps → filter_map f ps ≡ []
none_found f [] all = refl
none_found f (p ∷ ps) all = rw all.0 (none_found f ps all.1)

cond_none : (b : Bool) → ◌≡◌ {A = Option ℕ} (cond b None None) None
cond_none true = refl
cond_none false = refl

-- ---- one change
pub record IsDeletion (c : Change) (q : Path) (i n : ℕ) : Type 0 where
  pub aim_is : aim c ≡ Over (map (λ k. q ++ k ∷ []) (counted_from i (suc n)))
  pub brings : payload c ≡ []
  pub under_these : surroundings c ≡ above (q ++ i ∷ [])
  pub region_within : (p : Path) → is_cut q i (suc n) p ≡ false → has_path (region c) p ≡ false

module _ (c : Change) (q : Path) (i n : ℕ) (h : IsDeletion c q i n) where
  none_around : AllByRecursion (λ p. has_path (region c) p ≡ false) (surroundings c)
  none_around =
      subst (AllByRecursion (λ p. has_path (region c) p ≡ false)) (sym h.under_these) (all_weaker (λ p. is_cut q i (suc n) p ≡ false) (λ p. has_path (region c) p ≡ false) (above (q ++ i ∷ [])) h.region_within (above_stays q i (suc n) i))

  stays : is_dropped (c ∷ []) c ≡ false
  stays = or_from _ _ (and_right (not (is_keeping c)) (is_around c c) (apart (surroundings c) (region c) none_around)) refl

  no_owner : owner (c ∷ []) c ≡ None
  no_owner =
      ap (λ ns. cond (is_dropped (c ∷ []) c) None (last_item ns)) (none_found (region_at (c ∷ [])) (surroundings c) (all_weaker (λ p. has_path (region c) p ≡ false) (λ p. region_at (c ∷ []) p ≡ None) (surroundings c) (λ p none. none-is (λ r. has_path (region r) p) c none) none_around))
      ∙ cond_none (is_dropped (c ∷ []) c)

  brings_nothing : (k : ℕ) → brought_text (c ∷ []) k ≡ []
  brings_nothing zero = rw h.brings refl
  brings_nothing (suc k) = refl

  pub text_alone : (t : SyntaxTree) → LeavesText (c ∷ []) t (kept (is_cut q i (suc n)) t)
  text_alone t =
      record {
        unowned = All-cons (λ d. owner (c ∷ []) d ≡ None) c [] no_owner (All-nil (λ d. owner (c ∷ []) d ≡ None));
        text_is = ap (λ b. text_filled (brought_text (c ∷ [])) (change_aims (cond (not b) ((0, c) ∷ []) [])) t) stays
            ∙ ap (λ a. text_filled (brought_text (c ∷ [])) ((0, a) ∷ []) t) h.aim_is
            ∙ filled_whole (brought_text (c ∷ [])) brings_nothing (map (λ k. q ++ k ∷ []) (counted_from i (suc n))) (is_cut q i (suc n)) t (cut-is q i (suc n)) (top_stays q i (suc n));
      }

-- ---- a range that is not refused
three_lines : {X : Type 0} (a b c : Bool) (x y z : X) → first_fit ((a, x) ∷ (b, y) ∷ (c, z) ∷ []) ≡ None → (a ≡ false) × (b ≡ false) × (c ≡ false)
three_lines true b c x y z none = cc
three_lines false true c x y z none = cc
three_lines false false true x y z none = cc
three_lines false false false x y z none = (refl, refl, refl)

pub record IsThere (o : Option SyntaxTree) : Type 0 where
  pub tree : SyntaxTree
  pub is : o ≡ Some tree

passes : (test : SyntaxTree → Bool) (o : Option SyntaxTree) → option_map_or test o false ≡ true → IsThere o
passes test None h = cc
passes test (Some t) h = record { tree = t; is = refl }

native_there : (root : Element) (e : SyntaxElement) → is_native root e ≡ true → IsThere (at root.root (element_of e).path)
native_there root (element.Node e) h = passes (λ t. not (is_token t)) _ (and_parts _ _ h).1
native_there root (element.Token e) h = passes is_token _ (and_parts _ _ h).1

last_split : (p : Path) → same_path p [] ≡ false → p ≡ parent_path p ++ last_slot p ∷ []
last_split [] below = cc
last_split (i ∷ p) below = split i p
  where
    split : (i : ℕ) (p : Path) → i ∷ p ≡ parent_path (i ∷ p) ++ last_slot (i ∷ p) ∷ []
    split i [] = refl
    split i (j ∷ p) = ap (λ r. i ∷ r) (split j p)

pub record IsAccepted (root : Element) (first last : SyntaxElement) : Type 0 where
  pub parent : Path
  pub from : ℕ
  pub to : ℕ
  pub first_path : (element_of first).path ≡ parent ++ from ∷ []
  pub last_path : (element_of last).path ≡ parent ++ to ∷ []
  pub slots : from ≤ to
  pub there : IsThere (at root.root (element_of last).path)

accepted : (root : Element) (first last : SyntaxElement) → refusal root (DeletingAll first last) ≡ None → IsAccepted root first last
accepted root first last none =
    let lines = three_lines (not (is_native root first) || not (is_native root last)) (not (is_range first last)) (is_root first) Foreign BadRange DeletesRoot none in
    let native : is_native root last ≡ true = not-false (is_native root last) (or_parts (not (is_native root first)) (not (is_native root last)) lines.0).1 in
    let first_path = last_split (element_of first).path lines.2 in
    elim (or_cases (have_one_path first last) _ (not-false _ lines.1)) [
      | inl one ↦ let same : (element_of first).path ≡ (element_of last).path = same_path-true _ _ one in
          record {
            parent = parent_path (element_of first).path;
            from = last_slot (element_of first).path;
            to = last_slot (element_of first).path;
            first_path = first_path;
            last_path = sym same ∙ first_path;
            slots = omega arith;
            there = native_there root last native;
          }
      | inr two ↦ let parts = and_parts (are_siblings first last) _ two in
          let sides = and_parts (not (is_root first) && not (is_root last)) _ parts.0 in
          let below : is_root last ≡ false = not-true _ (and_parts _ _ sides.0).1 in
          let parents : parent_path (element_of first).path ≡ parent_path (element_of last).path = same_path-true _ _ sides.1 in
          record {
            parent = parent_path (element_of first).path;
            from = last_slot (element_of first).path;
            to = last_slot (element_of last).path;
            first_path = first_path;
            last_path = last_split (element_of last).path below ∙ ap (λ p. p ++ last_slot (element_of last).path ∷ []) (sym parents);
            slots = leb-true _ _ parts.1;
            there = native_there root last native;
          }
    ]

-- ---- the change that a deletion records
module _ (q : Path) (i j : ℕ) (ordered : i ≤ j) where
  range_targets : siblings (q ++ i ∷ []) (q ++ j ∷ []) ≡ map (λ k. q ++ k ∷ []) (counted_from i (suc (j - i)))
  range_targets =
      let count : suc j - i ≡ suc (j - i) = omega arith in
      rw (parent-push q i, slot-push q i, slot-push q j, count) refl

  deletes_range : (first last : SyntaxElement) → (element_of first).path ≡ q ++ i ∷ [] → (element_of last).path ≡ q ++ j ∷ [] → IsDeletion (ReplaceAll first last []) q i (j - i)
  deletes_range first last first_path last_path =
      let targets_are = ap₂ siblings first_path last_path ∙ range_targets in
      record {
        aim_is = ap Over targets_are;
        brings = refl;
        under_these = ap above first_path;
        region_within = λ x out. ap (λ ps. has_path ps x) targets_are ∙ cut-is q i (suc (j - i)) x ∙ out;
      }

one_region : (q : Path) (i : ℕ) (e : SyntaxElement) (x : Path) → (element_of e).path ≡ q ++ i ∷ [] → is_cut q i 1 x ≡ false → has_path (region_of_one e) x ≡ false
one_region q i (element.Node e) x path out = ap (λ p. has_path (p ∷ []) x) path ∙ cut-is q i 1 x ∙ out
one_region q i (element.Token e) x path out = refl

deletes_one : (q : Path) (i : ℕ) (e : SyntaxElement) → (element_of e).path ≡ q ++ i ∷ [] → IsDeletion (Replace e None) q i 0
deletes_one q i e path =
    record {
      aim_is = ap (λ p. Over (p ∷ [])) path;
      brings = refl;
      under_these = ap above path;
      region_within = λ x out. one_region q i e x path out;
    }

-- ---- the text after it
front : (b r : List ℕ) → take (length b) (b ++ r) ≡ b
front [] r = refl
front (x ∷ b) r = ap (λ s. x ∷ s) (front b r)

back : (b x a : List ℕ) → drop (length b + length x) (b ++ (x ++ a)) ≡ a
back b x a = ap (λ k. drop k (b ++ (x ++ a))) (sym (length-append b x)) ∙ front_rest (b ++ (x ++ a)) (b ++ x) a (sym (append_assoc b x a))

left_of : (t : SyntaxTree) (q : Path) (i n j : ℕ) → IsCut t q i n j → kept (is_cut q i (suc n)) t ≡ take (start t (q ++ i ∷ [])) (text t) ++ drop (end_of t (q ++ j ∷ [])) (text t)
left_of t q i n j c =
    let first : take (start t (q ++ i ∷ [])) (text t) ≡ c.before = ap₂ take c.starts c.whole ∙ front c.before (c.inside ++ c.after) in
    let last : drop (end_of t (q ++ j ∷ [])) (text t) ≡ c.after = ap₂ drop c.ends c.whole ∙ back c.before c.inside c.after in
    c.left ∙ ap₂ (λ b a. b ++ a) (sym first) (sym last)

module _ (root : Element) (first last : SyntaxElement) where
  module _ (h : IsAccepted root first last) where
    slots_one : (element_of first).path ≡ (element_of last).path → 0 ≡ h.to - h.from
    slots_one same =
        let slot : h.from ≡ h.to = sym (slot-push h.parent h.from) ∙ ap last_slot (sym h.first_path ∙ same ∙ h.last_path) ∙ slot-push h.parent h.to in
        omega arith

    text_kept : (b : Bool) → are_one first last ≡ b → LeavesText (cond b (delete first []) (ReplaceAll first last [] ∷ [])) root.root (kept (is_cut h.parent h.from (suc (h.to - h.from))) root.root)
    text_kept true one =
        subst (λ n. LeavesText (Replace first None ∷ []) root.root (kept (is_cut h.parent h.from (suc n)) root.root)) (slots_one (same_path-true _ _ (and_parts _ _ one).1)) (text_alone (Replace first None) h.parent h.from 0 (deletes_one h.parent h.from first h.first_path) root.root)
    text_kept false one =
        text_alone (ReplaceAll first last []) h.parent h.from (h.to - h.from) (deletes_range h.parent h.from h.to h.slots first last h.first_path h.last_path) root.root

    left_over : kept (is_cut h.parent h.from (suc (h.to - h.from))) root.root ≡ text_without root.root first last
    left_over =
        let slots : h.to ≡ h.from + (h.to - h.from) = omega (arith, h.slots) in
        let there : at root.root (h.parent ++ h.to ∷ []) ≡ Some h.there.tree = ap (at root.root) (sym h.last_path) ∙ h.there.is in
        left_of root.root h.parent h.from (h.to - h.from) h.to (cut root.root h.parent h.from (h.to - h.from) h.to h.there.tree slots there)
        ∙ ap₂ (λ x y. take (start root.root x) (text root.root) ++ drop (end_of root.root y) (text root.root)) (sym h.first_path) (sym h.last_path)

  pub range_text : refusal root (DeletingAll first last) ≡ None → LeavesText (recorded (DeletingAll first last) []) root.root (text_without root.root first last)
  range_text none =
      let h = accepted root first last none in
      subst (LeavesText (recorded (DeletingAll first last) []) root.root) (left_over h) (text_kept h (are_one first last) refl)
