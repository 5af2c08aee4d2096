-- What the Replaces of one element bring, after one call and after many.
use Rattle.std.specs.Prelude.{◌≡◌, Bool, true, false, cond, ◌&&◌, List, [], ◌∷◌, ◌++◌, Option, Some, None, option_map, is_some, is_none, option_to_list, refl}
use Rattle.std.specs.List.{fold, list_any, cons_option}
use Rattle.std.proofs.Common.{ap, sym, ◌∙◌}
use Rattle.std.proofs.lemmas.Bool.{cases_Bool, cond-true, cond-false}
use Rattle.std.proofs.lemmas.List.{append-nil}
use Rattle.std.proofs.lemmas.List.Elements.{filter_map-append}
use mathlib.Core.Logic.{inl, inr}
use Rattle.cst_core.specs.Path.{last_item}
use Rattle.cst_core.specs.Element.{same_element}
use Rattle.cst_core.specs.SyntaxElement.{element_of}
use Rattle.cst_core.specs.declared.element.SyntaxElement.{SyntaxElement}
use Rattle.edit_change.specs.declared.change.Change.{Change}
use Rattle.edit_change.specs.declared.change.Change.TheVariants.{Insert, InsertAll, Replace, ReplaceWithMany, ReplaceAll}
use Rattle.change_list.specs.Recording.{replacement_of, replacements_of, with_replacement, is_replace_of, taken_up, delete}
use Rattle.syntax_editor.specs.RecordCall.{RecordCall, Inserting, InsertingAll, Deleting, Replacing, ReplacingWithMany, DeletingAll, ReplacingAll, recorded, all_recorded}
use Rattle.syntax_editor.specs.EditorLaws.{asked_for, all_asked_for}
use Rattle.change_list.proofs.Addresses.{same_element-left, same_element-right}
use Rattle.change_list.proofs.TakenUp.{answered, filter_map-taken, filter_map-passed, test_of}

-- ---- one change for the element t, seen from the element e
module _ (t e : SyntaxElement) where
  abbrev are_one : Bool
  are_one = same_element (element_of t) (element_of e)

  tests_alike : are_one ≡ true → (c : Change) → is_replace_of t c ≡ is_some (replacement_of e c)
  tests_alike one (Insert at f) = refl
  tests_alike one (InsertAll at fs) = refl
  tests_alike one (Replace u new) = ap (λ b. is_some (cond b (Some new) None)) (same_element-right (element_of u) (element_of t) (element_of e) one)
  tests_alike one (ReplaceWithMany u fs) = refl
  tests_alike one (ReplaceAll first last fs) = refl

  changed_alike : (h : Option SyntaxElement → Option SyntaxElement) (c : Change) → replacement_of e (with_replacement h c) ≡ option_map h (replacement_of e c)
  changed_alike h (Insert at f) = refl
  changed_alike h (InsertAll at fs) = refl
  changed_alike h (Replace u new) =
      elim (same_element (element_of u) (element_of e)) as (λ b. cond b (Some (h new)) None ≡ option_map h (cond b (Some new) None)) [ true ↦ refl | false ↦ refl ]
  changed_alike h (ReplaceWithMany u fs) = refl
  changed_alike h (ReplaceAll first last fs) = refl

  passed_over : are_one ≡ false → (c : Change) → is_replace_of t c ≡ true → replacement_of e c ≡ None
  passed_over apart (Insert at f) h = refl
  passed_over apart (InsertAll at fs) h = refl
  passed_over apart (Replace u new) h =
      ap (λ b. cond b (Some new) None) (same_element-left (element_of u) (element_of t) (element_of e) (test_of (same_element (element_of u) (element_of t)) new h) ∙ apart)
  passed_over apart (ReplaceWithMany u fs) h = refl
  passed_over apart (ReplaceAll first last fs) h = refl

  seen : (h : Option SyntaxElement → Option SyntaxElement) (new : Option SyntaxElement) (cs : List Change) → replacements_of e (taken_up h t new cs) ≡ cond are_one (answered h new (replacements_of e cs)) (replacements_of e cs)
  seen h new cs =
      elim (cases_Bool are_one) [
        | inl one ↦
            let last : replacement_of e (Replace t new) ≡ Some new = ap (λ b. cond b (Some new) None) one in
            filter_map-taken (is_replace_of t) (with_replacement h) (Replace t new) (replacement_of e) h new (tests_alike one) (changed_alike h) last cs ∙ sym (cond-true are_one _ _ one)
        | inr apart ↦
            let last : replacement_of e (Replace t new) ≡ None = ap (λ b. cond b (Some new) None) apart in
            filter_map-passed (is_replace_of t) (with_replacement h) (Replace t new) (replacement_of e) (passed_over apart) (λ c passes. changed_alike h c ∙ ap (option_map h) (passed_over apart c passes)) last cs ∙ sym (cond-false are_one _ _ apart)
      ]

-- ---- one call
-- what stands after a was asked for, where r stood; and in place of so many
abbrev answer : Option SyntaxElement → Option SyntaxElement → Option SyntaxElement
answer None r = None
answer (Some new) r = option_map (λ _. new) r

abbrev taken_in : Option (Option SyntaxElement) → List (Option SyntaxElement) → List (Option SyntaxElement)
taken_in None rs = rs
taken_in (Some a) rs = answered (answer a) a rs

one_more : (e : SyntaxElement) (c : Change) (cs : List Change) → replacement_of e c ≡ None → replacements_of e (cs ++ c ∷ []) ≡ replacements_of e cs
one_more e c cs none =
    filter_map-append (replacement_of e) cs (c ∷ []) ∙ ap (λ o. replacements_of e cs ++ cons_option o []) none ∙ append-nil (replacements_of e cs)

deletion_seen : (e t : SyntaxElement) (cs : List Change) → replacements_of e (delete t cs) ≡ taken_in (asked_for e (Deleting t)) (replacements_of e cs)
deletion_seen e t cs =
    seen t e (λ _. None) None cs ∙ (elim (same_element (element_of t) (element_of e)) as (λ b. cond b (answered (λ _. None) None (replacements_of e cs)) (replacements_of e cs) ≡ taken_in (cond b (Some None) None) (replacements_of e cs)) [ true ↦ refl | false ↦ refl ])

recorded_seen : (e : SyntaxElement) (call : RecordCall) (cs : List Change) → replacements_of e (recorded call cs) ≡ taken_in (asked_for e call) (replacements_of e cs)
recorded_seen e (Inserting at f) cs = one_more e (Insert at f) cs refl
recorded_seen e (InsertingAll at fs) cs = one_more e (InsertAll at fs) cs refl
recorded_seen e (Deleting t) cs = deletion_seen e t cs
recorded_seen e (Replacing t new) cs =
    seen t e (option_map (λ _. new)) (Some new) cs ∙ (elim (same_element (element_of t) (element_of e)) as (λ b. cond b (answered (option_map (λ _. new)) (Some new) (replacements_of e cs)) (replacements_of e cs) ≡ taken_in (cond b (Some (Some new)) None) (replacements_of e cs)) [ true ↦ refl | false ↦ refl ])
recorded_seen e (ReplacingWithMany t fs) cs = one_more e (ReplaceWithMany t fs) cs refl
recorded_seen e (DeletingAll first last) cs =
    elim (same_element (element_of first) (element_of last)) as (λ b. replacements_of e (cond b (delete first cs) (cs ++ ReplaceAll first last [] ∷ [])) ≡ taken_in (cond (b && same_element (element_of first) (element_of e)) (Some None) None) (replacements_of e cs)) [
      | true ↦ deletion_seen e first cs
      | false ↦ one_more e (ReplaceAll first last []) cs refl
    ]
recorded_seen e (ReplacingAll first last fs) cs =
    elim (same_element (element_of first) (element_of last)) as (λ b. replacements_of e (cond b (cs ++ ReplaceWithMany first fs ∷ []) (cs ++ ReplaceAll first last fs ∷ [])) ≡ replacements_of e cs) [
      | true ↦ one_more e (ReplaceWithMany first fs) cs refl
      | false ↦ one_more e (ReplaceAll first last fs) cs refl
    ]

-- ---- many calls
abbrev all_taken_in : List (Option SyntaxElement) → List (Option SyntaxElement) → List (Option SyntaxElement)
all_taken_in rs asked = fold (λ rs a. answered (answer a) a rs) rs asked

all_seen : (e : SyntaxElement) (calls : List RecordCall) (cs : List Change) → replacements_of e (fold (λ ds call. recorded call ds) cs calls) ≡ all_taken_in (replacements_of e cs) (all_asked_for e calls)
all_seen e [] cs = refl
all_seen e (call ∷ calls) cs =
    all_seen e calls (recorded call cs) ∙ ap (λ rs. all_taken_in rs (all_asked_for e calls)) (recorded_seen e call cs) ∙ (elim (asked_for e call) as (λ o. all_taken_in (taken_in o (replacements_of e cs)) (all_asked_for e calls) ≡ all_taken_in (replacements_of e cs) (cons_option o (all_asked_for e calls))) [ None ↦ refl | Some a ↦ refl ])

-- a deletion stays, and else the last that was asked for stands
abbrev settled : List (Option SyntaxElement) → List (Option SyntaxElement)
settled asked = cond (list_any is_none asked) (None ∷ []) (option_to_list (last_item asked))

one_settled : (r : Option SyntaxElement) (asked : List (Option SyntaxElement)) → all_taken_in (r ∷ []) asked ≡ settled (r ∷ asked)
one_settled None [] = refl
one_settled (Some x) [] = refl
one_settled None (None ∷ asked) = one_settled None asked
one_settled None (Some y ∷ asked) = one_settled None asked
one_settled (Some x) (None ∷ asked) = one_settled None asked
one_settled (Some x) (Some y ∷ asked) = one_settled (Some y) asked

all_settled : (asked : List (Option SyntaxElement)) → all_taken_in [] asked ≡ settled asked
all_settled [] = refl
all_settled (a ∷ asked) = one_settled a asked

pub recorded_settled : (e : SyntaxElement) (calls : List RecordCall) → replacements_of e (all_recorded calls) ≡ cond (list_any is_none (all_asked_for e calls)) (None ∷ []) (option_to_list (last_item (all_asked_for e calls)))
recorded_settled e calls = all_seen e calls [] ∙ all_settled (all_asked_for e calls)
