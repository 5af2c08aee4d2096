-- Calls that replace or delete elements of one depth, and the changes that they record.
use Rattle.std.specs.Prelude.{◌≡◌, ℕ, suc, ◌+◌, ◌≤◌, nat_lt, Bool, true, false, not, cond, List, [], ◌∷◌, ◌++◌, length, Option, Some, None, option_map, All, refl}
use Rattle.std.specs.List.{fold, list_all}
use Rattle.std.proofs.Common.{ap, subst, ◌∙◌, arith, length-append}
use Rattle.std.proofs.lemmas.Bool.{and_from, lt-ltb, le-ltb}
use Rattle.std.proofs.lemmas.Option.{same_Some, none-some}
use Rattle.std.proofs.lemmas.List.Elements.{All-head, All-tail, All-push}
use Rattle.std.proofs.lemmas.List.Folds.{list_all-map}
use mathlib.Core.Path.{fun_ext}
use Rattle.cst_core.specs.Path.{Path, parent_path, above, siblings}
use Rattle.cst_core.specs.SyntaxElement.{element_of}
use Rattle.cst_core.specs.declared.element.SyntaxElement.{SyntaxElement}
use Rattle.cst_core.specs.declared.element.SyntaxElement.TheVariants.{Node, Token}
use Rattle.edit_change.specs.declared.change.Change.{Change}
use Rattle.edit_change.specs.declared.change.Change.TheVariants.{Insert, InsertAll, Replace, ReplaceWithMany, ReplaceAll}
use Rattle.edit_change.specs.Nesting.{region_of_one}
use Rattle.edit_change.proofs.Positions.{lt-step}
use Rattle.edit_change.specs.RewritingLaws.{is_at_depth}
use Rattle.change_list.specs.Recording.{are_one, with_replacement, is_replace_of, delete, replace}
use Rattle.change_list.proofs.TakenUp.{all-taken}
use Rattle.syntax_editor.specs.RecordCall.{RecordCall, Inserting, InsertingAll, Deleting, Replacing, ReplacingWithMany, DeletingAll, ReplacingAll, recorded}
use Rattle.syntax_editor.specs.EditorLaws.{target_depth}

-- ---- paths
all_pass : {X : Type 0} (f : X → Bool) (xs : List X) → ((x : X) → f x ≡ true) → list_all f xs ≡ true
all_pass f [] h = refl
all_pass f (x ∷ xs) h = and_from _ _ (h x) (all_pass f xs h)

above_it : (p : Path) → list_all (λ q. nat_lt (length q) (length p)) (above p) ≡ true
above_it [] = refl
above_it (i ∷ p) =
    and_from _ _ (lt-ltb 0 (suc (length p)) (omega arith)) (list_all-map (λ q. nat_lt (length q) (suc (length p))) (λ q. i ∷ q) (above p)
    ∙ ap (λ f. list_all f (above p)) (fun_ext (λ q. lt-step (length q) (length p)))
    ∙ above_it p)

not_above : (n : ℕ) (p : Path) → n ≤ length p → not (nat_lt (length p) n) ≡ true
not_above n p h = ap not (le-ltb (length p) n h)

parent_length : (p : Path) → length p ≤ length (parent_path p) + 1
parent_length [] = omega arith
parent_length (i ∷ []) = omega arith
parent_length (i ∷ j ∷ p) = omega (arith, parent_length (j ∷ p))

siblings_not_above : (p q : Path) → list_all (λ r. not (nat_lt (length r) (length p))) (siblings p q) ≡ true
siblings_not_above p q =
    list_all-map (λ r. not (nat_lt (length r) (length p))) (λ i. parent_path p ++ i ∷ []) _
    ∙ all_pass (λ i. not (nat_lt (length (parent_path p ++ i ∷ [])) (length p))) _ (λ i. not_above (length p) (parent_path p ++ i ∷ []) (omega (arith, length-append (parent_path p) (i ∷ []), parent_length p)))

one_not_above : (t : SyntaxElement) → list_all (λ r. not (nat_lt (length r) (length (element_of t).path))) (region_of_one t) ≡ true
one_not_above (Node n) = and_from _ _ (not_above (length n.path) n.path (omega arith)) refl
one_not_above (Token t) = refl

-- ---- changes
replaced_at : (t : SyntaxElement) (new : Option SyntaxElement) → is_at_depth (length (element_of t).path) (Replace t new) ≡ true
replaced_at t new = and_from _ _ (above_it (element_of t).path) (one_not_above t)

many_at : (t : SyntaxElement) (es : List SyntaxElement) → is_at_depth (length (element_of t).path) (ReplaceWithMany t es) ≡ true
many_at t es = and_from _ _ (above_it (element_of t).path) (one_not_above t)

range_at : (first last : SyntaxElement) (es : List SyntaxElement) → is_at_depth (length (element_of first).path) (ReplaceAll first last es) ≡ true
range_at first last es = and_from _ _ (above_it (element_of first).path) (siblings_not_above (element_of first).path (element_of last).path)

-- ---- calls
module _ (depth : ℕ) where
  abbrev At : Change → Type 0
  At c = is_at_depth depth c ≡ true

  -- what a Replace brings is no part of its depth
  kept : (h : Option SyntaxElement → Option SyntaxElement) (c : Change) → At c → At (with_replacement h c)
  kept h (Insert at e) is = is
  kept h (InsertAll at es) is = is
  kept h (Replace t new) is = is
  kept h (ReplaceWithMany t es) is = is
  kept h (ReplaceAll first last es) is = is

  delete_at : (t : SyntaxElement) (cs : List Change) → At (Replace t None) → All At cs → All At (delete t cs)
  delete_at t cs is all = all-taken (is_replace_of t) (with_replacement (λ _. None)) (Replace t None) At (λ c passes at. kept (λ _. None) c at) is cs all

  replace_at : (t e : SyntaxElement) (cs : List Change) → At (Replace t (Some e)) → All At cs → All At (replace t e cs)
  replace_at t e cs is all = all-taken (is_replace_of t) (with_replacement (option_map (λ _. e))) (Replace t (Some e)) At (λ c passes at. kept (option_map (λ _. e)) c at) is cs all

  one_of : (b : Bool) (xs ys : List Change) → All At xs → All At ys → All At (cond b xs ys)
  one_of true xs ys here there = here
  one_of false xs ys here there = there

  at : (t : SyntaxElement) (c : Change) → Some (length (element_of t).path) ≡ Some depth → is_at_depth (length (element_of t).path) c ≡ true → At c
  at t c is there = subst (λ n. is_at_depth n c ≡ true) (same_Some _ depth is) there

  call_at : (call : RecordCall) (cs : List Change) → target_depth call ≡ Some depth → All At cs → All At (recorded call cs)
  call_at (Inserting p e) cs is all = absurd (none-some depth is)
  call_at (InsertingAll p es) cs is all = absurd (none-some depth is)
  call_at (Deleting t) cs is all = delete_at t cs (at t (Replace t None) is (replaced_at t None)) all
  call_at (Replacing t e) cs is all = replace_at t e cs (at t (Replace t (Some e)) is (replaced_at t (Some e))) all
  call_at (ReplacingWithMany t es) cs is all = All-push At cs (ReplaceWithMany t es) all (at t (ReplaceWithMany t es) is (many_at t es))
  call_at (DeletingAll first last) cs is all =
      one_of (are_one first last) _ _ (delete_at first cs (at first (Replace first None) is (replaced_at first None)) all) (All-push At cs (ReplaceAll first last []) all (at first (ReplaceAll first last []) is (range_at first last [])))
  call_at (ReplacingAll first last es) cs is all =
      one_of (are_one first last) _ _ (All-push At cs (ReplaceWithMany first es) all (at first (ReplaceWithMany first es) is (many_at first es))) (All-push At cs (ReplaceAll first last es) all (at first (ReplaceAll first last es) is (range_at first last es)))

  pub calls_at : (calls : List RecordCall) (cs : List Change) → All (λ call. target_depth call ≡ Some depth) calls → All At cs → All At (fold (λ ds call. recorded call ds) cs calls)
  calls_at [] cs targets all = all
  calls_at (call ∷ calls) cs targets all =
      calls_at calls (recorded call cs) (All-tail (λ c. target_depth c ≡ Some depth) call calls targets) (call_at call cs (All-head (λ c. target_depth c ≡ Some depth) call calls targets) all)
