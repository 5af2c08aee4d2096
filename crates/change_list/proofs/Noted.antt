-- What an index must say of a list with one more change at its end, whatever that is.
--     no-replace                     a change of another form is no Replace
--     said-again                     of a list with one more Replace of an element that had one
--     noted-first, noted-again       of an index that is told of a first one, and of a later one
use Rattle.std.specs.Prelude.{◌≡◌, ℕ, suc, Bool, false, cond, ◌||◌, List, [], ◌∷◌, ◌++◌, length, position, Option, Some, None, option_map, is_none, refl}
use Rattle.std.specs.List.{list_any, cons_option}
use Rattle.std.proofs.Common.{ap, ap₂, sym, subst, ◌∙◌}
use Rattle.std.proofs.lemmas.Bool.{cases_Bool, cond-true, cond-false}
use Rattle.std.proofs.lemmas.Option.{none-some}
use Rattle.std.proofs.lemmas.List.Folds.{list_any-append}
use Rattle.std.proofs.lemmas.List.Elements.{filter_map-append}
use mathlib.Core.Logic.{inl, inr}
use Rattle.cst_core.specs.Path.{Path, same_path}
use Rattle.cst_core.specs.SyntaxElement.{element_of}
use Rattle.cst_core.specs.declared.element.SyntaxElement.{SyntaxElement}
use Rattle.edit_change.specs.declared.change.Change.{Change}
use Rattle.edit_change.specs.declared.change.Change.TheVariants.{Insert, InsertAll, Replace, ReplaceWithMany, ReplaceAll}
use Rattle.change_list.specs.declared.change_list.Replaced.{Replaced}
use Rattle.change_list.specs.inner.ByPath.{is_replace, replacement_at, replacements_at, is_replace_at}
use Rattle.change_list.specs.inner.Indexing.{replaced_at}
use Rattle.change_list.proofs.Addresses.{same_path-true}
use Rattle.change_list.proofs.Indexed.{stated, unsaid, here, there, nothing-said, something-said, added-agrees}
use Rattle.change_list.proofs.Positions.{position-here, position-after}

pub no-replace : (c : Change) → ((t : SyntaxElement) (new : Option SyntaxElement) → c ≡ Replace t new → ⊥) → is_replace c ≡ false
no-replace (Insert at e) other = refl
no-replace (InsertAll at es) other = refl
no-replace (Replace t new) other = absurd (other t new refl)
no-replace (ReplaceWithMany t es) other = refl
no-replace (ReplaceAll first last es) other = refl

position-before : {X : Type 0} (test : X → Bool) (xs ys : List X) (i : ℕ) → position test xs ≡ Some i → position test (xs ++ ys) ≡ Some i
position-before test [] ys i is = absurd (none-some i is)
position-before test (x ∷ xs) ys i is =
    elim (cases_Bool (test x)) [
      | inl passes ↦ position-here test x (xs ++ ys) passes ∙ sym (position-here test x xs passes) ∙ is
      | inr fails ↦ position-after test x (xs ++ ys) fails
          ∙ (elim (position test xs) as (λ o. position test xs ≡ o → option_map suc o ≡ Some i → option_map suc (position test (xs ++ ys)) ≡ Some i) [
            | None ↦ λ _ none. absurd (none-some i none)
            | Some j ↦ λ at some. ap (option_map suc) (position-before test xs ys j at) ∙ some
          ]) refl (sym (position-after test x xs fails) ∙ is)
    ]

alone : (o : Option SyntaxElement) → list_any is_none (o ∷ []) ≡ is_none o
alone None = refl
alone (Some x) = refl

module _ (e : SyntaxElement) (new : Option SyntaxElement) (cs : List Change) (i : ℕ) (known : position (is_replace_at (element_of e).path) cs ≡ Some i) where
  -- the first Replace of the element stays its first
  said-own : replaced_at (element_of e).path (cs ++ Replace e new ∷ []) ≡ Some (record { first = i; is_deleted = list_any is_none (replacements_at (element_of e).path cs) || is_none new })
  said-own =
      let all : replacements_at (element_of e).path (cs ++ Replace e new ∷ []) ≡ replacements_at (element_of e).path cs ++ new ∷ [] = filter_map-append (replacement_at (element_of e).path) cs (Replace e new ∷ []) ∙ ap (λ o. replacements_at (element_of e).path cs ++ cons_option o []) (here e new) in
      let deleted : list_any is_none (replacements_at (element_of e).path (cs ++ Replace e new ∷ [])) ≡ (list_any is_none (replacements_at (element_of e).path cs) || is_none new) = ap (list_any is_none) all ∙ list_any-append is_none (replacements_at (element_of e).path cs) (new ∷ []) ∙ ap (λ b. list_any is_none (replacements_at (element_of e).path cs) || b) (alone new) in
      ap (λ o. stated o (replacements_at (element_of e).path (cs ++ Replace e new ∷ []))) (position-before (is_replace_at (element_of e).path) cs (Replace e new ∷ []) i known) ∙ ap (λ b. Some (record { first = i; is_deleted = b })) deleted

  pub said-again : (q : Path) → replaced_at q (cs ++ Replace e new ∷ []) ≡ cond (same_path (element_of e).path q) (Some (record { first = i; is_deleted = list_any is_none (replacements_at (element_of e).path cs) || is_none new })) (replaced_at q cs)
  said-again q =
      elim (cases_Bool (same_path (element_of e).path q)) [
        | inl same ↦ subst (λ r. replaced_at r (cs ++ Replace e new ∷ []) ≡ Some (record { first = i; is_deleted = list_any is_none (replacements_at (element_of e).path cs) || is_none new })) (same_path-true (element_of e).path q same) said-own ∙ sym (cond-true (same_path (element_of e).path q) _ _ same)
        | inr differ ↦ unsaid q cs (Replace e new) (there e new q differ) ∙ sym (cond-false (same_path (element_of e).path q) _ _ differ)
      ]

-- ---- of an index
module _ (e : SyntaxElement) (new : Option SyntaxElement) (cs : List Change) (old now : Path → Option Replaced) (agrees : (q : Path) → old q ≡ replaced_at q cs) (d : Bool) (deletes : is_none new ≡ d) where
  pub noted-first : (number : ℕ) → length cs ≡ number → old (element_of e).path ≡ None → ((q : Path) → now q ≡ cond (same_path (element_of e).path q) (Some (record { first = number; is_deleted = d })) (old q)) → (q : Path) → now q ≡ replaced_at q (cs ++ Replace e new ∷ [])
  noted-first number long none told =
      added-agrees e new cs old now (element_of e).path number d refl (sym long) (sym deletes) (nothing-said (element_of e).path cs (sym (agrees (element_of e).path) ∙ none)) agrees told

  pub noted-again : (r : Replaced) → old (element_of e).path ≡ Some r → ((q : Path) → now q ≡ cond (same_path (element_of e).path q) (Some (record { first = r.first; is_deleted = r.is_deleted || d })) (old q)) → (q : Path) → now q ≡ replaced_at q (cs ++ Replace e new ∷ [])
  noted-again r known told q =
      let said = something-said (element_of e).path cs r (sym (agrees (element_of e).path) ∙ known) in
      told q ∙ ap (cond (same_path (element_of e).path q) (Some (record { first = r.first; is_deleted = r.is_deleted || d }))) (agrees q)
      ∙ ap₂ (λ a b. cond (same_path (element_of e).path q) (Some (record { first = r.first; is_deleted = a || b })) (replaced_at q cs)) (sym said.1) (sym deletes)
      ∙ sym (said-again e new cs r.first said.0 q)
