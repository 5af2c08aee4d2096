-- What an index of replacements must say after a call.
--     nothing-said, nothing-deleted, something-said     what it means that something is said of a path, and that nothing is
--     marked                                            where an element is deleted that is known
--     said-pushed, said-added                           of a list with one more change at the end, which is no Replace; which is the first Replace of an element
--     added-agrees                                      of an index that is told of the latter
--     said-replaced, said-deleted                       of a list whose first Replace of an element takes another one up
--     deleted-agrees                                    of an index that is told of the latter
use Rattle.std.specs.Prelude.{◌≡◌, ℕ, Bool, true, false, cond, List, [], ◌∷◌, ◌++◌, length, position, unwrap_or, Option, Some, None, option_map, is_some, is_none, refl}
use Rattle.std.specs.List.{list_any, cons_option}
use Rattle.std.proofs.Common.{ap, sym, subst, ◌∙◌}
use Rattle.std.proofs.lemmas.Bool.{cases_Bool, cond-true, cond-false}
use Rattle.std.proofs.lemmas.List.{append-nil}
use Rattle.std.proofs.lemmas.List.Elements.{filter_map-append}
use mathlib.Core.Logic.{inl, inr}
use Rattle.cst_core.specs.Path.{Path, same_path}
use Rattle.cst_core.specs.SyntaxElement.{element_of}
use Rattle.cst_core.specs.declared.element.SyntaxElement.{SyntaxElement}
use Rattle.edit_change.specs.declared.change.Change.{Change}
use Rattle.edit_change.specs.declared.change.Change.TheVariants.{Insert, InsertAll, Replace, ReplaceWithMany, ReplaceAll}
use Rattle.change_list.specs.declared.change_list.Replaced.{Replaced}
use Rattle.change_list.specs.Recording.{with_replacement}
use Rattle.change_list.specs.inner.ByPath.{is_replace, replacement_at, replacements_at, is_replace_at, replace_at, delete_at}
use Rattle.change_list.specs.inner.Indexing.{replaced_at, as_deleted}
use Rattle.change_list.proofs.Addresses.{same_path-true, same_path_from}
use Rattle.change_list.proofs.TakenUp.{taken, answered, filter_map-taken, filter_map-passed, test_of}
use Rattle.change_list.proofs.Positions.{position-pushed, position-added, none-found, position-taken, position-kept}

pub marked : (f : Path → Option Replaced) (p q : Path) (r : Replaced) → f p ≡ Some r → cond (same_path p q) (Some (record { first = r.first; is_deleted = true })) (f q) ≡ cond (same_path p q) (as_deleted (f q)) (f q)
marked f p q r known =
    elim (cases_Bool (same_path p q)) [
      | inl same ↦ cond-true (same_path p q) _ _ same ∙ sym (ap as_deleted (subst (λ s. f s ≡ Some r) (same_path-true p q same) known)) ∙ sym (cond-true (same_path p q) _ _ same)
      | inr differ ↦ cond-false (same_path p q) _ _ differ ∙ sym (cond-false (same_path p q) _ _ differ)
    ]

-- ---- what is said of a list
abbrev pub stated : Option ℕ → List (Option SyntaxElement) → Option Replaced
stated o rs = option_map (λ i. record { first = i; is_deleted = list_any is_none rs }) o

pub nothing-said : (p : Path) (cs : List Change) → replaced_at p cs ≡ None → position (is_replace_at p) cs ≡ None
nothing-said p cs none = by_number (position (is_replace_at p) cs) none
  where
    by_number : (o : Option ℕ) → stated o (replacements_at p cs) ≡ None → o ≡ None
    by_number None e = refl
    by_number (Some i) e = cc

pub nothing-deleted : (p : Path) (cs : List Change) → replaced_at p cs ≡ None → list_any is_none (replacements_at p cs) ≡ false
nothing-deleted p cs none = ap (list_any is_none) (none-found (replacement_at p) cs (nothing-said p cs none))

pub something-said : (p : Path) (cs : List Change) (r : Replaced) → replaced_at p cs ≡ Some r → (position (is_replace_at p) cs ≡ Some r.first) × (list_any is_none (replacements_at p cs) ≡ r.is_deleted)
something-said p cs r said = by_number (position (is_replace_at p) cs) said
  where
    by_number : (o : Option ℕ) → stated o (replacements_at p cs) ≡ Some r → (o ≡ Some r.first) × (list_any is_none (replacements_at p cs) ≡ r.is_deleted)
    by_number None e = cc
    by_number (Some i) e =
        let same : record { first = i; is_deleted = list_any is_none (replacements_at p cs) } ≡ r = cc in
        (ap (λ s. Some s.first) same, ap (λ s. s.is_deleted) same)

mapped : (h : Option SyntaxElement → Option SyntaxElement) (q : Path) (c : Change) → replacement_at q (with_replacement h c) ≡ option_map h (replacement_at q c)
mapped h q (Insert at e) = refl
mapped h q (InsertAll at es) = refl
mapped h q (Replace t new) = by_test (same_path (element_of t).path q)
  where
    by_test : (b : Bool) → cond b (Some (h new)) None ≡ option_map h (cond b (Some new) None)
    by_test true = refl
    by_test false = refl
mapped h q (ReplaceWithMany t es) = refl
mapped h q (ReplaceAll first last es) = refl

-- a Replace at one path is none at another
elsewhere : (p q : Path) → same_path p q ≡ false → (c : Change) → is_replace_at p c ≡ true → replacement_at q c ≡ None
elsewhere p q differ (Insert at e) passes = refl
elsewhere p q differ (InsertAll at es) passes = refl
elsewhere p q differ (Replace t new) passes =
    let here : (element_of t).path ≡ p = same_path-true (element_of t).path p (test_of (same_path (element_of t).path p) new passes) in
    ap (λ b. cond b (Some new) None) (ap (λ r. same_path r q) here ∙ differ)
elsewhere p q differ (ReplaceWithMany t es) passes = refl
elsewhere p q differ (ReplaceAll first last es) passes = refl

other_at : (q : Path) (c : Change) → is_replace c ≡ false → replacement_at q c ≡ None
other_at q (Insert at e) h = refl
other_at q (InsertAll at es) h = refl
other_at q (Replace t new) h = cc
other_at q (ReplaceWithMany t es) h = refl
other_at q (ReplaceAll first last es) h = refl

-- one more change at the end, which says nothing of a path
pub unsaid : (q : Path) (cs : List Change) (c : Change) → replacement_at q c ≡ None → replaced_at q (cs ++ c ∷ []) ≡ replaced_at q cs
unsaid q cs c none =
    let rest : replacements_at q (cs ++ c ∷ []) ≡ replacements_at q cs = filter_map-append (replacement_at q) cs (c ∷ []) ∙ ap (λ o. replacements_at q cs ++ cons_option o []) none ∙ append-nil (replacements_at q cs) in
    ap (λ o. stated o (replacements_at q (cs ++ c ∷ []))) (position-pushed (is_replace_at q) cs c (ap is_some none)) ∙ ap (stated (position (is_replace_at q) cs)) rest

pub said-pushed : (cs : List Change) (c : Change) → is_replace c ≡ false → (q : Path) → replaced_at q (cs ++ c ∷ []) ≡ replaced_at q cs
said-pushed cs c other q = unsaid q cs c (other_at q c other)

module _ (e : SyntaxElement) where
  abbrev pub p : Path
  p = (element_of e).path

  abbrev changed : (Option SyntaxElement → Option SyntaxElement) → Option SyntaxElement → List Change → List Change
  changed h new cs = taken (is_replace_at p) (with_replacement h) (Replace e new) cs

  module _ (new : Option SyntaxElement) where
    pub here : replacement_at p (Replace e new) ≡ Some new
    here = ap (λ b. cond b (Some new) None) (same_path_from p p refl)

    pub there : (q : Path) → same_path p q ≡ false → replacement_at q (Replace e new) ≡ None
    there q differ = ap (λ b. cond b (Some new) None) differ

    first-said : (cs : List Change) → position (is_replace_at p) cs ≡ None → replaced_at p (cs ++ Replace e new ∷ []) ≡ Some (record { first = length cs; is_deleted = is_none new })
    first-said cs none =
        let alone : replacements_at p (cs ++ Replace e new ∷ []) ≡ new ∷ [] = filter_map-append (replacement_at p) cs (Replace e new ∷ []) ∙ ap (λ rs. rs ++ cons_option (replacement_at p (Replace e new)) []) (none-found (replacement_at p) cs none) ∙ ap (λ o. cons_option o []) here in
        ap (λ o. stated o (replacements_at p (cs ++ Replace e new ∷ []))) (position-added (is_replace_at p) cs (Replace e new) none (ap is_some here)) ∙ ap (stated (Some (length cs))) alone ∙ ap (λ b. Some (record { first = length cs; is_deleted = b })) (alone-deleted new)
      where
        alone-deleted : (o : Option SyntaxElement) → list_any is_none (o ∷ []) ≡ is_none o
        alone-deleted None = refl
        alone-deleted (Some x) = refl

    pub said-added : (cs : List Change) → position (is_replace_at p) cs ≡ None → (q : Path) → replaced_at q (cs ++ Replace e new ∷ []) ≡ cond (same_path p q) (Some (record { first = length cs; is_deleted = is_none new })) (replaced_at q cs)
    said-added cs none q =
        elim (cases_Bool (same_path p q)) [
          | inl same ↦ subst (λ r. replaced_at r (cs ++ Replace e new ∷ []) ≡ Some (record { first = length cs; is_deleted = is_none new })) (same_path-true p q same) (first-said cs none) ∙ sym (cond-true (same_path p q) _ _ same)
          | inr differ ↦ unsaid q cs (Replace e new) (there q differ) ∙ sym (cond-false (same_path p q) _ _ differ)
        ]

    module _ (h : Option SyntaxElement → Option SyntaxElement) (cs : List Change) where
      kept-elsewhere : (q : Path) → same_path p q ≡ false → replaced_at q (changed h new cs) ≡ replaced_at q cs
      kept-elsewhere q differ =
          let before : (c : Change) → is_replace_at p c ≡ true → replacement_at q c ≡ None = elsewhere p q differ in
          let after : (c : Change) → is_replace_at p c ≡ true → replacement_at q (with_replacement h c) ≡ None = λ c passes. mapped h q c ∙ ap (option_map h) (before c passes) in
          ap (λ o. stated o (replacements_at q (changed h new cs))) (position-kept (is_replace_at p) (with_replacement h) (Replace e new) (is_replace_at q) (λ c passes. ap is_some (before c passes)) (λ c passes. ap is_some (after c passes)) (ap is_some (there q differ)) cs)
          ∙ ap (stated (position (is_replace_at q) cs)) (filter_map-passed (is_replace_at p) (with_replacement h) (Replace e new) (replacement_at q) before after (there q differ) cs)

      own-said : (i : ℕ) → position (is_replace_at p) cs ≡ Some i → replaced_at p (changed h new cs) ≡ stated (Some i) (answered h new (replacements_at p cs))
      own-said i found =
          let stays : (c : Change) → is_replace_at p c ≡ true → is_replace_at p (with_replacement h c) ≡ true = λ c passes. ap is_some (mapped h p c) ∙ still (replacement_at p c) passes in
          ap (λ o. stated o (replacements_at p (changed h new cs))) (position-taken (is_replace_at p) (with_replacement h) (Replace e new) stays (ap is_some here) cs ∙ ap (λ o. Some (unwrap_or o (length cs))) found)
          ∙ ap (stated (Some i)) (filter_map-taken (is_replace_at p) (with_replacement h) (Replace e new) (replacement_at p) h new (λ c. refl) (mapped h p) here cs)
        where
          still : (o : Option (Option SyntaxElement)) → is_some o ≡ true → is_some (option_map h o) ≡ true
          still None e = e
          still (Some x) e = refl

  -- a replacement leaves a deletion a deletion
  same-deletions : (new : SyntaxElement) (rs : List (Option SyntaxElement)) → list_any is_none (answered (option_map (λ _. new)) (Some new) rs) ≡ list_any is_none rs
  same-deletions new [] = refl
  same-deletions new (None ∷ rs) = refl
  same-deletions new (Some x ∷ rs) = refl

  all-deleted : (rs : List (Option SyntaxElement)) → list_any is_none (answered (λ _. None) None rs) ≡ true
  all-deleted [] = refl
  all-deleted (r ∷ rs) = refl

  module _ (cs : List Change) (i : ℕ) (found : position (is_replace_at p) cs ≡ Some i) where
    own : replaced_at p cs ≡ stated (Some i) (replacements_at p cs)
    own = ap (λ o. stated o (replacements_at p cs)) found

    pub said-replaced : (new : SyntaxElement) (q : Path) → replaced_at q (replace_at e new cs) ≡ replaced_at q cs
    said-replaced new q =
        elim (cases_Bool (same_path p q)) [
          | inl same ↦ subst (λ r. replaced_at r (replace_at e new cs) ≡ replaced_at r cs) (same_path-true p q same) (own-said (Some new) (option_map (λ _. new)) cs i found ∙ ap (λ b. Some (record { first = i; is_deleted = b })) (same-deletions new (replacements_at p cs)) ∙ sym own)
          | inr differ ↦ kept-elsewhere (Some new) (option_map (λ _. new)) cs q differ
        ]

    pub said-deleted : (q : Path) → replaced_at q (delete_at e cs) ≡ cond (same_path p q) (as_deleted (replaced_at q cs)) (replaced_at q cs)
    said-deleted q =
        elim (cases_Bool (same_path p q)) [
          | inl same ↦ subst (λ r. replaced_at r (delete_at e cs) ≡ as_deleted (replaced_at r cs)) (same_path-true p q same) (own-said None (λ _. None) cs i found ∙ ap (λ b. Some (record { first = i; is_deleted = b })) (all-deleted (replacements_at p cs)) ∙ sym (ap as_deleted own)) ∙ sym (cond-true (same_path p q) _ _ same)
          | inr differ ↦ kept-elsewhere None (λ _. None) cs q differ ∙ sym (cond-false (same_path p q) _ _ differ)
        ]

-- an index that is told of a first Replace, whose path, number and form are these
pub added-agrees : (e : SyntaxElement) (new : Option SyntaxElement) (cs : List Change) (old now : Path → Option Replaced) (path : Path) (first : ℕ) (b : Bool)
    → path ≡ (element_of e).path → first ≡ length cs → b ≡ is_none new → position (is_replace_at (element_of e).path) cs ≡ None → ((q : Path) → old q ≡ replaced_at q cs)
    → ((q : Path) → now q ≡ cond (same_path path q) (Some (record { first = first; is_deleted = b })) (old q)) → (q : Path) → now q ≡ replaced_at q (cs ++ Replace e new ∷ [])
added-agrees e new cs old now path first b path-is first-is b-is none agrees told q =
    told q ∙ ap (cond (same_path path q) (Some (record { first = first; is_deleted = b }))) (agrees q) ∙ ap (λ r. cond (same_path r q) (Some (record { first = first; is_deleted = b })) (replaced_at q cs)) path-is
    ∙ ap (λ n. cond (same_path (element_of e).path q) (Some (record { first = n; is_deleted = b })) (replaced_at q cs)) first-is
    ∙ ap (λ d. cond (same_path (element_of e).path q) (Some (record { first = length cs; is_deleted = d })) (replaced_at q cs)) b-is ∙ sym (said-added e new cs none q)

-- an index that is told that an element is deleted whose first Replace stands there
pub deleted-agrees : (e : SyntaxElement) (cs : List Change) (i : ℕ) (old now : Path → Option Replaced) (path : Path)
    → position (is_replace_at (element_of e).path) cs ≡ Some i → path ≡ (element_of e).path → ((q : Path) → old q ≡ replaced_at q cs)
    → ((q : Path) → now q ≡ cond (same_path path q) (as_deleted (old q)) (old q)) → (q : Path) → now q ≡ replaced_at q (delete_at e cs)
deleted-agrees e cs i old now path found path-is agrees told q =
    told q ∙ ap (λ o. cond (same_path path q) (as_deleted o) o) (agrees q) ∙ ap (λ r. cond (same_path r q) (as_deleted (replaced_at q cs)) (replaced_at q cs)) path-is ∙ sym (said-deleted e cs i found q)
