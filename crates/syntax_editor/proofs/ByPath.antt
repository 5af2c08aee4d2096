-- What the path of an element tells of a list of changes of one tree.
--     replace-by-path, delete-by-path, deleted-by-path  it tells the Replaces of the element
--     deleted-elsewhere                                 an element of another tree is not deleted
use Rattle.std.specs.Prelude.{◌≡◌, ℕ, true, false, cond, ◌&&◌, ◌==◌, List, [], ◌∷◌, filter_map, Some, None, option_map, is_some, is_none, All, refl}
use Rattle.std.specs.List.{list_any, cons_option}
use Rattle.std.specs.Cmp.{nat_eq_equiv}
use Rattle.std.proofs.Common.{ap, sym, ◌∙◌}
use Rattle.std.proofs.lemmas.Bool.{eq-eqb}
use Rattle.std.proofs.lemmas.List.Elements.{All-head, All-tail, All-cons, All-nil}
use Rattle.cst_core.specs.Path.{same_path}
use Rattle.cst_core.specs.Element.{Element}
use Rattle.cst_core.specs.SyntaxElement.{element_of}
use Rattle.cst_core.specs.declared.element.SyntaxElement.{SyntaxElement}
use Rattle.edit_change.specs.declared.change.Change.{Change}
use Rattle.edit_change.specs.declared.change.Change.TheVariants.{Insert, InsertAll, Replace, ReplaceWithMany, ReplaceAll}
use Rattle.edit_plan.specs.Fits.{Fits}
use Rattle.change_list.specs.Recording.{replacement_of, is_replace_of, with_replacement, replace, delete, is_deleted}
use Rattle.change_list.specs.inner.ByPath.{replacement_at, replacements_at, is_replace_at, replace_at, delete_at}
use Rattle.change_list.proofs.Positions.{taken-alike, filter_map-alike}
use Rattle.syntax_editor.proofs.Fitting.{native_number, native_target}

module _ (root : Element) (e : SyntaxElement) where
  module _ (native : (element_of e).number ≡ root.number) where
    by-path : (c : Change) → Fits root c → replacement_of e c ≡ replacement_at (element_of e).path c
    by-path (Insert at f) fits = refl
    by-path (InsertAll at fs) fits = refl
    by-path (Replace t new) fits =
        let numbers : ((element_of t).number == (element_of e).number) ≡ true = eq-eqb _ _ (native_number root t (native_target root t new fits) ∙ sym native) in
        ap (λ b. cond (b && same_path (element_of t).path (element_of e).path) (Some new) None) numbers
    by-path (ReplaceWithMany t fs) fits = refl
    by-path (ReplaceAll first last fs) fits = refl

    all-by-path : (cs : List Change) → All (Fits root) cs → All (λ c. replacement_of e c ≡ replacement_at (element_of e).path c) cs
    all-by-path [] all = All-nil (λ c. replacement_of e c ≡ replacement_at (element_of e).path c)
    all-by-path (c ∷ cs) all = All-cons (λ d. replacement_of e d ≡ replacement_at (element_of e).path d) c cs (by-path c (All-head (Fits root) c cs all)) (all-by-path cs (All-tail (Fits root) c cs all))

    all-tests : (cs : List Change) → All (Fits root) cs → All (λ c. is_replace_of e c ≡ is_replace_at (element_of e).path c) cs
    all-tests [] all = All-nil (λ c. is_replace_of e c ≡ is_replace_at (element_of e).path c)
    all-tests (c ∷ cs) all = All-cons (λ d. is_replace_of e d ≡ is_replace_at (element_of e).path d) c cs (ap is_some (by-path c (All-head (Fits root) c cs all))) (all-tests cs (All-tail (Fits root) c cs all))

    pub replace-by-path : (new : SyntaxElement) (cs : List Change) → All (Fits root) cs → replace e new cs ≡ replace_at e new cs
    replace-by-path new cs all = taken-alike (is_replace_of e) (with_replacement (option_map (λ _. new))) (Replace e (Some new)) (is_replace_at (element_of e).path) cs (all-tests cs all)

    pub delete-by-path : (cs : List Change) → All (Fits root) cs → delete e cs ≡ delete_at e cs
    delete-by-path cs all = taken-alike (is_replace_of e) (with_replacement (λ _. None)) (Replace e None) (is_replace_at (element_of e).path) cs (all-tests cs all)

    pub deleted-by-path : (cs : List Change) → All (Fits root) cs → is_deleted e cs ≡ list_any is_none (replacements_at (element_of e).path cs)
    deleted-by-path cs all = ap (list_any is_none) (filter_map-alike (replacement_of e) (replacement_at (element_of e).path) cs (all-by-path cs all))

  module _ (foreign : ((element_of e).number == root.number) ≡ false) where
    not-there : (c : Change) → Fits root c → replacement_of e c ≡ None
    not-there (Insert at f) fits = refl
    not-there (InsertAll at fs) fits = refl
    not-there (Replace t new) fits =
        let same : (element_of t).number ≡ root.number = native_number root t (native_target root t new fits) in
        let numbers : ((element_of t).number == (element_of e).number) ≡ false = ap (λ n. n == (element_of e).number) same ∙ flipped root.number (element_of e).number foreign in
        ap (λ b. cond (b && same_path (element_of t).path (element_of e).path) (Some new) None) numbers
      where
        flipped : (m n : ℕ) → (n == m) ≡ false → (m == n) ≡ false
        flipped m n h = nat_eq_equiv.symm m n ∙ h
    not-there (ReplaceWithMany t fs) fits = refl
    not-there (ReplaceAll first last fs) fits = refl

    nothing-there : (cs : List Change) → All (Fits root) cs → filter_map (replacement_of e) cs ≡ []
    nothing-there [] all = refl
    nothing-there (c ∷ cs) all = ap (λ o. cons_option o (filter_map (replacement_of e) cs)) (not-there c (All-head (Fits root) c cs all)) ∙ nothing-there cs (All-tail (Fits root) c cs all)

    pub deleted-elsewhere : (cs : List Change) → All (Fits root) cs → is_deleted e cs ≡ false
    deleted-elsewhere cs all = ap (list_any is_none) (nothing-there cs all)
