-- How far a list passes a test.
--     one-more-passes      one element more does
use Rattle.std.proofs.Common.{◌≡◌, ℕ, Bool, true, ◌+◌, ◌<◌, List, [], ◌∷◌, length, take, get_or, refl, sym, ◌∙◌, ap, subst}
use Rattle.std.specs.List.{list_all}
use Rattle.std.proofs.lemmas.List.{take_more}
use Rattle.std.proofs.lemmas.List.Folds.{list_all-append}
use Rattle.tree_text.proofs.Beginnings.{both}

pub one-more-passes : (p : ℕ → Bool) (items text : List ℕ) (i : ℕ) → items ≡ text → i < length items → list_all p (take i text) ≡ true → p (get_or items i 0) ≡ true → list_all p (take (i + 1) text) ≡ true
one-more-passes p items text i same within all here =
    let so_far = subst (λ x. list_all p (take i x) ≡ true) (sym same) all in
    let more = ap (list_all p) (take_more items i 0 within) ∙ list_all-append p (take i items) (get_or items i 0 ∷ []) ∙ both (list_all p (take i items)) _ so_far (both (p (get_or items i 0)) true here refl) in
    subst (λ x. list_all p (take (i + 1) x) ≡ true) same more
