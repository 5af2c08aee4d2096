-- What is written for a tree is an expression of it.
--     is-written     where each kind has a name, and a space may stand between elements
use Rattle.std.proofs.Common.{◌≡◌, ℕ, Bool, true, false, cond, List, [], ◌∷◌, ◌++◌, Option, Some, None, is_none, unwrap_or, refl, sym, ◌∙◌, append_assoc, subst, inl}
use Rattle.std.specs.Prelude.{codes}
use Rattle.std.specs.List.{find}
use Rattle.std.specs.Option.{option_or}
use Rattle.std.proofs.lemmas.List.Folds.{find-append}
use Rattle.cst_core.specs.Kind.{kind_text}
use Rattle.cst_core.specs.Tree.{SyntaxTree, Token, Node, Forest, end, more, is_token}
use Rattle.tree_text.specs.Escape.{escape, escaped}
use Rattle.tree_text.specs.Grammar.{◌⨾◌, IsExactly, IsGap, IsName, IsQuoted, IsWritten, IsApart, IsTreeText, AreElements, IsExpression, begins_with_name_byte}
use Rattle.tree_text.specs.KindNames.{KindName, name_in, text_in}
use Rattle.tree_text.specs.TreeText.{tree_text, elements_text, kinds, forest_kinds, unnamed_in}
use Rattle.tree_text.proofs.Joining.{then}
use Rattle.tree_text.proofs.Beginnings.{both}

is-quoted : (s : List ℕ) → IsQuoted s (escaped s)
is-quoted [] = refl
is-quoted (b ∷ s) =
    let it : IsWritten b (escape b) = inl refl in
    then (escape b) (escaped s) it (is-quoted s)

named-or : (o : Option (List ℕ)) (d : List ℕ) (k : ℕ) (found : Option ℕ) → cond (is_none o) (Some k) found ≡ None → o ≡ Some (unwrap_or o d)
named-or None d k found none = absurd (cc)
named-or (Some n) d k found none = refl

others : (b : Bool) (k : ℕ) (found : Option ℕ) → cond b (Some k) found ≡ None → found ≡ None
others true k found none = absurd (cc)
others false k found none = none

left-none : (o l : Option ℕ) → option_or o l ≡ None → o ≡ None
left-none None l none = refl
left-none (Some k) l none = absurd (cc)

right-none : (o l : Option ℕ) → option_or o l ≡ None → l ≡ None
right-none None l none = none
right-none (Some k) l none = absurd (cc)

ends : (name : ℕ → List ℕ) (f : Forest ℕ) → begins_with_name_byte (elements_text name f) ≡ false
ends name end = refl
ends name (more t f) = refl

module _ (given : List KindName) (gaps : ℕ → Bool) (space : gaps 32 ≡ true) where
  abbrev unnamed : ℕ → Bool
  unnamed k = is_none (name_in given k)

  abbrev name : ℕ → List ℕ
  name = text_in given

  named-in : (k : ℕ) (ks : List ℕ) → find unnamed (k ∷ ks) ≡ None → name_in given k ≡ Some (name k)
  named-in k ks none = named-or (name_in given k) (kind_text k) k (find unnamed ks) none

  mutual
    text-written : (t : SyntaxTree) → find unnamed (kinds t) ≡ None → IsTreeText (name_in given) gaps t (tree_text name t)
    text-written (Token k s) none =
        let q : List ℕ = codes "\"" in
        let quoted : (IsExactly q ⨾ IsQuoted s ⨾ IsExactly q) (q ++ (escaped s ++ q)) = then q (escaped s ++ q) refl (then (escaped s) q (is-quoted s) refl) in
        let all : IsTreeText (name_in given) gaps (Token k s) (name k ++ (q ++ (escaped s ++ q))) = then (name k) (q ++ (escaped s ++ q)) (named-in k [] none) quoted in
        let same : name k ++ (q ++ (escaped s ++ q)) ≡ ((name k ++ q) ++ escaped s) ++ q = sym (append_assoc (name k ++ q) (escaped s) q ∙ append_assoc (name k) q (escaped s ++ q)) in
        subst (IsTreeText (name_in given) gaps (Token k s)) same all
    text-written (Node k f) none =
        let c : List ℕ = codes ")" in
        let below = elements-written f (others (unnamed k) k (find unnamed (forest_kinds f)) none) in
        let inside : (IsApart (AreElements (name_in given) gaps f) ⨾ IsExactly c) (elements_text name f ++ c) = then (elements_text name f) c (ends name f, below) refl in
        let kind : (IsName (name_in given) k ⨾ IsApart (AreElements (name_in given) gaps f) ⨾ IsExactly c) (name k ++ (elements_text name f ++ c)) = then (name k) (elements_text name f ++ c) (named-in k (forest_kinds f) none) inside in
        let all : IsTreeText (name_in given) gaps (Node k f) (40 ∷ (name k ++ (elements_text name f ++ c))) = then (codes "(") (name k ++ (elements_text name f ++ c)) refl kind in
        subst (λ w. IsTreeText (name_in given) gaps (Node k f) (40 ∷ w)) (sym (append_assoc (name k) (elements_text name f) c)) all

    elements-written : (f : Forest ℕ) → find unnamed (forest_kinds f) ≡ None → AreElements (name_in given) gaps f (elements_text name f)
    elements-written end none = refl
    elements-written (more t f) none =
        let split : option_or (find unnamed (kinds t)) (find unnamed (forest_kinds f)) ≡ None = sym (find-append unnamed (kinds t) (forest_kinds f)) ∙ none in
        let gap : IsGap gaps (32 ∷ []) = both (gaps 32) true space refl in
        let here = text-written t (left-none _ (find unnamed (forest_kinds f)) split) in
        let later = elements-written f (right-none (find unnamed (kinds t)) _ split) in
        then (32 ∷ []) (tree_text name t ++ elements_text name f) gap (then (tree_text name t) (elements_text name f) here later)

  pub is-written : (t : SyntaxTree) → is_token t ≡ false → unnamed_in given t ≡ None → IsExpression (name_in given) gaps t (tree_text name t)
  is-written t node none = (node, text-written t none)
