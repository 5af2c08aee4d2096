-- The copy of a node in what wraps it.
--     copy-there           it is the child node after the first elements
--     copy-pair            the node and it are a pair that a builder with the wrapper as its parent takes
use Rattle.std.specs.Prelude.{◌≡◌, ◌↔◌, ℕ, ◌+◌, ◌<◌, Bool, false, IsTrue, IsNone, OnSome, IfErr, Result, Ok, Err, List, [], ◌∷◌, ◌++◌, length, slice_get, Option, Some, None, option_map, option_and_then, unwrap_or, refl}
use Rattle.std.proofs.Common.{ap, sym, subst, ◌∙◌, inl, inr}
use Rattle.std.specs.Result.{IsErrAnd}
use Rattle.std.proofs.lemmas.List.{length-map}
use Rattle.std.proofs.lemmas.Bool.{true≢false}
use Rattle.std.proofs.lemmas.Bool.Decides.{leb_tells}
use Rattle.cst_core.specs.Tree.{SyntaxTree, at, is_token, trees, forest, without_texts}
use Rattle.cst_core.specs.Tree as tree
use Rattle.cst_core.specs.Green.{length_limit, IsTooLong}
use Rattle.cst_core.specs.TreeIds.{IsSpent}
use Rattle.cst_core.specs.Element.{Element, subtree, IsNode}
use Rattle.cst_core.specs.SyntaxElement.{element_of, syntax_as, syntax_at}
use Rattle.cst_core.specs.SyntaxKind.{SyntaxKind}
use Rattle.cst_core.specs.declared.element.SyntaxElement.{SyntaxElement}
use Rattle.cst_core.specs.declared.element.SyntaxElement.TheVariants.{Node}
use Rattle.edit_map.specs.Builder.{IsPairUnder}
use Rattle.syntax_editor.specs.Making.{trees_of}
use Rattle.syntax_editor.specs.Wrapping.{wrapped_tree, wrapper, wrapped_copy}

-- ---- the form of a node
form_of : (o : Option SyntaxTree) (e : Element) → option_map is_token o ≡ Some false → syntax_as (unwrap_or o (tree.Token 0 [])) e ≡ Node e
form_of None e is = absurd (cc)
form_of (Some (tree.Token k s)) e is = absurd (cc)
form_of (Some (tree.Node k f)) e is = refl

no_token : (o : Option SyntaxTree) → option_map is_token o ≡ Some false → is_token (unwrap_or o (tree.Token 0 [])) ≡ false
no_token None is = absurd (cc)
no_token (Some (tree.Token k s)) is = absurd (cc)
no_token (Some (tree.Node k f)) is = refl

-- ---- the child after the first ones
trees-forest : (ts : List SyntaxTree) → trees (forest ts) ≡ ts
trees-forest [] = refl
trees-forest (t ∷ ts) = ap (λ us. t ∷ us) (trees-forest ts)

there : (ts us : List SyntaxTree) (t : SyntaxTree) → slice_get (ts ++ t ∷ us) (length ts) ≡ Some t
there [] us t = refl
there (u ∷ ts) us t = there ts us t

copy-at : (number : ℕ) (kind : SyntaxKind) (before : List SyntaxElement) (n : Element) (after : List SyntaxElement) → at (wrapped_tree kind before n after) (length before ∷ []) ≡ Some (subtree n)
copy-at number kind before n after =
    let children = trees_of before ++ subtree n ∷ trees_of after in
    let same : length (trees_of before) ≡ length before = length-map before (λ e. subtree (element_of e)) in
    let found : slice_get (trees (forest children)) (length before) ≡ Some (subtree n) =
    ap (λ ts. slice_get ts (length before)) (trees-forest children) ∙ ap (slice_get children) (sym same) ∙ there (trees_of before) (trees_of after) (subtree n) in
    ap (option_and_then (λ c. Some c)) found

pub copy-there : (number : ℕ) (kind : SyntaxKind) (before : List SyntaxElement) (n : Element) (after : List SyntaxElement) → IsNode n → syntax_at (wrapper number kind before n after) (length before ∷ []) ≡ Some (Node (wrapped_copy number kind before n after))
copy-there number kind before n after is_node =
    let copy = wrapped_copy number kind before n after in
    ap (option_map (λ t. syntax_as t copy)) (copy-at number kind before n after) ∙ ap Some (form_of (at n.root n.path) copy is_node)

pub copy-pair : (number : ℕ) (kind : SyntaxKind) (before : List SyntaxElement) (n : Element) (after : List SyntaxElement) → IsNode n → n.number < number → IsPairUnder (wrapper number kind before n after) (n, wrapped_copy number kind before n after)
copy-pair number kind before n after is_node younger =
    let same = copy-at number kind before n after in
    let shape : without_texts (subtree n) ≡ without_texts (subtree (wrapped_copy number kind before n after)) = ap (λ o. without_texts (unwrap_or o (tree.Token 0 []))) (sym same) in
    record {
      child = (refl, (λ is. cc), refl);
      is_pair = record {
        rises = (younger, shape);
        input = is_node;
        output = ap (option_map is_token) same ∙ ap Some (no_token (at n.root n.path) is_node);
      };
    }

-- ---- the tests
pub short_enough : (b : Bool) (s : List ℕ) → IsTrue b ↔ IsTooLong s → b ≡ false → length s < length_limit
short_enough b s tells fails = elim (leb_tells length_limit (length s)) [
  | inl h ↦ absurd (true≢false (sym (tells.1 h.1) ∙ fails))
  | inr h ↦ h.1
]

pub one_drawn : (o : Option ℕ) (n m : ℕ) → (IsNone o ↔ IsSpent n) → (IsSpent n → ⊥) → OnSome o (m ≡ n + 1) → m ≡ n + 1
one_drawn None n m tells left given = absurd (left (tells.0 refl))
one_drawn (Some k) n m tells left given = given

pub refused-by : {A E : Type 0} (P : E → Type 0) (e : E) → P e → (r : Result A E) → IsErrAnd r (λ f. f ≡ e) → IfErr r P
refused-by P e holds (Ok a) is = tt
refused-by P e holds (Err f) is = subst P (sym is) holds
