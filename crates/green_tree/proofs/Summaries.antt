-- What is known of elements side by side, and of some that were exchanged.
--     texts-append, have_token-append   the texts of two lists; one of them has a token
--     sum-le                            a part is no longer than all
--     exchanged-length, exchanged-token  how long the texts are once some elements stand where others stood; whether there is a token
--     exchanged-child                   one child for another one
use Rattle.std.proofs.Common.{◌≡◌, ℕ, ◌≤◌, ◌<◌, ◌+◌, ◌-◌, Bool, List, [], ◌∷◌, ◌++◌, length, take, drop, get_or, set, suc, min, nat_lt, refl, ap, sym, subst, ◌∙◌, arith, add-one}
use Rattle.std.specs.Prelude.{◌||◌, true, false}
use Rattle.std.proofs.lemmas.List.{append_assoc, length-append, set_split}
use Rattle.std.proofs.Math.Seq.{split_at}
use Rattle.std.proofs.lemmas.Bool.Decides.{nat_tests}
use Rattle.green_tree.specs.Tree.{text, tokens, forest, forest_tokens}
use Rattle.green_tree.specs.Green.{texts, length_limit}
use Rattle.green_tree.specs.GreenElement.{element_tree, element_trees}
use Rattle.green_tree.specs.declared.green.GreenElement.{GreenElement}
use Rattle.green_tree.specs.declared.green.summary.Summary.{Summary}
use Rattle.green_tree.specs.inner.HasToken.{has_token, have_token}
use Rattle.green_tree.specs.inner.Summaries.{Summarizes, IsExchanged}

pub texts-append : (xs ys : List GreenElement) → texts (element_trees (xs ++ ys)) ≡ texts (element_trees xs) ++ texts (element_trees ys)
texts-append [] ys = refl
texts-append (x ∷ xs) ys = ap (λ s. text (element_tree x) ++ s) (texts-append xs ys) ∙ sym (append_assoc (text (element_tree x)) (texts (element_trees xs)) (texts (element_trees ys)))

some_of_two : {X : Type 0} (xs ys : List X) → nat_lt 0 (length (xs ++ ys)) ≡ (nat_lt 0 (length xs) || nat_lt 0 (length ys))
some_of_two [] ys = refl
some_of_two (x ∷ xs) ys = grind (arith, nat_tests)

or-assoc : (a b c : Bool) → ((a || b) || c) ≡ (a || (b || c))
or-assoc true b c = refl
or-assoc false b c = refl

pub have_token-more : (x : GreenElement) (xs : List GreenElement) → have_token (element_trees (x ∷ xs)) ≡ (has_token (element_tree x) || have_token (element_trees xs))
have_token-more x xs = some_of_two (tokens (element_tree x)) (forest_tokens (forest (element_trees xs)))

pub have_token-append : (xs ys : List GreenElement) → have_token (element_trees (xs ++ ys)) ≡ (have_token (element_trees xs) || have_token (element_trees ys))
have_token-append [] ys = refl
have_token-append (x ∷ xs) ys =
    have_token-more x (xs ++ ys)
    ∙ ap (λ b. has_token (element_tree x) || b) (have_token-append xs ys)
    ∙ sym (or-assoc (has_token (element_tree x)) (have_token (element_trees xs)) (have_token (element_trees ys)))
    ∙ ap (λ b. b || have_token (element_trees ys)) (sym (have_token-more x xs))

abbrev long : List GreenElement → ℕ
long es = length (texts (element_trees es))

long-three : (xs ys zs : List GreenElement) → long (xs ++ ys ++ zs) ≡ long xs + long ys + long zs
long-three xs ys zs =
    ap length (texts-append (xs ++ ys) zs) ∙ length-append (texts (element_trees (xs ++ ys))) (texts (element_trees zs))
    ∙ ap (λ n. n + long zs) (ap length (texts-append xs ys) ∙ length-append (texts (element_trees xs)) (texts (element_trees ys)))

have-three : (xs ys zs : List GreenElement) → have_token (element_trees (xs ++ ys ++ zs)) ≡ ((have_token (element_trees xs) || have_token (element_trees ys)) || have_token (element_trees zs))
have-three xs ys zs = have_token-append (xs ++ ys) zs ∙ ap (λ b. b || have_token (element_trees zs)) (have_token-append xs ys)

or-exchanged : (x z g c : Bool) → (g || c) ≡ c → (((x || g) || z) || c) ≡ ((x || c) || z)
or-exchanged true z g c h = refl
or-exchanged false z true true h = refl
or-exchanged false z true false h = absurd (cc)
or-exchanged false true false true h = refl
or-exchanged false true false false h = refl
or-exchanged false false false true h = refl
or-exchanged false false false false h = refl

module _ (es : List GreenElement) (all removed added : Summary) (e : IsExchanged es all removed added) where
  whole : long (e.left ++ e.gone ++ e.right) ≡ long e.left + long e.gone + long e.right
  whole = long-three e.left e.gone e.right

  pub part-le : removed.length ≤ all.length
  part-le = omega (arith, whole, e.knew.length, e.knew_gone.length)

  pub added-le : added.length ≤ length_limit
  added-le = omega (arith, e.knew_come.length)

  pub exchanged-length : (n : ℕ) → all.length < length_limit → n ≡ min (all.length - removed.length + added.length) length_limit → n ≡ min (long es) length_limit
  exchanged-length n fits length =
      let now : long es ≡ long e.left + long e.come + long e.right = ap long e.now ∙ long-three e.left e.come e.right in
      omega (arith, length, fits, now, whole, e.knew.length, e.knew_gone.length, e.knew_come.length)

  pub exchanged-token : (removed.has_token || added.has_token) ≡ added.has_token → (all.has_token || added.has_token) ≡ have_token (element_trees es)
  exchanged-token kept =
      let x : Bool = have_token (element_trees e.left) in
      let z : Bool = have_token (element_trees e.right) in
      let had : all.has_token ≡ ((x || removed.has_token) || z) = e.knew.token ∙ have-three e.left e.gone e.right ∙ ap (λ b. (x || b) || z) (sym e.knew_gone.token) in
      let has : have_token (element_trees es) ≡ ((x || added.has_token) || z) = ap (λ us. have_token (element_trees us)) e.now ∙ have-three e.left e.come e.right ∙ ap (λ b. (x || b) || z) (sym e.knew_come.token) in
      ap (λ b. b || added.has_token) had ∙ or-exchanged x z removed.has_token added.has_token kept ∙ sym has

-- one child for another one
pub exchanged-child : (es : List GreenElement) (i : ℕ) → i < length es → (e : GreenElement) → e ≡ get_or es i e → (made : GreenElement) (all removed added : Summary) (now : List GreenElement) → now ≡ set es i made → Summarizes es all → Summarizes (e ∷ []) removed → Summarizes (made ∷ []) added → IsExchanged now all removed added
exchanged-child es i inside e here made all removed added now is knew gone come = record {
  left = take i es;
  gone = e ∷ [];
  come = made ∷ [];
  right = drop (i + 1) es;
  now = is ∙ set_split es i made inside ∙ ap (λ n. take i es ++ made ∷ drop n es) (sym (add-one i)) ∙ sym (append_assoc (take i es) (made ∷ []) (drop (i + 1) es));
  knew = subst (λ xs. Summarizes xs all) (sym (append_assoc (take i es) (e ∷ []) (drop (i + 1) es) ∙ ap (λ n. take i es ++ e ∷ drop n es) (add-one i) ∙ ap (λ x. take i es ++ x ∷ drop (suc i) es) here ∙ sym (split_at es i e inside))) knew;
  knew_gone = gone;
  knew_come = come;
}
