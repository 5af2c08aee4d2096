-- The first kind without a name, child by child.
--     none_in_child     where a child has none, it is among the children after it
--     first_in_child    where a child has one, it is that one
--     in_lighter, in_rest, into_rest      of a node and what comes after it: one in the first part of its children; one in the second or later;
--                       the first child of the second part and what comes after that
--     mapped_or         the one or the other, by its number
--     parts_size        how many elements a node has, by the two parts of its children
use Rattle.std.proofs.Common.{◌≡◌, ℕ, ◌+◌, ◌<◌, Bool, true, false, List, [], ◌∷◌, ◌++◌, length, get_or, drop, cond, Option, None, Some, refl, sym, ap, ◌∙◌, append_assoc, add-one, drop-cons, arith}
use Rattle.std.specs.List.{find}
use Rattle.std.specs.Option.{option_or, option_map}
use Rattle.std.proofs.lemmas.List.Folds.{find-append}
use Rattle.cst_core.specs.Tree.{forest}
use Rattle.cst_core.specs.Green.{Branch, branch_tree}
use Rattle.green_tree.specs.inner.TreeSize.{size, forest_size}
use Rattle.cst_core.specs.GreenElement.{element_tree, element_trees}
use Rattle.green_tree.specs.declared.green.GreenElement.{GreenElement}
use Rattle.tree_text.specs.TreeText.{kinds, forest_kinds}

module _ (test : ℕ → Bool) where
  abbrev pub left : List GreenElement → Option ℕ
  left es = find test (forest_kinds (forest (element_trees es)))

  next : (es : List GreenElement) (i : ℕ) (e : GreenElement) → i < length es → e ≡ get_or es i e → left (drop i es) ≡ option_or (find test (kinds (element_tree e))) (left (drop (i + 1) es))
  next es i e within is =
      let at : drop i es ≡ e ∷ drop (i + 1) es = rw (add-one, is) (drop-cons es i e within) in
      ap left at ∙ find-append test (kinds (element_tree e)) (forest_kinds (forest (element_trees (drop (i + 1) es))))

  pub none_in_child : (es : List GreenElement) (i : ℕ) (e : GreenElement) (whole : Option ℕ) → i < length es → e ≡ get_or es i e → find test (kinds (element_tree e)) ≡ None → left (drop i es) ≡ whole → left (drop (i + 1) es) ≡ whole
  none_in_child es i e whole within is none so_far = sym (ap (λ o. option_or o (left (drop (i + 1) es))) none) ∙ sym (next es i e within is) ∙ so_far

  pub first_in_child : (es : List GreenElement) (i : ℕ) (e : GreenElement) (k : ℕ) (whole : Option ℕ) → i < length es → e ≡ get_or es i e → find test (kinds (element_tree e)) ≡ Some k → left (drop i es) ≡ whole → Some k ≡ whole
  first_in_child es i e k whole within is found so_far = sym (ap (λ o. option_or o (left (drop (i + 1) es))) found) ∙ sym (next es i e within is) ∙ so_far

-- ---- a node, whose children are searched in two parts, and what comes after it
module _ (test : ℕ → Bool) (k : ℕ) (es lighter rest : List GreenElement) (later : Option ℕ) (parts : es ≡ lighter ++ rest) where
  abbrev pub node_kinds : List ℕ
  node_kinds = k ∷ forest_kinds (forest (element_trees es))

  -- past its own kind
  past_own : None ≡ cond (test k) (Some k) None → find test node_kinds ≡ option_or (left test lighter) (left test rest)
  past_own named = go (test k) refl named
    where
      kinds_of : (xs ys : List GreenElement) → forest_kinds (forest (element_trees (xs ++ ys))) ≡ forest_kinds (forest (element_trees xs)) ++ forest_kinds (forest (element_trees ys))
      kinds_of [] ys = refl
      kinds_of (x ∷ xs) ys = ap (λ l. kinds (element_tree x) ++ l) (kinds_of xs ys) ∙ sym (append_assoc (kinds (element_tree x)) (forest_kinds (forest (element_trees xs))) (forest_kinds (forest (element_trees ys))))

      among : left test es ≡ option_or (left test lighter) (left test rest)
      among = ap (left test) parts ∙ ap (find test) (kinds_of lighter rest) ∙ find-append test (forest_kinds (forest (element_trees lighter))) (forest_kinds (forest (element_trees rest)))

      go : (b : Bool) → test k ≡ b → None ≡ cond b (Some k) None → cond (test k) (Some k) (left test es) ≡ option_or (left test lighter) (left test rest)
      go true at named = absurd (cc)
      go false at named = ap (λ c. cond c (Some k) (left test es)) at ∙ among

  pub in_lighter : (found : ℕ) → None ≡ cond (test k) (Some k) None → Some found ≡ left test lighter → Some found ≡ option_or (find test node_kinds) later
  in_lighter found named is = ap (λ o. option_or (option_or o (left test rest)) later) is ∙ ap (λ o. option_or o later) (sym (past_own named))

  pub in_rest : None ≡ cond (test k) (Some k) None → None ≡ left test lighter → option_or (left test rest) later ≡ option_or (find test node_kinds) later
  in_rest named none = ap (λ o. option_or (option_or o (left test rest)) later) none ∙ ap (λ o. option_or o later) (sym (past_own named))

  -- the first child of the rest is searched next, and what comes after it is known
  pub into_rest : (e : GreenElement) (after : List GreenElement) → None ≡ cond (test k) (Some k) None → None ≡ left test lighter → rest ≡ e ∷ after
      → option_or (find test (kinds (element_tree e))) (option_or (left test after) later) ≡ option_or (find test node_kinds) later
  into_rest e after named none is =
      sym (or_assoc (find test (kinds (element_tree e))) (left test after) later)
      ∙ ap (λ o. option_or o later) (sym (ap (left test) is ∙ find-append test (kinds (element_tree e)) (forest_kinds (forest (element_trees after)))))
      ∙ in_rest named none
    where
      or_assoc : (o p q : Option ℕ) → option_or (option_or o p) q ≡ option_or o (option_or p q)
      or_assoc None p q = refl
      or_assoc (Some x) p q = refl

-- the one or the other, by its number
pub mapped_or : {X : Type 0} (f : X → ℕ) (r a b : Option X) (o : Option ℕ) → r ≡ option_or a b → option_map f a ≡ o → option_map f r ≡ option_or o (option_map f b)
mapped_or {X = X} f r a b o is first = ap (option_map f) is ∙ each a ∙ ap (λ x. option_or x (option_map f b)) first
  where
    each : (a : Option X) → option_map f (option_or a b) ≡ option_or (option_map f a) (option_map f b)
    each None = refl
    each (Some x) = refl

-- ---- sizes
size_parts : (xs ys : List GreenElement) → forest_size (forest (element_trees (xs ++ ys))) ≡ forest_size (forest (element_trees xs)) + forest_size (forest (element_trees ys))
size_parts [] ys = omega arith
size_parts (x ∷ xs) ys = omega (arith, size_parts xs ys)

pub parts_size : (b : Branch) (es lighter rest : List GreenElement) → element_trees es ≡ b.children → es ≡ lighter ++ rest
    → size (branch_tree b) ≡ forest_size (forest (element_trees lighter)) + forest_size (forest (element_trees rest)) + 1
parts_size b es lighter rest same parts =
    ap (λ ts. forest_size (forest ts) + 1) (sym same) ∙ ap (λ xs. forest_size (forest (element_trees xs)) + 1) parts ∙ ap (λ n. n + 1) (size_parts lighter rest)
