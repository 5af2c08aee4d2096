-- The first and the last item of lists, and the tokens of a node by the child that they are in.
use Rattle.std.proofs.Common.{◌≡◌, ℕ, ◌+◌, ◌<◌, ◌≤◌, List, [], ◌∷◌, ◌++◌, map, length, get_or, drop, Some, None, Result, Option, Ok, Err, refl, ap, sym, ◌∙◌, add-one}
use Rattle.std.specs.Prelude.{option_map, slice_get}
use Rattle.std.specs.Option.{option_or}
use Rattle.std.proofs.lemmas.List.{append-nil, length-map}
use Rattle.std.proofs.Math.ListN.{drop_of_length-le}
use Rattle.green_tree.specs.Path.{Path, first_item, last_item}
use Rattle.green_tree.specs.Tree.{SyntaxTree, at, children, trees, forest}
use Rattle.green_tree.specs.Order.{token_paths, tokens_before, tokens_after}
use Rattle.green_tree.specs.Green.{Branch, branch_tree}
use Rattle.green_tree.specs.inner.FoundToken.{tokens_from}
use Rattle.green_tree.specs.GreenElement.{element_trees, element_tree}
use Rattle.green_tree.specs.declared.green.GreenElement.{GreenElement}
use Rattle.green_tree.proofs.Lookup.{trees-forest}
use Rattle.green_tree.proofs.Slots.{slice_get-child}
use Rattle.green_tree.proofs.TokenPaths.{token_paths_from, tokens_before-first, tokens_before-next, tokens_before-below, token_paths-split, tokens_from-slot, tokens_from-first, tokens_from-next, tokens_after-below, tokens_after-top}

pub last_item-append : {X : Type 0} (xs ys : List X) (y : X) → last_item ys ≡ Some y → last_item (xs ++ ys) ≡ Some y
last_item-append [] ys y h = h
last_item-append (x ∷ []) [] y h = absurd (cc)
last_item-append (x ∷ []) (z ∷ ys) y h = h
last_item-append (x ∷ w ∷ xs) ys y h = last_item-append (w ∷ xs) ys y h

pub last_item-map : {X Y : Type 0} (f : X → Y) (xs : List X) (x : X) → last_item xs ≡ Some x → last_item (map f xs) ≡ Some (f x)
last_item-map f [] x h = absurd (cc)
last_item-map f (z ∷ []) x h = cc
last_item-map f (z ∷ w ∷ xs) x h = last_item-map f (w ∷ xs) x h

abbrev pub last_of : {X : Type 0} → X → List X → X
last_of x [] = x
last_of x (y ∷ ys) = last_of y ys

pub last_of-is : {X : Type 0} (x : X) (xs : List X) → last_item (x ∷ xs) ≡ Some (last_of x xs)
last_of-is x [] = refl
last_of-is x (y ∷ ys) = last_of-is y ys

pub err_is_not_ok : {X E : Type 0} {e : E} {x : X} → Err e ≡ Ok x → ⊥
err_is_not_ok h = absurd (cc)

pub ok_some_is_not_none : {X E : Type 0} {r : Result (Option X) E} {x : X} → r ≡ Ok (Some x) → r ≡ Ok None → ⊥
ok_some_is_not_none h none = absurd (cc)

pub some_is_not_none : {X : Type 0} {x : X} → Some x ≡ None → ⊥
some_is_not_none h = absurd (cc)

-- the first or the last item of two lists, or of one in which each item is changed
pub first_item-append : {X : Type 0} (xs ys : List X) → first_item (xs ++ ys) ≡ option_or (first_item xs) (first_item ys)
first_item-append [] ys = refl
first_item-append (x ∷ xs) ys = refl

pub first_item-map : {X Y : Type 0} (f : X → Y) (xs : List X) → first_item (map f xs) ≡ option_map f (first_item xs)
first_item-map f [] = refl
first_item-map f (x ∷ xs) = refl

pub last_item-of_two : {X : Type 0} (xs ys : List X) → last_item (xs ++ ys) ≡ option_or (last_item ys) (last_item xs)
last_item-of_two xs [] = ap last_item (append-nil xs)
last_item-of_two xs (y ∷ ys) = last_item-append xs (y ∷ ys) (last_of y ys) (last_of-is y ys) ∙ ap (λ o. option_or o (last_item xs)) (sym (last_of-is y ys))

pub last_item-of_map : {X Y : Type 0} (f : X → Y) (xs : List X) → last_item (map f xs) ≡ option_map f (last_item xs)
last_item-of_map f [] = refl
last_item-of_map f (x ∷ xs) = last_item-map f (x ∷ xs) (last_of x xs) (last_of-is x xs) ∙ ap (option_map f) (sym (last_of-is x xs))

-- what is known of the child in a slot
pub record IsChildAt (b : Branch) (i : ℕ) (c : SyntaxTree) : Type 0 where
  pub there : slice_get (children (branch_tree b)) i ≡ Some c
  pub below : (p : Path) → at (branch_tree b) (i ∷ p) ≡ at c p
  pub next : tokens_before (branch_tree b) ((i + 1) ∷ []) ≡ tokens_before (branch_tree b) (i ∷ []) ++ map (λ q. i ∷ q) (token_paths c)
  pub within : (p : Path) → tokens_before (branch_tree b) (i ∷ p) ≡ tokens_before (branch_tree b) (i ∷ []) ++ map (λ q. i ∷ q) (tokens_before c p)
  pub here_on : tokens_from (branch_tree b) (i ∷ []) ≡ map (λ q. i ∷ q) (token_paths c) ++ tokens_from (branch_tree b) ((i + 1) ∷ [])
  pub after : (p : Path) → tokens_after (branch_tree b) (i ∷ p) ≡ map (λ q. i ∷ q) (tokens_after c p) ++ tokens_from (branch_tree b) ((i + 1) ∷ [])

pub child_at : (b : Branch) (es : List GreenElement) (i : ℕ) (e : GreenElement) → element_trees es ≡ b.children → i < length es → e ≡ get_or es i e → IsChildAt b i (element_tree e)
child_at b es i e same h is =
    let there = slice_get-child b es i e same h is in
    record {
      there = there;
      below = λ p. rw there;
      next = rw add-one (tokens_before-next b.kind (forest b.children) i (element_tree e) there);
      within = λ p. tokens_before-below b.kind (forest b.children) i (element_tree e) p there;
      here_on = rw add-one (tokens_from-next b.kind (forest b.children) i (element_tree e) there);
      after = λ p. rw add-one (tokens_after-below b.kind (forest b.children) i (element_tree e) p there);
    }

-- no token stands before the first slot, and all before the slot after the last child
pub tokens_before-none : (b : Branch) → tokens_before (branch_tree b) (0 ∷ []) ≡ []
tokens_before-none b = tokens_before-first b.kind (forest b.children)

pub tokens_before-all : (b : Branch) (es : List GreenElement) (n : ℕ) → element_trees es ≡ b.children → length es ≤ n → tokens_before (branch_tree b) (n ∷ []) ≡ token_paths (branch_tree b)
tokens_before-all b es n same h =
    let past : drop n (trees (forest b.children)) ≡ [] = rw (trees-forest, ← same) (drop_of_length-le (element_trees es) (rw length-map h)) in
    sym (token_paths-split b.kind (forest b.children) n ∙ ap (λ ts. tokens_before (branch_tree b) (n ∷ []) ++ token_paths_from n (forest ts)) past ∙ append-nil (tokens_before (branch_tree b) (n ∷ [])))

-- from the first slot on stand all, and none from the slot after the last child on
pub tokens_from-all : (b : Branch) → tokens_from (branch_tree b) (0 ∷ []) ≡ token_paths (branch_tree b)
tokens_from-all b = tokens_from-first b.kind (forest b.children)

pub tokens_from-none : (b : Branch) (es : List GreenElement) (n : ℕ) → element_trees es ≡ b.children → length es ≤ n → tokens_from (branch_tree b) (n ∷ []) ≡ []
tokens_from-none b es n same h =
    let past : drop n (trees (forest b.children)) ≡ [] = rw (trees-forest, ← same) (drop_of_length-le (element_trees es) (rw length-map h)) in
    tokens_from-slot b.kind (forest b.children) n ∙ ap (λ ts. token_paths_from n (forest ts)) past

-- all tokens of a node are after it
pub tokens_after-all : (b : Branch) → tokens_after (branch_tree b) [] ≡ tokens_from (branch_tree b) (0 ∷ [])
tokens_after-all b = tokens_after-top b.kind (forest b.children) ∙ sym (tokens_from-all b)
