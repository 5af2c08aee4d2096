-- What stands at a place has the shape of the target.
--     children-shape                 the children of trees of one shape have one shape
--     place-shape                    the shape at a place
use Rattle.std.specs.Prelude.{◌≡◌, ℕ, zero, suc, ◌≤◌, List, [], ◌∷◌, ◌++◌, map, length, slice_get, slice_index_or, ◌+◌, Option, Some, None, option_map, option_and_then, unwrap_or, is_some, IsSomeAnd, All, Contains, true, false, refl}
use Rattle.std.specs.Option.{option_map_or}
use Rattle.std.specs.List.{AllByRecursion}
use Rattle.std.proofs.Common.{ap, sym, subst, ◌∙◌, arith, inl, inr}
use Rattle.std.proofs.lemmas.Bool.{cases_lt, cases_eq, false≢true}
use Rattle.std.proofs.lemmas.List.{length_push, get_or_default}
use Rattle.std.proofs.lemmas.List.Elements.{recursion_from_All, All-from_recursion, All-contains, All-contains_itself}
use Rattle.std.proofs.lemmas.Option.{slice_get-map, none-some}
use Rattle.cst_core.specs.Path.{Path}
use Rattle.cst_core.specs.Tree.{SyntaxTree, Forest, Token, Node, end, more, trees, children, is_token, at, without_texts, forest_without_texts, SameShape}
use Rattle.cst_core.specs.Element.{Address, Element, address, subtree, IsElement, IsNode, NumbersTell}
use Rattle.edit_map.specs.Mapping.{Mapping, copy, copied, mapped_elements, Rises, child_address, StandsFor}
use Rattle.edit_map.specs.Builder.{IsPair, ArePairs}
use Rattle.edit_map.proofs.Copies.{pair_of_copy}
use Rattle.edit_map.proofs.Places.{StandsFor-push, LastView, last_view}

-- ---- shapes and paths
trees-shape : (f : Forest ℕ) → map without_texts (trees f) ≡ trees (forest_without_texts f)
trees-shape end = refl
trees-shape (more t f) = ap (λ ts. without_texts t ∷ ts) (trees-shape f)

children-without_texts : (t : SyntaxTree) → map without_texts (children t) ≡ children (without_texts t)
children-without_texts (Token k s) = refl
children-without_texts (Node k f) = trees-shape f

same_child : (o : Option SyntaxTree) (v : SyntaxTree) → option_map without_texts o ≡ Some (without_texts v) → IsSomeAnd o (SameShape v)
same_child None v e = cc
same_child (Some w) v e = cc

pub children-shape : (t u v : SyntaxTree) (i : ℕ) → SameShape t u → slice_get (children t) i ≡ Some v → IsSomeAnd (slice_get (children u) i) (SameShape v)
children-shape t u v i same is =
    same_child (slice_get (children u) i) v (sym (slice_get-map without_texts (children u) i) ∙ ap (λ ts. slice_get ts i) (children-without_texts u ∙ ap children (sym same) ∙ sym (children-without_texts t)) ∙ slice_get-map without_texts (children t) i ∙ ap (option_map without_texts) is)

pub at-append : (t : SyntaxTree) (p q : Path) → at t (p ++ q) ≡ option_and_then (λ c. at c q) (at t p)
at-append t [] q = refl
at-append t (i ∷ p) q =
    elim (slice_get (children t) i) as (λ o. option_and_then (λ c. at c (p ++ q)) o ≡ option_and_then (λ c. at c q) (option_and_then (λ c. at c p) o)) [
      | None ↦ refl
      | Some c ↦ at-append c p q
    ]

-- ---- what is known of an element by its number
abbrev pub Tells : Element → Element → Type 0
Tells x e = x.number ≡ e.number → x.root ≡ e.root

-- the root that it has is the one that each of these elements of its number has
abbrev pub IsTold : List Element → Element → Type 0
IsTold es x = All (Tells x) es

pub all_told : (es : List Element) → NumbersTell es → All (IsTold es) es
all_told es tell k d here j e there =
    elim (cases_eq j k) [
      | inl same ↦ λ _. ap (λ (x : Element). x.root) (get_or_default es k d e here ∙ ap (λ n. slice_index_or es n e) (sym same))
      | inr other ↦ elim (cases_lt k j) [
        | inl below ↦ λ same. (
            let first : slice_index_or es k d ≡ slice_index_or es k e = get_or_default es k d e here in
            ap (λ (x : Element). x.root) first ∙ tell k j e below there (sym (ap (λ (x : Element). x.number) first) ∙ same))
        | inr above ↦ λ same. (
            let first : slice_index_or es k d ≡ slice_index_or es k e = get_or_default es k d e here in
            ap (λ (x : Element). x.root) first ∙ sym (tell j k e (omega arith) here (sym same ∙ ap (λ (x : Element). x.number) first)))
      ]
    ]

-- ---- the shape at a place
-- an element that is there, and whose number tells its tree
abbrev IsKnown : List Element → Element → Type 0
IsKnown es x = IsElement x × IsTold es x

abbrev PairIsKnown : List Element → Element × Element → Type 0
PairIsKnown es pair = ((x : Element) → IsTold es x → Tells x pair.0) × IsKnown es pair.1 × SameShape (subtree pair.0) (subtree pair.1)

same_elements : (x y : Element) → x.number ≡ y.number → x.root ≡ y.root → x.path ≡ y.path → x ≡ y
same_elements x y n t p = λ i. record { number = n i; root = t i; path = p i }

at_top : (o : Option SyntaxTree) (d : SyntaxTree) → is_some o ≡ true → o ≡ Some (unwrap_or o d)
at_top None d h = absurd (false≢true h)
at_top (Some t) d h = refl

is_child : (o : Option SyntaxTree) (i : ℕ) (d : SyntaxTree) → is_some (option_and_then (λ t. option_and_then Some (slice_get (children t) i)) o) ≡ true → (is_some o ≡ true) × (slice_get (children (unwrap_or o d)) i ≡ Some (unwrap_or (option_and_then (λ t. option_and_then Some (slice_get (children t) i)) o) d))
is_child None i d h = absurd (false≢true h)
is_child (Some t) i d h = (
  refl,
  (elim (slice_get (children t) i) as (λ o. is_some (option_and_then Some o) ≡ true → o ≡ Some (unwrap_or (option_and_then Some o) d)) [
    | None ↦ λ k. absurd (false≢true k)
    | Some c ↦ λ _. refl
  ]) h,
)

-- the shape of an optional tree's child
child_at : (o : Option SyntaxTree) (i : ℕ) (t v : SyntaxTree) → IsSomeAnd o (SameShape t) → slice_get (children t) i ≡ Some v → IsSomeAnd (option_and_then (λ u. option_and_then Some (slice_get (children u) i)) o) (SameShape v)
child_at None i t v same is = same
child_at (Some u) i t v same is =
    (elim (slice_get (children u) i) as (λ c. IsSomeAnd c (SameShape v) → IsSomeAnd (option_and_then Some c) (SameShape v)) [
      | None ↦ λ h. h
      | Some w ↦ λ h. h
    ]) (children-shape t u v i same is)

other_shape : (o : Option SyntaxTree) (t u : SyntaxTree) → SameShape t u → IsSomeAnd o (SameShape u) → IsSomeAnd o (SameShape t)
other_shape None t u same h = h
other_shape (Some v) t u same h = same ∙ h

module _ (m : Mapping) (es : List Element) (known : All (PairIsKnown es) m) (r : Element) (tells : (x : Element) → IsTold es x → Tells x r) where
  -- what stands one step below q for x: x itself or its copy
  child_of : (x : Element) → IsKnown es x → (q : Address) (i : ℕ) → copied m (address x) ≡ child_address q i → (c : Element) × IsKnown es c × SameShape (subtree x) (subtree c) × (address c ≡ child_address q i)
  child_of x k q i is =
      (elim (copy m (address x)) as (λ o. copy m (address x) ≡ o → option_map_or address o (address x) ≡ child_address q i → (c : Element) × IsKnown es c × SameShape (subtree x) (subtree c) × (address c ≡ child_address q i)) [
        | None ↦ λ _ here. (x, k, refl, here)
        | Some c ↦ λ found here. (
            let by : (pair : Element × Element) × PairIsKnown es pair × (address pair.0 ≡ address x) × (pair.1 ≡ c) = pair_of_copy (PairIsKnown es) m (address x) c known found in
            let number : x.number ≡ by.0.0.number = sym (ap (λ a. a.number) by.2) in
            let same : by.0.0 ≡ x = sym (same_elements x by.0.0 number (by.1.0 x k.1 number) (sym (ap (λ a. a.path) by.2))) in
            (c, subst (IsKnown es) by.3 by.1.1, ap (λ e. without_texts (subtree e)) (sym same) ∙ by.1.2 ∙ ap (λ e. without_texts (subtree e)) by.3, here))
      ]) refl is

  -- the parent of the element c, at the address q
  parent_known : (c : Element) (q : Address) (i : ℕ) → IsKnown es c → address c ≡ child_address q i → (e : Element) × IsKnown es e × (address e ≡ q) × (slice_get (children (subtree e)) i ≡ Some (subtree c))
  parent_known c q i k is =
      let path : at c.root c.path ≡ option_and_then (λ t. option_and_then Some (slice_get (children t) i)) (at c.root q.path) = ap (λ (a : Address). at c.root a.path) is ∙ at-append c.root q.path (i ∷ []) in
      let found = is_child (at c.root q.path) i (Token 0 []) (ap is_some (sym path) ∙ k.0) in
      let number : c.number ≡ q.number = ap (λ a. a.number) is in
      (record c { path = q.path }, (found.0, k.1), (λ j. record { number = number j; path = q.path }), found.1 ∙ ap (λ o. Some (unwrap_or o (Token 0 []))) (sym path))

  place_shape_within : (n : ℕ) (p : Path) (x : Element) → LastView p → length p ≤ n → IsKnown es x → StandsFor m (address r) p (address x) → IsSomeAnd (at (subtree r) p) (SameShape (subtree x))
  place_shape_within n p x (inl e) short k stands =
      let here : address x ≡ address r = subst (λ s. StandsFor m (address r) s (address x)) e stands in
      let number : x.number ≡ r.number = ap (λ a. a.number) here in
      let same : x ≡ r = same_elements x r number (tells x k.1 number) (ap (λ a. a.path) here) in
      subst (λ s. IsSomeAnd (at (subtree r) s) (SameShape (subtree x))) (sym e) (ap (λ y. without_texts (subtree y)) same)
  place_shape_within zero p x (inr v) short k stands =
      let long : length p ≡ length v.0 + 1 = ap (λ (s : Path). length s) v.2 ∙ length_push v.0 v.1 in absurd (omega arith)
  place_shape_within (suc n) p x (inr v) short k stands =
      let last : (q : Address) × StandsFor m (address r) v.0 q × (copied m (address x) ≡ child_address q v.1) = StandsFor-push m (address r) v.0 v.1 (address x) (subst (λ s. StandsFor m (address r) s (address x)) v.2 stands) in
      let c : (c : Element) × IsKnown es c × SameShape (subtree x) (subtree c) × (address c ≡ child_address last.0 v.1) = child_of x k last.0 v.1 last.2 in
      let e : (e : Element) × IsKnown es e × (address e ≡ last.0) × (slice_get (children (subtree e)) v.1 ≡ Some (subtree c.0)) = parent_known c.0 last.0 v.1 c.1 c.3 in
      let long : length p ≡ length v.0 + 1 = ap (λ (s : Path). length s) v.2 ∙ length_push v.0 v.1 in
      let up : IsSomeAnd (at (subtree r) v.0) (SameShape (subtree e.0)) = place_shape_within n v.0 e.0 (last_view v.0) (omega arith) e.1 (subst (λ a. StandsFor m (address r) v.0 a) (sym e.2) last.1) in
      let there : at (subtree r) p ≡ option_and_then (λ t. option_and_then Some (slice_get (children t) v.1)) (at (subtree r) v.0) = ap (at (subtree r)) v.2 ∙ at-append (subtree r) v.0 (v.1 ∷ []) in
      subst (λ o. IsSomeAnd o (SameShape (subtree x))) (sym there) (other_shape _ (subtree x) (subtree c.0) c.2 (child_at (at (subtree r) v.0) v.1 (subtree e.0) (subtree c.0) up e.3))

-- ---- from elements of a mapping to its pairs
module _ {X : Type 0} (P : X → Type 0) where
  pub all_left : (xs ys : List X) → AllByRecursion P (xs ++ ys) → AllByRecursion P xs
  all_left [] ys a = tt
  all_left (x ∷ xs) ys a = (a.0, all_left xs ys a.1)

  pub all_right : (xs ys : List X) → AllByRecursion P (xs ++ ys) → AllByRecursion P ys
  all_right [] ys a = a
  all_right (x ∷ xs) ys a = all_right xs ys a.1

  pub all_of_map : {Y : Type 0} (f : Y → X) (ys : List Y) → AllByRecursion P (map f ys) → AllByRecursion (λ y. P (f y)) ys
  all_of_map f [] a = tt
  all_of_map f (y ∷ ys) a = (a.0, all_of_map f ys a.1)

-- a node is an element
node-is-element : (e : Element) → IsNode e → IsElement e
node-is-element e is = some_tree (at e.root e.path) is
  where
    some_tree : (o : Option SyntaxTree) → option_map is_token o ≡ Some false → is_some o ≡ true
    some_tree None none = absurd (none-some false none)
    some_tree (Some t) some = refl

pairs_known : (es : List Element) (m : Mapping) → AllByRecursion (λ pair. (x : Element) → IsTold es x → Tells x pair.0) m → AllByRecursion (λ pair. IsElement pair.1) m → AllByRecursion (λ pair. IsTold es pair.1) m → AllByRecursion Rises m → AllByRecursion (PairIsKnown es) m
pairs_known es [] a b c d = tt
pairs_known es (pair ∷ m) a b c d = ((a.0, (b.0, c.0), d.0.1), pairs_known es m a.1 b.1 c.1 d.1)

pub place-shape : (m : Mapping) (payload target : Element) (p : Path) → ArePairs m → IsElement target → NumbersTell (payload ∷ target ∷ mapped_elements m) → StandsFor m (address payload) p (address target) → IsSomeAnd (at (subtree payload) p) (SameShape (subtree target))
place-shape m payload target p pairs there tell stands =
    let es = payload ∷ target ∷ mapped_elements m in
    let firsts = map (λ (pair : Element × Element). pair.0) m in
    let copies = map (λ (pair : Element × Element). pair.1) m in
    let told : AllByRecursion (IsTold es) es = recursion_from_All (IsTold es) es (all_told es tell) in
    let itself : AllByRecursion (Contains es) es = recursion_from_All (Contains es) es (All-contains_itself es) in
    let each : AllByRecursion IsPair m = recursion_from_All IsPair m pairs in
    let tells : (e x : Element) → Contains es e → IsTold es x → Tells x e = λ e x in' t. All-contains (Tells x) es e t in' in
    let from : AllByRecursion (λ pair. Contains es pair.0) m = all_of_map (Contains es) (λ pair. pair.0) m (all_left (Contains es) firsts copies itself.1.1) in
    let known : AllByRecursion (PairIsKnown es) m = pairs_known es m (all_weaker _ _ (λ pair in' x t. tells pair.0 x in' t) m from) (all_weaker IsPair _ (λ pair is. node-is-element pair.1 is.output) m each) (all_of_map (IsTold es) (λ pair. pair.1) m (all_right (IsTold es) firsts copies told.1.1)) (all_weaker IsPair Rises (λ pair is. is.rises) m each) in
    place_shape_within m es (All-from_recursion (PairIsKnown es) m known) payload (λ x t. tells payload x itself.0 t) (length p) p target (last_view p) (omega arith) (there, told.1.0) stands
  where
    all_weaker : (P Q : Element × Element → Type 0) → ((pair : Element × Element) → P pair → Q pair) → (m : Mapping) → AllByRecursion P m → AllByRecursion Q m
    all_weaker P Q h [] a = tt
    all_weaker P Q h (pair ∷ m) a = (h pair a.0, all_weaker P Q h m a.1)
