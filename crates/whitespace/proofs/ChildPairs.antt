-- The child nodes of two nodes of one shape, in pairs.
--     with_texts-shape             other texts do not change the shape
--     InPairs, in_pairs            there are equally many, and those at one place are of one shape
--     all_children                 each is a child of its node, and of its tree
--     all_at                       what is true of all pairs is true of one
--     nodes_in                     the pairs of two nodes
--     enough, no_stranger, no_other_shape, after, ahead      what a builder makes of them
--     comes, along                 what it can refuse them for, and why a node is not indented then
use Rattle.std.specs.Prelude.{◌≡◌, ◌≢◌, ℕ, zero, suc, ◌<◌, ◌≤◌, ◌&&◌, not, nat_eq, nat_le, Bool, true, false, All, List, [], ◌∷◌, ◌++◌, length, map, filter_map, slice_get, zip, Option, Some, None, option_map, option_and_then, unwrap_or, IsSome, refl}
use Rattle.std.specs.List.{AllByRecursion}
use Rattle.std.proofs.Common.{ap, ap₂, sym, ◌∙◌, subst, arith}
use Rattle.std.proofs.lemmas.Bool.Decides.{nat_tests}
use Rattle.std.proofs.lemmas.Option.{same_Some}
use Rattle.std.proofs.lemmas.List.Elements.{recursion_from_All}
use Rattle.cst_core.specs.Path.{Path, parent_path, counted_from}
use Rattle.cst_core.specs.Tree.{Forest, Token, Node, end, more, SyntaxTree, at, is_token, children, trees, without_texts, forest_without_texts, SameShape}
use Rattle.cst_core.specs.Element.{Element, IsNode, IsChild, below, subtree}
use Rattle.cst_core.specs.SyntaxElement.{node_of, syntax_as, syntax_of, child_nodes}
use Rattle.cst_core.specs.declared.element.SyntaxElement.{SyntaxElement}
use Rattle.edit_map.specs.Builder.{IsPairUnder, RefusesFirst, RefusesChildren}
use Rattle.edit_map.specs.declared.map_error.MapError.{MapError}
use Rattle.edit_map.specs.declared.map_error.MapError.TheVariants.{NotAChild, NotYounger, OtherShape, MoreInputs, Memory}
use Rattle.whitespace.specs.MappedAlong.{is_not_younger}
use Rattle.whitespace.specs.inner.AlongRefusal.{AlongRefuses, of_pairs}
use Rattle.whitespace.specs.declared.indent_error.IndentError.{IndentError}
use Rattle.whitespace.specs.declared.indent_error.IndentError.TheVariants as indent
use Rattle.whitespace.specs.Indentation.{with_texts, forest_with_texts}

mutual
  pub with_texts-shape : (h : ℕ → List ℕ → List ℕ) (t : SyntaxTree) → without_texts t ≡ without_texts (with_texts h t)
  with_texts-shape h (Token k s) = refl
  with_texts-shape h (Node k f) = ap (Node k) (forest_with_texts-shape h f)

  forest_with_texts-shape : (h : ℕ → List ℕ → List ℕ) (f : Forest ℕ) → forest_without_texts f ≡ forest_without_texts (forest_with_texts h f)
  forest_with_texts-shape h end = refl
  forest_with_texts-shape h (more t f) = ap₂ more (with_texts-shape h t) (forest_with_texts-shape h f)

-- ---- children of nodes of one shape
abbrev child_at : SyntaxTree → ℕ → SyntaxTree
child_at t i = unwrap_or (slice_get (children t) i) (Token 0 [])

abbrev forest_at : Forest ℕ → ℕ → SyntaxTree
forest_at f i = unwrap_or (slice_get (trees f) i) (Token 0 [])

forests_alike : (f g : Forest ℕ) → forest_without_texts f ≡ forest_without_texts g → (i : ℕ) → SameShape (forest_at f i) (forest_at g i)
forests_alike end end is i = refl
forests_alike end (more u g) is i = cc
forests_alike (more t f) end is i = cc
forests_alike (more t f) (more u g) is zero = first is
  where
    first : more (without_texts t) (forest_without_texts f) ≡ more (without_texts u) (forest_without_texts g) → without_texts t ≡ without_texts u
    first h = cc
forests_alike (more t f) (more u g) is (suc i) = forests_alike f g (rest is) i
  where
    rest : more (without_texts t) (forest_without_texts f) ≡ more (without_texts u) (forest_without_texts g) → forest_without_texts f ≡ forest_without_texts g
    rest h = cc

forest_lengths : (f g : Forest ℕ) → forest_without_texts f ≡ forest_without_texts g → length (trees f) ≡ length (trees g)
forest_lengths end end is = refl
forest_lengths end (more u g) is = cc
forest_lengths (more t f) end is = cc
forest_lengths (more t f) (more u g) is = let rest = forest_lengths f g (tail is) in omega arith
  where
    tail : more (without_texts t) (forest_without_texts f) ≡ more (without_texts u) (forest_without_texts g) → forest_without_texts f ≡ forest_without_texts g
    tail h = cc

alike : (t u : SyntaxTree) → SameShape t u → (i : ℕ) → SameShape (child_at t i) (child_at u i)
alike (Token k s) (Token l r) is i = refl
alike (Token k s) (Node l g) is i = cc
alike (Node k f) (Token l r) is i = cc
alike (Node k f) (Node l g) is i = forests_alike f g (below_top is) i
  where
    below_top : Node k (forest_without_texts f) ≡ Node l (forest_without_texts g) → forest_without_texts f ≡ forest_without_texts g
    below_top h = cc

counts : (t u : SyntaxTree) → SameShape t u → length (children t) ≡ length (children u)
counts (Token k s) (Token l r) is = refl
counts (Token k s) (Node l g) is = cc
counts (Node k f) (Token l r) is = cc
counts (Node k f) (Node l g) is = forest_lengths f g (below_top is)
  where
    below_top : Node k (forest_without_texts f) ≡ Node l (forest_without_texts g) → forest_without_texts f ≡ forest_without_texts g
    below_top h = cc

-- ---- where they stand
through : (p q : Path) (o : Option SyntaxTree) → ((c : SyntaxTree) → at c (p ++ q) ≡ option_and_then (λ u. at u q) (at c p)) → option_and_then (λ c. at c (p ++ q)) o ≡ option_and_then (λ u. at u q) (option_and_then (λ c. at c p) o)
through p q None rest = refl
through p q (Some c) rest = rest c

at-joined : (t : SyntaxTree) (p q : Path) → at t (p ++ q) ≡ option_and_then (λ u. at u q) (at t p)
at-joined t [] q = refl
at-joined t (i ∷ p) q = through p q (slice_get (children t) i) (λ c. at-joined c p q)

child_is : (e : Element) (t : SyntaxTree) → at e.root e.path ≡ Some t → (i : ℕ) → subtree (below e (i ∷ [])) ≡ child_at t i
child_is e t there i = ap (λ o. unwrap_or o (Token 0 [])) (at-joined e.root e.path (i ∷ []) ∙ ap (option_and_then (λ u. at u (i ∷ []))) there ∙ same (slice_get (children t) i))
  where
    same : (o : Option SyntaxTree) → option_and_then (λ c. Some c) o ≡ o
    same None = refl
    same (Some c) = refl

-- ---- the child nodes
abbrev element : Element → ℕ → SyntaxElement
element e i = syntax_of (below e (i ∷ []))

abbrev nodes : Element → List ℕ → List Element
nodes e slots = filter_map node_of (map (element e) slots)

abbrev IsOf : Element → Element → Type 0
IsOf e c = IsChild e c × (c.number ≡ e.number)

parent-joined : (p : Path) (i : ℕ) → parent_path (p ++ i ∷ []) ≡ p
parent-joined [] i = refl
parent-joined (j ∷ []) i = refl
parent-joined (j ∷ k ∷ p) i = ap (λ q. j ∷ q) (parent-joined (k ∷ p) i)

longer : (p : Path) (i : ℕ) → p ++ i ∷ [] ≢ []
longer [] i h = cc
longer (j ∷ p) i h = cc

child_of : (e : Element) (i : ℕ) → IsOf e (below e (i ∷ []))
child_of e i = ((refl, longer e.path i, parent-joined e.path i), refl)

of_form : (e : Element) (i : ℕ) (slots : List ℕ) (t : SyntaxTree) → AllByRecursion (IsOf e) (nodes e slots) → AllByRecursion (IsOf e) (filter_map node_of (syntax_as t (below e (i ∷ [])) ∷ map (element e) slots))
of_form e i slots (Token k s) rest = rest
of_form e i slots (Node k f) rest = (child_of e i, rest)

nodes_of : (e : Element) (slots : List ℕ) → AllByRecursion (IsOf e) (nodes e slots)
nodes_of e [] = tt
nodes_of e (i ∷ slots) = of_form e i slots (subtree (below e (i ∷ []))) (nodes_of e slots)

pub all_children : (e : Element) → AllByRecursion (IsOf e) (child_nodes e)
all_children e = nodes_of e (counted_from 0 (length (children (subtree e))))

module _ (e f : Element) where
  abbrev pub IsPair : Element × Element → Type 0
  IsPair p = SameShape (subtree p.0) (subtree p.1) × IsChild f p.1 × (p.0.number ≡ e.number) × (p.1.number ≡ f.number)

  pub record InPairs (xs ys : List Element) : Type 0 where
    pub same_count : length xs ≡ length ys
    pub all_alike : AllByRecursion IsPair (zip xs ys)

  nodes_in_pairs : (slots : List ℕ) → ((i : ℕ) → SameShape (subtree (below e (i ∷ []))) (subtree (below f (i ∷ [])))) → InPairs (nodes e slots) (nodes f slots)
  nodes_in_pairs [] shape = record { same_count = refl; all_alike = tt }
  nodes_in_pairs (i ∷ slots) shape = at_forms (subtree (below e (i ∷ []))) (subtree (below f (i ∷ []))) (shape i) (nodes_in_pairs slots shape)
    where
      at_forms : (t u : SyntaxTree) → SameShape t u → InPairs (nodes e slots) (nodes f slots) → InPairs (filter_map node_of (syntax_as t (below e (i ∷ [])) ∷ map (element e) slots)) (filter_map node_of (syntax_as u (below f (i ∷ [])) ∷ map (element f) slots))
      at_forms (Token k s) (Token l r) is rest = rest
      at_forms (Token k s) (Node l g) is rest = cc
      at_forms (Node k g) (Token l r) is rest = cc
      at_forms (Node k g) (Node l h) is rest = let count = rest.same_count in record {
        same_count = omega arith;
        all_alike = ((shape i, (child_of f i).0, refl, refl), rest.all_alike);
      }

  pub in_pairs : (t u : SyntaxTree) → at e.root e.path ≡ Some t → at f.root f.path ≡ Some u → SameShape (subtree e) (subtree f) → InPairs (child_nodes e) (child_nodes f)
  in_pairs t u there other is =
      let shape : SameShape t u = ap (λ o. without_texts (unwrap_or o (Token 0 []))) (sym there) ∙ is ∙ ap (λ o. without_texts (unwrap_or o (Token 0 []))) other in
      let slots : (i : ℕ) → SameShape (subtree (below e (i ∷ []))) (subtree (below f (i ∷ []))) = λ i. ap without_texts (child_is e t there i) ∙ alike t u shape i ∙ sym (ap without_texts (child_is f u other i)) in
      let count : length (children (subtree e)) ≡ length (children (subtree f)) = counts (subtree e) (subtree f) is in
      subst (λ n. InPairs (child_nodes e) (nodes f (counted_from 0 n))) count (nodes_in_pairs (counted_from 0 (length (children (subtree e)))) slots)

pub all_at : {X : Type 0} (P : X → Type 0) (before : List X) (x : X) (after : List X) → AllByRecursion P (before ++ x ∷ after) → P x
all_at P [] x after all = all.0
all_at P (y ∷ before) x after all = all_at P before x after all.1

-- ---- a builder of these pairs
some_node : (o : Option SyntaxTree) → option_map is_token o ≡ Some false → (t : SyntaxTree) × (o ≡ Some t)
some_node None is = absurd (nothing is)
  where
    nothing : ◌≡◌ {A = Option Bool} None (Some false) → ⊥
    nothing h = cc
some_node (Some t) is = (t, refl)

pub nodes_in : (e f : Element) → IsNode e → IsNode f → SameShape (subtree e) (subtree f) → InPairs e f (child_nodes e) (child_nodes f)
nodes_in e f node other is =
    let t = some_node (at e.root e.path) node in
    let u = some_node (at f.root f.path) other in
    in_pairs e f t.0 u.0 t.1 u.1 is

zip_none : (before : List (Element × Element)) (p : Element × Element) (after : List (Element × Element)) → [] ≡ before ++ p ∷ after → ⊥
zip_none [] p after is = cc
zip_none (q ∷ before) p after is = cc

zip_some : (xs ys : List Element) (before : List (Element × Element)) (p : Element × Element) (after : List (Element × Element)) → zip xs ys ≡ before ++ p ∷ after → 0 < length xs
zip_some [] ys before p after is = absurd (zip_none before p after is)
zip_some (x ∷ xs) ys before p after is = omega arith

yes_after : (n a b : ℕ) → 0 < n → a ≤ b → (not (nat_eq n 0) && nat_le a b) ≡ true
yes_after n a b some le = grind (arith, nat_tests)

not_after : (n a b : ℕ) → b < a → (not (nat_eq n 0) && nat_le a b) ≡ false
not_after n a b less = grind (arith, nat_tests)

module _ (old new : Element) where
  risen : (xs ys : List Element) → length xs ≡ length ys → AllByRecursion (IsPair old new) (zip xs ys) → AllByRecursion (IsPairUnder new) (zip xs ys) → (not (nat_eq (length xs) 0) && nat_le new.number old.number) ≡ false
  risen [] ys count pairs taken = refl
  risen (x ∷ xs) [] count pairs taken = absurd (omega arith)
  risen (x ∷ xs) (y ∷ ys) count pairs taken =
      let less = taken.0.is_pair.rises.0 in
      let own = pairs.0.2 in
      let copy = pairs.0.3 in
      not_after (length (x ∷ xs)) new.number old.number (omega arith)

  module _ (parent : Element) (xs ys : List Element) (is_parent : parent ≡ new) (is_in : xs ≡ child_nodes old) (is_out : ys ≡ child_nodes new) (pairs : InPairs old new (child_nodes old) (child_nodes new)) where
    all : AllByRecursion (IsPair old new) (zip xs ys)
    all = subst (λ zs. AllByRecursion (IsPair old new) zs) (sym (ap₂ zip is_in is_out)) pairs.all_alike

    count : length xs ≡ length ys
    count = ap length is_in ∙ pairs.same_count ∙ sym (ap length is_out)

    pub enough : length ys < length xs → ⊥
    enough less = omega (arith, count)

    found : (e : MapError) (r : RefusesFirst parent (zip xs ys) e) → IsPair old new r.pair
    found e r = all_at (IsPair old new) r.before r.pair r.after (subst (λ zs. AllByRecursion (IsPair old new) zs) r.is all)

    pub no_stranger : RefusesFirst parent (zip xs ys) NotAChild → ⊥
    no_stranger r = r.refused (subst (λ p. IsChild p r.pair.1) (sym is_parent) (found NotAChild r).1)

    pub no_other_shape : RefusesFirst parent (zip xs ys) OtherShape → ⊥
    no_other_shape r = r.refused.2 (found OtherShape r).0

    pub after : RefusesFirst parent (zip xs ys) NotYounger → is_not_younger old new.number ≡ true
    after r =
        let pair = found NotYounger r in
        let le = r.refused.1 in
        let some : 0 < length (child_nodes old) = subst (λ n. 0 < n) (ap length is_in) (zip_some xs ys r.before r.pair r.after r.is) in
        let own = pair.2 in
        let copy = pair.3 in
        yes_after (length (child_nodes old)) new.number old.number some (omega arith)

    pub ahead : All (IsPairUnder parent) (zip xs ys) → is_not_younger old new.number ≡ false
    ahead taken =
        subst (λ zs. (not (nat_eq (length zs) 0) && nat_le new.number old.number) ≡ false) is_in
        (risen xs ys count all (recursion_from_All (IsPairUnder new) (zip xs ys) (subst (λ p. All (IsPairUnder p) (zip xs ys)) is_parent taken)))

    -- what a builder can refuse them for, as why a node is not indented with a mapping
    pub comes : (e : MapError) → RefusesChildren parent xs ys e → IsSome (of_pairs e)
    comes NotAChild r = absurd (no_stranger r.1)
    comes NotYounger r = refl
    comes OtherShape r = absurd (no_other_shape r.1)
    comes MoreInputs r = absurd (enough r)
    comes Memory r = refl

    pub along : (e : MapError) (f : IndentError) → RefusesChildren parent xs ys e → of_pairs e ≡ Some f → AlongRefuses (is_not_younger old new.number) f
    along NotAChild f r is = absurd (no_stranger r.1)
    along NotYounger f r is = subst (AlongRefuses (is_not_younger old new.number)) (same_Some indent.NotYounger f is) (after r.1)
    along OtherShape f r is = absurd (no_other_shape r.1)
    along MoreInputs f r is = absurd (enough r)
    along Memory f r is = subst (AlongRefuses (is_not_younger old new.number)) (same_Some indent.Memory f is) tt
