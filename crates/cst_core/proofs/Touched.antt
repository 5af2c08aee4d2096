-- The tokens that touch an offset, and the last element that contains a range, from those of the element's own tree.
use Rattle.std.proofs.Common.{◌≡◌, ℕ, ◌-◌, ◌<◌, ◌≤◌, zero, suc, Bool, true, false, cond, List, [], ◌∷◌, ◌++◌, length, map, drop, get_or, subst, Option, Some, None, refl, ap, sym, ◌∙◌, arith}
use Rattle.std.specs.Prelude.{filter, option_map, option_and_then, IsSome}
use Rattle.green_tree.specs.Path.{Path, last_item}
use Rattle.green_tree.specs.Tree.{SyntaxTree, Forest, at, children, trees, paths, paths_from}
use Rattle.green_tree.specs.Tree as tree
use Rattle.green_tree.specs.Order.{start, token_paths}
use Rattle.green_tree.specs.inner.TokensByOffset as green
use Rattle.green_tree.specs.Offsets.{touches, covers}
use Rattle.green_tree.specs.inner.TokensByOffset.{covering}
use Rattle.green_tree.specs.Green.{leaf_tree}
use Rattle.green_tree.specs.inner.FoundToken.{reached, reached_below}
use Rattle.green_tree.specs.declared.tokens.FoundToken.{FoundToken}
use Rattle.cst_core.specs.Element.{Element, subtree, below}
use Rattle.cst_core.specs.SyntaxElement.{syntax_as, syntax_of, syntax_at, element_of}
use Rattle.cst_core.specs.AtOffset.{tokens_touching, first_two, token_at, covering_of}
use Rattle.cst_core.specs.declared.element.SyntaxElement.{SyntaxElement}
use Rattle.cst_core.specs.declared.offsets.TokenAtOffset.TheVariants as tokens
use Rattle.green_tree.proofs.Parts.{filter-map, slice_get-drop, drop-rest}
use Rattle.green_tree.proofs.TokenPaths.{filter-none}
use Rattle.green_tree.proofs.Touching.{touches-below, touches-outside}
use Rattle.green_tree.proofs.Covering.{covers-below, covers-outside, covers-back}
use Rattle.cst_core.proofs.Children.{subtree_there, at_below}

-- ---- tokens
pub touching_below : (e : Element) (t : SyntaxTree) (offset : ℕ) → at e.root e.path ≡ Some t → start e.root e.path ≤ offset → tokens_touching e offset ≡ map (below e) (green.tokens_touching t (offset - start e.root e.path))
touching_below e t offset there h =
    ap (λ c. filter (λ x. touches x.root offset x.path) (map (below e) (token_paths c))) (subtree_there e t there)
    ∙ filter-map (λ x. touches x.root offset x.path) (touches t (offset - start e.root e.path)) (below e) (token_paths t) (λ q. touches-below e.root e.path t offset q there h)

pub touching_none : (e : Element) (t : SyntaxTree) (offset : ℕ) → at e.root e.path ≡ Some t → offset < start e.root e.path → tokens.None ≡ token_at e offset
touching_none e t offset there h =
    let none = filter-map (λ x. touches x.root offset x.path) (λ q. false) (below e) (token_paths (subtree e)) (λ q. touches-outside e.root e.path t offset q there h) in
    ap first_two (sym (none ∙ ap (map (below e)) (filter-none (λ q. false) (token_paths (subtree e)) (λ q. refl))))

-- where none touches it, none of the element's own tree does
first_two-empty : (es : List Element) → first_two es ≡ tokens.None → es ≡ []
first_two-empty [] h = refl
first_two-empty (x ∷ []) h = absurd (cc)
first_two-empty (x ∷ y ∷ es) h = absurd (cc)

map-empty : {X Y : Type 0} (f : X → Y) (xs : List X) → map f xs ≡ [] → xs ≡ []
map-empty f [] h = refl
map-empty f (x ∷ xs) h = absurd (cc)

pub none_touching_below : (e : Element) (t : SyntaxTree) (offset : ℕ) → at e.root e.path ≡ Some t → start e.root e.path ≤ offset → token_at e offset ≡ tokens.None → green.tokens_touching t (offset - start e.root e.path) ≡ []
none_touching_below e t offset there h none =
    map-empty (below e) (green.tokens_touching t (offset - start e.root e.path)) (sym (touching_below e t offset there h) ∙ first_two-empty (tokens_touching e offset) none)

pub none_found : (t : SyntaxTree) (found : List FoundToken) (ps : List Path) → map reached found ≡ reached_below [] t ps → ps ≡ [] → length found ≡ 0
none_found t found ps reaches none = ap length (map-empty reached found (reaches ∙ ap (reached_below [] t) none))

-- the tokens that a walk found
abbrev pub tokens_found : Element → List FoundToken → List Element
tokens_found e found = map (λ token. below e token.path.items) found

abbrev head_of : List (Path × Option SyntaxTree) → Path × Option SyntaxTree
head_of [] = ([], None)
head_of (f ∷ fs) = f

found_reached : (e : Element) (t : SyntaxTree) (found : List FoundToken) (ps : List Path) → map reached found ≡ reached_below [] t ps → map (below e) ps ≡ tokens_found e found
found_reached e t [] [] h = refl
found_reached e t [] (p ∷ ps) h = absurd (cc)
found_reached e t (x ∷ found) [] h = absurd (cc)
found_reached e t (x ∷ found) (p ∷ ps) h =
    let path : x.path.items ≡ p = ap (λ fs. (head_of fs).0) h in
    let rest : map reached found ≡ reached_below [] t ps = cc in
    rw (path, found_reached e t found ps rest) refl

pub token_at-found : (e : Element) (t : SyntaxTree) (offset : ℕ) (found : List FoundToken) → at e.root e.path ≡ Some t → start e.root e.path ≤ offset → map reached found ≡ reached_below [] t (green.tokens_touching t (offset - start e.root e.path)) → token_at e offset ≡ first_two (tokens_found e found)
token_at-found e t offset found there h reaches = ap first_two (touching_below e t offset there h ∙ found_reached e t found (green.tokens_touching t (offset - start e.root e.path)) reaches)

-- each is a token of the tree
pub is_found : (t : SyntaxTree) (found : List FoundToken) (ps : List Path) (i : ℕ) (x : FoundToken) → map reached found ≡ reached_below [] t ps → i < length found → x ≡ get_or found i x → at t x.path.items ≡ Some (leaf_tree x.green)
is_found t [] ps i x h inside is = absurd (omega arith)
is_found t (y ∷ found) [] i x h inside is = absurd (cc)
is_found t (y ∷ found) (p ∷ ps) zero x h inside is =
    let path : y.path.items ≡ p = ap (λ fs. (head_of fs).0) h in
    let leaf : Some (leaf_tree y.green) ≡ at t p = ap (λ fs. (head_of fs).1) h in
    let first : x ≡ y = is in
    rw first (ap (at t) path ∙ sym leaf)
is_found t (y ∷ found) (p ∷ ps) (suc i) x h inside is =
    let rest : map reached found ≡ reached_below [] t ps = cc in
    is_found t found ps i x rest (omega arith) is

pub first_two-none : (e : Element) (found : List FoundToken) → length found ≡ 0 → first_two (tokens_found e found) ≡ tokens.None
first_two-none e [] h = refl
first_two-none e (x ∷ found) h = absurd (omega arith)

pub first_two-one : (e : Element) (found : List FoundToken) (x : FoundToken) → length found ≡ 1 → x ≡ get_or found 0 x → first_two (tokens_found e found) ≡ tokens.Single (below e x.path.items)
first_two-one e [] x h is = absurd (omega arith)
first_two-one e (y ∷ []) x h is = rw is refl
first_two-one e (y ∷ z ∷ found) x h is = absurd (omega arith)

pub first_two-both : (e : Element) (found : List FoundToken) (x y : FoundToken) → 2 ≤ length found → x ≡ get_or found 0 x → y ≡ get_or found 1 y → first_two (tokens_found e found) ≡ tokens.Between (below e x.path.items) (below e y.path.items)
first_two-both e [] x y h k l = absurd (omega arith)
first_two-both e (z ∷ []) x y h k l = absurd (omega arith)
first_two-both e (z ∷ w ∷ found) x y h k l = rw (k, l) refl

-- ---- the last element that contains a range
element-syntax : (t : SyntaxTree) (e : Element) → element_of (syntax_as t e) ≡ e
element-syntax (tree.Token k s) e = refl
element-syntax (tree.Node k f) e = refl

last_item-mapped : {X Y : Type 0} (f : X → Y) (xs : List X) → last_item (map f xs) ≡ option_map f (last_item xs)
last_item-mapped f [] = refl
last_item-mapped f (x ∷ []) = refl
last_item-mapped f (x ∷ y ∷ xs) = last_item-mapped f (y ∷ xs)

abbrev contains : ℕ → ℕ → SyntaxElement → Bool
contains from to x = covers (element_of x).root from to (element_of x).path

contains-below : (e : Element) (from to : ℕ) (q : Path) → contains from to (syntax_of (below e q)) ≡ covers e.root from to (e.path ++ q)
contains-below e from to q = ap (λ x. covers x.root from to x.path) (element-syntax (subtree (below e q)) (below e q))

pub covering_below : (e : Element) (t : SyntaxTree) (from to : ℕ) → at e.root e.path ≡ Some t → start e.root e.path ≤ from → from ≤ to → covering_of e from to ≡ option_map (λ p. syntax_of (below e p)) (covering t (from - start e.root e.path) (to - start e.root e.path))
covering_below e t from to there h k =
    ap (λ c. last_item (filter (contains from to) (map (λ p. syntax_of (below e p)) (paths c)))) (subtree_there e t there)
    ∙ ap last_item (filter-map (contains from to) (covers t (from - start e.root e.path) (to - start e.root e.path)) (λ p. syntax_of (below e p)) (paths t) (λ q. contains-below e from to q ∙ covers-below e.root e.path t from to q there h k))
    ∙ last_item-mapped (λ p. syntax_of (below e p)) (filter (covers t (from - start e.root e.path) (to - start e.root e.path)) (paths t))

none_contains : (e : Element) (from to : ℕ) → ((q : Path) → covers e.root from to (e.path ++ q) ≡ false) → None ≡ covering_of e from to
none_contains e from to none =
    ap last_item (sym (filter-map (contains from to) (λ q. false) (λ p. syntax_of (below e p)) (paths (subtree e)) (λ q. contains-below e from to q ∙ none q) ∙ ap (map (λ p. syntax_of (below e p))) (filter-none (λ q. false) (paths (subtree e)) (λ q. refl))))

pub covering_before : (e : Element) (t : SyntaxTree) (from to : ℕ) → at e.root e.path ≡ Some t → from < start e.root e.path → None ≡ covering_of e from to
covering_before e t from to there h = none_contains e from to (λ q. covers-outside e.root e.path t from to q there h)

pub covering_back : (e : Element) (from to : ℕ) → to < from → None ≡ covering_of e from to
covering_back e from to h = none_contains e from to (λ q. covers-back e.root from to (e.path ++ q) h)

-- ---- what holds of each item of a list, by recursion on it
abbrev Each : {X : Type 0} → (X → Type 0) → List X → Type 0
Each P [] = Unit {0}
Each P (x ∷ xs) = P x × Each P xs

each-append : {X : Type 0} (P : X → Type 0) (xs ys : List X) → Each P xs → Each P ys → Each P (xs ++ ys)
each-append P [] ys h k = k
each-append P (x ∷ xs) ys h k = (h.0, each-append P xs ys h.1 k)

each-map : {X Y : Type 0} (P : Y → Type 0) (f : X → Y) (xs : List X) → Each (λ x. P (f x)) xs → Each P (map f xs)
each-map P f [] h = tt
each-map P f (x ∷ xs) h = (h.0, each-map P f xs h.1)

each-filter : {X : Type 0} (P : X → Type 0) (q : X → Bool) (xs : List X) → Each P xs → Each P (filter q xs)
each-filter P q [] h = tt
each-filter P q (x ∷ xs) h = elim (q x) as (λ b. Each P (cond b (x ∷ filter q xs) (filter q xs))) [ true ↦ (h.0, each-filter P q xs h.1) | false ↦ each-filter P q xs h.1 ]

each-last : {X : Type 0} (P : X → Type 0) (xs : List X) (x : X) → Each P xs → last_item xs ≡ Some x → P x
each-last P [] x h is = absurd (cc)
each-last P (y ∷ []) x h is =
    let same : y ≡ x = cc in
    subst P same h.0
each-last P (y ∷ z ∷ xs) x h is = each-last P (z ∷ xs) x h.1 is

-- every path of a tree leads to something
mutual
  paths-lead : (t : SyntaxTree) → Each (λ p. IsSome (at t p)) (paths t)
  paths-lead (tree.Token k s) = (refl, tt)
  paths-lead (tree.Node k f) = (refl, paths_from-lead (tree.Node k f) 0 f refl)

  paths_from-lead : (t : SyntaxTree) (i : ℕ) (f : Forest ℕ) → drop i (children t) ≡ trees f → Each (λ p. IsSome (at t p)) (paths_from i f)
  paths_from-lead t i tree.end h = tt
  paths_from-lead t i (tree.more c f) h =
      let there = slice_get-drop (children t) (trees f) i c h in
      let below : Each (λ p. IsSome (at t (i ∷ p))) (paths c) = subst (λ o. Each (λ p. IsSome (option_and_then (λ d. at d p) o)) (paths c)) (sym there) (paths-lead c) in
      each-append (λ p. IsSome (at t p)) (map (λ p. i ∷ p) (paths c)) (paths_from (suc i) f) (each-map (λ p. IsSome (at t p)) (λ p. i ∷ p) (paths c) below) (paths_from-lead t (suc i) f (drop-rest (children t) (trees f) i c h))

covering-there : (t : SyntaxTree) (from to : ℕ) (p : Path) → covering t from to ≡ Some p → IsSome (at t p)
covering-there t from to p is = each-last (λ q. IsSome (at t q)) (filter (covers t from to) (paths t)) p (each-filter (λ q. IsSome (at t q)) (covers t from to) (paths t) (paths-lead t)) is

syntax_there : (e : Element) (p : Path) (o : Option SyntaxTree) → at e.root (e.path ++ p) ≡ o → IsSome o → syntax_at e (e.path ++ p) ≡ Some (syntax_of (below e p))
syntax_there e p None is there = absurd (cc (there))
syntax_there e p (Some c) is there = ap (option_map (λ d. syntax_as d (below e p))) is ∙ ap (λ d. Some (syntax_as d (below e p))) (sym (subtree_there (below e p) c is))

pub syntax_covering : (e : Element) (t : SyntaxTree) (from to : ℕ) (p : Path) → at e.root e.path ≡ Some t → start e.root e.path ≤ from → from ≤ to → Some p ≡ covering t (from - start e.root e.path) (to - start e.root e.path) → syntax_at e (e.path ++ p) ≡ covering_of e from to
syntax_covering e t from to p there h k is =
    syntax_there e p (at t p) (at_below e t p there) (covering-there t (from - start e.root e.path) (to - start e.root e.path) p (sym is))
    ∙ ap (option_map (λ q. syntax_of (below e q))) is
    ∙ sym (covering_below e t from to there h k)

pub covering_nowhere : (e : Element) (t : SyntaxTree) (from to : ℕ) → at e.root e.path ≡ Some t → start e.root e.path ≤ from → from ≤ to → None ≡ covering t (from - start e.root e.path) (to - start e.root e.path) → None ≡ covering_of e from to
covering_nowhere e t from to there h k is = ap (option_map (λ q. syntax_of (below e q))) is ∙ sym (covering_below e t from to there h k)

option_map-none : {X Y : Type 0} (f : X → Y) (o : Option X) → option_map f o ≡ None → o ≡ None
option_map-none f None h = refl
option_map-none f (Some x) h = absurd (cc)

pub none_covering_below : (e : Element) (t : SyntaxTree) (from to : ℕ) → at e.root e.path ≡ Some t → start e.root e.path ≤ from → from ≤ to → covering_of e from to ≡ None → covering t (from - start e.root e.path) (to - start e.root e.path) ≡ None
none_covering_below e t from to there h k none =
    option_map-none (λ p. syntax_of (below e p)) (covering t (from - start e.root e.path) (to - start e.root e.path)) (sym (covering_below e t from to there h k) ∙ none)
