-- Where elements start: the sums of what stands before them.
use Rattle.std.proofs.Common.{◌≡◌, ℕ, ◌+◌, ◌<◌, ◌≤◌, zero, suc, Bool, true, false, cond, List, [], ◌∷◌, map, length, get_or, take, drop, Some, None, refl, ap, ◌∙◌, arith, add-one, drop-cons, length-append}
use Rattle.std.specs.Prelude.{slice_get, sum_by, filter, IsSome}
use Rattle.std.specs.Option.{option_map_or}
use Rattle.std.proofs.Math.ListN.{drop_of_length-le}
use Rattle.std.proofs.lemmas.List.Sums.{sum_by-append, sum_by-cons}
use Rattle.green_tree.specs.Path.{Path, precedes}
use Rattle.green_tree.specs.Tree.{Tree, SyntaxTree, Forest, Token, Node, end, more, at, children, trees, forest, text, forest_text, text_length}
use Rattle.green_tree.specs.Order.{token_paths, tokens_before, start}
use Rattle.green_tree.specs.Green.{Branch, branch_tree, texts}
use Rattle.green_tree.specs.GreenElement.{element_tree, element_trees}
use Rattle.green_tree.specs.declared.green.GreenElement.{GreenElement}
use Rattle.green_tree.proofs.Lookup.{trees-forest}
use Rattle.green_tree.proofs.Slots.{slice_get-child}
use Rattle.green_tree.proofs.Splices.{take-trees}
use Rattle.green_tree.proofs.TokenPaths.{token_paths_from, token_paths-node, before_from, tokens_before-top, tokens_before-node}
use Rattle.green_tree.proofs.Parts.{slice_get-drop, drop-rest}

-- how long the element at a path is
abbrev length_at : {L : Type 0} → Tree L → Path → ℕ
length_at t p = option_map_or (λ c. length (text c)) (at t p) 0

sum_by-map : {X Y : Type 0} (g : Y → ℕ) (h : X → ℕ) (f : X → Y) (xs : List X) → ((x : X) → g (f x) ≡ h x) → sum_by g (map f xs) ≡ sum_by h xs
sum_by-map g h f [] e = refl
sum_by-map g h f (x ∷ xs) e = rw (sum_by-cons g (f x) (map f xs), sum_by-cons h x xs, e x, sum_by-map g h f xs e)

length_at-below : {L : Type 0} (t c : Tree L) (i : ℕ) (f : Forest L) → drop i (children t) ≡ trees (more c f) → (p : Path) → length_at t (i ∷ p) ≡ length_at c p
length_at-below t c i f h p =
    let there : slice_get (children t) i ≡ Some c = slice_get-drop (children t) (trees f) i c h in
    rw there

-- the tokens of a tree make its text
mutual
  sum-token_paths : {L : Type 0} (t : Tree L) → sum_by (length_at t) (token_paths t) ≡ length (text t)
  sum-token_paths (Token l s) = omega arith
  sum-token_paths (Node l f) = rw (token_paths-node l f) (sum-token_paths_from (Node l f) 0 f refl)

  sum-token_paths_from : {L : Type 0} (t : Tree L) (i : ℕ) (f : Forest L) → drop i (children t) ≡ trees f → sum_by (length_at t) (token_paths_from i f) ≡ length (forest_text f)
  sum-token_paths_from t i end h = refl
  sum-token_paths_from t i (more c f) h =
      rw (sum_by-append (length_at t) (map (λ p. i ∷ p) (token_paths c)) (token_paths_from (suc i) f), sum_by-map (length_at t) (length_at c) (λ p. i ∷ p) (token_paths c) (length_at-below t c i f h), sum-token_paths c, sum-token_paths_from t (suc i) f (drop-rest (children t) (trees f) i c h), length-append (text c) (forest_text f))

sum-before : {L : Type 0} (t : Tree L) (i : ℕ) (f : Forest L) (k : ℕ) (p : Path) → drop i (children t) ≡ trees f → sum_by (length_at t) (before_from i f k p) ≡ length (forest_text (forest (take k (trees f)))) + option_map_or (λ c. start c p) (slice_get (trees f) k) 0
sum-before t i end zero p h = refl
sum-before t i end (suc k) p h = refl
sum-before t i (more c f) zero p h = rw (sum_by-map (length_at t) (length_at c) (λ q. i ∷ q) (tokens_before c p) (length_at-below t c i f h)) (omega arith)
sum-before t i (more c f) (suc k) p h =
    let below = sum-before t (suc i) f k p (drop-rest (children t) (trees f) i c h) in
    rw (sum_by-append (length_at t) (map (λ q. i ∷ q) (token_paths c)) (before_from (suc i) f k p), sum_by-map (length_at t) (length_at c) (λ q. i ∷ q) (token_paths c) (length_at-below t c i f h), sum-token_paths c, below, length-append (text c) (forest_text (forest (take k (trees f))))) (omega arith)

pub start-top : {L : Type 0} (t : Tree L) → start t [] ≡ 0
start-top t = rw (tokens_before-top t)

-- the texts of the children before the slot, and what stands before the element in the child there
pub start-node : {L : Type 0} (l : L) (f : Forest L) (j : ℕ) (p : Path) → start (Node l f) (j ∷ p) ≡ length (forest_text (forest (take j (trees f)))) + option_map_or (λ c. start c p) (slice_get (trees f) j) 0
start-node l f j p = rw (tokens_before-node l f j p) (sum-before (Node l f) 0 f j p refl)

sum_by-filter-le : {X : Type 0} (f : X → ℕ) (test : X → Bool) (xs : List X) → sum_by f (filter test xs) ≤ sum_by f xs
sum_by-filter-le f test [] = omega arith
sum_by-filter-le f test (x ∷ xs) =
    let rest = sum_by-filter-le f test xs in
    elim (test x) as (λ b. sum_by f (cond b (x ∷ filter test xs) (filter test xs)) ≤ sum_by f (x ∷ xs)) [ true ↦ omega (arith, sum_by-cons f x xs, sum_by-cons f x (filter test xs)) | false ↦ omega (arith, sum_by-cons f x xs) ]

-- nothing starts past the end of the text
pub start-le : {L : Type 0} (t : Tree L) (p : Path) → start t p ≤ text_length t
start-le t p = rw (← sum-token_paths t) (sum_by-filter-le (length_at t) (λ q. precedes q p) (token_paths t))

length-to_next : {L : Type 0} (f : Forest L) (j : ℕ) (c : Tree L) → slice_get (trees f) j ≡ Some c → length (forest_text (forest (take (suc j) (trees f)))) ≡ length (forest_text (forest (take j (trees f)))) + text_length c
length-to_next end j c there = absurd (cc)
length-to_next (more t f) zero c there =
    let same : t ≡ c = cc in
    rw same (omega (arith, length-append (text c) []))
length-to_next (more t f) (suc j) c there =
    omega (arith, length-append (text t) (forest_text (forest (take (suc j) (trees f)))), length-append (text t) (forest_text (forest (take j (trees f)))), length-to_next f j c there)

-- where the child in a slot starts
pub start-slot : (b : Branch) (es : List GreenElement) (i : ℕ) → element_trees es ≡ b.children → start (branch_tree b) (i ∷ []) ≡ length (texts (element_trees (take i es)))
start-slot b es i same =
    let none = elim (slice_get (trees (forest b.children)) i) as (λ o. option_map_or (λ c. start c []) o 0 ≡ 0) [ None ↦ refl | Some c ↦ start-top c ] in
    rw (start-node b.kind (forest b.children) i [], none, trees-forest, ← same, take-trees) (omega arith)

-- the next child starts where this one ends
pub start-next : {L : Type 0} (l : L) (f : Forest L) (j : ℕ) (c : Tree L) → slice_get (trees f) j ≡ Some c → start (Node l f) (suc j ∷ []) ≡ start (Node l f) (j ∷ []) + text_length c
start-next l f j c there =
    let none = λ (i : ℕ). elim (slice_get (trees f) i) as (λ o. option_map_or (λ d. start d []) o 0 ≡ 0) [ None ↦ refl | Some d ↦ start-top d ] in
    let sum = length-to_next f j c there in
    omega (arith, start-node l f j [], start-node l f (suc j) [], none j, none (suc j), sum)

-- an element starts as far into its tree as the child that it is in, and as far into that
pub start-below : {L : Type 0} (l : L) (f : Forest L) (j : ℕ) (p : Path) (c : Tree L) → slice_get (trees f) j ≡ Some c → start (Node l f) (j ∷ p) ≡ start (Node l f) (j ∷ []) + start c p
start-below l f j p c there = rw (start-node l f j p, start-node l f j [], there) (omega (arith, start-top c))

text_length-beginning : {L : Type 0} (f : Forest L) (j : ℕ) (c : Tree L) → slice_get (trees f) j ≡ Some c → length (forest_text (forest (take j (trees f)))) + text_length c ≤ length (forest_text f)
text_length-beginning end j c there = absurd (cc)
text_length-beginning (more t f) zero c there =
    let same : t ≡ c = cc in
    rw same (omega (arith, length-append (text c) (forest_text f)))
text_length-beginning (more t f) (suc j) c there =
    omega (arith, length-append (text t) (forest_text f), length-append (text t) (forest_text (forest (take j (trees f)))), text_length-beginning f j c there)

-- a child's text is within what its node's text has from its start on
pub start-child-le : {L : Type 0} (l : L) (f : Forest L) (j : ℕ) (c : Tree L) → slice_get (trees f) j ≡ Some c → start (Node l f) (j ∷ []) + text_length c ≤ text_length (Node l f)
start-child-le l f j c there = rw (start-node l f j [], there) (omega (arith, start-top c, text_length-beginning f j c there))

-- what a step of a walk adds
pub start_step : (b : Branch) (es : List GreenElement) (path : Path) (n : ℕ) (e : GreenElement) → element_trees es ≡ b.children → n < length path → get_or path n 0 < length es → e ≡ get_or es (get_or path n 0) e → start (branch_tree b) (drop n path) ≡ start (branch_tree b) (get_or path n 0 ∷ []) + start (element_tree e) (drop (n + 1) path)
start_step b es path n e same h k is =
    rw (add-one, drop-cons path n 0 h) (start-below b.kind (forest b.children) (get_or path n 0) (drop (suc n) path) (element_tree e) (slice_get-child b es (get_or path n 0) e same k is))

-- what it leaves
pub start_room : (b : Branch) (es : List GreenElement) (i : ℕ) (e : GreenElement) → element_trees es ≡ b.children → i < length es → e ≡ get_or es i e → start (branch_tree b) (i ∷ []) + text_length (element_tree e) ≤ text_length (branch_tree b)
start_room b es i e same h is = start-child-le b.kind (forest b.children) i (element_tree e) (slice_get-child b es i e same h is)

-- nothing is below a token
pub start-token : (k : ℕ) (s : List ℕ) (p : Path) → IsSome (at (Token k s) p) → start (Token k s) p ≡ 0
start-token k s [] there = start-top (Token k s)
start-token k s (i ∷ p) there = absurd (cc)

-- the end of a walk
pub start-end : (t : SyntaxTree) (p : Path) (n : ℕ) → length p ≤ n → start t (drop n p) ≡ 0
start-end t p n h = ap (start t) (drop_of_length-le p h) ∙ start-top t
