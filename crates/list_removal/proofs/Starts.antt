-- Where an element starts, by the child that it is in.
--     start-top        a tree starts at 0
--     start-node       what a path leads to starts as far into its child as there, after the texts of the children before that
use Rattle.std.specs.Prelude.{◌≡◌, ℕ, zero, suc, ◌+◌, ◌<◌, Bool, true, false, cond, List, [], ◌∷◌, ◌++◌, length, map, take, drop, filter, sum_by, slice_get, Some, refl}
use Rattle.std.specs.Option.{option_map_or}
use Rattle.std.proofs.Common.{ap, arith, length-append}
use Rattle.std.proofs.lemmas.Bool.Decides.{nat_tests}
use Rattle.std.proofs.lemmas.List.{append-nil}
use Rattle.std.proofs.lemmas.List.Elements.{filter-append}
use Rattle.std.proofs.lemmas.List.Sums.{sum_by-append, sum_by-cons}
use Rattle.cst_core.specs.Path.{Path, precedes}
use Rattle.cst_core.specs.Tree.{Forest, Token, Node, end, more, SyntaxTree, at, is_token, children, trees, forest, text, forest_text, paths, paths_from}
use Rattle.cst_core.specs.Order.{token_paths, tokens_before, start}

-- ---- lists
filter-all : {X : Type 0} (test : X → Bool) (xs : List X) → ((x : X) → test x ≡ true) → filter test xs ≡ xs
filter-all test [] h = refl
filter-all test (x ∷ xs) h = rw (h x, filter-all test xs h)

filter-none : {X : Type 0} (test : X → Bool) (xs : List X) → ((x : X) → test x ≡ false) → filter test xs ≡ []
filter-none test [] h = refl
filter-none test (x ∷ xs) h = rw (h x, filter-none test xs h)

filter-map : {X Y : Type 0} (test : Y → Bool) (own : X → Bool) (f : X → Y) (xs : List X) → ((x : X) → test (f x) ≡ own x) → filter test (map f xs) ≡ map f (filter own xs)
filter-map test own f [] h = refl
filter-map test own f (x ∷ xs) h =
    rw (h x, filter-map test own f xs h) (elim (own x) as (λ b. cond b (f x ∷ map f (filter own xs)) (map f (filter own xs)) ≡ map f (cond b (x ∷ filter own xs) (filter own xs))) [ true ↦ refl | false ↦ refl ])

sum_by-map : {X Y : Type 0} (g : Y → ℕ) (h : X → ℕ) (f : X → Y) (xs : List X) → ((x : X) → g (f x) ≡ h x) → sum_by g (map f xs) ≡ sum_by h xs
sum_by-map g h f [] e = refl
sum_by-map g h f (x ∷ xs) e = rw (sum_by-cons g (f x) (map f xs), sum_by-cons h x xs, e x, sum_by-map g h f xs e)

first_left : {X : Type 0} (xs ys : List X) (i : ℕ) (x : X) → drop i xs ≡ x ∷ ys → slice_get xs i ≡ Some x
first_left [] ys zero x h = absurd (cc)
first_left [] ys (suc i) x h = absurd (cc)
first_left (z ∷ xs) ys zero x h = cc
first_left (z ∷ xs) ys (suc i) x h = first_left xs ys i x h

rest_left : {X : Type 0} (xs ys : List X) (i : ℕ) (x : X) → drop i xs ≡ x ∷ ys → drop (suc i) xs ≡ ys
rest_left [] ys zero x h = absurd (cc)
rest_left [] ys (suc i) x h = absurd (cc)
rest_left (z ∷ xs) ys zero x h = cc
rest_left (z ∷ xs) ys (suc i) x h = rest_left xs ys i x h

-- ---- the tokens of a node, child by child from a slot on
abbrev tokens_from : ℕ → Forest ℕ → List Path
tokens_from i end = []
tokens_from i (more c f) = map (λ p. i ∷ p) (token_paths c) ++ tokens_from (suc i) f

all_from : (t : SyntaxTree) (i : ℕ) (f : Forest ℕ) → drop i (children t) ≡ trees f → filter (λ p. option_map_or is_token (at t p) false) (paths_from i f) ≡ tokens_from i f
all_from t i end h = refl
all_from t i (more c f) h =
    let there : slice_get (children t) i ≡ Some c = first_left (children t) (trees f) i c h in
    let tests : (p : Path) → option_map_or is_token (at t (i ∷ p)) false ≡ option_map_or is_token (at c p) false = λ p. rw there in
    rw (filter-append (λ p. option_map_or is_token (at t p) false) (map (λ p. i ∷ p) (paths c)) (paths_from (suc i) f), filter-map (λ p. option_map_or is_token (at t p) false) (λ p. option_map_or is_token (at c p) false) (λ p. i ∷ p) (paths c) tests, all_from t (suc i) f (rest_left (children t) (trees f) i c h))

tokens-node : (l : ℕ) (f : Forest ℕ) → token_paths (Node l f) ≡ tokens_from 0 f
tokens-node l f = all_from (Node l f) 0 f refl

-- those before an element below the child in the slot so many further on
abbrev before_from : ℕ → Forest ℕ → ℕ → Path → List Path
before_from i end k p = []
before_from i (more t f) zero p = map (λ q. i ∷ q) (tokens_before t p)
before_from i (more t f) (suc k) p = map (λ q. i ∷ q) (token_paths t) ++ before_from (suc i) f k p

in_later : (i j : ℕ) (q p : Path) → i < j → precedes (i ∷ q) (j ∷ p) ≡ true
in_later i j q p h = grind (arith, nat_tests)

in_earlier : (i j : ℕ) (q p : Path) → j < i → precedes (i ∷ q) (j ∷ p) ≡ false
in_earlier i j q p h = grind (arith, nat_tests)

in_same : (i j : ℕ) (q p : Path) → i ≡ j → precedes (i ∷ q) (j ∷ p) ≡ precedes q p
in_same i j q p h = grind (arith, nat_tests)

past : (i j : ℕ) (f : Forest ℕ) (p : Path) → j < i → filter (λ q. precedes q (j ∷ p)) (tokens_from i f) ≡ []
past i j end p h = refl
past i j (more t f) p h =
    let own : filter (λ q. precedes q (j ∷ p)) (map (λ q. i ∷ q) (token_paths t)) ≡ map (λ q. i ∷ q) (filter (λ q. false) (token_paths t)) = filter-map (λ q. precedes q (j ∷ p)) (λ q. false) (λ q. i ∷ q) (token_paths t) (λ q. in_earlier i j q p h) in
    rw (filter-append (λ q. precedes q (j ∷ p)) (map (λ q. i ∷ q) (token_paths t)) (tokens_from (suc i) f), own, filter-none (λ q. false) (token_paths t) (λ q. refl)) (past (suc i) j f p (omega arith))

before-from : (i j k : ℕ) (f : Forest ℕ) (p : Path) → j ≡ i + k → filter (λ q. precedes q (j ∷ p)) (tokens_from i f) ≡ before_from i f k p
before-from i j k end p h = refl
before-from i j zero (more t f) p h =
    let here : i ≡ j = omega arith in
    let own : filter (λ q. precedes q (j ∷ p)) (map (λ q. i ∷ q) (token_paths t)) ≡ map (λ q. i ∷ q) (tokens_before t p) = filter-map (λ q. precedes q (j ∷ p)) (λ q. precedes q p) (λ q. i ∷ q) (token_paths t) (λ q. in_same i j q p here) in
    rw (filter-append (λ q. precedes q (j ∷ p)) (map (λ q. i ∷ q) (token_paths t)) (tokens_from (suc i) f), own, past (suc i) j f p (omega arith)) (append-nil (map (λ q. i ∷ q) (tokens_before t p)))
before-from i j (suc k) (more t f) p h =
    let own : filter (λ q. precedes q (j ∷ p)) (map (λ q. i ∷ q) (token_paths t)) ≡ map (λ q. i ∷ q) (filter (λ q. true) (token_paths t)) = filter-map (λ q. precedes q (j ∷ p)) (λ q. true) (λ q. i ∷ q) (token_paths t) (λ q. in_later i j q p (omega arith)) in
    rw (filter-append (λ q. precedes q (j ∷ p)) (map (λ q. i ∷ q) (token_paths t)) (tokens_from (suc i) f), own, filter-all (λ q. true) (token_paths t) (λ q. refl), before-from (suc i) j k f p (omega arith))

before-node : (l : ℕ) (f : Forest ℕ) (j : ℕ) (p : Path) → tokens_before (Node l f) (j ∷ p) ≡ before_from 0 f j p
before-node l f j p =
    let first : j ≡ 0 + j = omega arith in
    rw (tokens-node l f) (before-from 0 j j f p first)

-- ---- how long they are
abbrev length_at : SyntaxTree → Path → ℕ
length_at t p = option_map_or (λ c. length (text c)) (at t p) 0

length_at-below : (t c : SyntaxTree) (i : ℕ) (f : Forest ℕ) → drop i (children t) ≡ trees (more c f) → (p : Path) → length_at t (i ∷ p) ≡ length_at c p
length_at-below t c i f h p =
    let there : slice_get (children t) i ≡ Some c = first_left (children t) (trees f) i c h in
    rw there

mutual
  sum_tokens : (t : SyntaxTree) → sum_by (length_at t) (token_paths t) ≡ length (text t)
  sum_tokens (Token l s) = omega arith
  sum_tokens (Node l f) = rw (tokens-node l f) (sum_from (Node l f) 0 f refl)

  sum_from : (t : SyntaxTree) (i : ℕ) (f : Forest ℕ) → drop i (children t) ≡ trees f → sum_by (length_at t) (tokens_from i f) ≡ length (forest_text f)
  sum_from t i end h = refl
  sum_from t i (more c f) h =
      rw (sum_by-append (length_at t) (map (λ p. i ∷ p) (token_paths c)) (tokens_from (suc i) f), sum_by-map (length_at t) (length_at c) (λ p. i ∷ p) (token_paths c) (length_at-below t c i f h), sum_tokens c, sum_from t (suc i) f (rest_left (children t) (trees f) i c h), length-append (text c) (forest_text f))

sum_before : (t : SyntaxTree) (i : ℕ) (f : Forest ℕ) (k : ℕ) (p : Path) → drop i (children t) ≡ trees f → sum_by (length_at t) (before_from i f k p) ≡ length (forest_text (forest (take k (trees f)))) + option_map_or (λ c. start c p) (slice_get (trees f) k) 0
sum_before t i end zero p h = refl
sum_before t i end (suc k) p h = refl
sum_before t i (more c f) zero p h = rw (sum_by-map (length_at t) (length_at c) (λ q. i ∷ q) (tokens_before c p) (length_at-below t c i f h)) (omega arith)
sum_before t i (more c f) (suc k) p h =
    let below = sum_before t (suc i) f k p (rest_left (children t) (trees f) i c h) in
    rw (sum_by-append (length_at t) (map (λ q. i ∷ q) (token_paths c)) (before_from (suc i) f k p), sum_by-map (length_at t) (length_at c) (λ q. i ∷ q) (token_paths c) (length_at-below t c i f h), sum_tokens c, below, length-append (text c) (forest_text (forest (take k (trees f))))) (omega arith)

-- ---- where it starts
pub start-top : (t : SyntaxTree) → start t [] ≡ 0
start-top t = ap (sum_by (length_at t)) (filter-none (λ q. precedes q []) (token_paths t) (λ q. refl))

pub start-node : (l : ℕ) (f : Forest ℕ) (j : ℕ) (p : Path) → start (Node l f) (j ∷ p) ≡ length (forest_text (forest (take j (trees f)))) + option_map_or (λ c. start c p) (slice_get (trees f) j) 0
start-node l f j p = rw (before-node l f j p) (sum_before (Node l f) 0 f j p refl)
