-- Where the tokens of a node stand, slot by slot.
use Rattle.std.proofs.Common.{◌≡◌, ℕ, ◌+◌, ◌<◌, ◌≤◌, zero, suc, Bool, true, false, List, [], ◌∷◌, ◌++◌, map, drop, Some, refl, ap, sym, ◌∙◌, arith, append_assoc}
use Rattle.std.proofs.lemmas.List.{append-nil}
use Rattle.std.specs.Prelude.{slice_get, filter, not}
use Rattle.std.proofs.lemmas.List.Elements.{filter-append}
use Rattle.std.proofs.lemmas.Bool.Decides.{nat_tests}
use Rattle.green_tree.specs.Path.{Path, precedes}
use Rattle.green_tree.specs.Tree.{Tree, Forest, Node, end, more, is_token, trees, forest}
use Rattle.green_tree.specs.Order.{token_paths, tokens_before, tokens_after}
use Rattle.green_tree.specs.inner.FoundToken.{tokens_from}
use Rattle.green_tree.proofs.Lookup.{forest-trees}
use Rattle.green_tree.proofs.Parts.{parts_from, parts-node, filter-map}

filter-all : {X : Type 0} (p : X → Bool) (xs : List X) → ((x : X) → p x ≡ true) → filter p xs ≡ xs
filter-all p [] h = refl
filter-all p (x ∷ xs) h = rw (h x, filter-all p xs h)

pub filter-none : {X : Type 0} (p : X → Bool) (xs : List X) → ((x : X) → p x ≡ false) → filter p xs ≡ []
filter-none p [] h = refl
filter-none p (x ∷ xs) h = rw (h x, filter-none p xs h)

-- the tokens at or below the children from this slot on
abbrev pub token_paths_from : {L : Type 0} → ℕ → Forest L → List Path
token_paths_from i f = parts_from is_token i f

pub token_paths-node : {L : Type 0} (l : L) (f : Forest L) → token_paths (Node l f) ≡ token_paths_from 0 f
token_paths-node l f = parts-node is_token l f

-- the same before an element below the child in the slot so many further on
abbrev pub before_from : {L : Type 0} → ℕ → Forest L → ℕ → Path → List Path
before_from i end k p = []
before_from i (more t f) zero p = map (λ q. i ∷ q) (tokens_before t p)
before_from i (more t f) (suc k) p = map (λ q. i ∷ q) (token_paths t) ++ before_from (suc i) f k p

precedes-later : (i j : ℕ) (q p : Path) → i < j → precedes (i ∷ q) (j ∷ p) ≡ true
precedes-later i j q p h = grind (arith, nat_tests)

precedes-earlier : (i j : ℕ) (q p : Path) → j < i → precedes (i ∷ q) (j ∷ p) ≡ false
precedes-earlier i j q p h = grind (arith, nat_tests)

not-before : (i j : ℕ) (q : Path) → j ≤ i → not (precedes (i ∷ q) (j ∷ [])) ≡ true
not-before i j q h = grind (arith, nat_tests)

precedes-same : (i j : ℕ) (q p : Path) → i ≡ j → precedes (i ∷ q) (j ∷ p) ≡ precedes q p
precedes-same i j q p h = grind (arith, nat_tests)

precedes-top : (q : Path) → precedes q [] ≡ false
precedes-top q = refl

pub tokens_before-top : {L : Type 0} (t : Tree L) → tokens_before t [] ≡ []
tokens_before-top t = filter-none (λ q. precedes q []) (token_paths t) precedes-top

filter-past : {L : Type 0} (i j : ℕ) (f : Forest L) (p : Path) → j < i → filter (λ q. precedes q (j ∷ p)) (token_paths_from i f) ≡ []
filter-past i j end p h = refl
filter-past i j (more t f) p h =
    let own : filter (λ q. precedes q (j ∷ p)) (map (λ q. i ∷ q) (token_paths t)) ≡ map (λ q. i ∷ q) (filter (λ q. false) (token_paths t)) = filter-map (λ q. precedes q (j ∷ p)) (λ q. false) (λ q. i ∷ q) (token_paths t) (λ q. precedes-earlier i j q p h) in
    rw (filter-append (λ q. precedes q (j ∷ p)) (map (λ q. i ∷ q) (token_paths t)) (token_paths_from (suc i) f), own, filter-none (λ q. false) (token_paths t) (λ q. refl)) (filter-past (suc i) j f p (omega arith))

filter-from : {L : Type 0} (i j k : ℕ) (f : Forest L) (p : Path) → j ≡ i + k → filter (λ q. precedes q (j ∷ p)) (token_paths_from i f) ≡ before_from i f k p
filter-from i j k end p h = refl
filter-from i j zero (more t f) p h =
    let here : i ≡ j = omega arith in
    let own : filter (λ q. precedes q (j ∷ p)) (map (λ q. i ∷ q) (token_paths t)) ≡ map (λ q. i ∷ q) (tokens_before t p) = filter-map (λ q. precedes q (j ∷ p)) (λ q. precedes q p) (λ q. i ∷ q) (token_paths t) (λ q. precedes-same i j q p here) in
    rw (filter-append (λ q. precedes q (j ∷ p)) (map (λ q. i ∷ q) (token_paths t)) (token_paths_from (suc i) f), own, filter-past (suc i) j f p (omega arith)) (append-nil (map (λ q. i ∷ q) (tokens_before t p)))
filter-from i j (suc k) (more t f) p h =
    let own : filter (λ q. precedes q (j ∷ p)) (map (λ q. i ∷ q) (token_paths t)) ≡ map (λ q. i ∷ q) (filter (λ q. true) (token_paths t)) = filter-map (λ q. precedes q (j ∷ p)) (λ q. true) (λ q. i ∷ q) (token_paths t) (λ q. precedes-later i j q p (omega arith)) in
    rw (filter-append (λ q. precedes q (j ∷ p)) (map (λ q. i ∷ q) (token_paths t)) (token_paths_from (suc i) f), own, filter-all (λ q. true) (token_paths t) (λ q. refl), filter-from (suc i) j k f p (omega arith))

pub tokens_before-node : {L : Type 0} (l : L) (f : Forest L) (j : ℕ) (p : Path) → tokens_before (Node l f) (j ∷ p) ≡ before_from 0 f j p
tokens_before-node l f j p =
    let first : j ≡ 0 + j = omega arith in
    rw (token_paths-node l f) (filter-from 0 j j f p first)

map-tokens_before-top : {L : Type 0} (i : ℕ) (t : Tree L) → map (λ q. i ∷ q) (tokens_before t []) ≡ []
map-tokens_before-top i t = ap (λ ps. map (λ q. i ∷ q) ps) (tokens_before-top t)

before_from-zero : {L : Type 0} (i : ℕ) (f : Forest L) → before_from i f zero [] ≡ []
before_from-zero i end = refl
before_from-zero i (more t f) = map-tokens_before-top i t

before_from-next : {L : Type 0} (i k j : ℕ) (f : Forest L) (c : Tree L) → j ≡ i + k → slice_get (trees f) k ≡ Some c → before_from i f (suc k) [] ≡ before_from i f k [] ++ map (λ q. j ∷ q) (token_paths c)
before_from-next i k j end c e there = absurd (cc)
before_from-next i zero j (more t f) c e there =
    let same : t ≡ c = cc in
    let here : j ≡ i = omega arith in
    rw (same, here, before_from-zero (suc i) f, map-tokens_before-top i c) (append-nil (map (λ q. i ∷ q) (token_paths c)))
before_from-next i (suc k) j (more t f) c e there =
    rw (before_from-next (suc i) k j f c (omega arith) there) (sym (append_assoc (map (λ q. i ∷ q) (token_paths t)) (before_from (suc i) f k []) (map (λ q. j ∷ q) (token_paths c))))

before_from-below : {L : Type 0} (i k j : ℕ) (f : Forest L) (c : Tree L) (p : Path) → j ≡ i + k → slice_get (trees f) k ≡ Some c → before_from i f k p ≡ before_from i f k [] ++ map (λ q. j ∷ q) (tokens_before c p)
before_from-below i k j end c p e there = absurd (cc)
before_from-below i zero j (more t f) c p e there =
    let same : t ≡ c = cc in
    let here : j ≡ i = omega arith in
    rw (same, here, map-tokens_before-top i c)
before_from-below i (suc k) j (more t f) c p e there =
    rw (before_from-below (suc i) k j f c p (omega arith) there) (sym (append_assoc (map (λ q. i ∷ q) (token_paths t)) (before_from (suc i) f k []) (map (λ q. j ∷ q) (tokens_before c p))))

before_from-rest : {L : Type 0} (i k : ℕ) (f : Forest L) → token_paths_from i f ≡ before_from i f k [] ++ token_paths_from (i + k) (forest (drop k (trees f)))
before_from-rest i zero end = refl
before_from-rest i (suc k) end = refl
before_from-rest i zero (more t f) =
    let here : i + 0 ≡ i = omega arith in
    rw (map-tokens_before-top i t, here, forest-trees f)
before_from-rest i (suc k) (more t f) =
    let later : i + suc k ≡ suc i + k = omega arith in
    rw (later, before_from-rest (suc i) k f) (sym (append_assoc (map (λ q. i ∷ q) (token_paths t)) (before_from (suc i) f k []) (token_paths_from (suc i + k) (forest (drop k (trees f))))))

-- no token stands before the first child
pub tokens_before-first : {L : Type 0} (l : L) (f : Forest L) → tokens_before (Node l f) (0 ∷ []) ≡ []
tokens_before-first l f = tokens_before-node l f 0 [] ∙ before_from-zero 0 f

-- before the next child stands also what is at or below this one
pub tokens_before-next : {L : Type 0} (l : L) (f : Forest L) (j : ℕ) (c : Tree L) → slice_get (trees f) j ≡ Some c → tokens_before (Node l f) (suc j ∷ []) ≡ tokens_before (Node l f) (j ∷ []) ++ map (λ q. j ∷ q) (token_paths c)
tokens_before-next l f j c there = rw (tokens_before-node l f (suc j) [], tokens_before-node l f j []) (before_from-next 0 j j f c (omega arith) there)

-- before an element below this child stands also what is before it there
pub tokens_before-below : {L : Type 0} (l : L) (f : Forest L) (j : ℕ) (c : Tree L) (p : Path) → slice_get (trees f) j ≡ Some c → tokens_before (Node l f) (j ∷ p) ≡ tokens_before (Node l f) (j ∷ []) ++ map (λ q. j ∷ q) (tokens_before c p)
tokens_before-below l f j c p there = rw (tokens_before-node l f j p, tokens_before-node l f j []) (before_from-below 0 j j f c p (omega arith) there)

-- the tokens before a child, and those from it on
pub token_paths-split : {L : Type 0} (l : L) (f : Forest L) (j : ℕ) → token_paths (Node l f) ≡ tokens_before (Node l f) (j ∷ []) ++ token_paths_from j (forest (drop j (trees f)))
token_paths-split l f j =
    let here : 0 + j ≡ j = omega arith in
    token_paths-node l f ∙ before_from-rest 0 j f ∙ ap (λ i. before_from 0 f j [] ++ token_paths_from i (forest (drop j (trees f)))) here ∙ ap (λ ps. ps ++ token_paths_from j (forest (drop j (trees f)))) (sym (tokens_before-node l f j []))

-- ---- the tokens after an element
-- those below a later child are after it, and do not stand before it
after-later : {L : Type 0} (i j : ℕ) (f : Forest L) (p : Path) → j < i → filter (λ q. precedes (j ∷ p) q) (token_paths_from i f) ≡ token_paths_from i f
after-later i j end p h = refl
after-later i j (more t f) p h =
    let own : filter (λ q. precedes (j ∷ p) q) (map (λ q. i ∷ q) (token_paths t)) ≡ map (λ q. i ∷ q) (filter (λ q. true) (token_paths t)) = filter-map (λ q. precedes (j ∷ p) q) (λ q. true) (λ q. i ∷ q) (token_paths t) (λ q. precedes-later j i p q h) in
    rw (filter-append (λ q. precedes (j ∷ p) q) (map (λ q. i ∷ q) (token_paths t)) (token_paths_from (suc i) f), own, filter-all (λ q. true) (token_paths t) (λ q. refl), after-later (suc i) j f p (omega arith)) refl

from-later : {L : Type 0} (i j : ℕ) (f : Forest L) → j ≤ i → filter (λ q. not (precedes q (j ∷ []))) (token_paths_from i f) ≡ token_paths_from i f
from-later i j end h = refl
from-later i j (more t f) h =
    let own : filter (λ q. not (precedes q (j ∷ []))) (map (λ q. i ∷ q) (token_paths t)) ≡ map (λ q. i ∷ q) (filter (λ q. true) (token_paths t)) = filter-map (λ q. not (precedes q (j ∷ []))) (λ q. true) (λ q. i ∷ q) (token_paths t) (λ q. not-before i j q h) in
    rw (filter-append (λ q. not (precedes q (j ∷ []))) (map (λ q. i ∷ q) (token_paths t)) (token_paths_from (suc i) f), own, filter-all (λ q. true) (token_paths t) (λ q. refl), from-later (suc i) j f (omega arith)) refl

-- those of the children from a slot on are what the later children have
from-slot : {L : Type 0} (i j k : ℕ) (f : Forest L) → j ≡ i + k → filter (λ q. not (precedes q (j ∷ []))) (token_paths_from i f) ≡ token_paths_from j (forest (drop k (trees f)))
from-slot i j zero end h = refl
from-slot i j (suc k) end h = refl
from-slot i j zero (more t f) h =
    let here : j ≡ i = omega arith in
    rw (here, forest-trees f) (from-later i i (more t f) (omega arith))
from-slot i j (suc k) (more t f) h =
    let own : filter (λ q. not (precedes q (j ∷ []))) (map (λ q. i ∷ q) (token_paths t)) ≡ map (λ q. i ∷ q) (filter (λ q. false) (token_paths t)) = filter-map (λ q. not (precedes q (j ∷ []))) (λ q. false) (λ q. i ∷ q) (token_paths t) (λ q. ap not (precedes-later i j q [] (omega arith))) in
    rw (filter-append (λ q. not (precedes q (j ∷ []))) (map (λ q. i ∷ q) (token_paths t)) (token_paths_from (suc i) f), own, filter-none (λ q. false) (token_paths t) (λ q. refl)) (from-slot (suc i) j k f (omega arith))

after-slot : {L : Type 0} (i j k : ℕ) (f : Forest L) (c : Tree L) (p : Path) → j ≡ i + k → slice_get (trees f) k ≡ Some c → filter (λ q. precedes (j ∷ p) q) (token_paths_from i f) ≡ map (λ q. j ∷ q) (tokens_after c p) ++ token_paths_from (suc j) (forest (drop (suc k) (trees f)))
after-slot i j k end c p h there = absurd (cc)
after-slot i j zero (more t f) c p h there =
    let same : t ≡ c = cc in
    let here : j ≡ i = omega arith in
    let own : filter (λ q. precedes (i ∷ p) q) (map (λ q. i ∷ q) (token_paths c)) ≡ map (λ q. i ∷ q) (tokens_after c p) = filter-map (λ q. precedes (i ∷ p) q) (λ q. precedes p q) (λ q. i ∷ q) (token_paths c) (λ q. precedes-same i i p q refl) in
    rw (same, here, filter-append (λ q. precedes (i ∷ p) q) (map (λ q. i ∷ q) (token_paths c)) (token_paths_from (suc i) f), own, after-later (suc i) i f p (omega arith), forest-trees f) refl
after-slot i j (suc k) (more t f) c p h there =
    let own : filter (λ q. precedes (j ∷ p) q) (map (λ q. i ∷ q) (token_paths t)) ≡ map (λ q. i ∷ q) (filter (λ q. false) (token_paths t)) = filter-map (λ q. precedes (j ∷ p) q) (λ q. false) (λ q. i ∷ q) (token_paths t) (λ q. precedes-earlier j i p q (omega arith)) in
    rw (filter-append (λ q. precedes (j ∷ p) q) (map (λ q. i ∷ q) (token_paths t)) (token_paths_from (suc i) f), own, filter-none (λ q. false) (token_paths t) (λ q. refl)) (after-slot (suc i) j k f c p (omega arith) there)

after-top : {L : Type 0} (i : ℕ) (f : Forest L) → filter (λ q. precedes [] q) (token_paths_from i f) ≡ token_paths_from i f
after-top i end = refl
after-top i (more t f) =
    let own : filter (λ q. precedes [] q) (map (λ q. i ∷ q) (token_paths t)) ≡ map (λ q. i ∷ q) (filter (λ q. true) (token_paths t)) = filter-map (λ q. precedes [] q) (λ q. true) (λ q. i ∷ q) (token_paths t) (λ q. refl) in
    rw (filter-append (λ q. precedes [] q) (map (λ q. i ∷ q) (token_paths t)) (token_paths_from (suc i) f), own, filter-all (λ q. true) (token_paths t) (λ q. refl), after-top (suc i) f) refl

-- the tokens of the children from a slot on
pub tokens_from-slot : {L : Type 0} (l : L) (f : Forest L) (j : ℕ) → tokens_from (Node l f) (j ∷ []) ≡ token_paths_from j (forest (drop j (trees f)))
tokens_from-slot l f j =
    let first : j ≡ 0 + j = omega arith in
    rw (token_paths-node l f) (from-slot 0 j j f first)

pub tokens_from-first : {L : Type 0} (l : L) (f : Forest L) → tokens_from (Node l f) (0 ∷ []) ≡ token_paths (Node l f)
tokens_from-first l f = rw (token_paths-node l f) (from-later 0 0 f (omega arith))

-- from a child on stands what is at or below it, and then the rest
rest-next : {L : Type 0} (j k : ℕ) (f : Forest L) (c : Tree L) → slice_get (trees f) k ≡ Some c → token_paths_from j (forest (drop k (trees f))) ≡ map (λ q. j ∷ q) (token_paths c) ++ token_paths_from (suc j) (forest (drop (suc k) (trees f)))
rest-next j k end c there = absurd (cc)
rest-next j zero (more t f) c there =
    let same : t ≡ c = cc in
    rw (same, forest-trees f) refl
rest-next j (suc k) (more t f) c there = rest-next j k f c there

pub tokens_from-next : {L : Type 0} (l : L) (f : Forest L) (j : ℕ) (c : Tree L) → slice_get (trees f) j ≡ Some c → tokens_from (Node l f) (j ∷ []) ≡ map (λ q. j ∷ q) (token_paths c) ++ tokens_from (Node l f) (suc j ∷ [])
tokens_from-next l f j c there = rw (tokens_from-slot l f j, tokens_from-slot l f (suc j)) (rest-next j j f c there)

-- after an element below this child stands what is after it there, and then what the later children have
pub tokens_after-below : {L : Type 0} (l : L) (f : Forest L) (j : ℕ) (c : Tree L) (p : Path) → slice_get (trees f) j ≡ Some c → tokens_after (Node l f) (j ∷ p) ≡ map (λ q. j ∷ q) (tokens_after c p) ++ tokens_from (Node l f) (suc j ∷ [])
tokens_after-below l f j c p there =
    let first : j ≡ 0 + j = omega arith in
    rw (tokens_from-slot l f (suc j), token_paths-node l f) (after-slot 0 j j f c p first there)

-- all that is below a node is after it
pub tokens_after-top : {L : Type 0} (l : L) (f : Forest L) → tokens_after (Node l f) [] ≡ token_paths (Node l f)
tokens_after-top l f = rw (token_paths-node l f) (after-top 0 f)
