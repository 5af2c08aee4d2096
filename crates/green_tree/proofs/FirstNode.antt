-- The first node of a kind that starts somewhere, child by child.
--     rest                          the paths of the nodes in the children from a slot on
--     none-after, none-past        none is in a tree that begins after the offset, or ends before it
--     first-here, first-below       the top is the first one; else it is the first one in the children
--     find-rest                     it is in the child in a slot, or else after that
--     first-nowhere                 none is after the last child
--     start-next                    where the child in the next slot starts
use Rattle.std.specs.Prelude.{◌≡◌, ◌≢◌, ℕ, zero, suc, ◌+◌, ◌<◌, ◌≤◌, Bool, true, false, not, cond, nat_eq, ◌&&◌, List, [], ◌∷◌, ◌++◌, map, find, take, drop, length, slice_get, Some, None, option_map, refl}
use Rattle.std.specs.Option.{option_map_or, option_or}
use Rattle.std.proofs.Common.{ap, sym, arith, ◌∙◌, length-append}
use Rattle.std.proofs.lemmas.Bool.{ne_eqb}
use Rattle.std.proofs.lemmas.List.Folds.{find-append}
use Rattle.std.proofs.Math.ListN.{drop_of_length-le}
use Rattle.green_tree.specs.Path.{Path}
use Rattle.green_tree.specs.Tree.{SyntaxTree, Forest, Node, end, more, at, label, is_token, children, trees, forest, text, forest_text, text_length}
use Rattle.green_tree.specs.Order.{node_paths, start}
use Rattle.green_tree.proofs.Parts.{parts_from, parts-node}
use Rattle.green_tree.proofs.Starts.{start-top, start-node, start-below, start-le}
use Rattle.green_tree.proofs.Lookup.{forest-trees}
use Rattle.green_tree.specs.inner.FirstNode.{starts_as, first_from}

abbrev is_node_tree : SyntaxTree → Bool
is_node_tree t = not (is_token t)

abbrev pub rest : SyntaxTree → ℕ → List Path
rest t i = parts_from is_node_tree i (forest (drop i (children t)))

-- ---- lists
find-none : {X : Type 0} (g : X → Bool) (xs : List X) → ((x : X) → g x ≡ false) → find g xs ≡ None
find-none g [] h = refl
find-none g (x ∷ xs) h = ap (λ b. cond b (Some x) (find g xs)) (h x) ∙ find-none g xs h

find-map : {X Y : Type 0} (g : Y → Bool) (h : X → Bool) (f : X → Y) (xs : List X) → ((x : X) → g (f x) ≡ h x) → find g (map f xs) ≡ option_map f (find h xs)
find-map g h f [] e = refl
find-map g h f (x ∷ xs) e =
    ap (λ b. cond b (Some (f x)) (find g (map f xs))) (e x) ∙ elim (h x) as (λ b. cond b (Some (f x)) (find g (map f xs)) ≡ option_map f (cond b (Some x) (find h xs))) [ true ↦ refl | false ↦ find-map g h f xs e ]

drop-there : {X : Type 0} (xs : List X) (i : ℕ) (x : X) → slice_get xs i ≡ Some x → drop i xs ≡ x ∷ drop (suc i) xs
drop-there [] i x there = absurd (cc)
drop-there (y ∷ xs) zero x there =
    let same : y ≡ x = cc in
    ap (λ z. z ∷ xs) same
drop-there (y ∷ xs) (suc i) x there = drop-there xs i x there

-- ---- none
and-false : (a b : Bool) → b ≡ false → (a && b) ≡ false
and-false a b h = ap (λ c. a && c) h ∙ elim a as (λ c. (c && false) ≡ false) [ true ↦ refl | false ↦ refl ]

not-there : (kind b o : ℕ) (t : SyntaxTree) → ((p : Path) → b + start t p ≢ o) → first_from kind b o t ≡ None
not-there kind b o t apart = find-none (starts_as kind b o t) (node_paths t) (λ p. and-false (option_map_or (λ e. nat_eq (label e) kind) (at t p) false) (nat_eq (b + start t p) o) (ne_eqb (b + start t p) o (apart p)))

pub none-after : (kind b o : ℕ) (t : SyntaxTree) → o < b → first_from kind b o t ≡ None
none-after kind b o t h = not-there kind b o t (λ p e. omega (arith, h, e))

pub none-past : (kind b o : ℕ) (t : SyntaxTree) → b + text_length t < o → first_from kind b o t ≡ None
none-past kind b o t h = not-there kind b o t (λ p e. omega (arith, h, e, start-le t p))

-- ---- the top
pub top-starts : (kind b o l : ℕ) (f : Forest ℕ) → starts_as kind b o (Node l f) [] ≡ (nat_eq l kind && nat_eq b o)
top-starts kind b o l f =
    let e : b + start (Node l f) [] ≡ b = omega (arith, start-top (Node l f)) in
    ap (λ n. nat_eq l kind && nat_eq n o) e

top-first : (kind b o l : ℕ) (f : Forest ℕ) → first_from kind b o (Node l f) ≡ cond (starts_as kind b o (Node l f) []) (Some []) (find (starts_as kind b o (Node l f)) (rest (Node l f) 0))
top-first kind b o l f =
    ap (find (starts_as kind b o (Node l f))) (parts-node is_node_tree l f)
    ∙ ap (λ g. cond (starts_as kind b o (Node l f) []) (Some []) (find (starts_as kind b o (Node l f)) (parts_from is_node_tree 0 g))) (sym (forest-trees f))

pub first-here : (kind b o l : ℕ) (f : Forest ℕ) → starts_as kind b o (Node l f) [] ≡ true → first_from kind b o (Node l f) ≡ Some []
first-here kind b o l f h = top-first kind b o l f ∙ ap (λ c. cond c (Some []) (find (starts_as kind b o (Node l f)) (rest (Node l f) 0))) h

pub first-below : (kind b o l : ℕ) (f : Forest ℕ) → starts_as kind b o (Node l f) [] ≡ false → first_from kind b o (Node l f) ≡ find (starts_as kind b o (Node l f)) (rest (Node l f) 0)
first-below kind b o l f h = top-first kind b o l f ∙ ap (λ c. cond c (Some []) (find (starts_as kind b o (Node l f)) (rest (Node l f) 0))) h

-- ---- the children
module _ (kind b o l : ℕ) (f : Forest ℕ) (i : ℕ) (c : SyntaxTree) (there : slice_get (trees f) i ≡ Some c) where
  rest-cons : rest (Node l f) i ≡ map (λ p. i ∷ p) (node_paths c) ++ rest (Node l f) (suc i)
  rest-cons = ap (λ ts. parts_from is_node_tree i (forest ts)) (drop-there (trees f) i c there)

  seen-below : (p : Path) → starts_as kind b o (Node l f) (i ∷ p) ≡ starts_as kind (b + start (Node l f) (i ∷ [])) o c p
  seen-below p =
      let e : b + start (Node l f) (i ∷ p) ≡ b + start (Node l f) (i ∷ []) + start c p = omega (arith, start-below l f i p c there) in
      ap (λ s. option_map_or (λ e. nat_eq (label e) kind) s false && nat_eq (b + start (Node l f) (i ∷ p)) o) (at-there p) ∙ ap (λ n. option_map_or (λ e. nat_eq (label e) kind) (at c p) false && nat_eq n o) e
    where
      at-there : (p : Path) → at (Node l f) (i ∷ p) ≡ at c p
      at-there p = rw there refl

  pub find-rest : find (starts_as kind b o (Node l f)) (rest (Node l f) i) ≡ option_or (option_map (λ p. i ∷ p) (first_from kind (b + start (Node l f) (i ∷ [])) o c)) (find (starts_as kind b o (Node l f)) (rest (Node l f) (suc i)))
  find-rest =
      ap (find (starts_as kind b o (Node l f))) rest-cons
      ∙ find-append (starts_as kind b o (Node l f)) (map (λ p. i ∷ p) (node_paths c)) (rest (Node l f) (suc i))
      ∙ ap (λ r. option_or r (find (starts_as kind b o (Node l f)) (rest (Node l f) (suc i)))) (find-map (starts_as kind b o (Node l f)) (starts_as kind (b + start (Node l f) (i ∷ [])) o c) (λ p. i ∷ p) (node_paths c) seen-below)

pub first-nowhere : (kind b o l : ℕ) (f : Forest ℕ) (i : ℕ) → length (trees f) ≤ i → find (starts_as kind b o (Node l f)) (rest (Node l f) i) ≡ None
first-nowhere kind b o l f i h = ap (λ ts. find (starts_as kind b o (Node l f)) (parts_from is_node_tree i (forest ts))) (drop_of_length-le (trees f) h)

-- ---- where the next child starts
before-next : (f : Forest ℕ) (j : ℕ) (c : SyntaxTree) → slice_get (trees f) j ≡ Some c → length (forest_text (forest (take (suc j) (trees f)))) ≡ length (forest_text (forest (take j (trees f)))) + text_length c
before-next end j c there = absurd (cc)
before-next (more t f) zero c there =
    let same : t ≡ c = cc in
    rw same (omega (arith, length-append (text c) []))
before-next (more t f) (suc j) c there =
    omega (arith, length-append (text t) (forest_text (forest (take (suc j) (trees f)))), length-append (text t) (forest_text (forest (take j (trees f)))), before-next f j c there)

start-slot : (l : ℕ) (f : Forest ℕ) (j : ℕ) → start (Node l f) (j ∷ []) ≡ length (forest_text (forest (take j (trees f))))
start-slot l f j =
    let none = elim (slice_get (trees f) j) as (λ o. option_map_or (λ c. start c []) o 0 ≡ 0) [ None ↦ refl | Some c ↦ start-top c ] in
    rw (start-node l f j [], none) (omega arith)

pub start-next : (l : ℕ) (f : Forest ℕ) (j : ℕ) (c : SyntaxTree) → slice_get (trees f) j ≡ Some c → start (Node l f) (suc j ∷ []) ≡ start (Node l f) (j ∷ []) + text_length c
start-next l f j c there = start-slot l f (suc j) ∙ before-next f j c there ∙ ap (λ n. n + text_length c) (sym (start-slot l f j))

pub start-first : (l : ℕ) (f : Forest ℕ) → start (Node l f) (0 ∷ []) ≡ 0
start-first l f = start-slot l f 0
