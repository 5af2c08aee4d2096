-- What the marks of the pass tell of the new tree, where the tops of what changes give have one mark more than registered elements have.
--     drop-sides                    what is seen of trees that stand in a place, each counted from itself
--     past-number                   no registered element has a number past the last one
--     copies-told                   the paths of any other mark are as without it
--     changed-told                  the paths of this mark are those of changed elements
use Rattle.std.specs.Prelude.{◌≡◌, ◌≢◌, ℕ, suc, ◌+◌, ◌≤◌, ◌<◌, cond, nat_eq, List, [], ◌∷◌, ◌++◌, map, filter, flat_map, drop, length, None, refl}
use Rattle.std.specs.List.{AllByRecursion}
use Rattle.std.proofs.Common.{ap, ap₂, sym, ◌∙◌, arith}
use Rattle.std.proofs.lemmas.Bool.{eq-eqb, ne_eqb}
use Rattle.std.proofs.lemmas.List.{map-append, append-nil}
use Rattle.std.proofs.lemmas.List.Elements.{recursion_from_All}
use mathlib.Core.List.{map-map}
use mathlib.Core.Path.{fun_ext}
use Rattle.cst_core.specs.Path.{Path}
use Rattle.cst_core.specs.Tree.{Tree, Forest, Token, Node, end, more, trees, relabelled, forest_relabelled}
use Rattle.cst_core.specs.Element.{Address, Element, address, subtree}
use Rattle.edit_change.specs.Rewriting.{rewritten_whole}
use Rattle.edit_change.specs.Topmost.{topmost}
use Rattle.one_pass.specs.inner.Marked.{MarkTree, Marking, marked, marked_from, wanted}
use Rattle.one_pass.specs.inner.Pass.{topped}
use Rattle.one_pass.proofs.Alike.{IsSeen, sides, with_number, own_number, number-append, number-from, number-seen, topmost-seen, alike-whole}
use Rattle.one_pass.proofs.Marks.{marks-node, marks-token}
use Rattle.one_pass.proofs.MarksGiven.{marked-topped}
use Rattle.edit_change.specs.declared.change.Change.{Change}
use Rattle.edit_change.specs.NewTree.{OriginTree, Origin, origin, given, independents, is_free, new_tree}
use Rattle.edit_change.specs.Results.{changed}
use Rattle.one_pass.specs.inner.Sought.{sought_at, registered_at, IsTableOf}
use Rattle.one_pass.specs.inner.Marks.{with_marks, marks_given}
use Rattle.one_pass.specs.declared.sought.Registered.{Registered}
use Rattle.edit_change.proofs.BroughtTops.{shown, alone}
use Rattle.edit_change.proofs.BroughtTops as brought
use Rattle.one_pass.proofs.CopiesFound.{paths_within, tree-marked, registered_from, in-turn, other-number, all-of}
use Rattle.one_pass.proofs.WholeTree.{not_given, changed-whole}

-- ---- trees that stand in a place
below-dropped : (i : ℕ) (ps : List Path) → map (drop 1) (map (λ p. i ∷ p) ps) ≡ ps
below-dropped i [] = refl
below-dropped i (p ∷ ps) = ap (λ qs. p ∷ qs) (below-dropped i ps)

pub drop-sides : {L : Type 0} (view : Tree L → List Path) (i : ℕ) (ts : List (Tree L)) → map (drop 1) (sides i (map view ts)) ≡ flat_map view ts
drop-sides view i [] = refl
drop-sides view i (t ∷ ts) =
    map-append (drop 1) (map (λ p. i ∷ p) (view t)) (sides (suc i) (map view ts)) ∙ ap₂ (λ ps qs. ps ++ qs) (below-dropped i (view t)) (drop-sides view (suc i) ts)

abbrev seen : ℕ → MarkTree → List Path
seen n t = with_number n (marked t)

mark-paths : (n : ℕ) (ts : List MarkTree) → paths_within n (marked_from 0 ts) ≡ map (drop 1) (sides 0 (map (seen n) ts))
mark-paths n ts =
    sym (map-map (drop 1) (λ m. m.1) (filter (λ (m : Marking). nat_eq n m.0) (marked_from 0 ts))) ∙ ap (map (drop 1)) (number-from n 0 ts)

-- ---- one mark more at each top
seen-other : (n k : ℕ) (t : MarkTree) → k ≢ n → seen k (topped n t) ≡ seen k t
seen-other n k t other =
    ap (with_number k) (marked-topped n t) ∙ ap (λ b. map (λ (m : Marking). m.1) (cond b ((n, []) ∷ filter (λ (m : Marking). nat_eq k m.0) (marked t)) (filter (λ (m : Marking). nat_eq k m.0) (marked t)))) (ne_eqb k n other)

seen-own : (n : ℕ) (t : MarkTree) → seen n t ≡ [] → seen n (topped n t) ≡ [] ∷ []
seen-own n t none =
    ap (with_number n) (marked-topped n t) ∙ ap (λ b. map (λ (m : Marking). m.1) (cond b ((n, []) ∷ filter (λ (m : Marking). nat_eq n m.0) (marked t)) (filter (λ (m : Marking). nat_eq n m.0) (marked t)))) (eq-eqb n n refl) ∙ ap (λ ps. [] ∷ ps) none

-- ---- a number that no label has
no-sides : {L : Type 0} (view : Tree L → List Path) (i : ℕ) (ts : List (Tree L)) → AllByRecursion (λ t. view t ≡ []) ts → sides i (map view ts) ≡ []
no-sides view i [] a = refl
no-sides view i (t ∷ ts) a = ap₂ (λ ps qs. map (λ p. i ∷ p) ps ++ qs) a.0 (no-sides view (suc i) ts a.1)

module _ {L : Type 0} (n : ℕ) (h : L → List ℕ) (none : (l : L) → own_number n (h l) ≡ []) where
  mutual
    seen-none : (t : Tree L) → seen n (relabelled h t) ≡ []
    seen-none (Token l s) = ap (with_number n) (marks-token (h l) s) ∙ none l
    seen-none (Node l f) =
        ap (with_number n) (marks-node (h l) (forest_relabelled h f)) ∙ number-append n (map (λ m. (m, [])) (h l)) (marked_from 0 (trees (forest_relabelled h f))) ∙ ap₂ (λ ps qs. ps ++ qs) (none l) (number-from n 0 (trees (forest_relabelled h f)) ∙ no-sides (seen n) 0 (trees (forest_relabelled h f)) (seen-none_each f))

    seen-none_each : (f : Forest L) → AllByRecursion (λ t. seen n t ≡ []) (trees (forest_relabelled h f))
    seen-none_each end = tt
    seen-none_each (more t f) = (seen-none t, seen-none_each f)

pub past-number : (n k : ℕ) (rs : List Address) (x : Address) → n + length rs ≤ k → filter (nat_eq k) (registered_from n rs x) ≡ []
past-number n k [] x l = refl
past-number n k (r ∷ rs) x l =
    in-turn n k r rs x ∙ ap₂ (λ ms ns. ms ++ ns) (other-number n k _ (λ e. absurd (omega (arith, e, l)))) (past-number (n + 1) k rs x (omega (arith, l)))

own-past : (rs : List Address) (x : Address) → own_number (length rs) (registered_at rs x) ≡ []
own-past rs x = all-of (length rs) [] (registered_at rs x) ∙ ap (map (λ (m : ℕ). [])) (past-number 0 (length rs) rs x (omega arith))

-- ---- the new tree
module _ (rs : List Address) (cs : List Change) (places : ℕ → Path) (index : List Registered) (root : Element) (table : IsTableOf rs index) where
  abbrev label_at : Path → ℕ → List ℕ
  label_at = wanted (sought_at index (address root))

  abbrev number : ℕ
  number = length rs

  -- what the pass is told of what changes give
  abbrev pub with_tops : ℕ → List MarkTree
  with_tops c = map (topped (length rs)) (marks_given rs cs places c)

  abbrev pub marks_told : List Marking
  marks_told = marked_from 0 (rewritten_whole (wanted (sought_at index (address root))) with_tops (independents cs) (subtree root))

  pub copies-told : (k : ℕ) → k < length rs → paths_within k marks_told ≡ paths_within k (marked_from 0 (map (with_marks rs) (new_tree cs places root)))
  copies-told k l =
      let other : k ≢ number = λ e. absurd (omega (arith, e, l)) in
      let given_alike : (c : ℕ) → map (seen k) (with_tops c) ≡ map (seen k) (marks_given rs cs places c) = λ c. map-map (seen k) (topped number) (marks_given rs cs places c) ∙ ap (λ f. map f (marks_given rs cs places c)) (fun_ext (λ t. seen-other number k t other)) in
      mark-paths k (rewritten_whole label_at with_tops (independents cs) (subtree root)) ∙ ap (λ pss. map (drop 1) (sides 0 pss)) (alike-whole (seen k) (seen k) label_at label_at (λ p j. own_number k (label_at p j)) (number-seen k label_at) (number-seen k label_at) with_tops (marks_given rs cs places) given_alike (independents cs) (subtree root)) ∙ sym (mark-paths k (rewritten_whole label_at (marks_given rs cs places) (independents cs) (subtree root))) ∙ ap (λ ts. paths_within k (marked_from 0 ts)) (tree-marked rs cs places index root table)

  -- no kept element has the mark of the tops
  kept-none : (p : Path) (j : ℕ) → own_number number (label_at p j) ≡ []
  kept-none p j =
      ap (own_number number) (table (address root) p) ∙ own-past rs (origin (address root) None p j).address

  kept-seen : IsSeen (seen number) label_at (λ p k. [])
  kept-seen = record {
    token = λ p k s. (number-seen number label_at).token p k s ∙ kept-none p k;
    node = λ p k f. (number-seen number label_at).node p k f ∙ ap (λ ps. ps ++ sides 0 (map (seen number) (trees f))) (kept-none p k);
  }

  one-path : {X : Type 0} (view : X → List Path) (xs : List X) → AllByRecursion (λ x. view x ≡ [] ∷ []) xs → map view xs ≡ map (λ x. [] ∷ []) xs
  one-path view [] a = refl
  one-path view (x ∷ xs) a = ap₂ (λ ps pss. ps ∷ pss) a.0 (one-path view xs a.1)

  -- of what a change gives the tops alone have it
  given-tops : (c : ℕ) → map (seen number) (with_tops c) ≡ map (topmost (λ b. b)) (brought.marked cs places c)
  given-tops c =
      let gs : List OriginTree = given cs places c in
      let each : (t : OriginTree) → seen number (topped number (with_marks rs t)) ≡ [] ∷ [] = λ t. seen-own number (with_marks rs t) (seen-none number (λ (o : Origin). registered_at rs o.address) (λ o. own-past rs o.address) t) in
      let left : map (seen number) (with_tops c) ≡ map (λ t. [] ∷ []) gs = map-map (seen number) (topped number) (map (with_marks rs) gs) ∙ map-map (λ t. seen number (topped number t)) (with_marks rs) gs ∙ ap (λ f. map f gs) (fun_ext each) in
      let right : map (topmost (λ b. b)) (brought.marked cs places c) ≡ map (λ t. [] ∷ []) gs = one-path (topmost (λ b. b)) (brought.marked cs places c) (recursion_from_All (λ g. topmost (λ b. b) g ≡ [] ∷ []) (brought.marked cs places c) (alone cs places c)) ∙ map-map (λ t. [] ∷ []) (relabelled (shown cs c)) gs in
      left ∙ sym right

  pub changed-told : (made : OriginTree) → new_tree cs places root ≡ made ∷ [] → paths_within (length rs) marks_told ≡ changed (is_free cs) made
  changed-told made is =
      mark-paths number (rewritten_whole label_at with_tops (independents cs) (subtree root)) ∙ ap (λ pss. map (drop 1) (sides 0 pss)) (alike-whole (seen number) (topmost (λ b. b)) label_at not_given (λ p k. []) kept-seen (topmost-seen (λ b. b) not_given (λ p k. refl)) with_tops (brought.marked cs places) given-tops (independents cs) (subtree root)) ∙ drop-sides (topmost (λ b. b)) 0 (rewritten_whole not_given (brought.marked cs places) (independents cs) (subtree root)) ∙ sym (changed-whole cs places root) ∙ ap (flat_map (changed (is_free cs))) is ∙ append-nil (changed (is_free cs) made)
