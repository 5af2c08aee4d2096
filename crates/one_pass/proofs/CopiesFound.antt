-- The copies of registered elements, from the marks of a tree.
--     tree-marked                   the new tree, labelled by marks
--     put, not_put                  one path more in the list of its number; none more in the others
--     paths_within, under           of marks in the trees that stand in a place, the paths of one mark in its tree; where there is one tree
--     copies-marked                 the paths of a mark are those of the copies of its element
--     all-copies                    so they are for each registered element
use Rattle.std.specs.Prelude.{◌≡◌, ◌≢◌, ℕ, zero, suc, ◌+◌, ◌<◌, Bool, true, false, cond, nat_eq, List, [], ◌∷◌, ◌++◌, map, filter, flat_map, drop, length, slice_get, get_or, Option, Some, None, option_map, Vec, refl}
use Rattle.std.specs.Global.{Global}
use Rattle.std.specs.List.{enumerate_from}
use Rattle.std.specs.Option.{option_map_or}
use Rattle.std.proofs.Common.{ap, ap₂, sym, ◌∙◌, arith}
use Rattle.std.proofs.lemmas.Bool.{cases_eq, eq-eqb, ne_eqb}
use Rattle.std.proofs.lemmas.List.{append-nil, map-append}
use Rattle.std.proofs.lemmas.List.Elements.{filter-append}
use Rattle.std.proofs.lemmas.Option.{slice_get-get_or, slice_get-map, slice_get_past, none-some, same_Some}
use mathlib.Core.Logic.{inl, inr}
use mathlib.Core.Path.{fun_ext}
use Rattle.cst_core.specs.Path.{Path}
use Rattle.cst_core.specs.Tree.{label, at, paths, relabelled}
use Rattle.cst_core.specs.Element.{Address, Element, address, same_address, subtree}
use Rattle.cst_core.specs.SyntaxElement.{element_of}
use Rattle.cst_core.specs.declared.element.SyntaxElement.{SyntaxElement}
use Rattle.edit_change.specs.Rewriting.{rewritten_whole}
use Rattle.edit_change.specs.Topmost.{holds_at, paths_of}
use Rattle.one_pass.specs.inner.Marked.{Marking, marks_on, marked, marked_from, mark_below, wanted}
use Rattle.edit_change.specs.Results.{copies_of}
use Rattle.edit_change.specs.NewTree.{OriginTree, origin, given, independents, new_tree}
use Rattle.one_pass.specs.inner.Sought.{sought_at, registered_at, addresses, IsTableOf}
use Rattle.one_pass.specs.inner.Marks.{with_marks, marks_given, paths_of_mark}
use Rattle.edit_change.specs.inner.PathLists.{path_lists}
use Rattle.edit_change.specs.declared.change.Change.{Change}
use Rattle.one_pass.specs.declared.sought.Registered.{Registered}
use Rattle.edit_change.proofs.Relabelled.{map-rewritten_whole, paths-relabelled, at-relabelled, label-relabelled}

-- ---- the new tree
pub tree-marked : (rs : List Address) (cs : List Change) (places : ℕ → Path) (index : List Registered) (root : Element) → IsTableOf rs index → rewritten_whole (wanted (sought_at index (address root))) (marks_given rs cs places) (independents cs) (subtree root) ≡ map (with_marks rs) (new_tree cs places root)
tree-marked rs cs places index root sought =
    let labels : wanted (sought_at index (address root)) ≡ (λ q k. registered_at rs (origin (address root) None q k).address) = fun_ext (λ q. fun_ext (λ k. sought (address root) q)) in
    ap (λ l. rewritten_whole l (marks_given rs cs places) (independents cs) (subtree root)) labels ∙ sym (map-rewritten_whole (λ o. registered_at rs o.address) (origin (address root) None) (given cs places) (independents cs) (subtree root))

-- ---- one path more
pub put : (old new : ℕ → List (Vec ℕ Global)) (v : Vec ℕ Global) (k n : ℕ) → new n ≡ old n ++ v ∷ [] → (k ≢ n → new k ≡ old k) → paths_of (new k) ≡ paths_of (old k) ++ paths_of_mark k ((n, v.items) ∷ [])
put old new v k n here elsewhere =
    elim (cases_eq k n) [
      | inl same ↦ ap (λ i. paths_of (new i)) same ∙ ap paths_of here ∙ map-append (λ w. w.items) (old n) (v ∷ []) ∙ ap (λ i. paths_of (old i) ++ v.items ∷ []) (sym same) ∙ ap (λ b. paths_of (old k) ++ map (λ (m : Marking). m.1) (cond b ((n, v.items) ∷ []) [])) (sym (eq-eqb k n same))
      | inr differs ↦ ap paths_of (elsewhere differs) ∙ sym (append-nil (paths_of (old k))) ∙ ap (λ b. paths_of (old k) ++ map (λ (m : Marking). m.1) (cond b ((n, v.items) ∷ []) [])) (sym (ne_eqb k n differs))
    ]

-- none more in the list of another number
pub not_put : (ps : List Path) (k n : ℕ) (p : Path) → k ≢ n → ps ≡ ps ++ paths_of_mark k ((n, p) ∷ [])
not_put ps k n p differs = sym (append-nil ps) ∙ ap (λ b. ps ++ map (λ (m : Marking). m.1) (cond b ((n, p) ∷ []) [])) (sym (ne_eqb k n differs))

-- ---- of marks in the trees that stand in a place, the paths of one mark in its tree
abbrev pub paths_within : ℕ → List Marking → List Path
paths_within k ms = map (λ m. drop 1 m.1) (filter (λ m. nat_eq k m.0) ms)

pub under : (k : ℕ) (ms : List Marking) → paths_within k (map (mark_below (0 ∷ [])) ms) ≡ paths_of_mark k ms
under k [] = refl
under k (m ∷ ms) =
    elim (nat_eq k m.0) as (λ b. map (λ (n : Marking). drop 1 n.1) (cond b (mark_below (0 ∷ []) m ∷ filter (λ (n : Marking). nat_eq k n.0) (map (mark_below (0 ∷ [])) ms)) (filter (λ (n : Marking). nat_eq k n.0) (map (mark_below (0 ∷ [])) ms))) ≡ map (λ (n : Marking). n.1) (cond b (m ∷ filter (λ (n : Marking). nat_eq k n.0) ms) (filter (λ (n : Marking). nat_eq k n.0) ms))) [
      | true ↦ ap (λ ps. m.1 ∷ ps) (under k ms)
      | false ↦ under k ms
    ]

-- ---- the numbers of the registered elements at an address, numbered from here on
abbrev pub registered_from : ℕ → List Address → Address → List ℕ
registered_from n rs a = map (λ (r : ℕ × Address). r.0) (filter (λ (r : ℕ × Address). same_address r.1 a) (enumerate_from n rs))

-- of a number in front of the list, and of any other one
own-number : (n k : ℕ) (b : Bool) → n ≡ k → filter (nat_eq k) (cond b (n ∷ []) []) ≡ cond b (k ∷ []) []
own-number n k true e = ap (λ c. cond c (n ∷ []) []) (eq-eqb k n (sym e)) ∙ ap (λ m. m ∷ []) e
own-number n k false e = refl

pub other-number : (n k : ℕ) (b : Bool) → k ≢ n → filter (nat_eq k) (cond b (n ∷ []) []) ≡ []
other-number n k true differs = ap (λ c. cond c (n ∷ []) []) (ne_eqb k n differs)
other-number n k false differs = refl

pub in-turn : (n k : ℕ) (r : Address) (rs : List Address) (x : Address) → filter (nat_eq k) (registered_from n (r ∷ rs) x) ≡ filter (nat_eq k) (cond (same_address r x) (n ∷ []) []) ++ filter (nat_eq k) (registered_from (n + 1) rs x)
in-turn n k r rs x =
    go (same_address r x) ∙ filter-append (nat_eq k) (cond (same_address r x) (n ∷ []) []) (registered_from (n + 1) rs x)
  where
    go : (b : Bool) → filter (nat_eq k) (map (λ (e : ℕ × Address). e.0) (cond b ((n, r) ∷ filter (λ (e : ℕ × Address). same_address e.1 x) (enumerate_from (n + 1) rs)) (filter (λ (e : ℕ × Address). same_address e.1 x) (enumerate_from (n + 1) rs)))) ≡ filter (nat_eq k) (cond b (n ∷ []) [] ++ registered_from (n + 1) rs x)
    go true = refl
    go false = refl

less-number : (n k : ℕ) (rs : List Address) (x : Address) → k < n → filter (nat_eq k) (registered_from n rs x) ≡ []
less-number n k [] x l = refl
less-number n k (r ∷ rs) x l = in-turn n k r rs x ∙ ap₂ (λ ms ns. ms ++ ns) (other-number n k (same_address r x) (λ e. absurd (omega (arith, e, l)))) (less-number (n + 1) k rs x (omega (arith, l)))

numbered : (n i k : ℕ) (rs : List Address) (x a : Address) → slice_get rs i ≡ Some a → k ≡ n + i → filter (nat_eq k) (registered_from n rs x) ≡ cond (same_address a x) (k ∷ []) []
numbered n i k [] x a there e = absurd (none-some a (sym (slice_get_past [] i (omega arith)) ∙ there))
numbered n zero k (r ∷ rs) x a there e =
    in-turn n k r rs x ∙ ap₂ (λ ms ns. ms ++ ns) (own-number n k (same_address r x) (omega (arith, e))) (less-number (n + 1) k rs x (omega (arith, e))) ∙ append-nil (cond (same_address r x) (k ∷ []) []) ∙ ap (λ b. cond (same_address b x) (k ∷ []) []) (same_Some r a there)
numbered n (suc i) k (r ∷ rs) x a there e =
    in-turn n k r rs x ∙ ap₂ (λ ms ns. ms ++ ns) (other-number n k (same_address r x) (λ same. absurd (omega (arith, e, same)))) (numbered (n + 1) i k rs x a there (omega (arith, e)))

-- ---- the paths of a mark
pub all-of : (k : ℕ) (p : Path) (ns : List ℕ) → map (λ (m : Marking). m.1) (filter (λ (m : Marking). nat_eq k m.0) (map (λ n. (n, p)) ns)) ≡ map (λ n. p) (filter (nat_eq k) ns)
all-of k p [] = refl
all-of k p (n ∷ ns) =
    elim (nat_eq k n) as (λ b. map (λ (m : Marking). m.1) (cond b ((n, p) ∷ filter (λ (m : Marking). nat_eq k m.0) (map (λ j. (j, p)) ns)) (filter (λ (m : Marking). nat_eq k m.0) (map (λ j. (j, p)) ns))) ≡ map (λ (j : ℕ). p) (cond b (n ∷ filter (nat_eq k) ns) (filter (nat_eq k) ns))) [
      | true ↦ ap (λ ps. p ∷ ps) (all-of k p ns)
      | false ↦ all-of k p ns
    ]

module _ (rs : List Address) (k : ℕ) (a : Address) (there : slice_get rs k ≡ Some a) (t : OriginTree) where
  here : (p : Path) → map (λ (m : Marking). m.1) (filter (λ (m : Marking). nat_eq k m.0) (map (λ n. (n, p)) (marks_on (with_marks rs t) p))) ≡ cond (holds_at (λ o. same_address a o.address) t p) (p ∷ []) []
  here p =
      all-of k p (marks_on (with_marks rs t) p) ∙ ap (λ o. map (λ (n : ℕ). p) (filter (nat_eq k) (option_map_or label o []))) (at-relabelled (λ o. registered_at rs o.address) t p) ∙ elim (at t p) as (λ (o : Option OriginTree). map (λ (n : ℕ). p) (filter (nat_eq k) (option_map_or label (option_map (relabelled (λ o. registered_at rs o.address)) o) [])) ≡ cond (option_map_or (λ (e : OriginTree). same_address a (label e).address) o false) (p ∷ []) []) [
        | None ↦ refl
        | Some e ↦
            ap (λ ns. map (λ (n : ℕ). p) (filter (nat_eq k) ns)) (label-relabelled (λ o. registered_at rs o.address) e) ∙ ap (map (λ (n : ℕ). p)) (numbered 0 k k rs (label e).address a there (omega arith)) ∙ elim (same_address a (label e).address) as (λ b. map (λ (n : ℕ). p) (cond b (k ∷ []) []) ≡ cond b (p ∷ []) []) [ true ↦ refl | false ↦ refl ]
      ]

  along : (ps : List Path) → map (λ (m : Marking). m.1) (filter (λ (m : Marking). nat_eq k m.0) (flat_map (λ p. map (λ n. (n, p)) (marks_on (with_marks rs t) p)) ps)) ≡ filter (holds_at (λ o. same_address a o.address) t) ps
  along [] = refl
  along (p ∷ ps) =
      let own : List Marking = map (λ n. (n, p)) (marks_on (with_marks rs t) p) in
      let rest : List Marking = flat_map (λ q. map (λ n. (n, q)) (marks_on (with_marks rs t) q)) ps in
      ap (map (λ (m : Marking). m.1)) (filter-append (λ (m : Marking). nat_eq k m.0) own rest) ∙ map-append (λ m. m.1) (filter (λ (m : Marking). nat_eq k m.0) own) (filter (λ (m : Marking). nat_eq k m.0) rest) ∙ ap₂ (λ xs ys. xs ++ ys) (here p) (along ps) ∙ elim (holds_at (λ o. same_address a o.address) t p) as (λ b. cond b (p ∷ []) [] ++ filter (holds_at (λ o. same_address a o.address) t) ps ≡ cond b (p ∷ filter (holds_at (λ o. same_address a o.address) t) ps) (filter (holds_at (λ o. same_address a o.address) t) ps)) [ true ↦ refl | false ↦ refl ]

  pub copies-marked : paths_within k (marked_from 0 (with_marks rs t ∷ [])) ≡ copies_of t a
  copies-marked =
      ap (paths_within k) (append-nil (map (mark_below (0 ∷ [])) (marked (with_marks rs t)))) ∙ under k (marked (with_marks rs t)) ∙ ap (λ ps. map (λ (m : Marking). m.1) (filter (λ (m : Marking). nat_eq k m.0) (flat_map (λ p. map (λ n. (n, p)) (marks_on (with_marks rs t) p)) ps))) (paths-relabelled (λ o. registered_at rs o.address) t) ∙ along (paths t)

-- ---- all registered elements
same-items : {X Y Z : Type 0} (f : X → Z) (g : Y → Z) (xs : List X) (ys : List Y) → length xs ≡ length ys → ((k : ℕ) (d : X) (e : Y) → k < length xs → f (get_or xs k d) ≡ g (get_or ys k e)) → map f xs ≡ map g ys
same-items f g [] [] l h = refl
same-items f g [] (y ∷ ys) l h = absurd (omega arith)
same-items f g (x ∷ xs) [] l h = absurd (omega arith)
same-items f g (x ∷ xs) (y ∷ ys) l h =
    ap₂ (λ z zs. z ∷ zs) (h 0 x y (omega arith)) (same-items f g xs ys (omega arith) (λ k d e m. h (suc k) d e (omega (arith, m))))

pub all-copies : (es : List SyntaxElement) (lists : List (Vec (Vec ℕ Global) Global)) (ms : List Marking) (made : OriginTree) → length lists ≡ length es → ((k : ℕ) (d : Vec (Vec ℕ Global) Global) → k < length es → paths_of (get_or lists k d).items ≡ paths_within k ms) → ms ≡ marked_from 0 (with_marks (addresses es) made ∷ []) → path_lists lists ≡ map (λ e. copies_of made (address (element_of e))) es
all-copies es lists ms made long dealt is =
    same-items (λ l. paths_of l.items) (λ e. copies_of made (address (element_of e))) lists es long (λ k d e l.
    let inside : k < length es = omega (arith, l, long) in
    let there : slice_get (addresses es) k ≡ Some (address (element_of (get_or es k e))) = slice_get-map (λ x. address (element_of x)) es k ∙ ap (option_map (λ x. address (element_of x))) (slice_get-get_or es k e inside) in
    dealt k d inside ∙ ap (paths_within k) is ∙ copies-marked (addresses es) k (address (element_of (get_or es k e))) there made)
