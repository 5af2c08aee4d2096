-- One change more: the rewritten tree is spliced at one node.
--     Inserted, Replaced             the edits of the second set are those of the first with one insert, or one replacement, more in the node
--     rewritten_by-inserted, rewritten_by-replaced      the node is spliced
--     room-inserted, room-replaced   what is spliced is there
--     step-inserted, step-replaced   the whole tree is updated there
use Rattle.std.specs.Prelude.{◌≡◌, ℕ, zero, suc, ◌+◌, ◌<◌, ◌≤◌, List, [], ◌∷◌, ◌++◌, length, Some, None, refl}
use Rattle.std.proofs.Common.{ap, ap₂, sym, ◌∙◌, get_or, arith}
use Rattle.std.proofs.lemmas.List.{append-nil, append_assoc, length-append}
use Rattle.std.proofs.lemmas.Option.{slice_get-get_or}
use Rattle.green_tree.specs.Path.{Path}
use Rattle.green_tree.specs.Tree.{Forest, Token, Node, end, more, SyntaxTree, forest, trees, at}
use Rattle.green_tree.proofs.Lookup.{trees-forest}
use Rattle.green_tree.specs.inner.Splices.{spliced_list, spliced, updated_at}
use Rattle.edit_change.proofs.Edits.{Edits, below, below_path, filled, rewritten_by, rewritten_by_from}
use Rattle.edit_steps.proofs.CurrentPaths.{splice_at, to_gap, to_slot, new_path, Keeps, before, after, after-more, length-after, cut, length-before, SameItem, same_item, before-same, from-same, Elsewhere, rewritten_by-update}

-- ---- one insert more, first in gap i of the node at the top
pub record Inserted (d e : Edits ℕ) (i : ℕ) (ts : List SyntaxTree) : Type 0 where
  pub label : d.label_at [] ≡ e.label_at []
  pub first : e.gap [] i ≡ ts ++ d.gap [] i
  pub gaps : (j : ℕ) → (j ≡ i → ⊥) → d.gap [] j ≡ e.gap [] j
  pub slots : d.slot [] ≡ e.slot []
  pub deeper : (j : ℕ) → below j d ≡ below j e

module _ (d e : Edits ℕ) (i : ℕ) (ts : List SyntaxTree) (h : Inserted d e i ts) where
  item-inserted : (j : ℕ) → (j ≡ i → ⊥) → SameItem d e j
  item-inserted j n = same_item d e j (h.gaps j n) (ap (λ o. o j) h.slots) (h.deeper j)

  from-inserted : (f : Forest ℕ) → rewritten_by_from e i f ≡ ts ++ rewritten_by_from d i f
  from-inserted end = h.first
  from-inserted (more t f) =
      let this = filled (d.slot [] i) (rewritten_by (below i d) t) in
      let rest = rewritten_by_from d (suc i) f in
      let same : filled (e.slot [] i) (rewritten_by (below i e) t) ≡ this = ap₂ (λ o c. filled o (rewritten_by c t)) (ap (λ o. o i) (sym h.slots)) (sym (h.deeper i)) in
      let same_rest : rewritten_by_from e (suc i) f ≡ rest = sym (from-same d e (suc i) (suc i) f (omega arith) (λ j l u. item-inserted j (λ x. absurd (omega arith))) (λ j l u. h.gaps j (λ x. absurd (omega arith)))) in
      ap₂ (λ x y. x ++ y) (ap₂ (λ x y. x ++ y) h.first same) same_rest ∙ simp append_assoc

  pub rewritten_by-inserted : (l : ℕ) (f : Forest ℕ) → i ≤ length (trees f) → rewritten_by e (Node l f) ≡ spliced (to_gap d i) 0 ts (rewritten_by d (Node l f))
  rewritten_by-inserted l f w =
      let front = before d 0 f i in
      let back = rewritten_by_from d i (after f i) in
      let new : rewritten_by_from e 0 f ≡ front ++ (ts ++ back) = cut e 0 f i i w (omega arith) ∙ ap₂ (λ x y. x ++ y) (sym (before-same d e 0 f i i (omega arith) (λ j b. item-inserted j (λ x. absurd (omega arith))))) (from-inserted (after f i)) in
      let old : trees (forest (rewritten_by_from d 0 f)) ≡ front ++ [] ++ back = trees-forest (rewritten_by_from d 0 f) ∙ cut d 0 f i i w (omega arith) ∙ ap (λ x. x ++ back) (sym (append-nil front)) in
      let list : spliced_list (to_gap d i) 0 ts (trees (forest (rewritten_by_from d 0 f))) ≡ front ++ ts ++ back = ap (λ xs. spliced_list (to_gap d i) 0 ts xs) old ∙ splice_at front [] back ts (to_gap d i) 0 (length-before d 0 f i w) refl in
      ap₂ (λ o xs. Node (o l) (forest xs)) (sym h.label) (new ∙ sym (append_assoc front ts back) ∙ sym list)

pub room-inserted : (d : Edits ℕ) (f : Forest ℕ) (i : ℕ) → i ≤ length (trees f) → to_gap d i ≤ length (trees (forest (rewritten_by_from d 0 f)))
room-inserted d f i w =
    let whole = ap length (trees-forest (rewritten_by_from d 0 f) ∙ cut d 0 f i i w (omega arith)) in
    let parts = length-append (before d 0 f i) (rewritten_by_from d i (after f i)) in
    omega (arith, length-before d 0 f i w)

-- ---- one replacement more, of the slots from i on, so many, of the node at the top, which has this count of children
pub record Replaced (d e : Edits ℕ) (count i m : ℕ) (ts : List SyntaxTree) : Type 0 where
  pub label : d.label_at [] ≡ e.label_at []
  pub gaps : d.gap [] ≡ e.gap []
  pub no_insert : (j : ℕ) → i < j → j ≤ i + m → d.gap [] j ≡ []
  pub kept : (j : ℕ) → i ≤ j → j ≤ i + m → d.slot [] j ≡ None
  pub first : e.slot [] i ≡ Some ts
  pub later : (j : ℕ) → i < j → j ≤ i + m → e.slot [] j ≡ Some []
  pub below_it : (j : ℕ) → j < i → d.slot [] j ≡ e.slot [] j
  pub above_it : (j : ℕ) → i + m < j → j < count → d.slot [] j ≡ e.slot [] j
  pub deeper : (j : ℕ) → below j d ≡ below j e

module _ (d e : Edits ℕ) (count i m : ℕ) (ts : List SyntaxTree) (h : Replaced d e count i m ts) where
  -- the kept children after the first of the range
  length-kept : (k : ℕ) (f : Forest ℕ) (n : ℕ) → i < k → k + n ≡ suc (i + m) → n ≤ length (trees f) → length (before d k f n) ≡ n
  length-kept k f zero l s w = refl
  length-kept k end (suc n) l s w = absurd (omega arith)
  length-kept k (more t f) (suc n) l s w =
      let none : d.gap [] k ++ filled (d.slot [] k) (rewritten_by (below k d) t) ≡ rewritten_by (below k d) t ∷ [] = ap₂ (λ g o. g ++ filled o (rewritten_by (below k d) t)) (h.no_insert k l (omega arith)) (h.kept k (omega arith) (omega arith)) in
      ap (λ xs. length (xs ++ before d (suc k) f n)) none ∙ ap suc (length-kept (suc k) f n (omega arith) (omega arith) (omega arith))

  -- nothing stands in their new_path
  none-kept : (k : ℕ) (f : Forest ℕ) (n : ℕ) → i < k → k + n ≡ suc (i + m) → before e k f n ≡ []
  none-kept k f zero l s = refl
  none-kept k end (suc n) l s = refl
  none-kept k (more t f) (suc n) l s =
      let none : e.gap [] k ++ filled (e.slot [] k) (rewritten_by (below k e) t) ≡ [] = ap₂ (λ g o. g ++ filled o (rewritten_by (below k e) t)) (ap (λ g. g k) (sym h.gaps) ∙ h.no_insert k l (omega arith)) (h.later k l (omega arith)) in
      ap₂ (λ x y. x ++ y) none (none-kept (suc k) f n (omega arith) (omega arith))

  -- the first of the range, and those after it
  abbrev first_kept : Forest ℕ → SyntaxTree
  first_kept f = get_or (trees f) i (Token 0 [])

  abbrev later_kept : Forest ℕ → List SyntaxTree
  later_kept f = before d (suc i) (after f (suc i)) m

  old-replaced : (f : Forest ℕ) → i + m < length (trees f) → trees (forest (rewritten_by_from d 0 f)) ≡ (before d 0 f i ++ d.gap [] i) ++ rewritten_by (below i d) (first_kept f) ∷ later_kept f ++ rewritten_by_from d (suc (i + m)) (after (after f (suc i)) m)
  old-replaced f w =
      let c = first_kept f in
      let g = after f (suc i) in
      let child : after f i ≡ more c g = after-more f i c (slice_get-get_or (trees f) i (Token 0 []) (omega arith)) in
      let room : m ≤ length (trees g) = omega (arith, length-after f (suc i) (omega arith)) in
      let x = rewritten_by (below i d) c in
      let sum : suc i + m ≡ suc (i + m) = omega arith in
      let at_i : rewritten_by_from d i (after f i) ≡ d.gap [] i ++ (x ∷ []) ++ (before d (suc i) g m ++ rewritten_by_from d (suc (i + m)) (after g m)) = ap (λ q. rewritten_by_from d i q) child ∙ ap₂ (λ o r. d.gap [] i ++ filled o x ++ r) (h.kept i (omega arith) (omega arith)) (cut d (suc i) g m (suc (i + m)) room sum) in
      trees-forest (rewritten_by_from d 0 f) ∙ cut d 0 f i i (omega arith) (omega arith) ∙ ap (λ y. before d 0 f i ++ y) at_i ∙ simp append_assoc

  length-front : (f : Forest ℕ) → i + m < length (trees f) → length (before d 0 f i ++ d.gap [] i) ≡ to_slot d i
  length-front f w = length-append (before d 0 f i) (d.gap [] i) ∙ ap (λ n. n + length (d.gap [] i)) (length-before d 0 f i (omega arith))

  length-later : (f : Forest ℕ) → i + m < length (trees f) → length (later_kept f) ≡ m
  length-later f w = length-kept (suc i) (after f (suc i)) m (omega arith) (omega arith) (omega (arith, length-after f (suc i) (omega arith)))

  -- the range is there
  pub room-replaced : (f : Forest ℕ) → i + m < length (trees f) → to_slot d i + suc m ≤ length (trees (forest (rewritten_by_from d 0 f)))
  room-replaced f w =
      let back = rewritten_by_from d (suc (i + m)) (after (after f (suc i)) m) in
      let front = before d 0 f i ++ d.gap [] i in
      let x = rewritten_by (below i d) (first_kept f) in
      let whole = ap length (old-replaced f w) in
      let one = length-append (front ++ x ∷ later_kept f) back in
      let two = length-append front (x ∷ later_kept f) in
      let three = ap length (append_assoc front (x ∷ later_kept f) back) in
      omega (arith, length-front f w, length-later f w)

  pub rewritten_by-replaced : (l : ℕ) (f : Forest ℕ) → length (trees f) ≡ count → i + m < count → rewritten_by e (Node l f) ≡ spliced (to_slot d i) (suc m) ts (rewritten_by d (Node l f))
  rewritten_by-replaced l f n w =
      let c = first_kept f in
      let g = after f (suc i) in
      let inside : i + m < length (trees f) = omega arith in
      let child : after f i ≡ more c g = after-more f i c (slice_get-get_or (trees f) i (Token 0 []) (omega arith)) in
      let room : m ≤ length (trees g) = omega (arith, length-after f (suc i) (omega arith)) in
      let front = before d 0 f i ++ d.gap [] i in
      let x = rewritten_by (below i d) c in
      let back = rewritten_by_from d (suc (i + m)) (after g m) in
      let sum : suc i + m ≡ suc (i + m) = omega arith in
      let same_before : before e 0 f i ≡ before d 0 f i = sym (before-same d e 0 f i i (omega arith) (λ j b. same_item d e j (ap (λ o. o j) h.gaps) (h.below_it j b) (h.deeper j))) in
      let same_back : rewritten_by_from e (suc (i + m)) (after g m) ≡ back = sym (from-same d e (suc (i + m)) (suc (i + m)) (after g m) (omega arith) (λ j b u. same_item d e j (ap (λ o. o j) h.gaps) (h.above_it j (omega arith) (omega (arith, length-after g m room, length-after f (suc i) (omega arith)))) (h.deeper j)) (λ j b u. ap (λ o. o j) h.gaps)) in
      let at_i_new : rewritten_by_from e i (after f i) ≡ d.gap [] i ++ ts ++ back = ap (λ q. rewritten_by_from e i q) child ∙ ap₂ (λ y r. y ++ r) (ap₂ (λ y o. y ++ filled o (rewritten_by (below i e) c)) (ap (λ o. o i) (sym h.gaps)) h.first) (cut e (suc i) g m (suc (i + m)) room sum ∙ ap₂ (λ y r. y ++ r) (none-kept (suc i) g m (omega arith) sum) same_back) in
      let new : rewritten_by_from e 0 f ≡ front ++ ts ++ back = cut e 0 f i i (omega arith) (omega arith) ∙ ap₂ (λ y r. y ++ r) same_before at_i_new ∙ simp append_assoc in
      let list : spliced_list (to_slot d i) (suc m) ts (trees (forest (rewritten_by_from d 0 f))) ≡ front ++ ts ++ back = ap (λ xs. spliced_list (to_slot d i) (suc m) ts xs) (old-replaced f inside) ∙ splice_at front (x ∷ later_kept f) back ts (to_slot d i) (suc m) (length-front f inside) (ap suc (length-later f inside)) in
      ap₂ (λ o xs. Node (o l) (forest xs)) (sym h.label) (new ∙ sym list)

-- ---- in the whole tree
pub step-inserted : (d e : Edits ℕ) (p : Path) (t : SyntaxTree) (l : ℕ) (f : Forest ℕ) (i : ℕ) (ts : List SyntaxTree) → at t p ≡ Some (Node l f) → i ≤ length (trees f) → Keeps d p → Elsewhere d e p → Inserted (below_path p d) (below_path p e) i ts → rewritten_by e t ≡ updated_at (rewritten_by d t) (new_path d p) (spliced (to_gap (below_path p d) i) 0 ts)
step-inserted d e p t l f i ts a w k s h =
    rewritten_by-update d e p t (Node l f) (spliced (to_gap (below_path p d) i) 0 ts) a k s (sym (rewritten_by-inserted (below_path p d) (below_path p e) i ts h l f w))

pub step-replaced : (d e : Edits ℕ) (p : Path) (t : SyntaxTree) (l : ℕ) (f : Forest ℕ) (count i m : ℕ) (ts : List SyntaxTree) → at t p ≡ Some (Node l f) → length (trees f) ≡ count → i + m < count → Keeps d p → Elsewhere d e p → Replaced (below_path p d) (below_path p e) count i m ts → rewritten_by e t ≡ updated_at (rewritten_by d t) (new_path d p) (spliced (to_slot (below_path p d) i) (suc m) ts)
step-replaced d e p t l f count i m ts a n w k s h =
    rewritten_by-update d e p t (Node l f) (spliced (to_slot (below_path p d) i) (suc m) ts) a k s (sym (rewritten_by-replaced (below_path p d) (below_path p e) count i m ts h l f n w))
