-- Edits that differ only where nothing is make the same tree.
--     AgreeTo, AgreeThere            they agree in the gaps and slots of a node with so many children; of the node that is there, if one is
--     rewritten_by-agree                   they make the same tree
use Rattle.std.specs.Prelude.{◌≡◌, ℕ, zero, suc, ◌+◌, ◌<◌, ◌≤◌, [], ◌∷◌, ◌++◌, length, slice_get, Option, Some, None, option_and_then, refl}
use Rattle.std.proofs.Common.{ap, ap₂, sym, subst, arith}
use Rattle.green_tree.specs.Path.{Path}
use Rattle.green_tree.specs.Tree.{Forest, Token, Node, end, more, SyntaxTree, forest, trees, at}
use Rattle.edit_change.proofs.Edits.{Edits, below, below_path, filled, rewritten_by, rewritten_by_from}
use Rattle.edit_steps.proofs.CurrentPaths.{same_item, from-same, Elsewhere, Beside, beside, elsewhere_below}

pub record AgreeTo (d e : Edits ℕ) (count : ℕ) : Type 0 where
  pub gaps : (j : ℕ) → j ≤ count → d.gap [] j ≡ e.gap [] j
  pub slots : (j : ℕ) → j < count → d.slot [] j ≡ e.slot [] j

abbrev pub AgreeThere : Edits ℕ → Edits ℕ → Option SyntaxTree → Type 0
AgreeThere d e None = Unit {0}
AgreeThere d e (Some (Token k s)) = Unit {0}
AgreeThere d e (Some (Node k f)) = AgreeTo d e (length (trees f))

-- the children, where all but one are made alike, and that one too if it is there
module _ (d e : Edits ℕ) (i : ℕ) (b : Beside d e i) where
  children-agree : (k n : ℕ) (f : Forest ℕ) → k + n ≡ i → ((c : SyntaxTree) → slice_get (trees f) n ≡ Some c → rewritten_by (below i d) c ≡ rewritten_by (below i e) c) → rewritten_by_from d k f ≡ rewritten_by_from e k f
  children-agree k n end s h = ap (λ g. g k) b.gap
  children-agree k zero (more t f) s h =
      let here : k ≡ i = omega arith in
      let child : rewritten_by (below k d) t ≡ rewritten_by (below k e) t = subst (λ j. rewritten_by (below j d) t ≡ rewritten_by (below j e) t) (sym here) (h t refl) in
      let rest : rewritten_by_from d (suc k) f ≡ rewritten_by_from e (suc k) f = from-same d e (suc k) (suc k) f (omega arith) (λ j l u. same_item d e j (ap (λ g. g j) b.gap) (ap (λ o. o j) b.slot) (b.others j (λ x. absurd (omega arith)))) (λ j l u. ap (λ g. g j) b.gap) in
      ap₂ (λ x y. x ++ y) (ap₂ (λ x y. x ++ y) (ap (λ g. g k) b.gap) (ap₂ filled (ap (λ o. o k) b.slot) child)) rest
  children-agree k (suc n) (more t f) s h =
      ap₂ (λ x y. x ++ y) (same_item d e k (ap (λ g. g k) b.gap) (ap (λ o. o k) b.slot) (b.others k (λ x. absurd (omega arith))) t) (children-agree (suc k) n f (omega arith) h)

pub rewritten_by-agree : (d e : Edits ℕ) (p : Path) (t : SyntaxTree) → Elsewhere d e p → AgreeThere (below_path p d) (below_path p e) (at t p) → rewritten_by d t ≡ rewritten_by e t
rewritten_by-agree d e [] (Token k s) h a = ap (λ l. Token (l [] k) s) h.labels
rewritten_by-agree d e [] (Node k f) h a =
    let deeper : (j : ℕ) → below j d ≡ below j e = λ j. (λ x. record { label_at = λ q. h.labels x (j ∷ q); gap = λ q. h.gaps (j ∷ q) (λ y. cc) x; slot = λ q. h.slots (j ∷ q) (λ y. cc) x }) in
    ap₂ (λ l xs. Node (l [] k) (forest xs)) h.labels (from-same d e 0 0 f (omega arith) (λ j l u. same_item d e j (a.gaps j (omega arith)) (a.slots j (omega arith)) (deeper j)) (λ j l u. a.gaps j (omega arith)))
rewritten_by-agree d e (i ∷ p) (Token k s) h a = ap (λ l. Token (l [] k) s) h.labels
rewritten_by-agree d e (i ∷ p) (Node k f) h a =
    let one : (c : SyntaxTree) → slice_get (trees f) i ≡ Some c → rewritten_by (below i d) c ≡ rewritten_by (below i e) c = λ c is. rewritten_by-agree (below i d) (below i e) p c (elsewhere_below d e i p h) (subst (λ o. AgreeThere (below_path (i ∷ p) d) (below_path (i ∷ p) e) (option_and_then (λ x. at x p) o)) is a) in
    ap₂ (λ l xs. Node (l [] k) (forest xs)) h.labels (children-agree d e i (beside d e i p h) 0 i f (omega arith) one)
