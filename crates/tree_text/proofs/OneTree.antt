-- A text is an expression of one tree.
--     past-text           behind a quoted text
--     past-tree           behind what is written for a tree, as behind what is written for any
--     same-tree           a tree with an expression with which another tree's begins
--     one-tree            two trees with the same expression
use Rattle.tree_text.specs.KindNames.{AreNames}
use Rattle.std.proofs.Common.{◌≡◌, ℕ, Bool, true, not, List, [], ◌∷◌, ◌++◌, Option, Some, refl, sym, ap, ◌∙◌, append_assoc, append-nil, subst, inl, inr}
use Rattle.std.specs.Prelude.{codes}
use Rattle.std.specs.List.{list_all}
use Rattle.std.proofs.lemmas.Bool.{and_parts}
use Rattle.green_tree.proofs.Lookup.{forest-trees}
use Rattle.cst_core.specs.Tree.{SyntaxTree, Token, Node, Forest, end, more, node, trees}
use Rattle.tree_text.specs.Grammar.{IsGap, IsQuoted, IsTreeText, AreElements, IsExpression}
use Rattle.tree_text.specs.inner.Completing.{Then, IsElement, IsRestOfNode, IsRestOfToken, IsAfter}
use Rattle.tree_text.proofs.Joining.{drop-exactly}
use Rattle.tree_text.proofs.Beginnings.{AreGaps, both, tree-begins}
use Rattle.tree_text.proofs.OpenTrees.{past-gap, past-close, past-element}
use Rattle.tree_text.proofs.NamedTrees.{past-node, past-token, apart-begins}
use Rattle.tree_text.proofs.QuotedTexts.{is_special, written-as, past-plain, past-quote, past-escape}
use Rattle.tree_text.proofs.WholeTrees.{from-expression, no-gap, no-close}

module _ (Rest : Then) (k : ℕ) where
  pub past-text : (s p a w : List ℕ) → IsQuoted s a → IsRestOfToken Rest k p (a ++ 34 ∷ w) → Rest (Token k (p ++ s)) w
  past-text [] p a w h rest = subst (λ l. Rest (Token k l) w) (sym (append-nil p)) (past-quote Rest k p w (subst (λ x. IsRestOfToken Rest k p (x ++ 34 ∷ w)) h rest))
  past-text (b ∷ s) p a w h rest =
      let behind = h.second ++ 34 ∷ w in
      let split : a ++ 34 ∷ w ≡ h.first ++ behind = ap (λ x. x ++ 34 ∷ w) h.joined ∙ append_assoc h.first h.second (34 ∷ w) in
      let next : IsRestOfToken Rest k (p ++ b ∷ []) behind = elim (written-as b h.first h.is_first) [
        | inl itself ↦ past-plain Rest k p (b ∷ []) behind (both (not (is_special b)) true (ap not itself.1) refl) (subst (IsRestOfToken Rest k p) (split ∙ ap (λ x. x ++ behind) itself.0) rest)
        | inr escape ↦
            let past = past-escape Rest k p escape.0 behind (subst (IsRestOfToken Rest k p) (split ∙ ap (λ x. x ++ behind) escape.1) rest) in
            let same : past.0 ≡ b = let both' : Some past.0 ≡ Some b = sym past.1 ∙ escape.2 in cc in
            subst (λ x. IsRestOfToken Rest k (p ++ x ∷ []) behind) same past.2
      ] in
      subst (λ l. Rest (Token k l) w) (append_assoc p (b ∷ []) s) (past-text s (p ++ b ∷ []) h.second w h.is_second next)

module _ (names : ℕ → Option (List ℕ)) (gaps : ℕ → Bool) (known : AreNames names) (apart : AreGaps gaps) where
  past-gaps : (Rest : Then) (k : ℕ) (ts : List SyntaxTree) (g w : List ℕ) → IsGap gaps g → IsRestOfNode names gaps Rest k ts (g ++ w) → IsRestOfNode names gaps Rest k ts w
  past-gaps Rest k ts [] w gap h = h
  past-gaps Rest k ts (c ∷ g) w gap h =
      let p = and_parts (gaps c) (list_all gaps g) gap in
      past-gaps Rest k ts g w p.1 (past-gap names gaps known apart Rest k ts c (g ++ w) p.0 h)

  at-tree : (Rest : Then) (k : ℕ) (ts : List SyntaxTree) (t : SyntaxTree) (a w : List ℕ) → IsTreeText names gaps t a → IsRestOfNode names gaps Rest k ts (a ++ w) → IsElement names gaps (λ u. IsRestOfNode names gaps Rest k (ts ++ u ∷ [])) (a ++ w)
  at-tree Rest k ts t a w text h =
      let b = tree-begins names gaps known t a text in
      let Element : List ℕ → Type 0 = IsElement names gaps (λ u. IsRestOfNode names gaps Rest k (ts ++ u ∷ [])) in
      subst (λ x. Element (x ++ w)) (sym b.2) (past-element names gaps known apart Rest k ts b.0 (b.1 ++ w) (no-gap names gaps known apart b.0 b.3) (no-close names gaps known apart b.0 b.3) (subst (λ x. IsRestOfNode names gaps Rest k ts (x ++ w)) b.2 h))

  mutual
    pub past-tree : (t : SyntaxTree) (Rest : Then) (a w : List ℕ) → IsTreeText names gaps t a → IsElement names gaps Rest (a ++ w) → Rest t w
    past-tree (Token k s) Rest a w text h =
        let q = text.is_second in
        let e = q.is_second in
        let quoted : List ℕ = e.first ++ 34 ∷ w in
        let ends : e.second ≡ 34 ∷ [] = e.is_second in
        let tail : (q.first ++ q.second) ++ w ≡ 34 ∷ quoted =
        ap (λ x. (x ++ q.second) ++ w) q.is_first ∙ ap (λ x. 34 ∷ (x ++ w)) (e.joined ∙ ap (λ x. e.first ++ x) ends) ∙ ap (λ x. 34 ∷ x) (append_assoc e.first (34 ∷ []) w) in
        let split : a ++ w ≡ text.first ++ 34 ∷ quoted = ap (λ x. x ++ w) (text.joined ∙ ap (λ x. text.first ++ x) q.joined) ∙ append_assoc text.first (q.first ++ q.second) w ∙ ap (λ x. text.first ++ x) tail in
        let token = past-token names gaps known Rest text.first (34 ∷ quoted) (known.spelled k text.first text.is_first) refl (subst (IsElement names gaps Rest) split h) in
        let rest = subst (λ j. IsRestOfToken Rest j [] quoted) (known.unique token.0 k text.first token.1 text.is_first) (drop-exactly (codes "\"") quoted token.2) in
        past-text Rest k s [] e.first w e.is_first rest
    past-tree (Node k f) Rest a w text h =
        let n = text.is_second in
        let i = n.is_second in
        let inside : List ℕ = i.first ++ 41 ∷ w in
        let ends : i.second ≡ 41 ∷ [] = i.is_second in
        let tail : (i.first ++ i.second) ++ w ≡ inside = ap (λ x. (i.first ++ x) ++ w) ends ∙ append_assoc i.first (41 ∷ []) w in
        let split : a ++ w ≡ 40 ∷ (n.first ++ inside) =
        ap (λ x. x ++ w) (text.joined ∙ ap (λ x. x ++ text.second) text.is_first) ∙ ap (λ x. 40 ∷ (x ++ w)) (n.joined ∙ ap (λ x. n.first ++ x) i.joined) ∙ ap (λ x. 40 ∷ x) (append_assoc n.first (i.first ++ i.second) w ∙ ap (λ x. n.first ++ x) tail) in
        let opened = past-node names gaps known Rest n.first inside (and_parts _ _ (known.spelled k n.first n.is_first)).1 (apart-begins i.first w i.is_first.0) (subst (IsElement names gaps Rest) split h) in
        let rest = subst (λ j. IsRestOfNode names gaps Rest j [] inside) (known.unique opened.0 k n.first opened.1 n.is_first) opened.2 in
        subst (λ g. Rest (Node k g) w) (forest-trees f) (past-elements f Rest k [] i.first w i.is_first.1 rest)

    past-elements : (f : Forest ℕ) (Rest : Then) (k : ℕ) (ts : List SyntaxTree) (a w : List ℕ) → AreElements names gaps f a → IsRestOfNode names gaps Rest k ts (a ++ 41 ∷ w) → Rest (node k (ts ++ trees f)) w
    past-elements end Rest k ts a w gap h =
        subst (λ l. Rest (node k l) w) (sym (append-nil ts)) (past-close names gaps known apart Rest k ts w (past-gaps Rest k ts a (41 ∷ w) gap h))
    past-elements (more t f) Rest k ts a w elements h =
        let e = elements.is_second in
        let after : List ℕ = e.second ++ 41 ∷ w in
        let split : a ++ 41 ∷ w ≡ elements.first ++ (e.first ++ after) =
        ap (λ x. x ++ 41 ∷ w) (elements.joined ∙ ap (λ x. elements.first ++ x) e.joined) ∙ append_assoc elements.first (e.first ++ e.second) (41 ∷ w) ∙ ap (λ x. elements.first ++ x) (append_assoc e.first e.second (41 ∷ w)) in
        let gone = past-gaps Rest k ts elements.first (e.first ++ after) elements.is_first (subst (IsRestOfNode names gaps Rest k ts) split h) in
        let one = past-tree t (λ u. IsRestOfNode names gaps Rest k (ts ++ u ∷ [])) e.first after e.is_first (at-tree Rest k ts t e.first after e.is_first gone) in
        subst (λ l. Rest (node k l) w) (append_assoc ts (t ∷ []) (trees f)) (past-elements f Rest k (ts ++ t ∷ []) e.second w e.is_second one)

  pub same-tree : (t u : SyntaxTree) (w x : List ℕ) → IsExpression names gaps t w → IsExpression names gaps u (w ++ x) → t ≡ u
  same-tree t u w x it other = (past-tree t (IsAfter names gaps [] u) w x it.1 (from-expression names gaps u (w ++ x) other)).1

  pub one-tree : (t u : SyntaxTree) (w : List ℕ) → IsExpression names gaps t w → IsExpression names gaps u w → t ≡ u
  one-tree t u w it other =
      let h = subst (IsElement names gaps (IsAfter names gaps [] u)) (sym (append-nil w)) (from-expression names gaps u w other) in
      (past-tree t (IsAfter names gaps [] u) w [] it.1 h).1
