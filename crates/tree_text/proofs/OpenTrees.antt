-- How what is left of an expression goes on, byte by byte, outside names and quoted texts.
--     elements-gap                        elements with one byte more in their first gap
--     in-gap, past-gap                    a byte of a gap, before elements
--     at-close, past-close                the parenthesis that closes a node
--     first-element, at-element           the next element, and then the others
--     element-begins                      what may begin there
use Rattle.tree_text.specs.KindNames.{AreNames}
use Rattle.std.proofs.Common.{◌≡◌, ◌≢◌, ◌⊎◌, ℕ, Bool, true, false, List, [], ◌∷◌, ◌++◌, Option, refl, sym, ap, ◌∙◌, append_assoc, append-nil, subst, inl, inr}
use Rattle.std.specs.Prelude.{codes}
use Rattle.std.proofs.lemmas.Bool.{false≢true}
use Rattle.cst_core.specs.Tree.{SyntaxTree, Forest, end, more, node, forest}
use Rattle.tree_text.specs.Grammar.{◌⨾◌, IsExactly, IsGap, IsTreeText, AreElements}
use Rattle.tree_text.specs.inner.Completing.{Then, IsElement, IsRestOfNode}
use Rattle.tree_text.proofs.Joining.{then, regroup-right, regroup-left, widen, drop-exactly}
use Rattle.tree_text.proofs.Beginnings.{AreGaps, begins_tree, tree-begins, gap-or-after, gap-more, both}

exactly-first : {Q : List ℕ → Type 0} (s w : List ℕ) (c d : ℕ) → (IsExactly (d ∷ s) ⨾ Q) (c ∷ w) → c ≡ d
exactly-first s w c d h = let is : c ∷ w ≡ d ∷ (s ++ h.second) = h.joined ∙ ap (λ x. x ++ h.second) h.is_first in cc

module _ (names : ℕ → Option (List ℕ)) (gaps : ℕ → Bool) (named : AreNames names) (apart : AreGaps gaps) where
  -- a byte that begins no tree is the first of none
  no-tree : {Q : List ℕ → Type 0} (u : SyntaxTree) (c : ℕ) (w : List ℕ) → begins_tree c ≡ false → (IsTreeText names gaps u ⨾ Q) (c ∷ w) → ⊥
  no-tree u c w none h =
      let b = tree-begins names gaps named u h.first h.is_first in
      let is : c ∷ w ≡ b.0 ∷ (b.1 ++ h.second) = h.joined ∙ ap (λ x. x ++ h.second) b.2 in
      let same : c ≡ b.0 = cc in
      false≢true (sym none ∙ ap begins_tree same ∙ b.3)

  pub elements-gap : (f : Forest ℕ) (c : ℕ) (w : List ℕ) → gaps c ≡ true → AreElements names gaps f w → AreElements names gaps f (c ∷ w)
  elements-gap end c w is h = both (gaps c) _ is h
  elements-gap (more t f) c w is h = gap-more gaps c w is h

  module _ (Rest : Then) (k : ℕ) (ts : List SyntaxTree) where
    pub before-gap : (c : ℕ) (w : List ℕ) → gaps c ≡ true → IsRestOfNode names gaps Rest k ts w → IsRestOfNode names gaps Rest k ts (c ∷ w)
    before-gap c w is h = (h.0, let j = h.1 in record { first = c ∷ j.first; second = j.second; joined = ap (λ x. c ∷ x) j.joined; is_first = elements-gap (forest h.0) c j.first is j.is_first; is_second = j.is_second })

    -- a node's elements, where a byte comes first: one of a gap, or what begins an element, or what closes the node
    rest-begins : (us : List SyntaxTree) (c : ℕ) (w : List ℕ) → (AreElements names gaps (forest us) ⨾ IsExactly (codes ")") ⨾ Rest (node k (ts ++ us))) (c ∷ w)
        → ((gaps c ≡ true) × IsRestOfNode names gaps Rest k ts w) ⊎ ((c ≡ 41) × Rest (node k ts) w) ⊎ IsElement names gaps (λ u. IsRestOfNode names gaps Rest k (ts ++ u ∷ [])) (c ∷ w)
    rest-begins [] c w h = elim (gap-or-after gaps c w h) [
      | inl gap ↦ inl (gap.0, ([], gap.1))
      | inr close ↦
          let is : c ≡ 41 = exactly-first [] w c 41 close in
          let closed : Rest (node k (ts ++ [])) w = drop-exactly (codes ")") w (subst (λ b. (IsExactly (codes ")") ⨾ Rest (node k (ts ++ []))) (b ∷ w)) is close) in
          inr (inl (is, subst (λ l. Rest (node k l) w) (append-nil ts) closed))
    ]
    rest-begins (u ∷ us) c w h =
        let h' = regroup-right (c ∷ w) h in
        elim (gap-or-after gaps c w h') [
          | inl gap ↦ inl (gap.0, (u ∷ us, regroup-left w gap.1))
          | inr element ↦
              let e = regroup-right (c ∷ w) element in
              let P : List ℕ → Type 0 = AreElements names gaps (forest us) ⨾ IsExactly (codes ")") ⨾ Rest (node k (ts ++ u ∷ us)) in
              let placed : (x : List ℕ) → P x → IsRestOfNode names gaps Rest k (ts ++ u ∷ []) x = λ x p. (us, subst (λ l. (AreElements names gaps (forest us) ⨾ IsExactly (codes ")") ⨾ Rest (node k l)) x) (sym (append_assoc ts (u ∷ []) us)) p) in
              inr (inr (u, widen (c ∷ w) (λ x p. p) placed e))
        ]

    pub past-gap : (c : ℕ) (w : List ℕ) → gaps c ≡ true → IsRestOfNode names gaps Rest k ts (c ∷ w) → IsRestOfNode names gaps Rest k ts w
    past-gap c w is h = elim (rest-begins h.0 c w h.1) [
      | inl gap ↦ gap.1
      | inr h' ↦ elim h' [
        | inl close ↦ absurd (false≢true (sym apart.close_no_node ∙ subst (λ b. gaps b ≡ true) close.0 is))
        | inr element ↦ absurd (no-tree element.0 c w (apart.begin_no_tree c is) element.1)
      ]
    ]

    pub before-close : (w : List ℕ) → Rest (node k ts) w → IsRestOfNode names gaps Rest k ts (41 ∷ w)
    before-close w h = ([], then [] (41 ∷ w) refl (then (codes ")") w refl (subst (λ l. Rest (node k l) w) (sym (append-nil ts)) h)))

    pub past-close : (w : List ℕ) → IsRestOfNode names gaps Rest k ts (41 ∷ w) → Rest (node k ts) w
    past-close w h = elim (rest-begins h.0 41 w h.1) [
      | inl gap ↦ absurd (false≢true (sym apart.close_no_node ∙ gap.0))
      | inr h' ↦ elim h' [
        | inl close ↦ close.1
        | inr element ↦ absurd (no-tree element.0 41 w refl element.1)
      ]
    ]

    pub before-element : (w : List ℕ) → IsElement names gaps (λ u. IsRestOfNode names gaps Rest k (ts ++ u ∷ [])) w → IsRestOfNode names gaps Rest k ts w
    before-element w h =
        let u = h.0 in let j = h.1 in let us = j.is_second.0 in let m = j.is_second.1 in
        let all : IsGap gaps [] = refl in
        let front : (IsTreeText names gaps u ⨾ AreElements names gaps (forest us) ⨾ IsExactly (codes ")") ⨾ Rest (node k (ts ++ u ∷ us))) w = record {
          first = j.first;
          second = j.second;
          joined = j.joined;
          is_first = j.is_first;
          is_second = subst (λ l. (AreElements names gaps (forest us) ⨾ IsExactly (codes ")") ⨾ Rest (node k l)) j.second) (append_assoc ts (u ∷ []) us) m;
        } in
        (u ∷ us, regroup-left w (then [] w all (regroup-left w front)))

    -- behind what is neither a gap nor the end an element comes
    pub past-element : (c : ℕ) (w : List ℕ) → gaps c ≡ false → c ≢ 41 → IsRestOfNode names gaps Rest k ts (c ∷ w) → IsElement names gaps (λ u. IsRestOfNode names gaps Rest k (ts ++ u ∷ [])) (c ∷ w)
    past-element c w no_gap no_close h = elim (rest-begins h.0 c w h.1) [
      | inl gap ↦ absurd (false≢true (sym no_gap ∙ gap.0))
      | inr h' ↦ elim h' [
        | inl close ↦ absurd (no_close close.0)
        | inr element ↦ element
      ]
    ]

  pub element-begins : (Rest : Then) (c : ℕ) (w : List ℕ) → begins_tree c ≡ false → IsElement names gaps Rest (c ∷ w) → ⊥
  element-begins Rest c w none h = no-tree h.0 c w none h.1
