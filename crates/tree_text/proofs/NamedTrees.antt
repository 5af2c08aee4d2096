-- How what is left of an expression goes on behind the name of a kind.
--     past-node, before-node         behind a node's parenthesis and kind, where the name ends
--     apart-begins                   elements and the parenthesis behind them, that don't go on with a name
--     past-token, before-token       behind a token's kind, where the name ends
use Rattle.std.proofs.Common.{◌≡◌, ℕ, Bool, true, false, List, [], ◌∷◌, ◌++◌, Option, Some, refl, sym, ap, ◌∙◌, subst}
use Rattle.std.specs.Prelude.{codes}
use Rattle.std.specs.List.{list_all}
use Rattle.std.proofs.lemmas.Bool.{and_parts, false≢true}
use Rattle.green_tree.proofs.Lookup.{forest-trees}
use Rattle.cst_core.specs.Tree.{SyntaxTree, Token, Node, Forest, node, forest, trees}
use Rattle.tree_text.specs.Grammar.{◌⨾◌, IsExactly, IsName, IsApart, IsQuoted, IsTreeText, AreElements, begins_with_name_byte}
use Rattle.tree_text.specs.KindNames.{is_name, is_name_byte, AreNames}
use Rattle.tree_text.specs.inner.Completing.{Then, IsElement, IsRestOfNode, IsRestOfToken}
use Rattle.tree_text.proofs.Joining.{then, regroup-right, regroup-left, widen, drop-exactly}
use Rattle.tree_text.proofs.Beginnings.{name-begins, same-name}

-- what stands behind a name that ends doesn't go on with it
begins-joined : (a b : List ℕ) → begins_with_name_byte a ≡ begins_with_name_byte (a ++ 41 ∷ b)
begins-joined [] b = refl
begins-joined (x ∷ a) b = refl

pub apart-begins : (a b : List ℕ) → begins_with_name_byte a ≡ false → begins_with_name_byte (a ++ 41 ∷ b) ≡ false
apart-begins a b ends = sym (begins-joined a b) ∙ ends

apart-ends : {P Q : List ℕ → Type 0} (w : List ℕ) → (IsApart P ⨾ IsExactly (codes ")") ⨾ Q) w → begins_with_name_byte w ≡ false
apart-ends w h =
    let c = h.is_second in
    let is : w ≡ h.first ++ 41 ∷ c.second = h.joined ∙ ap (λ x. h.first ++ x) (c.joined ∙ ap (λ x. x ++ c.second) c.is_first) in
    ap begins_with_name_byte is ∙ sym (begins-joined h.first c.second) ∙ h.is_first.0

quote-ends : {Q : List ℕ → Type 0} (w : List ℕ) → (IsExactly (codes "\"") ⨾ Q) w → begins_with_name_byte w ≡ false
quote-ends w h = ap begins_with_name_byte (h.joined ∙ ap (λ x. x ++ h.second) h.is_first)

module _ (names : ℕ → Option (List ℕ)) (gaps : ℕ → Bool) (named : AreNames names) where
  all-of : (k : ℕ) (n : List ℕ) → names k ≡ Some n → list_all is_name_byte n ≡ true
  all-of k n is = (and_parts _ _ (named.spelled k n is)).1

  -- where a name is read to its end, it is that one
  past-name : {Q : List ℕ → Type 0} (k : ℕ) (n rest : List ℕ) → list_all is_name_byte n ≡ true → begins_with_name_byte rest ≡ false → ((w : List ℕ) → Q w → begins_with_name_byte w ≡ false) → (IsName names k ⨾ Q) (n ++ rest) → (names k ≡ Some n) × Q rest
  past-name {Q} k n rest all ends begins h =
      let same = same-name n h.first rest h.second all (all-of k h.first h.is_first) ends (begins h.second h.is_second) h.joined in
      (h.is_first ∙ ap Some (sym same.0), subst Q (sym same.1) h.is_second)

  -- what begins as a name begins no node, and what begins as a node begins no token
  token-begins : {Q : List ℕ → Type 0} (k : ℕ) (s : List ℕ) (c : ℕ) (w : List ℕ) → (IsTreeText names gaps (Token k s) ⨾ Q) (c ∷ w) → is_name_byte c ≡ true
  token-begins k s c w h =
      let n = h.is_first in
      let b = name-begins n.first (named.spelled k n.first n.is_first) in
      let is : c ∷ w ≡ b.0 ∷ ((b.1 ++ n.second) ++ h.second) = h.joined ∙ ap (λ x. x ++ h.second) (n.joined ∙ ap (λ x. x ++ n.second) b.2) in
      let same : c ≡ b.0 = cc in
      ap is_name_byte same ∙ b.3

  pub node-begins : {Q : List ℕ → Type 0} (k : ℕ) (f : Forest ℕ) (c : ℕ) (w : List ℕ) → (IsTreeText names gaps (Node k f) ⨾ Q) (c ∷ w) → c ≡ 40
  node-begins k f c w h =
      let is : c ∷ w ≡ 40 ∷ (h.is_first.second ++ h.second) = h.joined ∙ ap (λ x. x ++ h.second) (h.is_first.joined ∙ ap (λ x. x ++ h.is_first.second) h.is_first.is_first) in
      cc

  past-node-of : (Rest : Then) (u : SyntaxTree) (n rest : List ℕ) → list_all is_name_byte n ≡ true → begins_with_name_byte rest ≡ false → (IsTreeText names gaps u ⨾ Rest u) (40 ∷ (n ++ rest)) → (k : ℕ) × (names k ≡ Some n) × IsRestOfNode names gaps Rest k [] rest
  past-node-of Rest (Token k s) n rest all ends h = absurd (false≢true (token-begins k s 40 (n ++ rest) h))
  past-node-of Rest (Node k f) n rest all ends h =
      let Inside : List ℕ → Type 0 = IsApart (AreElements names gaps f) in
      let opened = regroup-right (n ++ rest) (drop-exactly (codes "(") (n ++ rest) (regroup-right (40 ∷ (n ++ rest)) h)) in
      let behind = past-name k n rest all ends (λ w q. apart-ends w (regroup-right w q)) opened in
      let inside = regroup-right rest behind.1 in
      let elements : (AreElements names gaps f ⨾ IsExactly (codes ")") ⨾ Rest (Node k f)) rest = widen rest (λ x p. p.1) (λ x p. p) inside in
      (k, behind.0, (trees f, subst (λ g. (AreElements names gaps g ⨾ IsExactly (codes ")") ⨾ Rest (Node k g)) rest) (sym (forest-trees f)) elements))

  pub past-node : (Rest : Then) (n rest : List ℕ) → list_all is_name_byte n ≡ true → begins_with_name_byte rest ≡ false → IsElement names gaps Rest (40 ∷ (n ++ rest)) → (k : ℕ) × (names k ≡ Some n) × IsRestOfNode names gaps Rest k [] rest
  past-node Rest n rest all ends h = past-node-of Rest h.0 n rest all ends h.1

  ends-before : (a b w : List ℕ) → w ≡ a ++ 41 ∷ b → begins_with_name_byte w ≡ false → begins_with_name_byte a ≡ false
  ends-before a b w is ends = begins-joined a b ∙ sym (ap begins_with_name_byte is) ∙ ends

  pub before-node : (Rest : Then) (k : ℕ) (n rest : List ℕ) → names k ≡ Some n → begins_with_name_byte rest ≡ false → IsRestOfNode names gaps Rest k [] rest → IsElement names gaps Rest (40 ∷ (n ++ rest))
  before-node Rest k n rest is ends h =
      let j = h.1 in
      let c = j.is_second in
      let apart = ends-before j.first c.second rest (j.joined ∙ ap (λ x. j.first ++ x) (c.joined ∙ ap (λ x. x ++ c.second) c.is_first)) ends in
      let inside : (IsApart (AreElements names gaps (forest h.0)) ⨾ IsExactly (codes ")") ⨾ Rest (node k h.0)) rest = record { first = j.first; second = j.second; joined = j.joined; is_first = (apart, j.is_first); is_second = j.is_second } in
      let name : (IsName names k ⨾ (IsApart (AreElements names gaps (forest h.0)) ⨾ IsExactly (codes ")")) ⨾ Rest (node k h.0)) (n ++ rest) = then n rest is (regroup-left rest inside) in
      let opened : (IsExactly (codes "(") ⨾ (IsName names k ⨾ IsApart (AreElements names gaps (forest h.0)) ⨾ IsExactly (codes ")")) ⨾ Rest (node k h.0)) (40 ∷ (n ++ rest)) = then (codes "(") (n ++ rest) refl (regroup-left (n ++ rest) name) in
      (node k h.0, regroup-left (40 ∷ (n ++ rest)) opened)

  past-token-of : (Rest : Then) (u : SyntaxTree) (n rest : List ℕ) → is_name n ≡ true → begins_with_name_byte rest ≡ false → (IsTreeText names gaps u ⨾ Rest u) (n ++ rest) → (k : ℕ) × (names k ≡ Some n) × (IsExactly (codes "\"") ⨾ IsRestOfToken Rest k []) rest
  past-token-of Rest (Node k f) n rest name ends h =
      let b = name-begins n name in
      let h' = subst (λ m. (IsTreeText names gaps (Node k f) ⨾ Rest (Node k f)) (m ++ rest)) b.2 h in
      absurd (false≢true (sym (ap is_name_byte (node-begins k f b.0 (b.1 ++ rest) h')) ∙ b.3))
  past-token-of Rest (Token k s) n rest name ends h =
      let named' = regroup-right (n ++ rest) h in
      let behind = past-name k n rest (and_parts _ _ name).1 ends (λ w q. quote-ends w (regroup-right w q)) named' in
      (k, behind.0, widen rest (λ x p. p) (λ x p. (s, regroup-right x p)) (regroup-right rest behind.1))

  pub past-token : (Rest : Then) (n rest : List ℕ) → is_name n ≡ true → begins_with_name_byte rest ≡ false → IsElement names gaps Rest (n ++ rest) → (k : ℕ) × (names k ≡ Some n) × (IsExactly (codes "\"") ⨾ IsRestOfToken Rest k []) rest
  past-token Rest n rest name ends h = past-token-of Rest h.0 n rest name ends h.1

  pub before-token : (Rest : Then) (k : ℕ) (n rest : List ℕ) → names k ≡ Some n → IsRestOfToken Rest k [] rest → IsElement names gaps Rest (n ++ 34 ∷ rest)
  before-token Rest k n rest is h =
      let text : (IsExactly (codes "\"") ⨾ (IsQuoted h.0 ⨾ IsExactly (codes "\"")) ⨾ Rest (Token k h.0)) (34 ∷ rest) = then (codes "\"") rest refl (regroup-left rest h.1) in
      let name : (IsName names k ⨾ (IsExactly (codes "\"") ⨾ IsQuoted h.0 ⨾ IsExactly (codes "\"")) ⨾ Rest (Token k h.0)) (n ++ 34 ∷ rest) = then n (34 ∷ rest) is (regroup-left (34 ∷ rest) text) in
      (Token k h.0, regroup-left (n ++ 34 ∷ rest) name)
