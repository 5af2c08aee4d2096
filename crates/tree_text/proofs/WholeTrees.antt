-- How what is left of an expression goes on in open nodes.
--     after-depth, after-length        a tree in open nodes against the whole tree: how deep it is, and how long its text
--     from-element, element-from       an element comes next
--     opened, open-before              a node is opened, behind its kind
--     open-depth                       how deep the whole tree is, where a node is opened
--     named, name-before               a token's kind was read
--     no-gap, no-close                 with what begins a tree neither a gap begins nor a node ends
--     outermost-begins                 before the outermost node its parenthesis comes
--     unended                          something is left
--     as-expression, from-expression         before the outermost node
use Rattle.std.proofs.Common.{◌≡◌, ◌≢◌, ℕ, suc, ◌+◌, ◌≤◌, append_assoc, Bool, true, false, eqb, List, [], ◌∷◌, ◌++◌, Option, Some, length, length-append, refl, sym, ap, ◌∙◌, append-nil, subst, inl, inr, arith}
use Rattle.std.specs.Prelude.{codes}
use Rattle.std.specs.List.{list_all}
use Rattle.std.proofs.lemmas.Bool.{false≢true, cases_Bool}
use Rattle.cst_core.specs.Tree.{SyntaxTree, Token, Node, node, forest, text, forest_text}
use Rattle.tree_text.specs.Depth.{depth, forest_depth}
use Rattle.tree_text.specs.Grammar.{◌⨾◌, IsExactly, IsExpression, IsTreeText, begins_with_name_byte}
use Rattle.tree_text.specs.KindNames.{is_name, is_name_byte, AreNames}
use Rattle.tree_text.specs.inner.Completing.{OpenTree, Then, IsElement, IsRestOfToken, IsAfter, IsFrom}
use Rattle.tree_text.proofs.Beginnings.{AreGaps, begins_tree, name-begins, or-right, tree-begins}
use Rattle.tree_text.proofs.OpenTrees.{before-element, past-element}
use Rattle.tree_text.proofs.NamedTrees.{past-node, before-node, past-token, before-token, node-begins}

child-depth : (ts us : List SyntaxTree) (u : SyntaxTree) → depth u ≤ forest_depth (forest ((ts ++ u ∷ []) ++ us))
child-depth [] us u = grind arith
child-depth (t ∷ ts) us u = let step = child-depth ts us u in grind arith

child-length : (ts us : List SyntaxTree) (u : SyntaxTree) → length (text u) ≤ length (forest_text (forest ((ts ++ u ∷ []) ++ us)))
child-length [] us u = omega (arith, length-append (text u) (forest_text (forest us)))
child-length (t ∷ ts) us u = let step = child-length ts us u in omega (arith, length-append (text t) (forest_text (forest ((ts ++ u ∷ []) ++ us))))

module _ (names : ℕ → Option (List ℕ)) (gaps : ℕ → Bool) where
  pub after-depth : (ns : List OpenTree) (t u : SyntaxTree) (w : List ℕ) → IsAfter names gaps ns t u w → depth u + length ns ≤ depth t
  after-depth [] t u w h = omega (arith, ap depth h.1)
  after-depth (n ∷ outer) t u w h =
      let us = h.0 in
      let inner = after-depth outer t (node n.0 ((n.1 ++ u ∷ []) ++ us)) h.1.is_second.second h.1.is_second.is_second in
      let below = child-depth n.1 us u in
      omega arith

  pub after-length : (ns : List OpenTree) (t u : SyntaxTree) (w : List ℕ) → IsAfter names gaps ns t u w → length (text u) ≤ length (text t)
  after-length [] t u w h = omega (arith, ap (λ x. length (text x)) h.1)
  after-length (n ∷ outer) t u w h =
      let us = h.0 in
      let inner = after-length outer t (node n.0 ((n.1 ++ u ∷ []) ++ us)) h.1.is_second.second h.1.is_second.is_second in
      let below = child-length n.1 us u in
      omega arith

  pub as-expression : (t : SyntaxTree) (w : List ℕ) → IsFrom names gaps [] t w → IsExpression names gaps t w
  as-expression t w h =
      let end' = h.1.is_second in
      let is : h.1.first ≡ w = sym (append-nil h.1.first) ∙ ap (λ x. h.1.first ++ x) (sym end'.2) ∙ sym h.1.joined in
      subst (λ u. IsExpression names gaps u w) end'.1 (end'.0, subst (IsTreeText names gaps h.0) is h.1.is_first)

  pub from-expression : (t : SyntaxTree) (w : List ℕ) → IsExpression names gaps t w → IsFrom names gaps [] t w
  from-expression t w h = (t, record { first = w; second = []; joined = sym (append-nil w); is_first = h.1; is_second = (h.0, refl, refl) })

module _ (names : ℕ → Option (List ℕ)) (gaps : ℕ → Bool) (known : AreNames names) (apart : AreGaps gaps) where
  pub from-element : (ns : List OpenTree) (t : SyntaxTree) (c : ℕ) (w : List ℕ) → gaps c ≡ false → c ≢ 41 → IsFrom names gaps ns t (c ∷ w) → IsElement names gaps (IsAfter names gaps ns t) (c ∷ w)
  from-element [] t c w no_gap no_close h = h
  from-element (n ∷ outer) t c w no_gap no_close h = past-element names gaps known apart (IsAfter names gaps outer t) n.0 n.1 c w no_gap no_close h

  pub element-from : (ns : List OpenTree) (t : SyntaxTree) (w : List ℕ) → IsElement names gaps (IsAfter names gaps ns t) w → IsFrom names gaps ns t w
  element-from [] t w h = h
  element-from (n ∷ outer) t w h = before-element names gaps known apart (IsAfter names gaps outer t) n.0 n.1 w h

  pub no-gap : (b : ℕ) → begins_tree b ≡ true → gaps b ≡ false
  no-gap b begins = elim (cases_Bool (gaps b)) [
    | inl is ↦ absurd (false≢true (sym (apart.begin_no_tree b is) ∙ begins))
    | inr is ↦ is
  ]

  pub no-close : (b : ℕ) → begins_tree b ≡ true → b ≢ 41
  no-close b begins is = false≢true (ap begins_tree (sym is) ∙ begins)

  pub opened : (ns : List OpenTree) (t : SyntaxTree) (n w : List ℕ) → list_all is_name_byte n ≡ true → begins_with_name_byte w ≡ false → IsFrom names gaps ns t (40 ∷ (n ++ w)) → (k : ℕ) × (names k ≡ Some n) × IsFrom names gaps ((k, []) ∷ ns) t w
  opened ns t n w all ends h = past-node names gaps known (IsAfter names gaps ns t) n w all ends (from-element ns t 40 (n ++ w) (no-gap 40 refl) (no-close 40 refl) h)

  opened-depth : (u : SyntaxTree) (c : ℕ) (w : List ℕ) {Q : List ℕ → Type 0} → (IsTreeText names gaps u ⨾ Q) (c ∷ w) → c ≡ 40 → 1 ≤ depth u
  opened-depth (Node k f) c w h is = omega arith
  opened-depth (Token k s) c w h is =
      let b = name-begins h.is_first.first (known.spelled k h.is_first.first h.is_first.is_first) in
      let first : c ∷ w ≡ b.0 ∷ (b.1 ++ (h.is_first.second ++ h.second)) = h.joined ∙ ap (λ x. x ++ h.second) (h.is_first.joined ∙ ap (λ x. x ++ h.is_first.second) b.2) ∙ ap (λ x. b.0 ∷ x) (append_assoc b.1 h.is_first.second h.second) in
      let same : c ≡ b.0 = cc in
      absurd (false≢true (ap is_name_byte (sym is ∙ same) ∙ b.3))

  pub open-depth : (ns : List OpenTree) (t : SyntaxTree) (w : List ℕ) → IsFrom names gaps ns t (40 ∷ w) → suc (length ns) ≤ depth t
  open-depth ns t w h =
      let element = from-element ns t 40 w (no-gap 40 refl) (no-close 40 refl) h in
      let below = opened-depth element.0 40 w element.1 refl in
      let deep = after-depth names gaps ns t element.0 element.1.second element.1.is_second in
      omega arith

  pub open-before : (ns : List OpenTree) (t : SyntaxTree) (k : ℕ) (n w : List ℕ) → names k ≡ Some n → begins_with_name_byte w ≡ false → IsFrom names gaps ((k, []) ∷ ns) t w → IsFrom names gaps ns t (40 ∷ (n ++ w))
  open-before ns t k n w is ends h = element-from ns t (40 ∷ (n ++ w)) (before-node names gaps known (IsAfter names gaps ns t) k n w is ends h)

  pub named : (ns : List OpenTree) (t : SyntaxTree) (n w : List ℕ) → is_name n ≡ true → begins_with_name_byte w ≡ false → IsFrom names gaps ns t (n ++ w) → (k : ℕ) × (names k ≡ Some n) × (IsExactly (codes "\"") ⨾ IsRestOfToken (IsAfter names gaps ns t) k []) w
  named ns t n w name ends h =
      let b = name-begins n name in
      let begins = or-right (eqb b.0 40) _ b.3 in
      let element = from-element ns t b.0 (b.1 ++ w) (no-gap b.0 begins) (no-close b.0 begins) (subst (λ m. IsFrom names gaps ns t (m ++ w)) b.2 h) in
      past-token names gaps known (IsAfter names gaps ns t) n w name ends (subst (λ m. IsElement names gaps (IsAfter names gaps ns t) (m ++ w)) (sym b.2) element)

  pub name-before : (ns : List OpenTree) (t : SyntaxTree) (k : ℕ) (n w : List ℕ) → names k ≡ Some n → IsRestOfToken (IsAfter names gaps ns t) k [] w → IsFrom names gaps ns t (n ++ 34 ∷ w)
  name-before ns t k n w is h = element-from ns t (n ++ 34 ∷ w) (before-token names gaps known (IsAfter names gaps ns t) k n w is h)

  node-unended : (Rest : Then) (k : ℕ) (ts us : List SyntaxTree) (w : List ℕ) → (IsExactly (codes ")") ⨾ Rest (node k (ts ++ us))) w → w ≢ []
  node-unended Rest k ts us w h none = let is : [] ≡ 41 ∷ h.second = sym none ∙ h.joined ∙ ap (λ x. x ++ h.second) h.is_first in cc

  appended-unended : (a b : List ℕ) → b ≢ [] → [] ≡ a ++ b → ⊥
  appended-unended [] b some is = some (sym is)
  appended-unended (x ∷ a) b some is = absurd (cc)

  pub unended : (ns : List OpenTree) (t : SyntaxTree) → IsFrom names gaps ns t [] → ⊥
  unended [] t h =
      let b = tree-begins names gaps known h.0 h.1.first h.1.is_first in
      let is : [] ≡ b.0 ∷ (b.1 ++ h.1.second) = h.1.joined ∙ ap (λ x. x ++ h.1.second) b.2 in
      absurd (cc)
  unended (n ∷ outer) t h = appended-unended h.1.first h.1.second (node-unended (IsAfter names gaps outer t) n.0 n.1 h.0 h.1.second h.1.is_second) h.1.joined

  outermost-at : (u t : SyntaxTree) (c : ℕ) (w : List ℕ) → (IsTreeText names gaps u ⨾ IsAfter names gaps [] t u) (c ∷ w) → c ≡ 40
  outermost-at (Token k s) t c w h = absurd (false≢true (sym h.is_second.0))
  outermost-at (Node k f) t c w h = node-begins names gaps known k f c w h

  -- before the outermost node its parenthesis comes
  pub outermost-begins : (t : SyntaxTree) (c : ℕ) (w : List ℕ) → IsFrom names gaps [] t (c ∷ w) → c ≡ 40
  outermost-begins t c w h = outermost-at h.0 t c w h.1
