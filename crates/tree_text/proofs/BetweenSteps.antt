-- What a character between elements does.
--     opens, a-gap, begins-name          a parenthesis that opens a node, a character of a gap, the first one of a name
--     stuck-outside, stuck-inside        one that may not stand there
--     begins-nothing                     no element begins with it, and no gap has it
use Rattle.std.proofs.Common.{◌≡◌, ◌≢◌, ℕ, Bool, true, false, not, ◌&&◌, ◌||◌, List, [], ◌∷◌, ◌++◌, Option, Some, None, is_some, inl, refl, sym, ap, ◌∙◌, subst, arith}
use Rattle.std.specs.Prelude.{encode_utf8, ◌==◌}
use Rattle.std.specs.List.{list_all}
use Rattle.std.proofs.lemmas.Bool.{false≢true, eqb-true, eq-eqb}
use Rattle.cst_core.specs.Green.{Branch}
use Rattle.cst_core.specs.Tree.{SyntaxTree}
use Rattle.tree_text.specs.KindNames.{AreNames, name_in, is_name_byte, is_name}
use Rattle.tree_text.specs.inner.Completing.{IsFrom, IsAfter, OpenTree}
use Rattle.tree_text.specs.inner.Gap.{is_gap}
use Rattle.tree_text.specs.inner.Reading.{Reading, IsReading, IsLeft, IsLeftOutside, Opened, Reads, CannotGoOn, is_outside, is_nil, unread, with_names}
use Rattle.tree_text.specs.declared.gaps.Gaps.{Gaps}
use Rattle.tree_text.specs.declared.reader.State.TheVariants.{Between, NodeKind, TokenKind}
use Rattle.tree_text.proofs.AnyNames.{PlainReads, more-reading, with-any}
use Rattle.tree_text.proofs.Beginnings.{begins_tree, both}
use Rattle.tree_text.proofs.OpenTrees.{before-gap, past-gap, element-begins}
use Rattle.tree_text.proofs.WholeTrees.{from-element, outermost-begins}
use Rattle.tree_text.proofs.EncodedBytes.{encode-ascii, answers-first, large-gaps, large-trees, large-at, large-names, small-where, are-gaps, other, neither}
use Rattle.tree_text.proofs.Leaving.{in-state, no-root-inside, none-whole, from-between, to-between, word-in, unread-in, past-unread, all-past}

-- where a character may stand, a node is open, or it opens the outermost one
some-open : (nodes : List OpenTree) (c : ℕ) (o : Option Branch) → (is_nil nodes && (not (c == 40) || is_some o)) ≡ false → c ≢ 40 → (n : OpenTree) × (outer : List OpenTree) × (nodes ≡ n ∷ outer)
some-open [] c o inside differ = absurd (differ (open-only (c == 40) (is_some o) c (eqb-true c 40) inside))
  where
    open-only : (a b : Bool) (c : ℕ) → (a ≡ true → c ≡ 40) → (not a || b) ≡ false → c ≡ 40
    open-only true b c is h = is refl
    open-only false b c is h = absurd (false≢true (sym h))
some-open (n ∷ outer) c o inside differ = (n, outer, refl)

-- where a parenthesis opens a node, the whole tree isn't there
not-whole : (nodes : List OpenTree) (o : Option Branch) → (is_nil nodes && (not (40 == 40) || is_some o)) ≡ false → ((n : Branch) → o ≡ Some n → nodes ≡ []) → o ≡ None
not-whole nodes None inside closed = refl
not-whole [] (Some n) inside closed = absurd (false≢true (sym inside))
not-whole (m ∷ outer) (Some n) inside closed = let is : m ∷ outer ≡ [] = closed n refl in absurd (cc)

pub begins-nothing : (names : ℕ → Option (List ℕ)) (gaps : Gaps) → AreNames names → (c : ℕ) → c ≢ 40 → c ≢ 41 → is_gap gaps c ≡ false → is_name_byte c ≡ false
    → (nodes : List OpenTree) (t : SyntaxTree) (b : ℕ) (after w : List ℕ) → encode_utf8 c ≡ b ∷ after → IsFrom names (is_gap gaps) nodes t (b ∷ w) → ⊥
begins-nothing names gaps known c no_open no_close no_gap no_name nodes t b after w is from =
    let no_gap' = answers-first c b after is (is_gap gaps) (large-gaps gaps) no_gap in
    let no_close' = answers-first c b after is (λ x. x == 41) (large-at 41 (omega arith)) (other c 41 no_close) in
    let no_tree = answers-first c b after is begins_tree large-trees (neither (c == 40) (is_name_byte c) (other c 40 no_open) no_name) in
    let element = from-element names (is_gap gaps) known (are-gaps gaps) nodes t b w no_gap' (λ closes. false≢true (sym no_close' ∙ eq-eqb b 41 closes)) from in
    element-begins names (is_gap gaps) known (are-gaps gaps) (IsAfter names (is_gap gaps) nodes t) b w no_tree element

module _ (r : Reading) (h : IsReading r) (c : ℕ) (between : r.state ≡ Between) where
  no-whole : c ≡ 40 → is_outside r c ≡ false → r.root ≡ None
  no-whole is inside = not-whole r.nodes r.root (subst (λ x. is_outside r x ≡ false) is inside) (λ n whole. (h.whole n whole).closed)

  no-word : r.word ≡ []
  no-word = word-in r Between h between

  no-unread : unread r ≡ []
  no-unread = unread-in r Between between

  plain-opens : c ≡ 40 → is_outside r c ≡ false → PlainReads r (encode_utf8 c) (record r { state = NodeKind })
  plain-opens is inside =
      let none = no-whole is inside in
      let bytes : encode_utf8 c ≡ 40 ∷ [] = ap encode_utf8 is ∙ encode-ascii 40 (omega arith) in
      record {
        sound = record { names = h.names; word = subst (λ w. list_all is_name_byte w ≡ true) (sym no-word) refl; inside = tt; whole = none-whole (record r { state = NodeKind }) none };
        on = λ t w left. from-between r t (40 ∷ w) between none (subst (λ b. IsLeft r t (b ++ w)) bytes left);
        back = λ t w left. subst (λ b. IsLeft r t (b ++ w)) (sym bytes) (to-between r t (40 ∷ w) between none left);
      }

  plain-gap : is_gap r.gaps c ≡ true → is_outside r c ≡ false → PlainReads r (encode_utf8 c) r
  plain-gap gap inside =
      let small = small-where (is_gap r.gaps) (large-gaps r.gaps) c gap in
      let no_open : c ≢ 40 = λ is. false≢true (sym ((are-gaps r.gaps).begin_no_tree c gap) ∙ ap begins_tree is) in
      let open' = some-open r.nodes c r.root inside no_open in
      let n = open'.0 in let outer = open'.1 in
      let none = no-root-inside r h n outer open'.2 in
      let bytes : encode_utf8 c ≡ c ∷ [] = encode-ascii c small in
      record {
        sound = h;
        on = λ t w left.
            let from = subst (λ ns. IsFrom (name_in r.given) (is_gap r.gaps) ns t (c ∷ w)) open'.2 (from-between r t (c ∷ w) between none (subst (λ b. IsLeft r t (b ++ w)) bytes left)) in
            let past = past-gap (name_in r.given) (is_gap r.gaps) h.names (are-gaps r.gaps) (IsAfter (name_in r.given) (is_gap r.gaps) outer t) n.0 n.1 c w gap from in
            to-between r t w between none (subst (λ ns. IsFrom (name_in r.given) (is_gap r.gaps) ns t w) (sym open'.2) past);
        back = λ t w left.
            let from = subst (λ ns. IsFrom (name_in r.given) (is_gap r.gaps) ns t w) open'.2 (from-between r t w between none left) in
            let before = before-gap (name_in r.given) (is_gap r.gaps) h.names (are-gaps r.gaps) (IsAfter (name_in r.given) (is_gap r.gaps) outer t) n.0 n.1 c w gap from in
            subst (λ b. IsLeft r t (b ++ w)) (sym bytes) (to-between r t (c ∷ w) between none (subst (λ ns. IsFrom (name_in r.given) (is_gap r.gaps) ns t (c ∷ w)) (sym open'.2) before));
      }

  plain-begins : is_name_byte c ≡ true → is_outside r c ≡ false → PlainReads r [] (record r { state = TokenKind; word = r.word ++ encode_utf8 c })
  plain-begins name inside =
      let small = small-where is_name_byte large-names c name in
      let no_open : c ≢ 40 = λ is. false≢true (ap is_name_byte (sym is) ∙ name) in
      let open' = some-open r.nodes c r.root inside no_open in
      let none = no-root-inside r h open'.0 open'.1 open'.2 in
      let bytes : encode_utf8 c ≡ c ∷ [] = encode-ascii c small in
      let word : r.word ++ encode_utf8 c ≡ encode_utf8 c = ap (λ x. x ++ encode_utf8 c) no-word in
      record {
        sound = record {
          names = h.names;
          word = subst (λ w. is_name w ≡ true) (sym (word ∙ bytes)) (both (is_name_byte c) true name refl);
          inside = λ none-open. let both' : [] ≡ open'.0 ∷ open'.1 = sym none-open ∙ open'.2 in absurd (cc);
          whole = none-whole (record r { state = TokenKind; word = r.word ++ encode_utf8 c }) none;
        };
        on = λ t w left. from-between r t w between none left;
        back = λ t w left. to-between r t w between none left;
      }

  outside-with : (o : Option Branch) (ns : List OpenTree) (t : SyntaxTree) (b : ℕ) (after w : List ℕ) → encode_utf8 c ≡ b ∷ after → (is_nil ns && (not (c == 40) || is_some o)) ≡ true → IsLeftOutside r.given r.gaps ns o t (b ∷ w) → ⊥
  outside-with (Some n) ns t b after w is outside left = let none : b ∷ w ≡ [] = left.1 in absurd (cc)
  outside-with None (n ∷ outer) t b after w is outside left = absurd (false≢true outside)
  outside-with None [] t b after w is outside left =
      let first = outermost-begins (name_in r.given) (is_gap r.gaps) h.names (are-gaps r.gaps) t b w left in
      false≢true (sym (answers-first c b after is (λ x. x == 40) (large-at 40 (omega arith)) (not-forty (c == 40) outside)) ∙ eq-eqb b 40 first)
    where
      not-forty : (b : Bool) → (not b || false) ≡ true → b ≡ false
      not-forty true is = sym is
      not-forty false is = refl

  plain-outside : is_outside r c ≡ true → (b : ℕ) (after : List ℕ) → encode_utf8 c ≡ b ∷ after → (t : SyntaxTree) (w : List ℕ) → IsLeft r t (unread r ++ b ∷ w) → ⊥
  plain-outside outside b after is t w left =
      outside-with r.root r.nodes t b after w is outside (in-state r Between t (b ∷ w) between (past-unread r Between t (b ∷ w) between left))

  plain-inside : is_outside r c ≡ false → c ≢ 40 → c ≢ 41 → is_gap r.gaps c ≡ false → is_name_byte c ≡ false → (b : ℕ) (after : List ℕ) → encode_utf8 c ≡ b ∷ after → (t : SyntaxTree) (w : List ℕ) → IsLeft r t (unread r ++ b ∷ w) → ⊥
  plain-inside inside no_open no_close no_gap no_name b after is t w left =
      let open' = some-open r.nodes c r.root inside no_open in
      let none = no-root-inside r h open'.0 open'.1 open'.2 in
      let from = from-between r t (b ∷ w) between none (past-unread r Between t (b ∷ w) between left) in
      begins-nothing (name_in r.given) r.gaps h.names c no_open no_close no_gap no_name r.nodes t b after w is from

no-node : Between ≢ NodeKind
no-node is = cc

-- ---- whatever further names kinds have
module _ (r : Reading) (h : IsReading r) (c : ℕ) (between : r.state ≡ Between) where
  all-unread : (word : List ℕ) → word ≡ [] → unread r ++ encode_utf8 c ≡ encode_utf8 c ++ word
  all-unread word none = all-past (unread r) (encode_utf8 c) word (no-unread r h c between) none

  opened : c ≡ 40 → is_outside r c ≡ false → Opened r (encode_utf8 c) (record r { state = NodeKind })
  opened is inside = record {
    before = [];
    is = ap encode_utf8 is ∙ encode-ascii 40 (omega arith);
    back = λ t w apart from. to-between r t w between (no-whole r h c between is inside) from;
  }

  pub opens : c ≡ 40 → is_outside r c ≡ false → Reads r (encode_utf8 c) (record r { state = NodeKind })
  opens is inside =
      with-any r (encode_utf8 c) (encode_utf8 c) (record r { state = NodeKind }) h refl refl (all-unread r.word (no-word r h c between)) (λ node. inl (opened is inside)) (λ more m. plain-opens (with_names more r) (more-reading r h more m) c between is inside)

  pub a-gap : is_gap r.gaps c ≡ true → is_outside r c ≡ false → Reads r (encode_utf8 c) r
  a-gap gap inside =
      with-any r (encode_utf8 c) (encode_utf8 c) r h refl refl (all-unread (unread r) (no-unread r h c between)) (λ node. absurd (no-node (sym between ∙ node))) (λ more m. plain-gap (with_names more r) (more-reading r h more m) c between gap inside)

  pub begins-name : is_name_byte c ≡ true → is_outside r c ≡ false → Reads r (encode_utf8 c) (record r { state = TokenKind; word = r.word ++ encode_utf8 c })
  begins-name name inside =
      with-any r (encode_utf8 c) [] (record r { state = TokenKind; word = r.word ++ encode_utf8 c }) h refl refl (ap (λ x. x ++ encode_utf8 c) (no-unread r h c between ∙ sym (no-word r h c between))) (λ node. cc)
      (λ more m. plain-begins (with_names more r) (more-reading r h more m) c between name inside)

  pub stuck-outside : is_outside r c ≡ true → CannotGoOn r (encode_utf8 c)
  stuck-outside outside b after is more m = plain-outside (with_names more r) (more-reading r h more m) c between outside b after is

  pub stuck-inside : is_outside r c ≡ false → c ≢ 40 → c ≢ 41 → is_gap r.gaps c ≡ false → is_name_byte c ≡ false → CannotGoOn r (encode_utf8 c)
  stuck-inside inside no_open no_close no_gap no_name b after is more m = plain-inside (with_names more r) (more-reading r h more m) c between inside no_open no_close no_gap no_name b after is
