-- How the texts of gaps, names and trees begin, and where they end.
--     AreGaps                   bytes that may stand between elements begin no tree, and close no node
--     begins_tree               a byte with which what is written for a tree may begin
--     tree-begins               what is written for a tree begins with such a byte
--     gap-or-after              a byte of a gap, or one behind it
--     gap-more                  a gap with one byte more
--     same-name                 where a name ends
--     node-text, token-text     what begins as what is written for a node does is; so is what begins as a token's name
use Rattle.std.proofs.Common.{◌≡◌, ◌⊎◌, ℕ, Bool, true, false, ◌&&◌, ◌||◌, List, [], ◌∷◌, ◌++◌, Option, refl, sym, ap, ap₂, ◌∙◌, subst, inl, inr}
use Rattle.std.specs.Prelude.{◌==◌}
use Rattle.std.specs.List.{list_all}
use Rattle.std.proofs.lemmas.Bool.{and_parts, false≢true}
use Rattle.cst_core.specs.Tree.{SyntaxTree, Token, Node}
use Rattle.tree_text.specs.Grammar.{◌⨾◌, IsGap, IsTreeText, begins_with_name_byte}
use Rattle.tree_text.specs.KindNames.{is_name, is_name_byte, AreNames}

abbrev pub begins_tree : ℕ → Bool
begins_tree b = b == 40 || is_name_byte b

pub record AreGaps (gaps : ℕ → Bool) : Type 0 where
  pub begin_no_tree : (b : ℕ) → gaps b ≡ true → begins_tree b ≡ false
  pub close_no_node : gaps 41 ≡ false

pub name-cons : (b : ℕ) (m : List ℕ) → is_name (b ∷ m) ≡ true → is_name_byte b ≡ true
name-cons b m h = (and_parts _ _ (and_parts _ _ h).1).0

pub or-right : (a b : Bool) → b ≡ true → (a || b) ≡ true
or-right true b h = refl
or-right false b h = h

-- a name has a first byte
pub name-begins : (m : List ℕ) → is_name m ≡ true → (b : ℕ) × (rest : List ℕ) × (m ≡ b ∷ rest) × (is_name_byte b ≡ true)
name-begins [] h = absurd (false≢true h)
name-begins (b ∷ m) h = (b, m, refl, name-cons b m h)

module _ (names : ℕ → Option (List ℕ)) (gaps : ℕ → Bool) (named : AreNames names) where
  begins-with : (m rest w : List ℕ) (b : ℕ) (l : List ℕ) → m ≡ b ∷ l → w ≡ m ++ rest → w ≡ b ∷ (l ++ rest)
  begins-with m rest w b l is joined = joined ∙ ap (λ x. x ++ rest) is

  pub tree-begins : (t : SyntaxTree) (w : List ℕ) → IsTreeText names gaps t w → (b : ℕ) × (rest : List ℕ) × (w ≡ b ∷ rest) × (begins_tree b ≡ true)
  tree-begins (Token k s) w h =
      let name = name-begins h.first (named.spelled k h.first h.is_first) in
      (name.0, name.1 ++ h.second, begins-with h.first h.second w name.0 name.1 name.2 h.joined, or-right _ _ name.3)
  tree-begins (Node k f) w h = (40, h.second, h.joined ∙ ap (λ x. x ++ h.second) h.is_first, refl)

gap-or-after-at : {Q : List ℕ → Type 0} (gaps : ℕ → Bool) (c : ℕ) (rest first second : List ℕ) → c ∷ rest ≡ first ++ second → IsGap gaps first → Q second → ((gaps c ≡ true) × (IsGap gaps ⨾ Q) rest) ⊎ Q (c ∷ rest)
gap-or-after-at {Q} gaps c rest [] second is gap after = inr (subst Q (sym is) after)
gap-or-after-at {Q} gaps c rest (g ∷ gs) second is gap after =
    let all = and_parts (gaps g) (list_all gaps gs) gap in
    let same : c ≡ g = cc in
    let behind : rest ≡ gs ++ second = cc in
    inl (subst (λ x. gaps x ≡ true) (sym same) all.0, record { first = gs; second = second; joined = behind; is_first = all.1; is_second = after })

pub gap-or-after : {Q : List ℕ → Type 0} (gaps : ℕ → Bool) (c : ℕ) (rest : List ℕ) → (IsGap gaps ⨾ Q) (c ∷ rest) → ((gaps c ≡ true) × (IsGap gaps ⨾ Q) rest) ⊎ Q (c ∷ rest)
gap-or-after gaps c rest h = gap-or-after-at gaps c rest h.first h.second h.joined h.is_first h.is_second

pub both : (a b : Bool) → a ≡ true → b ≡ true → (a && b) ≡ true
both true b x y = y
both false b x y = absurd (false≢true x)

pub gap-more : {Q : List ℕ → Type 0} (gaps : ℕ → Bool) (c : ℕ) (rest : List ℕ) → gaps c ≡ true → (IsGap gaps ⨾ Q) rest → (IsGap gaps ⨾ Q) (c ∷ rest)
gap-more gaps c rest is h = record { first = c ∷ h.first; second = h.second; joined = ap (λ x. c ∷ x) h.joined; is_first = both _ _ is h.is_first; is_second = h.is_second }

-- two names at the front of a text, neither of which goes on
pub same-name : (m n x y : List ℕ) → list_all is_name_byte m ≡ true → list_all is_name_byte n ≡ true → begins_with_name_byte x ≡ false → begins_with_name_byte y ≡ false → m ++ x ≡ n ++ y → (m ≡ n) × (x ≡ y)
same-name [] [] x y p q u v is = (refl, is)
same-name [] (c ∷ n) x y p q u v is = absurd (false≢true (sym u ∙ ap begins_with_name_byte is ∙ (and_parts _ _ q).0))
same-name (b ∷ m) [] x y p q u v is = absurd (false≢true (sym v ∙ ap begins_with_name_byte (sym is) ∙ (and_parts _ _ p).0))
same-name (b ∷ m) (c ∷ n) x y p q u v is =
    let same : b ≡ c = cc in
    let rest : m ++ x ≡ n ++ y = cc in
    let behind = same-name m n x y (and_parts _ _ p).1 (and_parts _ _ q).1 u v rest in
    (ap₂ (λ a l. a ∷ l) same behind.0, behind.1)
