-- How an expression begins and ends.
--     expression-begins, expression-ends      a parenthesis
--     begins-so, ends-so                      so no space
use Rattle.std.proofs.Common.{◌≡◌, ℕ, Bool, true, false, List, [], ◌∷◌, ◌++◌, Option, sym, ◌∙◌, ap, append_assoc, arith}
use Rattle.cst_core.specs.Tree.{SyntaxTree, Token, Node}
use Rattle.tree_text.specs.Grammar.{IsExpression}
use Rattle.script_lines.proofs.Ends.{BeginsNot, EndsNot}

pub expression-begins : (names : ℕ → Option (List ℕ)) (gaps : ℕ → Bool) (root : SyntaxTree) (w : List ℕ) → IsExpression names gaps root w → (t : List ℕ) × (w ≡ 40 ∷ t)
expression-begins names gaps (Token k s) w is = let no : true ≡ false = is.0 in absurd (cc)
expression-begins names gaps (Node k f) w is = let j = is.1 in (j.second, j.joined ∙ ap (λ l. l ++ j.second) j.is_first)

pub expression-ends : (names : ℕ → Option (List ℕ)) (gaps : ℕ → Bool) (root : SyntaxTree) (w : List ℕ) → IsExpression names gaps root w → (t : List ℕ) × (w ≡ t ++ 41 ∷ [])
expression-ends names gaps (Token k s) w is = let no : true ≡ false = is.0 in absurd (cc)
expression-ends names gaps (Node k f) w is =
    let open_ = is.1 in
    let kind = open_.is_second in
    let close = kind.is_second in
    let last : close.second ≡ 41 ∷ [] = close.is_second in
    (open_.first ++ (kind.first ++ close.first), open_.joined ∙ ap (λ l. open_.first ++ l) (kind.joined ∙ ap (λ l. kind.first ++ l) (close.joined ∙ ap (λ l. close.first ++ l) last)) ∙ regroup open_.first kind.first close.first (41 ∷ [])) where
      regroup : (a b c d : List ℕ) → a ++ (b ++ (c ++ d)) ≡ (a ++ (b ++ c)) ++ d
      regroup a b c d = ap (λ l. a ++ l) (sym (append_assoc b c d)) ∙ sym (append_assoc a (b ++ c) d)

pub begins-so : (w t rest : List ℕ) → w ≡ 40 ∷ t → BeginsNot (w ++ rest)
begins-so w t rest is u space =
    let e : 40 ∷ (t ++ rest) ≡ 32 ∷ u = sym (ap (λ l. l ++ rest) is) ∙ space in
    let same : ◌≡◌ {A = ℕ} 40 32 = cc in
    absurd (omega arith)

nothing-last : (u : List ℕ) (d : ℕ) → u ++ d ∷ [] ≡ [] → ⊥
nothing-last [] d is = cc
nothing-last (e ∷ u) d is = cc

last-of : (t u : List ℕ) (c d : ℕ) → t ++ c ∷ [] ≡ u ++ d ∷ [] → c ≡ d
last-of [] [] c d is = cc
last-of [] (e ∷ u) c d is = let none : u ++ d ∷ [] ≡ [] = cc in absurd (nothing-last u d none)
last-of (e ∷ t) [] c d is = let none : t ++ c ∷ [] ≡ [] = cc in absurd (nothing-last t c none)
last-of (e ∷ t) (f ∷ u) c d is = let rest : t ++ c ∷ [] ≡ u ++ d ∷ [] = cc in last-of t u c d rest

pub ends-so : (w t : List ℕ) → w ≡ t ++ 41 ∷ [] → EndsNot w
ends-so w t is u space =
    let same : ◌≡◌ {A = ℕ} 41 32 = last-of t u 41 32 (sym is ∙ space) in
    absurd (omega arith)
