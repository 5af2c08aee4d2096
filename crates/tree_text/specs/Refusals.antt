-- What it means that a text is refused as a tree expression, where kinds are given names, and at which of its bytes.
--     KeepsNames                    Further names of kinds: each kind that has a name keeps it, and no two kinds have the same.
--     Begins, MayBegin              An expression begins with this text; one may, if further kinds get names.
--     MayGoOn                       An expression may go on behind a front of a text as the text does: with its next byte or, at the text's
--                                   end, by ending there.
--     IsMalformed                   A text is malformed at this byte. An expression may begin with what is before it, and may not go on as
--                                   the text does. Without the part of a name at its end, what is before it begins an expression with the
--                                   names as they are.
--     LacksName                     A text lacks a name at this byte. There a name that no kind has begins, an expression begins with what
--                                   is before it, and none with that and the name. But where one kind more has the name, one begins with
--                                   that, the name and the next byte, which is no byte of a name.
--     BeginsAs                      A front of a text is that of an expression, and only of those of such trees.
--     IsTooDeepFor, IsTooDeep       A text is too deep at this byte, where trees are nested at most so deep. With the parenthesis before it,
--                                   what is before it begins an expression, and only those of trees that are nested deeper; without that
--                                   parenthesis also one of a tree that isn't; the same where the limit is 200.
--     IsRefused, IsTreeRefused      What an error says, of its byte if it has one: one thing for each of `Malformed`, `UnknownKind`,
--                                   `TooDeep` and `Tree(TooLong)`. It says nothing for `Memory`, and no other comes; the same of the tree's
--                                   own errors.
--     ReadRefusesFor, ReadRefuses   Why a text isn't read, where trees are nested at most so deep: at the byte of the error it is malformed
--                                   (`Malformed`), lacks the name of a kind (`UnknownKind`), or is too deep (`TooDeep`); or it begins only
--                                   as the expressions of trees whose text is too long (`Tree(TooLong)`); the same where the limit is 200.
--
-- `(NOPE)` and `(NOPE !)` lack a name at byte 1, since `(NOPE)` and `(NOPE ` begin an expression once a kind is called
-- `NOPE`. `(NAME !)`, `( NAME)`, `(NOPE` and `(NOPE"a")` are malformed at the bytes 6, 1, 5 and 5, whatever kinds are
-- called.
use Rattle.std.specs.Prelude.{◌≡◌, ◌≢◌, ℕ, ◌≤◌, ◌<◌, Bool, false, true, List, [], ◌∷◌, ◌++◌, length, Some, None, codes}
use Rattle.std.specs.List.{list_all}
use Rattle.cst_core.specs.Green.{IsTooLong}
use Rattle.cst_core.specs.Tree.{SyntaxTree, text}
use Rattle.cst_core.specs.TreeError.{TreeError}
use Rattle.cst_core.specs.TreeError.TheVariants as Trees
use Rattle.tree_text.specs.Depth.{depth, depth_limit}
use Rattle.tree_text.specs.Grammar.{IsExpression, begins_with_name_byte}
use Rattle.tree_text.specs.KindNames.{KindName, AreNames, is_name, is_name_byte, name_in}
use Rattle.tree_text.specs.declared.error.ExpressionError.{ExpressionError}
use Rattle.tree_text.specs.declared.error.ExpressionError.TheVariants.{Malformed, UnknownKind, TooDeep, Tree, Memory}

pub record KeepsNames (given more : List KindName) : Type 0 where
  pub names : AreNames (name_in more)
  pub keeps : (k : ℕ) (n : List ℕ) → name_in given k ≡ Some n → name_in more k ≡ Some n

abbrev pub Begins : List KindName → (ℕ → Bool) → List ℕ → Type 0
Begins given gaps w = (t : SyntaxTree) × (x : List ℕ) × IsExpression (name_in given) gaps t (w ++ x)

abbrev pub MayBegin : List KindName → (ℕ → Bool) → List ℕ → Type 0
MayBegin given gaps w = (more : List KindName) × KeepsNames given more × Begins more gaps w

abbrev pub MayGoOn : List KindName → (ℕ → Bool) → List ℕ → List ℕ → Type 0
MayGoOn given gaps w [] = (more : List KindName) × KeepsNames given more × (t : SyntaxTree) × IsExpression (name_in more) gaps t w
MayGoOn given gaps w (b ∷ rest) = MayBegin given gaps (w ++ b ∷ [])

pub record IsMalformed (given : List KindName) (gaps : ℕ → Bool) (w : List ℕ) (at : ℕ) : Type 0 where
  pub front : List ℕ
  pub name : List ℕ
  pub rest : List ℕ
  pub is : w ≡ (front ++ name) ++ rest
  pub here : at ≡ length (front ++ name)
  pub spelled : list_all is_name_byte name ≡ true
  pub begins : Begins given gaps front
  pub may_begin : MayBegin given gaps (front ++ name)
  pub stops : MayGoOn given gaps (front ++ name) rest → ⊥

pub record LacksName (given : List KindName) (gaps : ℕ → Bool) (w : List ℕ) (at : ℕ) : Type 0 where
  pub front : List ℕ
  pub name : List ℕ
  pub next : ℕ
  pub rest : List ℕ
  pub is : w ≡ (front ++ name) ++ next ∷ rest
  pub here : at ≡ length front
  pub begins : Begins given gaps front
  pub spelled : is_name name ≡ true
  pub ends : is_name_byte next ≡ false
  pub unknown : (k : ℕ) → name_in given k ≢ Some name
  pub stops : (t : SyntaxTree) (x : List ℕ) → begins_with_name_byte x ≡ false → IsExpression (name_in given) gaps t ((front ++ name) ++ x) → ⊥
  pub goes : (kind : ℕ) × (name_in given kind ≡ None) × Begins (given ++ (kind, name) ∷ []) gaps ((front ++ name) ++ next ∷ [])

pub record BeginsAs (given : List KindName) (gaps : ℕ → Bool) (Are : SyntaxTree → Type 0) (w : List ℕ) : Type 0 where
  pub front : List ℕ
  pub rest : List ℕ
  pub is : w ≡ front ++ rest
  pub goes : Begins given gaps front
  pub only : (t : SyntaxTree) (x : List ℕ) → IsExpression (name_in given) gaps t (front ++ x) → Are t

pub record IsTooDeepFor (limit : ℕ) (given : List KindName) (gaps : ℕ → Bool) (w : List ℕ) (at : ℕ) : Type 0 where
  pub front : List ℕ
  pub rest : List ℕ
  pub is : w ≡ (front ++ codes "(") ++ rest
  pub here : at ≡ length (front ++ codes "(")
  pub fits : (t : SyntaxTree) × (x : List ℕ) × IsExpression (name_in given) gaps t (front ++ x) × (depth t ≤ limit)
  pub begins : Begins given gaps (front ++ codes "(")
  pub only : (t : SyntaxTree) (x : List ℕ) → IsExpression (name_in given) gaps t ((front ++ codes "(") ++ x) → limit < depth t

abbrev pub IsTooDeep : List KindName → (ℕ → Bool) → List ℕ → ℕ → Type 0
IsTooDeep given gaps w at = IsTooDeepFor depth_limit given gaps w at

abbrev pub IsTreeRefused : Type 0 → TreeError → Type 0
IsTreeRefused long Trees.TooLong = long
IsTreeRefused long Trees.NoTreeNumber = ⊥
IsTreeRefused long Trees.Memory = ⊥

abbrev pub IsRefused : (ℕ → Type 0) → (ℕ → Type 0) → (ℕ → Type 0) → Type 0 → ExpressionError → Type 0
IsRefused malformed lacking deep long (Malformed at expected) = malformed at
IsRefused malformed lacking deep long (UnknownKind at) = lacking at
IsRefused malformed lacking deep long (TooDeep at) = deep at
IsRefused malformed lacking deep long (Tree e) = IsTreeRefused long e
IsRefused malformed lacking deep long Memory = Unit {0}

abbrev pub ReadRefusesFor : ℕ → List KindName → (ℕ → Bool) → List ℕ → ExpressionError → Type 0
ReadRefusesFor limit given gaps w = IsRefused
    (IsMalformed given gaps w)
    (LacksName given gaps w)
    (IsTooDeepFor limit given gaps w)
    (BeginsAs given gaps (λ t. IsTooLong (text t)) w)

abbrev pub ReadRefuses : List KindName → (ℕ → Bool) → List ℕ → ExpressionError → Type 0
ReadRefuses given gaps w = ReadRefusesFor depth_limit given gaps w
