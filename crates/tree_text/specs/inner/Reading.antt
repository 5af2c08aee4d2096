-- A reader of tree expressions, and what it makes of what is left of the text.
--     Reading, reading       what a reader has read: what its next byte belongs to, the word that it reads, the open nodes and how
--                            many may be open, the whole tree; that of this reader
--     first_reading          one that has read nothing
--     is_nil, is_outside     a list has nothing; a byte that may not stand outside the outermost node
--     may_follow_kind        a byte that may stand right behind the kind of a node: a parenthesis, or one of a gap
--     name_part, unread      the bytes of a name that hasn't ended yet, which count as unread; those of this reader
--     IsPartOfName           the word that is read, as far as a name goes
--     IsInside               a node is open, where the next byte belongs to a token
--     IsWhole, IsReading     the whole tree, once its last parenthesis was read; what is read so far goes together
--     IsLeft, IsLeftIn, IsLeftOutside      what may be left where the expression is that of a given tree, the unread bytes of a name
--                            first: in any state, in this one, and between elements
--     with_names             the same reading, where kinds are given other names
--     SameLeft               past these bytes a reader has read this: what may be left is the same, without them
--     Opened, Opens          with these bytes it opens a node, and any tree that may be left where that one isn't open may be left before
--                            its parenthesis; a reader of a node's kind has so, or had and has read nothing
--     Reads                  after these bytes it has, whatever further names kinds have: it is past them and what was unread, but
--                            for what is unread now
--     ReadsUpTo              it has read this text up to what is left of it
--     GoesOn                 bytes that only make the word longer, by what the first of them belongs to
--     CannotGoOn             nothing may be left that begins with the first of these bytes, whatever further names kinds have
--     CannotEnd              something must be left, whatever further names kinds have
--     Lacks                  nothing may be left that goes on with the unread name; but something may that goes on with it and these
--                            bytes, where one kind more has it
--     IsDeep                 a node is opened, and something may be left only for trees that are too deep; not so where it isn't open
--     GoesOnAs               something may be left behind these bytes, and only for such trees
--     IsStuck                an error where these bytes come, at a byte: what it says of all that may be left
--     IsMisplaced            an error of bytes that come between elements or in a text
use Rattle.std.specs.Prelude.{◌≡◌, ◌≢◌, ◌⊎◌, ℕ, ◌-◌, ◌≤◌, ◌<◌, Bool, true, false, not, ◌&&◌, ◌||◌, ◌==◌, List, [], ◌∷◌, ◌++◌, length, Option, Some, None, is_some, codes, string_bytes}
use Rattle.std.specs.List.{list_all}
use Rattle.cst_core.specs.Green.{Branch, branch_tree, IsTooLong}
use Rattle.cst_core.specs.Tree.{SyntaxTree, text}
use Rattle.tree_text.specs.Depth.{depth}
use Rattle.tree_text.specs.Grammar.{begins_with_name_byte}
use Rattle.tree_text.specs.KindNames.{KindName, AreNames, is_name, is_name_byte, name_in}
use Rattle.tree_text.specs.Refusals.{IsRefused, KeepsNames}
use Rattle.tree_text.specs.inner.Completing.{OpenTree, IsAfter, IsFrom, IsRestOfToken}
use Rattle.tree_text.specs.inner.Gap.{is_gap}
use Rattle.tree_text.specs.inner.Nowhere.{Nowhere}
use Rattle.tree_text.specs.inner.OpenTrees.{open_trees}
use Rattle.tree_text.specs.declared.error.ExpressionError.{ExpressionError}
use Rattle.tree_text.specs.declared.gaps.Gaps.{Gaps}
use Rattle.tree_text.specs.declared.reader.Reader.{Reader}
use Rattle.tree_text.specs.declared.reader.State.{State}
use Rattle.tree_text.specs.declared.reader.State.TheVariants.{Between, NodeKind, TokenKind, Text, Escape}

pub record Reading : Type 0 where
  pub given : List KindName
  pub gaps : Gaps
  pub limit : ℕ
  pub nodes : List OpenTree
  pub state : State
  pub word : List ℕ
  pub root : Option Branch

abbrev pub reading : Reader → Reading
reading r = record {
  given = r.names.now;
  gaps = r.gaps;
  limit = r.open.limit;
  nodes = open_trees r.open.nodes.items;
  state = r.state;
  word = string_bytes r.word;
  root = r.root;
}

abbrev pub first_reading : List KindName → Gaps → ℕ → Reading
first_reading given gaps limit =
    record { given = given; gaps = gaps; limit = limit; nodes = []; state = Between; word = []; root = None }

abbrev pub is_nil : {A : Type 0} → List A → Bool
is_nil [] = true
is_nil (x ∷ xs) = false

abbrev pub is_outside : Reading → ℕ → Bool
is_outside r c = is_nil r.nodes && (not (c == 40) || is_some r.root)

abbrev pub may_follow_kind : Gaps → ℕ → Bool
may_follow_kind gaps b = b == 40 || b == 41 || is_gap gaps b

abbrev pub name_part : State → List ℕ → List ℕ
name_part Between w = []
name_part NodeKind w = w
name_part TokenKind w = w
name_part (Text k) w = []
name_part (Escape k) w = []

abbrev pub unread : Reading → List ℕ
unread r = name_part r.state r.word

abbrev pub IsPartOfName : State → List ℕ → Type 0
IsPartOfName Between w = w ≡ []
IsPartOfName NodeKind w = list_all is_name_byte w ≡ true
IsPartOfName TokenKind w = is_name w ≡ true
IsPartOfName (Text k) w = Unit {0}
IsPartOfName (Escape k) w = Unit {0}

pub record IsWhole (r : Reading) (n : Branch) : Type 0 where
  pub limited : depth (branch_tree n) ≤ r.limit
  pub between : r.state ≡ Between
  pub closed : r.nodes ≡ []

-- a token stands in a node
abbrev pub IsInside : State → List OpenTree → Type 0
IsInside Between nodes = Unit {0}
IsInside NodeKind nodes = Unit {0}
IsInside TokenKind nodes = nodes ≢ []
IsInside (Text k) nodes = nodes ≢ []
IsInside (Escape k) nodes = nodes ≢ []

pub record IsReading (r : Reading) : Type 0 where
  pub names : AreNames (name_in r.given)
  pub word : IsPartOfName r.state r.word
  pub inside : IsInside r.state r.nodes
  pub whole : (n : Branch) → r.root ≡ Some n → IsWhole r n

abbrev pub IsLeftOutside : List KindName → Gaps → List OpenTree → Option Branch → SyntaxTree → List ℕ → Type 0
IsLeftOutside given gaps nodes None t w = IsFrom (name_in given) (is_gap gaps) nodes t w
IsLeftOutside given gaps nodes (Some n) t w = (branch_tree n ≡ t) × (w ≡ [])

abbrev pub IsLeftIn : State → Reading → SyntaxTree → List ℕ → Type 0
IsLeftIn Between r t w = IsLeftOutside r.given r.gaps r.nodes r.root t w
IsLeftIn NodeKind r t w = IsFrom (name_in r.given) (is_gap r.gaps) r.nodes t (codes "(" ++ w)
IsLeftIn TokenKind r t w = IsFrom (name_in r.given) (is_gap r.gaps) r.nodes t w
IsLeftIn (Text k) r t w = IsRestOfToken (IsAfter (name_in r.given) (is_gap r.gaps) r.nodes t) k.0 r.word w
IsLeftIn (Escape k) r t w =
    IsRestOfToken (IsAfter (name_in r.given) (is_gap r.gaps) r.nodes t) k.0 r.word (codes "\\" ++ w)

abbrev pub IsLeft : Reading → SyntaxTree → List ℕ → Type 0
IsLeft r = IsLeftIn r.state r

abbrev pub with_names : List KindName → Reading → Reading
with_names given r = record r { given = given }

pub record SameLeft (old : Reading) (past : List ℕ) (new : Reading) : Type 0 where
  pub on : (t : SyntaxTree) (w : List ℕ) → IsLeft old t (past ++ w) → IsLeft new t w
  pub back : (t : SyntaxTree) (w : List ℕ) → IsLeft new t w → IsLeft old t (past ++ w)

pub record Opened (old : Reading) (past : List ℕ) (new : Reading) : Type 0 where
  pub before : List ℕ
  pub is : past ≡ before ++ codes "("
  pub back : (t : SyntaxTree) (w : List ℕ) → begins_with_name_byte w ≡ false → IsFrom (name_in old.given) (is_gap new.gaps) new.nodes t w → IsLeft old t (before ++ w)

abbrev pub Opens : Reading → List ℕ → Reading → Type 0
Opens old past new =
    new.state ≡ NodeKind → Opened old past new ⊎ ((old.state ≡ NodeKind) × (past ≡ []) × (new.nodes ≡ old.nodes) × (new.gaps ≡ old.gaps))

pub record Reads (old : Reading) (bytes : List ℕ) (new : Reading) : Type 0 where
  pub sound : IsReading new
  pub names : new.given ≡ old.given
  pub limit : new.limit ≡ old.limit
  pub past : List ℕ
  pub is : unread old ++ bytes ≡ past ++ unread new
  pub opens : Opens old past new
  pub each : (more : List KindName) → KeepsNames old.given more → SameLeft (with_names more old) past (with_names more new)

abbrev pub ReadsUpTo : Reading → List ℕ → List ℕ → Reading → Type 0
ReadsUpTo old text left new = (taken : List ℕ) × (text ≡ taken ++ left) × Reads old taken new

abbrev pub GoesOn : State → List ℕ → Type 0
GoesOn Between bytes = bytes ≡ []
GoesOn NodeKind bytes = list_all is_name_byte bytes ≡ true
GoesOn TokenKind bytes = list_all is_name_byte bytes ≡ true
GoesOn (Text k) bytes = list_all (λ b. not (b == 34 || b == 92)) bytes ≡ true
GoesOn (Escape k) bytes = bytes ≡ []

abbrev pub CannotGoOn : Reading → List ℕ → Type 0
CannotGoOn r bytes =
    (b : ℕ) (after : List ℕ) → bytes ≡ b ∷ after → (more : List KindName) → KeepsNames r.given more
    → (t : SyntaxTree) (w : List ℕ) → IsLeft (with_names more r) t (unread r ++ b ∷ w) → ⊥

abbrev pub CannotEnd : Reading → Type 0
CannotEnd r = (more : List KindName) → KeepsNames r.given more → (t : SyntaxTree) → IsLeft (with_names more r) t (unread r) → ⊥

pub record Lacks (r : Reading) (bytes : List ℕ) : Type 0 where
  pub next : ℕ
  pub is : bytes ≡ next ∷ []
  pub ends : is_name_byte next ≡ false
  pub spelled : is_name (unread r) ≡ true
  pub unknown : (k : ℕ) → name_in r.given k ≢ Some (unread r)
  pub stops : (t : SyntaxTree) (x : List ℕ) → begins_with_name_byte x ≡ false → IsLeft r t (unread r ++ x) → ⊥
  pub kind : ℕ
  pub nameless : name_in r.given kind ≡ None
  pub goes : (t : SyntaxTree) × (w : List ℕ) × IsLeft (with_names (r.given ++ (kind, unread r) ∷ []) r) t (unread r ++ next ∷ w)

pub record IsDeep (r : Reading) : Type 0 where
  pub opens : r.state ≡ NodeKind
  pub fits : (t : SyntaxTree) × (w : List ℕ) × (begins_with_name_byte w ≡ false) × IsFrom (name_in r.given) (is_gap r.gaps) r.nodes t w × (depth t ≤ r.limit)
  pub only : (t : SyntaxTree) (w : List ℕ) → IsLeft r t w → r.limit < depth t

pub record GoesOnAs (r : Reading) (bytes : List ℕ) (Are : SyntaxTree → Type 0) : Type 0 where
  pub goes : (t : SyntaxTree) × (w : List ℕ) × IsLeft r t (unread r ++ (bytes ++ w))
  pub only : (t : SyntaxTree) (w : List ℕ) → IsLeft r t (unread r ++ (bytes ++ w)) → Are t

abbrev pub IsStuck : Reading → ℕ → List ℕ → ExpressionError → Type 0
IsStuck r at bytes = IsRefused
    (λ x. (x ≡ at) × CannotGoOn r bytes)
    (λ x. (x ≡ at - length (unread r)) × Lacks r bytes)
    (λ x. (x ≡ at - length (unread r)) × IsDeep r)
    (GoesOnAs r bytes (λ t. IsTooLong (text t)))

abbrev pub IsMisplaced : Reading → ℕ → List ℕ → ExpressionError → Type 0
IsMisplaced r at bytes = IsRefused (λ x. (x ≡ at) × CannotGoOn r bytes) Nowhere Nowhere (GoesOnAs r bytes (λ t. IsTooLong (text t)))
