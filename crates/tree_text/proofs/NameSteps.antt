-- What a character does within or behind the name of a kind.
--     empty-word, some-word             whether a byte of it was read
--     part-named                        the unread part of a name has only bytes that names may have
--     node-run, token-run               more bytes of the name
--     node-more, token-more             one more character of it
--     node-named, token-named           the name ends, and a kind has it
--     node-nameless                     it doesn't begin
--     node-followed                     what may not follow it
--     node-unknown, token-unknown       no kind has it
--     with_node, begun, node-stuck      the node that the name opens, and an error behind it
--     node-deep                         where as many parentheses are open as may be
--     token-unquoted                    where a text should begin
use Rattle.std.proofs.Common.{◌≡◌, ◌≢◌, ℕ, ◌<◌, suc, Bool, true, false, not, List, [], ◌∷◌, ◌++◌, ◌||◌, Some, None, length, refl, sym, ap, ◌∙◌, append_assoc, append-nil, subst, inl, inr, arith}
use Rattle.std.specs.Prelude.{encode_utf8, ◌==◌, codes}
use Rattle.std.specs.List.{list_all}
use Rattle.std.proofs.lemmas.Bool.{false≢true, eq-eqb, eqb-true, and_parts}
use Rattle.std.proofs.lemmas.List.Folds.{list_all-append}
use Rattle.cst_core.specs.Tree.{SyntaxTree, Token, node}
use Rattle.green_tree.specs.declared.kind.SyntaxKind.{SyntaxKind}
use Rattle.tree_text.specs.Grammar.{◌⨾◌, IsExactly, begins_with_name_byte}
use Rattle.tree_text.specs.KindNames.{KindName, AreNames, is_name, name_in, is_name_byte}
use Rattle.tree_text.specs.inner.Completing.{IsFrom, IsAfter, IsRestOfToken, OpenTree}
use Rattle.tree_text.specs.inner.Gap.{is_gap}
use Rattle.tree_text.specs.inner.OpenDepth.{IsFull}
use Rattle.tree_text.specs.inner.Reading.{Reading, IsReading, IsInside, IsLeft, IsPartOfName, Reads, CannotGoOn, Lacks, IsDeep, IsStuck, IsMisplaced, may_follow_kind, name_part, unread, with_names}
use Rattle.tree_text.specs.declared.error.ExpressionError.{ExpressionError}
use Rattle.tree_text.specs.declared.gaps.Gaps.{Gaps}
use Rattle.tree_text.specs.declared.reader.State.{State}
use Rattle.tree_text.specs.declared.reader.State.TheVariants.{Between, NodeKind, TokenKind, Text, Escape}
use Rattle.tree_text.proofs.AnyNames.{PlainReads, more-reading, with-any}
use Rattle.tree_text.proofs.Beginnings.{both}
use Rattle.tree_text.proofs.BetweenSteps.{begins-nothing}
use Rattle.tree_text.proofs.ClosedDepths.{close-within}
use Rattle.tree_text.proofs.Closing.{close-all, close-in, close-node}
use Rattle.tree_text.proofs.Completed.{open-node}
use Rattle.tree_text.proofs.FreshKinds.{fresh-kind, one-more}
use Rattle.tree_text.proofs.Names.{name_new}
use Rattle.tree_text.proofs.QuotedTexts.{before-quote}
use Rattle.tree_text.proofs.Joining.{drop-exactly}
use Rattle.tree_text.proofs.OpenTrees.{before-gap, before-close}
use Rattle.tree_text.proofs.WholeTrees.{opened, open-before, open-depth, named, name-before}
use Rattle.tree_text.proofs.EncodedBytes.{encode-ascii, first-byte, answers-first, large-at, large-gaps, large-names, small-where, are-gaps, other, neither}
use Rattle.tree_text.proofs.Refusing.{refused-weaker}
use Rattle.tree_text.proofs.Leaving.{in-state, back-in-state, past-unread, back-unread, no-root, none-whole, from-between, to-between, word-in}

ends-there : (c : ℕ) (w : List ℕ) → is_name_byte c ≡ false → begins_with_name_byte (encode_utf8 c ++ w) ≡ false
ends-there c w no_name = let f = first-byte c in subst (λ b. begins_with_name_byte (b ++ w) ≡ false) (sym f.is) (f.answers is_name_byte large-names no_name)

some-byte : (n : List ℕ) → n ≢ [] → not (length n == 0) ≡ true
some-byte [] some = absurd (some refl)
some-byte (b ∷ n) some = ap not (other (suc (length n)) 0 (λ is. absurd (omega arith)))

pub empty-word : (n : List ℕ) (b : Bool) → b ≡ (length n == 0) → b ≡ true → n ≡ []
empty-word [] b told is = refl
empty-word (x ∷ n) b told is = absurd (false≢true (sym (other (suc (length n)) 0 (λ none. absurd (omega arith))) ∙ sym told ∙ is))

pub some-word : (n : List ℕ) (b : Bool) → b ≡ (length n == 0) → b ≡ false → n ≢ []
some-word [] b told is none = false≢true (sym is ∙ told)
some-word (x ∷ n) b told is none = cc

apart-node : NodeKind ≢ Between
apart-node is = cc

apart-token : TokenKind ≢ Between
apart-token is = cc

-- one more node is open
abbrev pub with_node : Reading → ℕ → Reading
with_node r k = record r { nodes = (k, []) ∷ r.nodes; state = Between; word = [] }

abbrev between : Reading → List OpenTree → Reading
between r nodes = record r { nodes = nodes; state = Between }

pub begun : (r taken : Reading) (limit : ℕ) (nodes : List OpenTree) (k : ℕ) → taken ≡ record r { word = [] } → limit ≡ taken.limit → nodes ≡ (k, []) ∷ taken.nodes → record taken { limit = limit; nodes = nodes; state = Between } ≡ with_node r k
begun r taken limit nodes k is same more = ap (λ l. record taken { limit = l; nodes = nodes; state = Between }) same ∙ ap (between taken) more ∙ ap (λ x. between x ((k, []) ∷ x.nodes)) is

-- ---- what may follow a kind
differs : (a b : ℕ) → (a == b) ≡ false → a ≢ b
differs a b fails is = false≢true (sym fails ∙ eq-eqb a b is)

neither-of : (a b c : Bool) → (a || b || c) ≡ false → (a ≡ false) × (b ≡ false) × (c ≡ false)
neither-of true b c none = absurd (false≢true (sym none))
neither-of false true c none = absurd (false≢true (sym none))
neither-of false false c none = (refl, refl, none)

follows-ascii : (gaps : Gaps) (c : ℕ) → may_follow_kind gaps c ≡ true → c < 128
follows-ascii gaps c follows =
    small-where (may_follow_kind gaps) (λ x large. neither (x == 40 || x == 41) _ (neither (x == 40) _ (large-at 40 (omega arith) x large) (large-at 41 (omega arith) x large)) (large-gaps gaps x large)) c follows

-- behind the kind of a node such a byte goes on
abbrev Goes : List KindName → Gaps → List OpenTree → ℕ → Type 0
Goes given gaps ns c = (t : SyntaxTree) × (w : List ℕ) × IsFrom (name_in given) (is_gap gaps) ns t (c ∷ w)

goes-behind : (given : List KindName) (gaps : Gaps) → AreNames (name_in given) → (k : ℕ) (nodes : List OpenTree) (c : ℕ) → may_follow_kind gaps c ≡ true → Goes given gaps ((k, []) ∷ nodes) c
goes-behind given gaps known k nodes c follows = by (c == 40) (c == 41) (eqb-true c 40) (eqb-true c 41) follows
  where
    by : (opens closes : Bool) → (opens ≡ true → c ≡ 40) → (closes ≡ true → c ≡ 41) → (opens || closes || is_gap gaps c) ≡ true → Goes given gaps ((k, []) ∷ nodes) c
    by true closes opens' closes' follows = subst (Goes given gaps ((k, []) ∷ nodes)) (sym (opens' refl)) (open-node given gaps known ((k, []) ∷ nodes))
    by false true opens' closes' follows =
        let closed = close-all (name_in given) (is_gap gaps) nodes (node k []) refl in
        let before = before-close (name_in given) (is_gap gaps) known (are-gaps gaps) (IsAfter (name_in given) (is_gap gaps) nodes closed.0) k [] closed.1 closed.3 in
        subst (Goes given gaps ((k, []) ∷ nodes)) (sym (closes' refl)) (closed.0, closed.1, before)
    by false false opens' closes' follows =
        let closed = close-node (name_in given) (is_gap gaps) k [] nodes in
        (closed.0, closed.1, before-gap (name_in given) (is_gap gaps) known (are-gaps gaps) (IsAfter (name_in given) (is_gap gaps) nodes closed.0) k [] c closed.1 follows closed.3)

-- ---- a name that no kind has, in any spelling of what is unread
record Lacked (r : Reading) (next : ℕ) (name : List ℕ) : Type 0 where
  pub spelled : is_name name ≡ true
  pub unknown : (k : ℕ) → name_in r.given k ≢ Some name
  pub stops : (t : SyntaxTree) (x : List ℕ) → begins_with_name_byte x ≡ false → IsLeft r t (name ++ x) → ⊥
  pub kind : ℕ
  pub nameless : name_in r.given kind ≡ None
  pub goes : (t : SyntaxTree) × (w : List ℕ) × IsLeft (with_names (r.given ++ (kind, name) ∷ []) r) t (name ++ next ∷ w)

lacking : (r : Reading) (c : ℕ) → encode_utf8 c ≡ c ∷ [] → is_name_byte c ≡ false → Lacked r c (unread r) → Lacks r (encode_utf8 c)
lacking r c bytes no_name l =
    record { next = c; is = bytes; ends = no_name; spelled = l.spelled; unknown = l.unknown; stops = l.stops; kind = l.kind; nameless = l.nameless; goes = l.goes }

-- ---- the unread part of a name is read past only with all of it
pub part-named : (s : State) (word : List ℕ) → IsPartOfName s word → list_all is_name_byte (name_part s word) ≡ true
part-named Between word h = refl
part-named NodeKind word h = h
part-named TokenKind word h = (and_parts _ _ h).1
part-named (Text k) word h = refl
part-named (Escape k) word h = refl

past-apart : (c : ℕ) (past part w : List ℕ) → is_name_byte c ≡ false → encode_utf8 c ≡ past ++ part → list_all is_name_byte part ≡ true → begins_with_name_byte (past ++ w) ≡ false
past-apart c [] part w no_name is all =
    let f = first-byte c in
    let all' : list_all is_name_byte (f.first ∷ f.rest) ≡ true = subst (λ x. list_all is_name_byte x ≡ true) (sym is ∙ f.is) all in
    absurd (false≢true (sym (f.answers is_name_byte large-names no_name) ∙ (and_parts _ _ all').0))
past-apart c (b ∷ past) part w no_name is all = answers-first c b (past ++ part) is is_name_byte large-names no_name

before-apart : (c : ℕ) (before part w : List ℕ) → is_name_byte c ≡ false → encode_utf8 c ≡ (before ++ codes "(") ++ part → begins_with_name_byte w ≡ false → begins_with_name_byte (before ++ w) ≡ false
before-apart c [] part w no_name is apart = apart
before-apart c (b ∷ before) part w no_name is apart = answers-first c b ((before ++ codes "(") ++ part) is is_name_byte large-names no_name

no-node : TokenKind ≢ NodeKind
no-node is = cc

no-kind : Between ≢ NodeKind
no-kind is = cc

module _ (r : Reading) (h : IsReading r) where
  abbrev From : List OpenTree → SyntaxTree → List ℕ → Type 0
  From = IsFrom (name_in r.given) (is_gap r.gaps)

  name-bytes : (c : ℕ) → is_name_byte c ≡ true → list_all is_name_byte (encode_utf8 c) ≡ true
  name-bytes c name =
      let bytes : encode_utf8 c ≡ c ∷ [] = encode-ascii c (small-where is_name_byte large-names c name) in
      subst (λ b. list_all is_name_byte b ≡ true) (sym bytes) (both (is_name_byte c) true name refl)

  all-named : (n bs : List ℕ) → list_all is_name_byte n ≡ true → list_all is_name_byte bs ≡ true → list_all is_name_byte (n ++ bs) ≡ true
  all-named n bs all names = list_all-append is_name_byte n bs ∙ both (list_all is_name_byte n) _ all names

  not-empty : (n bs : List ℕ) → not (length n == 0) ≡ true → not (length (n ++ bs) == 0) ≡ true
  not-empty [] bs some = absurd (false≢true some)
  not-empty (b ∷ n) bs some = ap not (other (suc (length (n ++ bs))) 0 (λ is. absurd (omega arith)))

  module _ (kind : r.state ≡ NodeKind) where
    root-none : r.root ≡ None
    root-none = no-root r h (λ is. apart-node (sym kind ∙ is))

    unread-node : (word : List ℕ) → name_part r.state word ≡ word
    unread-node word = ap (λ s. name_part s word) kind

    plain-node-run : (bs : List ℕ) → list_all is_name_byte bs ≡ true → PlainReads r [] (record r { word = r.word ++ bs })
    plain-node-run bs names =
        let new : Reading = record r { word = r.word ++ bs } in
        record {
          sound = record {
            names = h.names;
            word = subst (λ s. IsPartOfName s (r.word ++ bs)) (sym kind) (all-named r.word bs (word-in r NodeKind h kind) names);
            inside = h.inside;
            whole = none-whole new root-none;
          };
          on = λ t w left. back-in-state new NodeKind t w kind (in-state r NodeKind t w kind left);
          back = λ t w left. back-in-state r NodeKind t w kind (in-state new NodeKind t w kind left);
        }

    node-known : (t : SyntaxTree) (x : List ℕ) → begins_with_name_byte x ≡ false → IsLeft r t (r.word ++ x) → (k : ℕ) × (name_in r.given k ≡ Some r.word) × From ((k, []) ∷ r.nodes) t x
    node-known t x apart left =
        opened (name_in r.given) (is_gap r.gaps) h.names (are-gaps r.gaps) r.nodes t r.word x (word-in r NodeKind h kind) apart (in-state r NodeKind t (r.word ++ x) kind left)

    node-before : (t : SyntaxTree) (k : ℕ) (x : List ℕ) → name_in r.given k ≡ Some r.word → begins_with_name_byte x ≡ false → From ((k, []) ∷ r.nodes) t x → IsLeft r t (r.word ++ x)
    node-before t k x is apart from =
        back-in-state r NodeKind t (r.word ++ x) kind (open-before (name_in r.given) (is_gap r.gaps) h.names (are-gaps r.gaps) r.nodes t k r.word x is apart from)

    -- a name that isn't there
    plain-nameless : (c : ℕ) → is_name_byte c ≡ false → r.word ≡ [] → (b : ℕ) (after : List ℕ) → encode_utf8 c ≡ b ∷ after → (t : SyntaxTree) (w : List ℕ) → IsLeft r t (unread r ++ b ∷ w) → ⊥
    plain-nameless c no_name none b after is t w left =
        let known = node-known t (b ∷ w) (answers-first c b after is is_name_byte large-names no_name) (past-unread r NodeKind t (b ∷ w) kind left) in
        false≢true (ap is_name (sym none) ∙ h.names.spelled known.0 r.word known.1)

    plain-followed : (c : ℕ) → is_name_byte c ≡ false → may_follow_kind r.gaps c ≡ false → (b : ℕ) (after : List ℕ) → encode_utf8 c ≡ b ∷ after → (t : SyntaxTree) (w : List ℕ) → IsLeft r t (unread r ++ b ∷ w) → ⊥
    plain-followed c no_name follows b after is t w left =
        let known = node-known t (b ∷ w) (answers-first c b after is is_name_byte large-names no_name) (past-unread r NodeKind t (b ∷ w) kind left) in
        let none = neither-of (c == 40) (c == 41) (is_gap r.gaps c) follows in
        begins-nothing (name_in r.given) r.gaps h.names c (differs c 40 none.0) (differs c 41 none.1) none.2 no_name ((known.0, []) ∷ r.nodes) t b after w is known.2

    node-word : r.word ≢ [] → is_name r.word ≡ true
    node-word some = both (not (length r.word == 0)) _ (some-byte r.word some) (word-in r NodeKind h kind)

    pub node-unknown : (c : ℕ) → is_name_byte c ≡ false → may_follow_kind r.gaps c ≡ true → r.word ≢ [] → ((k : ℕ) → name_in r.given k ≢ Some r.word) → Lacks r (encode_utf8 c)
    node-unknown c no_name follows some unknown =
        let free = fresh-kind r.given in
        let lacks : (n : List ℕ) → n ≡ r.word → Lacked r c n = λ n same.
        let more : List KindName = r.given ++ (free.0, r.word) ∷ [] in
        let keeps = one-more r.given free.0 r.word h.names (node-word some) unknown in
        let named : name_in more free.0 ≡ Some r.word = name_new free.0 r.word r.given free.1 in
        let closed = goes-behind more r.gaps keeps.names free.0 r.nodes c follows in
        subst (Lacked r c) (sym same) (record {
          spelled = node-word some;
          unknown = unknown;
          stops = λ t x apart left. let known = node-known t x apart left in unknown known.0 known.1;
          kind = free.0;
          nameless = free.1;
          goes = (closed.0, closed.1, back-in-state (with_names more r) NodeKind closed.0 (r.word ++ c ∷ closed.1) kind (open-before (name_in more) (is_gap r.gaps) keeps.names (are-gaps r.gaps) r.nodes closed.0 free.0 r.word (c ∷ closed.1) named no_name closed.2));
        }) in
        lacking r c (encode-ascii c (follows-ascii r.gaps c follows)) no_name (lacks (unread r) (unread-node r.word))

    pub node-deep : IsFull r.limit r.nodes → IsDeep r
    node-deep full = record {
      opens = kind;
      fits = close-within (name_in r.given) (is_gap r.gaps) r.limit r.nodes full;
      only = λ t w left.
          let below = open-depth (name_in r.given) (is_gap r.gaps) h.names (are-gaps r.gaps) r.nodes t w (in-state r NodeKind t w kind left) in
          let many = full.1 in
          omega (arith, many, below);
    }

    pub node-reading : (k : ℕ) → IsReading (with_node r k)
    node-reading k = record { names = h.names; word = refl; inside = tt; whole = none-whole (with_node r k) root-none }

    plain-on : (k : ℕ) → name_in r.given k ≡ Some r.word → (t : SyntaxTree) (x : List ℕ) → begins_with_name_byte x ≡ false → IsLeft r t (r.word ++ x) → IsLeft (with_node r k) t x
    plain-on k is t x apart left =
        let known = node-known t x apart left in
        to-between (with_node r k) t x refl root-none (subst (λ j. From ((j, []) ∷ r.nodes) t x) (h.names.unique known.0 k r.word known.1 is) known.2)

    plain-back : (k : ℕ) → name_in r.given k ≡ Some r.word → (t : SyntaxTree) (x : List ℕ) → begins_with_name_byte x ≡ false → IsLeft (with_node r k) t x → IsLeft r t (r.word ++ x)
    plain-back k is t x apart left = node-before t k x is apart (from-between (with_node r k) t x refl root-none left)

  module _ (kind : r.state ≡ TokenKind) where
    root-none' : r.root ≡ None
    root-none' = no-root r h (λ is. apart-token (sym kind ∙ is))

    unread-token : (word : List ℕ) → name_part r.state word ≡ word
    unread-token word = ap (λ s. name_part s word) kind

    plain-token-run : (bs : List ℕ) → list_all is_name_byte bs ≡ true → PlainReads r [] (record r { word = r.word ++ bs })
    plain-token-run bs names =
        let new : Reading = record r { word = r.word ++ bs } in
        let word = and_parts _ _ (word-in r TokenKind h kind) in
        record {
          sound = record {
            names = h.names;
            word = subst (λ s. IsPartOfName s (r.word ++ bs)) (sym kind) (both (not (length (r.word ++ bs) == 0)) _ (not-empty r.word bs word.0) (all-named r.word bs word.1 names));
            inside = h.inside;
            whole = none-whole new root-none';
          };
          on = λ t w left. back-in-state new TokenKind t w kind (in-state r TokenKind t w kind left);
          back = λ t w left. back-in-state r TokenKind t w kind (in-state new TokenKind t w kind left);
        }

    token-known : (t : SyntaxTree) (x : List ℕ) → begins_with_name_byte x ≡ false → IsLeft r t (r.word ++ x) → (k : ℕ) × (name_in r.given k ≡ Some r.word) × (IsExactly (codes "\"") ⨾ IsRestOfToken (IsAfter (name_in r.given) (is_gap r.gaps) r.nodes t) k []) x
    token-known t x apart left =
        named (name_in r.given) (is_gap r.gaps) h.names (are-gaps r.gaps) r.nodes t r.word x (word-in r TokenKind h kind) apart (in-state r TokenKind t (r.word ++ x) kind left)

    pub token-unknown : (c : ℕ) → c ≡ 34 → ((k : ℕ) → name_in r.given k ≢ Some r.word) → Lacks r (encode_utf8 c)
    token-unknown c quote unknown =
        let free = fresh-kind r.given in
        let spelled = word-in r TokenKind h kind in
        let lacks : (n : List ℕ) → n ≡ r.word → Lacked r 34 n = λ n same.
        let more : List KindName = r.given ++ (free.0, r.word) ∷ [] in
        let keeps = one-more r.given free.0 r.word h.names spelled unknown in
        let named' : name_in more free.0 ≡ Some r.word = name_new free.0 r.word r.given free.1 in
        let in-node = subst (λ s. IsInside s r.nodes) kind h.inside in
        let closed = close-in (name_in more) (is_gap r.gaps) r.nodes in-node (Token free.0 []) in
        let quoted = before-quote (IsAfter (name_in more) (is_gap r.gaps) r.nodes closed.0) free.0 [] closed.1 closed.3 in
        subst (Lacked r 34) (sym same) (record {
          spelled = spelled;
          unknown = unknown;
          stops = λ t x apart left. let known = token-known t x apart left in unknown known.0 known.1;
          kind = free.0;
          nameless = free.1;
          goes = (closed.0, 34 ∷ closed.1, back-in-state (with_names more r) TokenKind closed.0 (r.word ++ 34 ∷ 34 ∷ closed.1) kind (name-before (name_in more) (is_gap r.gaps) keeps.names (are-gaps r.gaps) r.nodes closed.0 free.0 r.word (34 ∷ closed.1) named' quoted));
        }) in
        subst (λ x. Lacks r (encode_utf8 x)) (sym quote) (lacking r 34 (encode-ascii 34 (omega arith)) refl (lacks (unread r) (unread-token r.word)))

    plain-unquoted : (c : ℕ) → is_name_byte c ≡ false → c ≢ 34 → (b : ℕ) (after : List ℕ) → encode_utf8 c ≡ b ∷ after → (t : SyntaxTree) (w : List ℕ) → IsLeft r t (unread r ++ b ∷ w) → ⊥
    plain-unquoted c no_name no_quote b after is t w left =
        let quoted = (token-known t (b ∷ w) (answers-first c b after is is_name_byte large-names no_name) (past-unread r TokenKind t (b ∷ w) kind left)).2 in
        let begins : b ∷ w ≡ 34 ∷ quoted.second = quoted.joined ∙ ap (λ x. x ++ quoted.second) quoted.is_first in
        let same : b ≡ 34 = cc in
        false≢true (sym (answers-first c b after is (λ x. x == 34) (large-at 34 (omega arith)) (other c 34 no_quote)) ∙ eq-eqb b 34 same)

    plain-named : (c : ℕ) (k : SyntaxKind) → c ≡ 34 → name_in r.given k.0 ≡ Some r.word → PlainReads r (r.word ++ encode_utf8 c) (record r { state = Text k; word = [] })
    plain-named c k quote is =
        let bytes : encode_utf8 c ≡ 34 ∷ [] = ap encode_utf8 quote ∙ encode-ascii 34 (omega arith) in
        let split : (w : List ℕ) → (r.word ++ encode_utf8 c) ++ w ≡ r.word ++ 34 ∷ w = λ w. append_assoc r.word (encode_utf8 c) w ∙ ap (λ b. r.word ++ (b ++ w)) bytes in
        record {
          sound = record { names = h.names; word = tt; inside = subst (λ s. IsInside s r.nodes) kind h.inside; whole = none-whole (record r { state = Text k; word = [] }) root-none' };
          on = λ t w left.
              let known = token-known t (34 ∷ w) refl (subst (IsLeft r t) (split w) left) in
              let rest = drop-exactly (codes "\"") w known.2 in
              subst (λ j. IsRestOfToken (IsAfter (name_in r.given) (is_gap r.gaps) r.nodes t) j [] w) (h.names.unique known.0 k.0 r.word known.1 is) rest;
          back = λ t w left.
              subst (IsLeft r t) (sym (split w)) (back-in-state r TokenKind t (r.word ++ 34 ∷ w) kind (name-before (name_in r.given) (is_gap r.gaps) h.names (are-gaps r.gaps) r.nodes t k.0 r.word w is left));
        }

-- ---- whatever further names kinds have
module _ (r : Reading) (h : IsReading r) where
  module _ (kind : r.state ≡ NodeKind) where
    pub node-run : (bs : List ℕ) → list_all is_name_byte bs ≡ true → Reads r bs (record r { word = r.word ++ bs })
    node-run bs names =
        let new : Reading = record r { word = r.word ++ bs } in
        with-any r bs [] new h refl refl (ap (λ x. x ++ bs) (unread-node r h kind r.word) ∙ sym (unread-node r h kind (r.word ++ bs))) (λ node. inr (kind, refl, refl, refl)) (λ more m. plain-node-run (with_names more r) (more-reading r h more m) kind bs names)

    pub node-more : (c : ℕ) → is_name_byte c ≡ true → Reads r (encode_utf8 c) (record r { word = r.word ++ encode_utf8 c })
    node-more c name = node-run (encode_utf8 c) (name-bytes r h c name)

    pub node-nameless : (c : ℕ) → is_name_byte c ≡ false → r.word ≡ [] → CannotGoOn r (encode_utf8 c)
    node-nameless c no_name none b after is more m = plain-nameless (with_names more r) (more-reading r h more m) kind c no_name none b after is

    pub node-followed : (c : ℕ) → is_name_byte c ≡ false → may_follow_kind r.gaps c ≡ false → CannotGoOn r (encode_utf8 c)
    node-followed c no_name follows b after is more m = plain-followed (with_names more r) (more-reading r h more m) kind c no_name follows b after is

    -- behind the name the same character is read between elements
    pub node-named : (c k : ℕ) (new : Reading) → is_name_byte c ≡ false → name_in r.given k ≡ Some r.word → Reads (with_node r k) (encode_utf8 c) new → Reads r (encode_utf8 c) new
    node-named c k new no_name is reads = record {
      sound = reads.sound;
      names = reads.names;
      limit = reads.limit;
      past = r.word ++ reads.past;
      is = ap (λ x. x ++ encode_utf8 c) (unread-node r h kind r.word) ∙ ap (λ x. r.word ++ x) reads.is ∙ sym (append_assoc r.word reads.past (unread new));
      opens = λ node. elim (reads.opens node) [
        | inl o ↦ inl (record {
          before = r.word ++ o.before;
          is = ap (λ x. r.word ++ x) o.is ∙ sym (append_assoc r.word o.before (codes "("));
          back = λ t w apart from. subst (IsLeft r t) (sym (append_assoc r.word o.before w)) (plain-back r h kind k is t (o.before ++ w) (before-apart c o.before (unread new) w no_name (reads.is ∙ ap (λ x. x ++ unread new) o.is) apart) (o.back t w apart from));
        })
        | inr same ↦ absurd (no-kind same.0)
      ];
      each = λ more m.
          let same = reads.each more m in
          let r' = with_names more r in
          let h' = more-reading r h more m in
          let is' = m.keeps k r.word is in
          let apart : (w : List ℕ) → begins_with_name_byte (reads.past ++ w) ≡ false = λ w. past-apart c reads.past (unread new) w no_name reads.is (part-named new.state new.word reads.sound.word) in
          record {
            on = λ t w left. same.on t w (plain-on r' h' kind k is' t (reads.past ++ w) (apart w) (subst (IsLeft r' t) (append_assoc r.word reads.past w) left));
            back = λ t w left. subst (IsLeft r' t) (sym (append_assoc r.word reads.past w)) (plain-back r' h' kind k is' t (reads.past ++ w) (apart w) (same.back t w left));
          };
    }

    pub node-stuck : (at c k : ℕ) (e : ExpressionError) → is_name_byte c ≡ false → name_in r.given k ≡ Some r.word → IsMisplaced (with_node r k) at (encode_utf8 c) e → IsStuck r at (encode_utf8 c) e
    node-stuck at c k e no_name is stuck =
        refused-weaker e _ _ _ _ _ _ _ _
        (λ x none. (
          none.0,
          λ b after first more m t w left. none.1 b after first more m t w (plain-on (with_names more r) (more-reading r h more m) kind k (m.keeps k r.word is) t (b ∷ w) (answers-first c b after first is_name_byte large-names no_name) (past-unread (with_names more r) NodeKind t (b ∷ w) kind left)),
        ))
        (λ x lacks. absurd lacks) (λ x deep. absurd deep) (λ long. record {
          goes = (long.goes.0, long.goes.1, back-unread r NodeKind long.goes.0 (encode_utf8 c ++ long.goes.1) kind (plain-back r h kind k is long.goes.0 (encode_utf8 c ++ long.goes.1) (ends-there c long.goes.1 no_name) long.goes.2));
          only = λ t w left. long.only t w (plain-on r h kind k is t (encode_utf8 c ++ w) (ends-there c w no_name) (past-unread r NodeKind t (encode_utf8 c ++ w) kind left));
        }) stuck

  module _ (kind : r.state ≡ TokenKind) where
    pub token-run : (bs : List ℕ) → list_all is_name_byte bs ≡ true → Reads r bs (record r { word = r.word ++ bs })
    token-run bs names =
        let new : Reading = record r { word = r.word ++ bs } in
        with-any r bs [] new h refl refl (ap (λ x. x ++ bs) (unread-token r h kind r.word) ∙ sym (unread-token r h kind (r.word ++ bs))) (λ node. absurd (no-node (sym kind ∙ node))) (λ more m. plain-token-run (with_names more r) (more-reading r h more m) kind bs names)

    pub token-more : (c : ℕ) → is_name_byte c ≡ true → Reads r (encode_utf8 c) (record r { word = r.word ++ encode_utf8 c })
    token-more c name = token-run (encode_utf8 c) (name-bytes r h c name)

    pub token-unquoted : (c : ℕ) → is_name_byte c ≡ false → c ≢ 34 → CannotGoOn r (encode_utf8 c)
    token-unquoted c no_name no_quote b after is more m = plain-unquoted (with_names more r) (more-reading r h more m) kind c no_name no_quote b after is

    pub token-named : (c : ℕ) (k : SyntaxKind) → c ≡ 34 → name_in r.given k.0 ≡ Some r.word → Reads r (encode_utf8 c) (record r { state = Text k; word = [] })
    token-named c k quote is =
        with-any r (encode_utf8 c) (r.word ++ encode_utf8 c) (record r { state = Text k; word = [] }) h refl refl (ap (λ x. x ++ encode_utf8 c) (unread-token r h kind r.word) ∙ sym (append-nil (r.word ++ encode_utf8 c))) (λ node. cc)
        (λ more m. plain-named (with_names more r) (more-reading r h more m) kind c k quote (m.keeps k.0 r.word is))
