-- What a character does within a quoted text, and where a token or a node ends.
--     text-run                                  bytes that stand for themselves
--     text-more, begins-escape, ends-escape     a character that stands for itself, a backslash, and what follows it
--     no-escape                                 what may not follow it
--     ends-token, ends-node, ends-tree          the quote that ends a token; the parenthesis that closes a node, and the outermost one
--     token-long, token-nowhere, node-long      where that is refused
use Rattle.std.proofs.Common.{◌≡◌, ◌≢◌, ℕ, ◌≤◌, ◌<◌, Bool, true, false, not, ◌&&◌, ◌||◌, cond, List, [], ◌∷◌, ◌++◌, Option, Some, None, is_some, refl, sym, ap, ◌∙◌, subst, arith}
use Rattle.std.specs.Prelude.{encode_utf8, ◌==◌}
use Rattle.std.specs.List.{list_all}
use Rattle.std.proofs.lemmas.Bool.{false≢true}
use Rattle.cst_core.specs.Green.{Branch, branch_tree, IsTooLong}
use Rattle.cst_core.specs.Tree.{SyntaxTree, Token, node, text}
use Rattle.green_tree.specs.declared.kind.SyntaxKind.{SyntaxKind}
use Rattle.tree_text.specs.Depth.{depth}
use Rattle.tree_text.specs.KindNames.{name_in}
use Rattle.tree_text.specs.inner.Completing.{IsFrom, IsAfter, IsRestOfToken, OpenTree}
use Rattle.tree_text.specs.inner.Gap.{is_gap}
use Rattle.tree_text.specs.inner.Meant.{meant}
use Rattle.tree_text.specs.inner.OpenTrees.{HasPut, IsInnermostLong}
use Rattle.tree_text.specs.inner.Reading.{Reading, IsReading, IsInside, IsWhole, IsLeft, IsPartOfName, Reads, CannotGoOn, GoesOnAs, is_outside, is_nil, name_part, unread, with_names}
use Rattle.tree_text.specs.declared.reader.State.TheVariants.{Between, NodeKind, Text, Escape}
use Rattle.tree_text.proofs.AnyNames.{PlainReads, more-reading, with-any}
use Rattle.tree_text.proofs.Closing.{close-in, close-all}
use Rattle.tree_text.proofs.OpenTrees.{before-close, past-close}
use Rattle.tree_text.proofs.QuotedTexts.{past-quote, before-quote, past-plain, before-plain, past-escape, before-escape}
use Rattle.tree_text.proofs.WholeTrees.{after-length}
use Rattle.tree_text.proofs.EncodedBytes.{encode-ascii, answers-first, plain-bytes, large-at, small-where, are-gaps, other, neither}
use Rattle.tree_text.proofs.Leaving.{in-state, back-in-state, unread-in, past-unread, back-unread, all-past, no-root, no-root-inside, none-whole, from-between, to-between}

apart-text : (k : SyntaxKind) → Text k ≢ Between
apart-text k is = cc

apart-escape : (k : SyntaxKind) → Escape k ≢ Between
apart-escape k is = cc

no-node-text : (k : SyntaxKind) → Text k ≢ NodeKind
no-node-text k is = cc

no-node-between : Between ≢ NodeKind
no-node-between is = cc

large-meant : (x : ℕ) → 128 ≤ x → is_some (meant x) ≡ false
large-meant x large = unmeant (x == 110) (x == 114) (x == 116) (x == 34) (x == 92) (large-at 110 (omega arith) x large) (large-at 114 (omega arith) x large) (large-at 116 (omega arith) x large) (large-at 34 (omega arith) x large) (large-at 92 (omega arith) x large)
  where
    unmeant : (n d t q s : Bool) → n ≡ false → d ≡ false → t ≡ false → q ≡ false → s ≡ false → is_some {T = ℕ} (cond n (Some 10) (cond d (Some 13) (cond t (Some 9) (cond q (Some 34) (cond s (Some 92) None))))) ≡ false
    unmeant true d t q s n' d' t' q' s' = absurd (false≢true (sym n'))
    unmeant false true t q s n' d' t' q' s' = absurd (false≢true (sym d'))
    unmeant false false true q s n' d' t' q' s' = absurd (false≢true (sym t'))
    unmeant false false false true s n' d' t' q' s' = absurd (false≢true (sym q'))
    unmeant false false false false true n' d' t' q' s' = absurd (false≢true (sym s'))
    unmeant false false false false false n' d' t' q' s' = refl

letter-ascii : (c m : ℕ) → meant c ≡ Some m → c < 128
letter-ascii c m is = small-where (λ x. is_some (meant x)) large-meant c (ap is_some is)

meant-ascii : (c m : ℕ) → meant c ≡ Some m → m < 128
meant-ascii c m is = of-tests (c == 110) (c == 114) (c == 116) (c == 34) (c == 92) is
  where
    smaller : (a : ℕ) → a < 128 → Some a ≡ Some m → m < 128
    smaller a small same = let it : a ≡ m = cc in subst (λ x. x < 128) it small

    of-tests : (n d t q s : Bool) → cond n (Some 10) (cond d (Some 13) (cond t (Some 9) (cond q (Some 34) (cond s (Some 92) None)))) ≡ Some m → m < 128
    of-tests true d t q s is = smaller 10 (omega arith) is
    of-tests false true t q s is = smaller 13 (omega arith) is
    of-tests false false true q s is = smaller 9 (omega arith) is
    of-tests false false false true s is = smaller 34 (omega arith) is
    of-tests false false false false true is = smaller 92 (omega arith) is
    of-tests false false false false false is = absurd (cc)

module _ (r : Reading) (h : IsReading r) where
  abbrev After : List OpenTree → SyntaxTree → SyntaxTree → List ℕ → Type 0
  After = IsAfter (name_in r.given) (is_gap r.gaps)

  abbrev Rest : SyntaxKind → List ℕ → SyntaxTree → List ℕ → Type 0
  Rest k s t w = IsRestOfToken (After r.nodes t) k.0 s w

  put-into : (ns new : List OpenTree) (u t : SyntaxTree) (w : List ℕ) → HasPut u ns new → After ns t u w → IsFrom (name_in r.given) (is_gap r.gaps) new t w
  put-into [] new u t w put after = absurd put
  put-into (n ∷ outer) new u t w put after = subst (λ l. IsFrom (name_in r.given) (is_gap r.gaps) l t w) (sym put) after

  taken-from : (ns new : List OpenTree) (u t : SyntaxTree) (w : List ℕ) → HasPut u ns new → IsFrom (name_in r.given) (is_gap r.gaps) new t w → After ns t u w
  taken-from [] new u t w put from = absurd put
  taken-from (n ∷ outer) new u t w put from = subst (λ l. IsFrom (name_in r.given) (is_gap r.gaps) l t w) put from

  module _ (k : SyntaxKind) (state : r.state ≡ Text k) where
    root-none : r.root ≡ None
    root-none = no-root r h (λ is. apart-text k (sym state ∙ is))

    plain-run : (bs : List ℕ) → list_all (λ b. not (b == 34 || b == 92)) bs ≡ true → PlainReads r bs (record r { word = r.word ++ bs })
    plain-run bs plain =
        let new : Reading = record r { word = r.word ++ bs } in
        record {
          sound = record { names = h.names; word = subst (λ s. IsPartOfName s (r.word ++ bs)) (sym state) tt; inside = h.inside; whole = none-whole new root-none };
          on = λ t w left. back-in-state new (Text k) t w state (past-plain (After r.nodes t) k.0 r.word bs w plain (in-state r (Text k) t (bs ++ w) state left));
          back = λ t w left. back-in-state r (Text k) t (bs ++ w) state (before-plain (After r.nodes t) k.0 r.word bs w plain (in-state new (Text k) t w state left));
        }

    no-unread : (word : List ℕ) → name_part r.state word ≡ []
    no-unread word = ap (λ s. name_part s word) state

    in-node : r.nodes ≢ []
    in-node = subst (λ s. IsInside s r.nodes) state h.inside

    plain-escape : (c : ℕ) → c ≡ 92 → PlainReads r (encode_utf8 c) (record r { state = Escape k })
    plain-escape c is =
        let bytes : encode_utf8 c ≡ 92 ∷ [] = ap encode_utf8 is ∙ encode-ascii 92 (omega arith) in
        record {
          sound = record { names = h.names; word = tt; inside = in-node; whole = none-whole (record r { state = Escape k }) root-none };
          on = λ t w left. subst (λ b. Rest k r.word t (b ++ w)) bytes (in-state r (Text k) t (encode_utf8 c ++ w) state left);
          back = λ t w left. back-in-state r (Text k) t (encode_utf8 c ++ w) state (subst (λ b. Rest k r.word t (b ++ w)) (sym bytes) left);
        }

    quote-there : encode_utf8 34 ≡ 34 ∷ []
    quote-there = encode-ascii 34 (omega arith)

    behind-quote : (t : SyntaxTree) (w : List ℕ) → IsLeft r t (34 ∷ w) → After r.nodes t (Token k.0 r.word) w
    behind-quote t w left = past-quote (After r.nodes t) k.0 r.word w (in-state r (Text k) t (34 ∷ w) state left)

    behind-token : (t : SyntaxTree) (w : List ℕ) → IsLeft r t (encode_utf8 34 ++ w) → After r.nodes t (Token k.0 r.word) w
    behind-token t w left = behind-quote t w (subst (λ b. IsLeft r t (b ++ w)) quote-there left)

    plain-long : IsTooLong r.word → (t : SyntaxTree) (w : List ℕ) → IsLeft r t (encode_utf8 34 ++ w) → IsTooLong (text t)
    plain-long long t w left =
        let shorter = after-length (name_in r.given) (is_gap r.gaps) r.nodes t (Token k.0 r.word) w (behind-token t w left) in
        omega arith

    nowhere : (ns : List OpenTree) (t : SyntaxTree) (w : List ℕ) → ns ≡ [] → After ns t (Token k.0 r.word) w → ⊥
    nowhere ns t w none after = false≢true (sym (subst (λ l. After l t (Token k.0 r.word) w) none after).0)

    plain-nowhere : r.nodes ≡ [] → (b : ℕ) (after : List ℕ) → encode_utf8 34 ≡ b ∷ after → (t : SyntaxTree) (w : List ℕ) → IsLeft r t (unread r ++ b ∷ w) → ⊥
    plain-nowhere none b after is t w left =
        let both' : b ∷ after ≡ 34 ∷ [] = sym is ∙ quote-there in
        let same : b ≡ 34 = cc in
        nowhere r.nodes t w none (behind-quote t w (subst (λ x. IsLeft r t (x ∷ w)) same (past-unread r (Text k) t (b ∷ w) state left)))

    plain-token : (new : List OpenTree) → HasPut (Token k.0 r.word) r.nodes new → PlainReads r (encode_utf8 34) (record r { nodes = new; state = Between; word = [] })
    plain-token new put =
        let after : Reading = record r { nodes = new; state = Between; word = [] } in
        record {
          sound = record { names = h.names; word = refl; inside = tt; whole = none-whole after root-none };
          on = λ t w left. to-between after t w refl root-none (put-into r.nodes new (Token k.0 r.word) t w put (behind-token t w left));
          back = λ t w left.
              let token = taken-from r.nodes new (Token k.0 r.word) t w put (from-between after t w refl root-none left) in
              back-in-state r (Text k) t (encode_utf8 34 ++ w) state (subst (λ b. Rest k r.word t (b ++ w)) (sym quote-there) (before-quote (After r.nodes t) k.0 r.word w token));
        }

  module _ (k : SyntaxKind) (state : r.state ≡ Escape k) where
    root-none'' : r.root ≡ None
    root-none'' = no-root r h (λ is. apart-escape k (sym state ∙ is))

    no-unread'' : (word : List ℕ) → name_part r.state word ≡ []
    no-unread'' word = ap (λ s. name_part s word) state

    escaped-there : (c : ℕ) (t : SyntaxTree) (w : List ℕ) → IsLeft r t (encode_utf8 c ++ w) → Rest k r.word t (92 ∷ (encode_utf8 c ++ w))
    escaped-there c t w left = in-state r (Escape k) t (encode_utf8 c ++ w) state left

    plain-letter : (c m : ℕ) → meant c ≡ Some m → PlainReads r (encode_utf8 c) (record r { state = Text k; word = r.word ++ encode_utf8 m })
    plain-letter c m is =
        let bytes = encode-ascii c (letter-ascii c m is) in
        let bytes' = encode-ascii m (meant-ascii c m is) in
        let after : Reading = record r { state = Text k; word = r.word ++ encode_utf8 m } in
        record {
          sound = record { names = h.names; word = tt; inside = subst (λ s. IsInside s r.nodes) state h.inside; whole = none-whole after root-none'' };
          on = λ t w left.
              let past = past-escape (After r.nodes t) k.0 r.word c w (subst (λ b. Rest k r.word t (92 ∷ (b ++ w))) bytes (escaped-there c t w left)) in
              let same : past.0 ≡ m = let both' : Some past.0 ≡ Some m = sym past.1 ∙ is in cc in
              subst (λ b. Rest k (r.word ++ b) t w) (sym bytes') (subst (λ b. Rest k (r.word ++ b ∷ []) t w) same past.2);
          back = λ t w left.
              let before = before-escape (After r.nodes t) k.0 r.word c m w is (subst (λ b. Rest k (r.word ++ b) t w) bytes' left) in
              back-in-state r (Escape k) t (encode_utf8 c ++ w) state (subst (λ b. Rest k r.word t (92 ∷ (b ++ w))) (sym bytes) before);
        }

    -- a byte that is no letter of an escape
    plain-no-escape : (c : ℕ) → meant c ≡ None → (b : ℕ) (after : List ℕ) → encode_utf8 c ≡ b ∷ after → (t : SyntaxTree) (w : List ℕ) → IsLeft r t (unread r ++ b ∷ w) → ⊥
    plain-no-escape c none b after is t w left =
        let past = past-escape (After r.nodes t) k.0 r.word b w (in-state r (Escape k) t (b ∷ w) state (past-unread r (Escape k) t (b ∷ w) state left)) in
        let nothing = answers-first c b after is (λ x. is_some (meant x)) large-meant (ap is_some none) in
        false≢true (sym nothing ∙ ap is_some past.1)

  module _ (state : r.state ≡ Between) (inside : is_outside r 41 ≡ false) where
    no-unread' : unread r ≡ []
    no-unread' = unread-in r Between state

    close-there : encode_utf8 41 ≡ 41 ∷ []
    close-there = encode-ascii 41 (omega arith)

    some-node : (n : OpenTree) (outer : List OpenTree) → r.nodes ≡ n ∷ outer → r.root ≡ None
    some-node n outer is = no-root-inside r h n outer is

    behind-node : (n : OpenTree) (outer : List OpenTree) → r.nodes ≡ n ∷ outer → (t : SyntaxTree) (w : List ℕ) → IsLeft r t (encode_utf8 41 ++ w) → After outer t (node n.0 n.1) w
    behind-node n outer is t w left =
        let from = from-between r t (41 ∷ w) state (some-node n outer is) (subst (λ b. IsLeft r t (b ++ w)) close-there left) in
        past-close (name_in r.given) (is_gap r.gaps) h.names (are-gaps r.gaps) (After outer t) n.0 n.1 w (subst (λ ns. IsFrom (name_in r.given) (is_gap r.gaps) ns t (41 ∷ w)) is from)

    before-node : (n : OpenTree) (outer : List OpenTree) → r.nodes ≡ n ∷ outer → (t : SyntaxTree) (w : List ℕ) → After outer t (node n.0 n.1) w → IsLeft r t (encode_utf8 41 ++ w)
    before-node n outer is t w after =
        let before = before-close (name_in r.given) (is_gap r.gaps) h.names (are-gaps r.gaps) (After outer t) n.0 n.1 w after in
        subst (λ b. IsLeft r t (b ++ w)) (sym close-there) (to-between r t (41 ∷ w) state (some-node n outer is) (subst (λ ns. IsFrom (name_in r.given) (is_gap r.gaps) ns t (41 ∷ w)) (sym is) before))

    long-at : (ns : List OpenTree) → r.nodes ≡ ns → IsInnermostLong ns → (t : SyntaxTree) (w : List ℕ) → IsLeft r t (encode_utf8 41 ++ w) → IsTooLong (text t)
    long-at [] is long t w left = absurd long
    long-at (n ∷ outer) is long t w left =
        let shorter = after-length (name_in r.given) (is_gap r.gaps) outer t (node n.0 n.1) w (behind-node n outer is t w left) in
        omega arith

    plain-node-long : IsInnermostLong r.nodes → (t : SyntaxTree) (w : List ℕ) → IsLeft r t (encode_utf8 41 ++ w) → IsTooLong (text t)
    plain-node-long long t w left = long-at r.nodes refl long t w left

    no-node : (o : Option Branch) (ns : List OpenTree) → (is_nil ns && (not (41 == 40) || is_some o)) ≡ false → ns ≢ []
    no-node o [] inside' is = absurd (false≢true (sym inside'))
    no-node o (n ∷ outer) inside' is = cc

    pub node-there : r.nodes ≢ []
    node-there = no-node r.root r.nodes inside

    plain-node : (n : Branch) (outer new : List OpenTree) → r.nodes ≡ (n.kind, n.children) ∷ outer → HasPut (branch_tree n) outer new → PlainReads r (encode_utf8 41) (record r { nodes = new })
    plain-node n outer new is put =
        let after : Reading = record r { nodes = new } in
        let none = some-node (n.kind, n.children) outer is in
        record {
          sound = record { names = h.names; word = h.word; inside = subst (λ s. IsInside s new) (sym state) tt; whole = none-whole after none };
          on = λ t w left. to-between after t w state none (put-into outer new (branch_tree n) t w put (behind-node (n.kind, n.children) outer is t w left));
          back = λ t w left. before-node (n.kind, n.children) outer is t w (taken-from outer new (branch_tree n) t w put (from-between after t w state none left));
        }

    plain-tree : (n : Branch) (outer : List OpenTree) → r.nodes ≡ (n.kind, n.children) ∷ outer → outer ≡ [] → depth (branch_tree n) ≤ r.limit → PlainReads r (encode_utf8 41) (record r { nodes = outer; root = Some n })
    plain-tree n outer is none limited =
        let after : Reading = record r { nodes = outer; root = Some n } in
        let whole : (m : Branch) → Some n ≡ Some m → IsWhole after m = λ m same.
        let it : n ≡ m = cc in
        record { limited = subst (λ x. depth (branch_tree x) ≤ r.limit) it limited; between = state; closed = none } in
        record {
          sound = record { names = h.names; word = h.word; inside = subst (λ s. IsInside s outer) (sym state) tt; whole = whole };
          on = λ t w left.
              let behind = subst (λ l. After l t (branch_tree n) w) none (behind-node (n.kind, n.children) outer is t w left) in
              back-in-state after Between t w state (behind.1, behind.2);
          back = λ t w left.
              let l = in-state after Between t w state left in
              before-node (n.kind, n.children) outer is t w (subst (λ ns. After ns t (branch_tree n) w) (sym none) (refl, l.0, l.1));
        }

-- ---- whatever further names kinds have
module _ (r : Reading) (h : IsReading r) where
  module _ (k : SyntaxKind) (state : r.state ≡ Text k) where
    all-read : (bytes part : List ℕ) → part ≡ [] → unread r ++ bytes ≡ bytes ++ part
    all-read bytes part none = all-past (unread r) bytes part (no-unread r h k state r.word) none

    pub text-run : (bs : List ℕ) → list_all (λ b. not (b == 34 || b == 92)) bs ≡ true → Reads r bs (record r { word = r.word ++ bs })
    text-run bs plain =
        let new : Reading = record r { word = r.word ++ bs } in
        with-any r bs bs new h refl refl (all-read bs (unread new) (no-unread r h k state (r.word ++ bs))) (λ node. absurd (no-node-text k (sym state ∙ node))) (λ more m. plain-run (with_names more r) (more-reading r h more m) k state bs plain)

    pub text-more : (c : ℕ) → c ≢ 34 → c ≢ 92 → Reads r (encode_utf8 c) (record r { word = r.word ++ encode_utf8 c })
    text-more c no_quote no_escape =
        text-run (encode_utf8 c) (plain-bytes c (neither (c == 34) (c == 92) (other c 34 no_quote) (other c 92 no_escape)))

    pub begins-escape : (c : ℕ) → c ≡ 92 → Reads r (encode_utf8 c) (record r { state = Escape k })
    begins-escape c is = with-any r (encode_utf8 c) (encode_utf8 c) (record r { state = Escape k }) h refl refl (all-read (encode_utf8 c) [] refl) (λ node. cc) (λ more m. plain-escape (with_names more r) (more-reading r h more m) k state c is)

    pub ends-token : (new : List OpenTree) → HasPut (Token k.0 r.word) r.nodes new → Reads r (encode_utf8 34) (record r { nodes = new; state = Between; word = [] })
    ends-token new put =
        with-any r (encode_utf8 34) (encode_utf8 34) (record r { nodes = new; state = Between; word = [] }) h refl refl (all-read (encode_utf8 34) [] refl) (λ node. cc) (λ more m. plain-token (with_names more r) (more-reading r h more m) k state new put)

    pub token-nowhere : r.nodes ≡ [] → CannotGoOn r (encode_utf8 34)
    token-nowhere none b after is more m = plain-nowhere (with_names more r) (more-reading r h more m) k state none b after is

    pub token-long : IsTooLong r.word → GoesOnAs r (encode_utf8 34) (λ t. IsTooLong (text t))
    token-long long =
        let closed = close-in (name_in r.given) (is_gap r.gaps) r.nodes (in-node r h k state) (Token k.0 r.word) in
        let before = before-quote (IsAfter (name_in r.given) (is_gap r.gaps) r.nodes closed.0) k.0 r.word closed.1 closed.3 in
        let left = back-in-state r (Text k) closed.0 (encode_utf8 34 ++ closed.1) state (subst (λ b. IsRestOfToken (IsAfter (name_in r.given) (is_gap r.gaps) r.nodes closed.0) k.0 r.word (b ++ closed.1)) (sym (quote-there r h k state)) before) in
        record {
          goes = (closed.0, closed.1, back-unread r (Text k) closed.0 (encode_utf8 34 ++ closed.1) state left);
          only = λ t w left. plain-long r h k state long t w (past-unread r (Text k) t (encode_utf8 34 ++ w) state left);
        }

  module _ (k : SyntaxKind) (state : r.state ≡ Escape k) where
    pub ends-escape : (c m : ℕ) → meant c ≡ Some m → Reads r (encode_utf8 c) (record r { state = Text k; word = r.word ++ encode_utf8 m })
    ends-escape c x is =
        let new : Reading = record r { state = Text k; word = r.word ++ encode_utf8 x } in
        with-any r (encode_utf8 c) (encode_utf8 c) new h refl refl (all-past (unread r) (encode_utf8 c) [] (no-unread'' r h k state r.word) refl) (λ node. cc) (λ more m. plain-letter (with_names more r) (more-reading r h more m) k state c x is)

    pub no-escape : (c : ℕ) → meant c ≡ None → CannotGoOn r (encode_utf8 c)
    no-escape c none b after is more m = plain-no-escape (with_names more r) (more-reading r h more m) k state c none b after is

  module _ (state : r.state ≡ Between) (inside : is_outside r 41 ≡ false) where
    long-close : (ns : List OpenTree) → r.nodes ≡ ns → ns ≢ [] → (t : SyntaxTree) × (w : List ℕ) × IsLeft r t (unread r ++ (encode_utf8 41 ++ w))
    long-close [] is some = absurd (some refl)
    long-close (n ∷ outer) is some =
        let closed = close-all (name_in r.given) (is_gap r.gaps) outer (node n.0 n.1) refl in
        (closed.0, closed.1, back-unread r Between closed.0 (encode_utf8 41 ++ closed.1) state (before-node r h state inside n outer is closed.0 closed.1 closed.3))

    pub node-long : IsInnermostLong r.nodes → GoesOnAs r (encode_utf8 41) (λ t. IsTooLong (text t))
    node-long long = record {
      goes = long-close r.nodes refl (node-there r h state inside);
      only = λ t w left. plain-node-long r h state inside long t w (past-unread r Between t (encode_utf8 41 ++ w) state left);
    }

    -- both before and behind the parenthesis no name is read
    between-read : (new : Reading) → new.state ≡ Between → unread r ++ encode_utf8 41 ≡ encode_utf8 41 ++ unread new
    between-read new is = all-past (unread r) (encode_utf8 41) (unread new) (no-unread' r h state inside) (unread-in new Between is)

    pub ends-node : (n : Branch) (outer new : List OpenTree) → r.nodes ≡ (n.kind, n.children) ∷ outer → HasPut (branch_tree n) outer new → Reads r (encode_utf8 41) (record r { nodes = new })
    ends-node n outer new is put =
        with-any r (encode_utf8 41) (encode_utf8 41) (record r { nodes = new }) h refl refl (between-read (record r { nodes = new }) state) (λ node. absurd (no-node-between (sym state ∙ node))) (λ more m. plain-node (with_names more r) (more-reading r h more m) state inside n outer new is put)

    pub ends-tree : (n : Branch) (outer : List OpenTree) → r.nodes ≡ (n.kind, n.children) ∷ outer → outer ≡ [] → depth (branch_tree n) ≤ r.limit → Reads r (encode_utf8 41) (record r { nodes = outer; root = Some n })
    ends-tree n outer is none limited =
        let new : Reading = record r { nodes = outer; root = Some n } in
        with-any r (encode_utf8 41) (encode_utf8 41) new h refl refl (between-read new state) (λ node. absurd (no-node-between (sym state ∙ node))) (λ more m. plain-tree (with_names more r) (more-reading r h more m) state inside n outer is none limited)
