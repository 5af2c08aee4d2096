-- Whatever was read can be completed, at least where further kinds have names.
--     open-node           a node may be opened and closed
--     completes           where the unread part of a name may be any name
--     known-or-new        a name that a kind has, or that one kind more may have
--     may-complete        behind the unread part of a name
use Rattle.std.proofs.Common.{◌≡◌, ◌≢◌, ℕ, suc, true, not, List, [], ◌∷◌, ◌++◌, length, Option, Some, None, refl, ap, inl, inr, arith}
use Rattle.std.specs.Prelude.{◌==◌, unwrap_or}
use Rattle.std.specs.List.{list_all}
use Rattle.cst_core.specs.Green.{Branch, branch_tree}
use Rattle.cst_core.specs.Kind.{name_of}
use Rattle.cst_core.specs.Tree.{SyntaxTree, Token}
use Rattle.tree_text.specs.KindNames.{KindName, AreNames, is_name, is_name_byte, name_in}
use Rattle.tree_text.specs.Refusals.{KeepsNames}
use Rattle.tree_text.specs.inner.Completing.{OpenTree, IsAfter, IsFrom}
use Rattle.tree_text.specs.inner.Gap.{is_gap}
use Rattle.tree_text.specs.inner.Reading.{Reading, IsReading, IsInside, IsPartOfName, IsLeft, IsLeftIn, IsLeftOutside, name_part, unread, with_names}
use Rattle.tree_text.specs.declared.gaps.Gaps.{Gaps}
use Rattle.tree_text.specs.declared.reader.State.{State}
use Rattle.tree_text.specs.declared.reader.State.TheVariants.{Between, NodeKind, TokenKind, Text, Escape}
use Rattle.tree_text.proofs.AnyNames.{own-names}
use Rattle.tree_text.proofs.Beginnings.{both}
use Rattle.tree_text.proofs.Closing.{close-in, close-node}
use Rattle.tree_text.proofs.EncodedBytes.{are-gaps, other}
use Rattle.tree_text.proofs.FreshKinds.{fresh-kind, named-or-not, one-more}
use Rattle.tree_text.proofs.Names.{name_new}
use Rattle.tree_text.proofs.QuotedTexts.{before-quote, before-escape}
use Rattle.tree_text.proofs.WholeTrees.{name-before, open-before}

abbrev Closes : List KindName → Gaps → List OpenTree → Type 0
Closes given gaps ns = (t : SyntaxTree) × (w : List ℕ) × IsFrom (name_in given) (is_gap gaps) ns t w

pub open-node : (given : List KindName) (gaps : Gaps) → AreNames (name_in given) → (ns : List OpenTree) → (t : SyntaxTree) × (w : List ℕ) × IsFrom (name_in given) (is_gap gaps) ns t (40 ∷ w)
open-node given gaps known ns =
    let name : List ℕ = unwrap_or (name_of 0) [] in
    let named : name_in given 0 ≡ Some name = refl in
    let closed = close-node (name_in given) (is_gap gaps) 0 [] ns in
    (closed.0, name ++ closed.1, open-before (name_in given) (is_gap gaps) known (are-gaps gaps) ns closed.0 0 name closed.1 named closed.2 closed.3)

close-some : (given : List KindName) (gaps : Gaps) (ns : List OpenTree) → ns ≢ [] → Closes given gaps ns
close-some given gaps [] some = absurd (some refl)
close-some given gaps (n ∷ outer) some = let closed = close-node (name_in given) (is_gap gaps) n.0 n.1 outer in (closed.0, closed.1, closed.3)

module _ (r : Reading) (h : IsReading r) where
  abbrev Ends : State → Type 0
  Ends s = (t : SyntaxTree) × (w : List ℕ) × IsLeftIn s r t w

  outside : (o : Option Branch) (ns : List OpenTree) → (t : SyntaxTree) × (w : List ℕ) × IsLeftOutside r.given r.gaps ns o t w
  outside (Some n) ns = (branch_tree n, [], (refl, refl))
  outside None [] = let opened = open-node r.given r.gaps h.names [] in (opened.0, 40 ∷ opened.1, opened.2)
  outside None (n ∷ outer) = let closed = close-node (name_in r.given) (is_gap r.gaps) n.0 n.1 outer in (closed.0, closed.1, closed.3)

  in-some : (s : State) → IsInside s r.nodes → Ends s
  in-some Between inside = outside r.root r.nodes
  in-some NodeKind inside = open-node r.given r.gaps h.names r.nodes
  in-some TokenKind inside = close-some r.given r.gaps r.nodes inside
  in-some (Text k) inside =
      let closed = close-in (name_in r.given) (is_gap r.gaps) r.nodes inside (Token k.0 r.word) in
      (closed.0, 34 ∷ closed.1, before-quote (IsAfter (name_in r.given) (is_gap r.gaps) r.nodes closed.0) k.0 r.word closed.1 closed.3)
  in-some (Escape k) inside =
      let closed = close-in (name_in r.given) (is_gap r.gaps) r.nodes inside (Token k.0 (r.word ++ 10 ∷ [])) in
      let Rest : SyntaxTree → List ℕ → Type 0 = IsAfter (name_in r.given) (is_gap r.gaps) r.nodes closed.0 in
      (closed.0, 110 ∷ 34 ∷ closed.1, before-escape Rest k.0 r.word 110 10 (34 ∷ closed.1) refl (before-quote Rest k.0 (r.word ++ 10 ∷ []) closed.1 closed.3))

  pub completes : (t : SyntaxTree) × (w : List ℕ) × IsLeft r t w
  completes = in-some r.state h.inside

pub known-or-new : (given : List KindName) (n : List ℕ) → AreNames (name_in given) → is_name n ≡ true → (more : List KindName) × KeepsNames given more × (k : ℕ) × (name_in more k ≡ Some n)
known-or-new given n names spelled = elim (named-or-not given n) [
  | inl known ↦ (given, record { names = names; keeps = λ k m is. is }, known.0, known.1)
  | inr unknown ↦
      let free = fresh-kind given in
      (given ++ (free.0, n) ∷ [], one-more given free.0 n names spelled unknown, free.0, name_new free.0 n given free.1)
]

some-name : (b : ℕ) (bs : List ℕ) → list_all is_name_byte (b ∷ bs) ≡ true → is_name (b ∷ bs) ≡ true
some-name b bs all = both (not (length (b ∷ bs) == 0)) _ (ap not (other (suc (length bs)) 0 (λ is. absurd (omega arith)))) all

module _ (r : Reading) (h : IsReading r) where
  abbrev MayEnd : State → List ℕ → Type 0
  MayEnd s part = (more : List KindName) × KeepsNames r.given more × (t : SyntaxTree) × (w : List ℕ) × IsLeftIn s (with_names more r) t (part ++ w)

  as-it-is : (s : State) → IsInside s r.nodes → MayEnd s []
  as-it-is s inside = let ends = in-some r h s inside in (r.given, own-names r h, ends.0, ends.1, ends.2)

  behind-node-kind : (word : List ℕ) → IsPartOfName NodeKind word → MayEnd NodeKind word
  behind-node-kind [] part = as-it-is NodeKind tt
  behind-node-kind (b ∷ bs) part =
      let word : List ℕ = b ∷ bs in
      let known = known-or-new r.given word h.names (some-name b bs part) in
      let closed = close-node (name_in known.0) (is_gap r.gaps) known.2 [] r.nodes in
      (known.0, known.1, closed.0, closed.1, open-before (name_in known.0) (is_gap r.gaps) known.1.names (are-gaps r.gaps) r.nodes closed.0 known.2 word closed.1 known.3 closed.2 closed.3)

  behind-token-kind : r.nodes ≢ [] → (word : List ℕ) → IsPartOfName TokenKind word → MayEnd TokenKind word
  behind-token-kind some word part =
      let known = known-or-new r.given word h.names part in
      let closed = close-in (name_in known.0) (is_gap r.gaps) r.nodes some (Token known.2 []) in
      let quoted = before-quote (IsAfter (name_in known.0) (is_gap r.gaps) r.nodes closed.0) known.2 [] closed.1 closed.3 in
      (known.0, known.1, closed.0, 34 ∷ 34 ∷ closed.1, name-before (name_in known.0) (is_gap r.gaps) known.1.names (are-gaps r.gaps) r.nodes closed.0 known.2 word (34 ∷ closed.1) known.3 quoted)

  may-in : (s : State) → IsPartOfName s r.word → IsInside s r.nodes → MayEnd s (name_part s r.word)
  may-in Between part inside = as-it-is Between inside
  may-in NodeKind part inside = behind-node-kind r.word part
  may-in TokenKind part inside = behind-token-kind inside r.word part
  may-in (Text k) part inside = as-it-is (Text k) inside
  may-in (Escape k) part inside = as-it-is (Escape k) inside

  pub may-complete : (more : List KindName) × KeepsNames r.given more × (t : SyntaxTree) × (w : List ℕ) × IsLeft (with_names more r) t (unread r ++ w)
  may-complete = may-in r.state h.word h.inside
