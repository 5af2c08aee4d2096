-- What bytes do that only make the word longer.
--     read-nothing      nothing is read
--     read-run          such bytes are
use Rattle.std.proofs.Common.{◌≡◌, ℕ, List, [], ◌++◌, take, drop, append-nil, inr, refl, sym, ◌∙◌, ap, subst}
use Rattle.std.proofs.lemmas.List.{take-append-drop}
use Rattle.tree_text.specs.inner.Reading.{Reading, IsReading, GoesOn, Reads, ReadsUpTo, unread}
use Rattle.tree_text.specs.declared.reader.State.{State}
use Rattle.tree_text.specs.declared.reader.State.TheVariants.{Between, NodeKind, TokenKind, Text, Escape}
use Rattle.tree_text.proofs.NameSteps.{node-run, token-run}
use Rattle.tree_text.proofs.TextSteps.{text-run}

module _ (r : Reading) (h : IsReading r) where
  abbrev with_word : List ℕ → Reading
  with_word word = record r { word = word }

  no-bytes : Reads r [] r
  no-bytes = record { sound = h; names = refl; limit = refl; past = []; is = append-nil (unread r); opens = λ node. inr (node, refl, refl, refl); each = λ more m. record { on = λ t w left. left; back = λ t w left. left } }

  pub read-nothing : (text : List ℕ) → ReadsUpTo r text text r
  read-nothing text = ([], refl, no-bytes)

  none-more : (bs : List ℕ) → bs ≡ [] → Reads r bs (with_word (r.word ++ bs))
  none-more bs none =
      let same : r.word ++ bs ≡ r.word = ap (λ x. r.word ++ x) none ∙ append-nil r.word in
      subst (λ x. Reads r bs (with_word x)) (sym same) (subst (λ x. Reads r x r) (sym none) no-bytes)

  goes-on : (s : State) (bs : List ℕ) → r.state ≡ s → GoesOn s bs → Reads r bs (with_word (r.word ++ bs))
  goes-on Between bs is more = none-more bs more
  goes-on NodeKind bs is more = node-run r h is bs more
  goes-on TokenKind bs is more = token-run r h is bs more
  goes-on (Text k) bs is more = text-run r h k is bs more
  goes-on (Escape k) bs is more = none-more bs more

  pub read-run : (text taken left : List ℕ) (count : ℕ) → GoesOn r.state (take count text) → taken ≡ take count text → left ≡ drop count text → ReadsUpTo r text left (with_word (r.word ++ taken))
  read-run text taken left count more front back =
      let whole : text ≡ taken ++ left = sym (take-append-drop count text) ∙ ap (λ x. x ++ drop count text) (sym front) ∙ ap (λ x. taken ++ x) (sym back) in
      (taken, whole, goes-on r.state taken refl (subst (GoesOn r.state) (sym front) more))
