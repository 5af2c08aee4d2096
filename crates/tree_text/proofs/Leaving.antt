-- What may be left, by what the next byte belongs to.
--     in-state, back-in-state       what may be left in a state that is known
--     unread-in, past-unread, back-unread      the unread bytes of a name there, and what may be left behind them
--     all-past                      bytes that are read where nothing is unread before and after
--     no-root, not-between          a reader that hasn't the whole tree
--     from-between, to-between      what may be left between elements, where the whole tree isn't there
use Rattle.std.proofs.Common.{◌≡◌, ◌≢◌, ℕ, List, [], ◌∷◌, ◌++◌, append-nil, Option, Some, None, refl, sym, ap, ◌∙◌, subst}
use Rattle.cst_core.specs.Green.{Branch}
use Rattle.cst_core.specs.Tree.{SyntaxTree}
use Rattle.tree_text.specs.KindNames.{name_in}
use Rattle.tree_text.specs.inner.Completing.{IsFrom, OpenTree}
use Rattle.tree_text.specs.inner.Gap.{is_gap}
use Rattle.tree_text.specs.inner.Reading.{Reading, IsReading, IsWhole, IsLeft, IsLeftIn, IsLeftOutside, IsPartOfName, name_part, unread}
use Rattle.tree_text.specs.declared.reader.State.{State}
use Rattle.tree_text.specs.declared.reader.State.TheVariants.{Between}

pub in-state : (r : Reading) (s : State) (t : SyntaxTree) (w : List ℕ) → r.state ≡ s → IsLeft r t w → IsLeftIn s r t w
in-state r s t w is h = subst (λ x. IsLeftIn x r t w) is h

pub back-in-state : (r : Reading) (s : State) (t : SyntaxTree) (w : List ℕ) → r.state ≡ s → IsLeftIn s r t w → IsLeft r t w
back-in-state r s t w is h = subst (λ x. IsLeftIn x r t w) (sym is) h

pub unread-in : (r : Reading) (s : State) → r.state ≡ s → unread r ≡ name_part s r.word
unread-in r s is = ap (λ x. name_part x r.word) is

pub past-unread : (r : Reading) (s : State) (t : SyntaxTree) (w : List ℕ) → r.state ≡ s → IsLeft r t (unread r ++ w) → IsLeft r t (name_part s r.word ++ w)
past-unread r s t w is h = subst (λ x. IsLeft r t (x ++ w)) (unread-in r s is) h

pub back-unread : (r : Reading) (s : State) (t : SyntaxTree) (w : List ℕ) → r.state ≡ s → IsLeft r t (name_part s r.word ++ w) → IsLeft r t (unread r ++ w)
back-unread r s t w is h = subst (λ x. IsLeft r t (x ++ w)) (sym (unread-in r s is)) h

pub all-past : (a bytes b : List ℕ) → a ≡ [] → b ≡ [] → a ++ bytes ≡ bytes ++ b
all-past a bytes b before after = ap (λ x. x ++ bytes) before ∙ sym (append-nil bytes) ∙ ap (λ x. bytes ++ x) (sym after)

pub none-of : {A : Type 0} (o : Option A) → ((a : A) → o ≡ Some a → ⊥) → o ≡ None
none-of None h = refl
none-of (Some a) h = absurd (h a refl)

pub no-root : (r : Reading) → IsReading r → r.state ≢ Between → r.root ≡ None
no-root r h differ = none-of r.root (λ n is. differ (h.whole n is).between)

pub no-root-inside : (r : Reading) → IsReading r → (n : OpenTree) (outer : List OpenTree) → r.nodes ≡ n ∷ outer → r.root ≡ None
no-root-inside r h n outer is = none-of r.root (λ b whole. let closed : n ∷ outer ≡ [] = sym is ∙ (h.whole b whole).closed in absurd (cc))

pub none-whole : (r : Reading) → r.root ≡ None → (n : Branch) → r.root ≡ Some n → IsWhole r n
none-whole r none n some = let both : None ≡ Some n = sym none ∙ some in absurd (cc)

pub from-between : (r : Reading) (t : SyntaxTree) (w : List ℕ) → r.state ≡ Between → r.root ≡ None → IsLeft r t w → IsFrom (name_in r.given) (is_gap r.gaps) r.nodes t w
from-between r t w between none h = subst (λ o. IsLeftOutside r.given r.gaps r.nodes o t w) none (in-state r Between t w between h)

pub to-between : (r : Reading) (t : SyntaxTree) (w : List ℕ) → r.state ≡ Between → r.root ≡ None → IsFrom (name_in r.given) (is_gap r.gaps) r.nodes t w → IsLeft r t w
to-between r t w between none h = back-in-state r Between t w between (subst (λ o. IsLeftOutside r.given r.gaps r.nodes o t w) (sym none) h)

pub word-in : (r : Reading) (s : State) → IsReading r → r.state ≡ s → IsPartOfName s r.word
word-in r s h is = subst (λ x. IsPartOfName x r.word) is h.word
