-- Errors that are passed on.
--     refused-weaker      what an error says, where that says something else too
--     unknown-by, deep-by     an error of a call, behind a name
--     misplaced-by, misplaced-as, misplaced-stuck       an error of a call between elements or in a text
--     passed-on           an error that a `?` passes on
use Rattle.std.proofs.Common.{◌≡◌, ◌≢◌, ℕ, ◌-◌, List, length, Some, Result, Ok, Err, IfErr, IsErrAnd, subst, sym, ap, ◌∙◌}
use Rattle.tree_text.specs.KindNames.{name_in}
use Rattle.cst_core.specs.Green.{IsTooLong}
use Rattle.cst_core.specs.Tree.{text}
use Rattle.tree_text.specs.inner.Nowhere.{Nowhere}
use Rattle.tree_text.specs.inner.Reading.{Reading, CannotGoOn, Lacks, IsDeep, GoesOnAs, IsStuck, IsMisplaced, unread}
use Rattle.cst_core.specs.TreeError.{TreeError}
use Rattle.cst_core.specs.TreeError.TheVariants as Trees
use Rattle.tree_text.specs.Refusals.{IsRefused, IsTreeRefused}
use Rattle.tree_text.specs.declared.error.ExpressionError.{ExpressionError}
use Rattle.tree_text.specs.declared.error.ExpressionError.TheVariants.{Malformed, UnknownKind, TooDeep, Tree, Memory}

tree-weaker : (e : TreeError) (C D : Type 0) → (C → D) → IsTreeRefused C e → IsTreeRefused D e
tree-weaker Trees.TooLong C D f h = f h
tree-weaker Trees.NoTreeNumber C D f h = h
tree-weaker Trees.Memory C D f h = h

pub refused-weaker : (e : ExpressionError) (A B C : ℕ → Type 0) (D : Type 0) (A' B' C' : ℕ → Type 0) (D' : Type 0)
    → ((x : ℕ) → A x → A' x) → ((x : ℕ) → B x → B' x) → ((x : ℕ) → C x → C' x) → (D → D') → IsRefused A B C D e → IsRefused A' B' C' D' e
refused-weaker (Malformed at x) A B C D A' B' C' D' f g k l h = f at h
refused-weaker (UnknownKind at) A B C D A' B' C' D' f g k l h = g at h
refused-weaker (TooDeep at) A B C D A' B' C' D' f g k l h = k at h
refused-weaker (Tree e) A B C D A' B' C' D' f g k l h = tree-weaker e D D' l h
refused-weaker Memory A B C D A' B' C' D' f g k l h = tt

pub passed-on : {T E : Type 0} (r : Result T E) (e : E) (P : E → Type 0) → IsErrAnd r (λ y. y ≡ e) → P e → IfErr r P
passed-on (Ok x) e P is h = absurd is
passed-on (Err y) e P is h = subst P (sym is) h

-- an error of a call behind a name, which is the word that is unread
pub unknown-by : (r : Reading) (at : ℕ) (bytes : List ℕ) (e : ExpressionError) (word : List ℕ) → unread r ≡ word
    → IsRefused Nowhere (λ x. (x ≡ at - length word) × ((k : ℕ) → name_in r.given k ≢ Some word)) Nowhere ⊥ e → (((k : ℕ) → name_in r.given k ≢ Some word) → Lacks r bytes) → IsStuck r at bytes e
unknown-by r at bytes e word is h lacks =
    let back : (x : ℕ) → x ≡ at - length word → x ≡ at - length (unread r) = λ x here. here ∙ ap (λ l. at - length l) (sym is) in
    refused-weaker e _ _ _ _ _ _ _ _ (λ x none. absurd none) (λ x unknown. (back x unknown.0, lacks unknown.1)) (λ x deep. absurd deep) (λ long. absurd long) h

pub deep-by : (r : Reading) (at begins : ℕ) (bytes : List ℕ) (e : ExpressionError) (word : List ℕ) (Deep : Type 0) → unread r ≡ word → begins ≡ at - length word
    → IsRefused Nowhere Nowhere (λ x. (x ≡ begins) × Deep) ⊥ e → (Deep → IsDeep r) → IsStuck r at bytes e
deep-by r at begins bytes e word Deep is there h deep =
    refused-weaker e _ _ _ _ _ _ _ _ (λ x none. absurd none) (λ x lacks. absurd lacks) (λ x here. (here.0 ∙ there ∙ ap (λ l. at - length l) (sym is), deep here.1)) (λ long. absurd long) h

-- an error of a call, for the reader that makes it
pub misplaced-by : (r : Reading) (at : ℕ) (bytes : List ℕ) (e : ExpressionError) (A D : Type 0) → IsRefused (λ x. (x ≡ at) × A) Nowhere Nowhere D e
    → (A → CannotGoOn r bytes) → (D → GoesOnAs r bytes (λ t. IsTooLong (text t))) → IsMisplaced r at bytes e
misplaced-by r at bytes e A D h f l = refused-weaker e _ Nowhere Nowhere D _ Nowhere Nowhere _ (λ x none. (none.0, f none.1)) (λ x lacks. lacks) (λ x deep. deep) l h

-- where the tree alone can refuse
pub misplaced-as : (r : Reading) (at : ℕ) (bytes : List ℕ) (e : ExpressionError) (D : Type 0) → IsRefused Nowhere Nowhere Nowhere D e → (D → GoesOnAs r bytes (λ t. IsTooLong (text t))) → IsMisplaced r at bytes e
misplaced-as r at bytes e D h l = refused-weaker e Nowhere Nowhere Nowhere D _ Nowhere Nowhere _ (λ x none. absurd none) (λ x lacks. lacks) (λ x deep. deep) l h

pub misplaced-stuck : (r : Reading) (at : ℕ) (bytes : List ℕ) (e : ExpressionError) → IsMisplaced r at bytes e → IsStuck r at bytes e
misplaced-stuck r at bytes e h = refused-weaker e _ Nowhere Nowhere _ _ _ _ _ (λ x none. none) (λ x lacks. absurd lacks) (λ x deep. absurd deep) (λ x. x) h
