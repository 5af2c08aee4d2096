-- Attributes and comments deleted, one after the other.
--     first_removed                    what is removed of the first so many children
--     one_removed, none_removed        one more child, which is removed; one that stays
--     kind_there, kind_past            the kind in a slot of a shared node
--     tested, untested                 a test of that kind
--     removed_native                   what is not foreign is of the root's tree, and no root
--     kept_fitting                     deleting elements of the tree keeps a list of changes of it, and their paths tell them
use Rattle.std.proofs.Common.{◌≡◌, ℕ, suc, ◌+◌, Bool, true, false, not, List, [], ◌∷◌, ◌++◌, length, map, filter, get_or, Option, Some, None, ◌<◌, ◌≤◌, refl, ap, sym, ◌∙◌, arith}
use Rattle.std.specs.Prelude.{All, cond, unwrap_or, option_map, slice_get}
use Rattle.std.specs.Option.{option_map_or}
use Rattle.std.specs.List.{fold, list_any}
use Rattle.std.proofs.lemmas.Bool.{not-false, or_parts}
use Rattle.std.proofs.lemmas.List.{map-append, append-nil}
use Rattle.std.proofs.lemmas.List.Elements.{All-head, All-tail, All-cons, All-nil, filter-append}
use Rattle.cst_core.specs.Path.{Path, same_path, counted_from}
use Rattle.std.proofs.lemmas.Option.{slice_get-map, slice_get_read, slice_get_past}
use Rattle.cst_core.specs.Tree.{SyntaxTree, Token, Node, label, children, trees, forest}
use Rattle.cst_core.specs.Green.{Branch, branch_tree}
use Rattle.cst_core.specs.Element.{Element, subtree, below}
use Rattle.cst_core.specs.SyntaxElement.{syntax_as, syntax_of}
use Rattle.cst_core.specs.declared.element.SyntaxElement.{SyntaxElement}
use Rattle.cst_core.proofs.Children.{counted_more}
use Rattle.edit_change.specs.declared.change.Change.{Change}
use Rattle.edit_plan.specs.Fits.{Fits, is_native, is_root}
use Rattle.change_list.specs.Recording.{delete}
use Rattle.syntax_editor.specs.RecordCall.{Deleting, refusal}
use Rattle.syntax_editor.specs.declared.error.RecordError.TheVariants.{Foreign, DeletesRoot}
use Rattle.change_list.specs.inner.ByPath.{delete_each_at}
use Rattle.syntax_editor.specs.AttrsAndDocs.{is_removed, removed_slots, removed_children}
use Rattle.syntax_editor.proofs.Fitting.{recorded_fits, native_number, no-line}
use Rattle.syntax_editor.proofs.ByPath.{delete-by-path}

-- ---- the children in slots
module _ (e : Element) where
  child : ℕ → SyntaxElement
  child i = syntax_of (below e (i ∷ []))

  abbrev pub first_removed : ℕ → List SyntaxElement
  first_removed n = map (λ i. syntax_of (below e (i ∷ []))) (filter (is_removed (subtree e)) (counted_from 0 n))

  last_test : (n : ℕ) (b : Bool) → is_removed (subtree e) n ≡ b → filter (is_removed (subtree e)) (n ∷ []) ≡ cond b (n ∷ []) []
  last_test n b is = rw is refl

  more : (n : ℕ) (b : Bool) → is_removed (subtree e) n ≡ b → first_removed (n + 1) ≡ first_removed n ++ map (λ i. syntax_of (below e (i ∷ []))) (cond b (n ∷ []) [])
  more n b is =
      let next : n + 1 ≡ suc n = omega arith in
      let last : 0 + n ≡ n = omega arith in
      ap first_removed next
      ∙ ap (λ is. map (λ i. syntax_of (below e (i ∷ []))) (filter (is_removed (subtree e)) is)) (counted_more 0 n ∙ ap (λ i. counted_from 0 n ++ i ∷ []) last)
      ∙ ap (map (λ i. syntax_of (below e (i ∷ [])))) (filter-append (is_removed (subtree e)) (counted_from 0 n) (n ∷ []) ∙ ap (λ is. filter (is_removed (subtree e)) (counted_from 0 n) ++ is) (last_test n b is))
      ∙ map-append (λ i. syntax_of (below e (i ∷ []))) (filter (is_removed (subtree e)) (counted_from 0 n)) (cond b (n ∷ []) [])

  pub one_removed : (n : ℕ) (x : SyntaxElement) → is_removed (subtree e) n ≡ true → Some x ≡ Some (syntax_of (below e (n ∷ []))) → first_removed n ++ x ∷ [] ≡ first_removed (n + 1)
  one_removed n x is h = ap (λ y. first_removed n ++ y ∷ []) (ap (λ o. unwrap_or o x) h) ∙ sym (more n true is)

  pub none_removed : (n : ℕ) → is_removed (subtree e) n ≡ false → first_removed n ≡ first_removed (n + 1)
  none_removed n is = sym (more n false is ∙ append-nil (first_removed n))

-- ---- kinds in slots
trees-forest : (ts : List SyntaxTree) → trees (forest ts) ≡ ts
trees-forest [] = refl
trees-forest (t ∷ ts) = ap (λ us. t ∷ us) (trees-forest ts)

module _ {E : Type 0} (tree_of : E → SyntaxTree) (b : Branch) (es : List E) (slot : ℕ) (same : map tree_of es ≡ b.children) where
  pub kind_there : (e : E) (kind : ℕ) → slot < length es → e ≡ get_or es slot e → kind ≡ label (tree_of e) → Some kind ≡ option_map label (slice_get (children (branch_tree b)) slot)
  kind_there e kind inside is kind_is = rw (kind_is, trees-forest b.children, ← same, slice_get-map, slice_get_read es (length es) slot e refl inside is) refl

  pub kind_past : length es ≤ slot → None ≡ option_map label (slice_get (children (branch_tree b)) slot)
  kind_past past = rw (trees-forest b.children, ← same, slice_get-map, slice_get_past es slot past) refl

pub tested : (test : ℕ → Bool) (o : Option SyntaxTree) (kind : ℕ) → Some kind ≡ option_map label o → test kind ≡ option_map_or (λ c. test (label c)) o false
tested test None kind is = cc
tested test (Some t) kind is = ap test (ap (λ x. unwrap_or x kind) is)

pub untested : (test : ℕ → Bool) (o : Option SyntaxTree) → None ≡ option_map label o → false ≡ option_map_or (λ c. test (label c)) o false
untested test None is = refl
untested test (Some t) is = cc

-- ---- what is deleted is of the tree
abbrev pub IsDeletable : Element → SyntaxElement → Type 0
IsDeletable root e = (is_native root e ≡ true) × (is_root e ≡ false)

not_root : (p : Path) (i : ℕ) → same_path (p ++ i ∷ []) [] ≡ false
not_root [] i = refl
not_root (j ∷ p) i = refl

below_top : (n : Element) (i : ℕ) → is_root (syntax_of (below n (i ∷ []))) ≡ false
below_top n i = by_form (subtree (below n (i ∷ [])))
  where
    by_form : (t : SyntaxTree) → is_root (syntax_as t (below n (i ∷ []))) ≡ false
    by_form (Token k s) = not_root n.path i
    by_form (Node k f) = not_root n.path i

all_deletable : (root n : Element) (slots : List ℕ) → list_any (λ e. not (is_native root e)) (map (λ i. syntax_of (below n (i ∷ []))) slots) ≡ false → All (IsDeletable root) (map (λ i. syntax_of (below n (i ∷ []))) slots)
all_deletable root n [] none = All-nil (IsDeletable root)
all_deletable root n (i ∷ slots) none =
    let parts = or_parts _ _ none in
    All-cons (IsDeletable root) (syntax_of (below n (i ∷ []))) (map (λ j. syntax_of (below n (j ∷ []))) slots) (not-false _ parts.0, below_top n i) (all_deletable root n slots parts.1)

pub removed_native : (root n : Element) → list_any (λ e. not (is_native root e)) (removed_children n) ≡ false → All (IsDeletable root) (removed_children n)
removed_native root n none = all_deletable root n (removed_slots (subtree n)) none

-- ---- one after the other
module _ (root : Element) where
  pub record KeepsFitting (es : List SyntaxElement) (cs : List Change) : Type 0 where
    pub fit : All (Fits root) (fold (λ ds e. delete e ds) cs es)
    pub by_path : delete_each_at es cs ≡ fold (λ ds e. delete e ds) cs es

  pub kept_fitting : (es : List SyntaxElement) (cs : List Change) → All (IsDeletable root) es → All (Fits root) cs → KeepsFitting es cs
  kept_fitting [] cs deletable all = record { fit = all; by_path = refl }
  kept_fitting (e ∷ es) cs deletable all =
      let own = All-head (IsDeletable root) e es deletable in
      let accepted : refusal root (Deleting e) ≡ None = no-line (not (is_native root e)) (is_root e) Foreign DeletesRoot (ap not own.0) own.1 in
      let rest = kept_fitting es (delete e cs) (All-tail (IsDeletable root) e es deletable) (recorded_fits root (Deleting e) cs accepted all) in
      record {
        fit = rest.fit;
        by_path = ap (delete_each_at es) (sym (delete-by-path root e (native_number root e own.0) cs all)) ∙ rest.by_path;
      }
