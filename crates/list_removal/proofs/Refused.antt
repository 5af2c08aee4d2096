-- Why a removal is refused.
--     IsRunOf                      what is known of the first and the last of the siblings that go
--     run_is                       each run is such a one
--     refused                      a removal is refused as the deletion of its element
--     refuses                      a refusal of the call that deletes the run is one of the removal
use Rattle.std.specs.Prelude.{◌≡◌, ℕ, ◌&&◌, ◌||◌, ◌==◌, not, Bool, true, false, [], ◌∷◌, Option, Some, None, Result, Ok, Err, IfErr, refl}
use Rattle.std.specs.Option.{option_map_or}
use Rattle.std.proofs.Common.{ap, ap₂, sym, subst, ◌∙◌, arith}
use Rattle.std.proofs.lemmas.Bool.{and_parts, and_from, or_left, or_right, eqb-true, le-leb}
use Rattle.cst_core.specs.Path.{same_path, parent_path}
use Rattle.cst_core.specs.Tree.{SyntaxTree, at, is_token}
use Rattle.cst_core.specs.Element.{Element, NumbersTell}
use Rattle.cst_core.specs.SyntaxElement.{element_of, next_sibling, previous_sibling}
use Rattle.cst_core.specs.SyntaxKind.{SyntaxKind}
use Rattle.cst_core.specs.declared.element.SyntaxElement.{SyntaxElement}
use Rattle.cst_core.specs.declared.element.SyntaxElement.TheVariants.{Node, Token}
use Rattle.syntax_editor.specs.Fits.{is_native, is_root, is_range, are_siblings, have_one_path}
use Rattle.syntax_editor.specs.Table.{first_fit}
use Rattle.syntax_editor.specs.RecordCall.{Deleting, refusal}
use Rattle.syntax_editor.specs.declared.error.RecordError.{RecordError}
use Rattle.syntax_editor.specs.declared.error.RecordError.TheVariants.{Foreign, BadRange, DeletesRoot, RootReplacement, LevelTooLarge, NoTreeNumber, Memory}
use Rattle.syntax_editor.specs.Editor.{Editor, RecordRefuses}
use Rattle.list_removal.specs.Removal.{past_whitespace, next_separator, previous_separator, with_whitespace_after, removed_run, removal, RemovalRefuses}
use Rattle.list_removal.proofs.Siblings.{same-itself, IsBefore, IsOwn, before-further, next-after, previous-before, past, token_kept, last_after}

-- ---- native elements
same_tree : (root : Element) (s : SyntaxElement) (m : ℕ) (t : SyntaxTree) → (element_of s).number ≡ m → (element_of s).root ≡ t → IsOwn s → is_native (record root { number = m; root = t }) s ≡ true
same_tree root (Node n) m t number tree own =
    subst (λ k. ((n.number == k) && option_map_or (λ u. not (is_token u)) (at t n.path) false) ≡ true) number (subst (λ u. ((n.number == n.number) && option_map_or (λ u. not (is_token u)) (at u n.path) false) ≡ true) tree own)
same_tree root (Token n) m t number tree own =
    subst (λ k. ((n.number == k) && option_map_or is_token (at t n.path) false) ≡ true) number (subst (λ u. ((n.number == n.number) && option_map_or is_token (at u n.path) false) ≡ true) tree own)

native_number : (root : Element) (e : SyntaxElement) → is_native root e ≡ true → (element_of e).number ≡ root.number
native_number root (Node n) h = eqb-true _ _ (and_parts _ _ h).0
native_number root (Token t) h = eqb-true _ _ (and_parts _ _ h).0

-- ---- ranges
pub in_range : (a b : SyntaxElement) → IsBefore (element_of a) (element_of b) → is_range a b ≡ true
in_range a b h =
    let below : (not (is_root a) && not (is_root b)) ≡ true = ap₂ (λ x y. not x && not y) h.first_below h.last_below in
    let siblings : are_siblings a b ≡ true = and_from _ _ below (ap (λ p. same_path p (parent_path (element_of b).path)) h.parent ∙ same-itself (parent_path (element_of b).path)) in
    or_right (have_one_path a b) _ (and_from _ _ siblings (le-leb _ _ h.slots))

-- ---- the run
pub record IsRunOf (e first last : SyntaxElement) : Type 0 where
  pub foreign : (root : Element) → NumbersTell (root ∷ element_of e ∷ []) → (not (is_native root first) || not (is_native root last)) ≡ not (is_native root e)
  pub range : is_range first last ≡ true
  pub root_first : is_root first ≡ is_root e

-- of two elements of one tree, the other one is native where the one is
other_native : (root : Element) (e s : SyntaxElement) → NumbersTell (root ∷ element_of e ∷ []) → (element_of s).number ≡ (element_of e).number → (element_of s).root ≡ (element_of e).root → IsOwn s → is_native root e ≡ true → is_native root s ≡ true
other_native root e s tell number tree own native =
    let at_number : (element_of e).number ≡ root.number = native_number root e native in
    let told : root.root ≡ (element_of e).root = tell 0 1 root (omega arith) (omega arith) (sym at_number) in
    same_tree root s root.number root.root (number ∙ at_number) (tree ∙ sym told) own

same-or : (a b : Bool) → (a ≡ true → b ≡ true) → (not a || not b) ≡ not a
same-or true b h = ap not (h refl)
same-or false b h = refl

or-same : (a b : Bool) → (a ≡ true → b ≡ true) → (not b || not a) ≡ not a
or-same true b h = ap (λ x. not x || false) (h refl)
or-same false true h = refl
or-same false false h = refl

alone : (e : SyntaxElement) → IsRunOf e e e
alone e =
    record {
      foreign = λ root tell. same-or (is_native root e) (is_native root e) (λ h. h);
      range = or_left (have_one_path e e) _ (same-itself (element_of e).path);
      root_first = refl;
    }

with_after : (e s : SyntaxElement) → IsBefore (element_of e) (element_of s) × IsOwn s → IsRunOf e e s
with_after e s h =
    record {
      foreign = λ root tell. same-or (is_native root e) (is_native root s) (other_native root e s tell h.0.number h.0.root h.1);
      range = in_range e s h.0;
      root_first = refl;
    }

with_before : (e s : SyntaxElement) → IsBefore (element_of s) (element_of e) × IsOwn s → IsRunOf e s e
with_before e s h =
    record {
      foreign = λ root tell. or-same (is_native root e) (is_native root s) (other_native root e s tell (sym h.0.number) (sym h.0.root) h.1);
      range = in_range s e h.0;
      root_first = h.0.first_below ∙ sym h.0.last_below;
    }

module _ (separator : SyntaxKind) (e : SyntaxElement) where
  abbrev Runs : SyntaxElement × SyntaxElement → Type 0
  Runs run = IsRunOf e run.0 run.1

  after_runs : (s : SyntaxElement) → next_separator separator e ≡ Some s → IsRunOf e e (with_whitespace_after s)
  after_runs s is =
      with_after e (with_whitespace_after s) (last_after e s (past IsBefore before-further next_sibling next-after e s (token_kept separator (past_whitespace next_sibling e) s is)))

  before_runs : (s : SyntaxElement) → previous_separator separator e ≡ Some s → IsRunOf e s e
  before_runs s is =
      with_before e s (past (λ a b. IsBefore b a) (λ a b c h k. before-further c b a k h) previous_sibling previous-before e s (token_kept separator (past_whitespace previous_sibling e) s is))

  pub run_is : Runs (removed_run separator e)
  run_is = by_after (next_separator separator e) refl
    where
      by_before : (o : Option SyntaxElement) → next_separator separator e ≡ None → previous_separator separator e ≡ o → Runs (removed_run separator e)
      by_before None none is = rw (none, is) (alone e)
      by_before (Some s) none is = rw (none, is) (before_runs s is)

      by_after : (o : Option SyntaxElement) → next_separator separator e ≡ o → Runs (removed_run separator e)
      by_after (Some s) is = rw is (after_runs s is)
      by_after None is = by_before (previous_separator separator e) is refl

  -- ---- refusals
  two_lines : (a b : Bool) (x y : RecordError) → first_fit ((a, x) ∷ (false, BadRange) ∷ (b, y) ∷ []) ≡ first_fit ((a, x) ∷ (b, y) ∷ [])
  two_lines true b x y = refl
  two_lines false b x y = refl

  pub refused : (root : Element) → NumbersTell (root ∷ element_of e ∷ []) → refusal root (removal separator e) ≡ refusal root (Deleting e)
  refused root tell =
      let run = run_is in
      ap (λ a. first_fit ((a, Foreign) ∷ (not (is_range (removed_run separator e).0 (removed_run separator e).1), BadRange) ∷ (is_root (removed_run separator e).0, DeletesRoot) ∷ [])) (run.foreign root tell)
      ∙ ap₂ (λ b c. first_fit ((not (is_native root e), Foreign) ∷ (not b, BadRange) ∷ (c, DeletesRoot) ∷ [])) run.range run.root_first
      ∙ two_lines (not (is_native root e)) (is_root e) Foreign DeletesRoot

  -- ---- the call that deletes the run
  abbrev three_lines : Bool → Bool → Bool → Option RecordError
  three_lines a b c = first_fit ((a, Foreign) ∷ (b, BadRange) ∷ (c, DeletesRoot) ∷ [])

  not_bad : (a b c : Bool) → b ≡ false → three_lines a b c ≡ Some BadRange → ⊥
  not_bad a true c fits h = absurd (cc)
  not_bad true false c fits h = cc
  not_bad false false true fits h = cc
  not_bad false false false fits h = cc

  not_replaced : (a b c : Bool) → three_lines a b c ≡ Some RootReplacement → ⊥
  not_replaced true b c h = cc
  not_replaced false true c h = cc
  not_replaced false false true h = cc
  not_replaced false false false h = cc

  module _ (before : Editor) where
    abbrev first : SyntaxElement
    first = (removed_run separator e).0

    abbrev last : SyntaxElement
    last = (removed_run separator e).1

    abbrev foreign : Bool
    foreign = not (is_native before.root first) || not (is_native before.root last)

    refuses_by : (error : RecordError) → RecordRefuses (removal separator e) before error → RemovalRefuses before.root separator e error
    refuses_by Foreign h = h
    refuses_by BadRange h = not_bad foreign (not (is_range first last)) (is_root first) (ap not run_is.range) h
    refuses_by DeletesRoot h = h
    refuses_by RootReplacement h = not_replaced foreign (not (is_range first last)) (is_root first) h
    refuses_by LevelTooLarge h = h
    refuses_by NoTreeNumber h = h
    refuses_by Memory h = tt

    pub refuses : {T : Type 0} (r : Result T RecordError) → IfErr r (RecordRefuses (removal separator e) before) → IfErr r (RemovalRefuses before.root separator e)
    refuses (Ok t) h = tt
    refuses (Err error) h = refuses_by error h
