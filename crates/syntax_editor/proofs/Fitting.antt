-- What a call that is not refused records fits the tree.
use Rattle.std.specs.Prelude.{◌≡◌, Bool, true, false, ◌&&◌, ◌||◌, ◌==◌, not, List, [], ◌∷◌, Option, Some, None, option_map, All, refl}
use Rattle.std.proofs.Common.{ap, sym, ◌∙◌}
use Rattle.std.proofs.lemmas.Bool.{and_parts, and_from, or_parts, not-false, not_from_false, cond_both, eqb-true, eq-eqb, true≢false}
use Rattle.std.proofs.lemmas.List.Elements.{All-push}
use Rattle.cst_core.specs.Path.{same_path}
use Rattle.cst_core.specs.Element.{Element, same_element}
use Rattle.cst_core.specs.SyntaxElement.{element_of}
use Rattle.cst_core.specs.declared.element.SyntaxElement.{SyntaxElement}
use Rattle.cst_core.specs.declared.element.SyntaxElement.TheVariants.{Node, Token}
use Rattle.edit_change.specs.declared.change.Change.{Change}
use Rattle.edit_change.specs.declared.change.Change.TheVariants.{Insert, InsertAll, Replace, ReplaceWithMany, ReplaceAll}
use Rattle.whitespace.specs.Table.{first_fit}
use Rattle.change_list.specs.Recording.{with_replacement, is_replace_of, delete, replace}
use Rattle.edit_plan.specs.Fits.{is_native, is_native_position, is_root, is_one_node, is_range, Fits}
use Rattle.syntax_editor.specs.RecordCall.{RecordCall, Inserting, InsertingAll, Deleting, Replacing, ReplacingWithMany, DeletingAll, ReplacingAll, recorded, refusal}
use Rattle.syntax_editor.specs.declared.error.RecordError.TheVariants.{Foreign, BadRange, DeletesRoot, RootReplacement}
use Rattle.change_list.proofs.Addresses.{same_element-true}
use Rattle.change_list.proofs.TakenUp.{all-taken, test_of}

-- where no line of a table fits, no test holds
one_line : {X : Type 0} (a : Bool) (x : X) → first_fit ((a, x) ∷ []) ≡ None → a ≡ false
one_line true x none = cc
one_line false x none = refl

two_lines : {X : Type 0} (a b : Bool) (x y : X) → first_fit ((a, x) ∷ (b, y) ∷ []) ≡ None → (a ≡ false) × (b ≡ false)
two_lines true b x y none = cc
two_lines false b x y none = (refl, one_line b y none)

three_lines : {X : Type 0} (a b c : Bool) (x y z : X) → first_fit ((a, x) ∷ (b, y) ∷ (c, z) ∷ []) ≡ None → (a ≡ false) × (b ≡ false) × (c ≡ false)
three_lines true b c x y z none = cc
three_lines false b c x y z none =
    let further = two_lines b c y z none in
    (refl, further.0, further.1)

-- a root is replaced by one node
root_by_node : (a b : Bool) → (a && not b) ≡ false → (not a || b) ≡ true
root_by_node true true h = refl
root_by_node true false h = sym h
root_by_node false b h = refl

pub native_number : (root : Element) (e : SyntaxElement) → is_native root e ≡ true → (element_of e).number ≡ root.number
native_number root (Node n) h = eqb-true _ _ (and_parts _ _ h).0
native_number root (Token t) h = eqb-true _ _ (and_parts _ _ h).0

-- native elements of different addresses have different paths
apart : (root : Element) (d e : SyntaxElement) → is_native root d ≡ true → is_native root e ≡ true → same_element (element_of d) (element_of e) ≡ false → same_path (element_of d).path (element_of e).path ≡ false
apart root d e native-d native-e h =
    let numbers : ((element_of d).number == (element_of e).number) ≡ true = eq-eqb _ _ (native_number root d native-d ∙ sym (native_number root e native-e)) in
    sym (ap (λ b. b && same_path (element_of d).path (element_of e).path) numbers) ∙ h

module _ (root : Element) where
  pub native_target : (u : SyntaxElement) (new : Option SyntaxElement) → Fits root (Replace u new) → is_native root u ≡ true
  native_target u None fits = (and_parts _ _ fits).0
  native_target u (Some e) fits = (and_parts _ _ fits).0

  -- ---- a Replace that is taken up
  module _ (t : SyntaxElement) (h : Option SyntaxElement → Option SyntaxElement) where
    -- by this element it may be replaced as t may
    kept : ((u : SyntaxElement) (new : Option SyntaxElement) → is_root u ≡ is_root t → Fits root (Replace u new) → Fits root (Replace u (h new))) → (c : Change) → is_replace_of t c ≡ true → Fits root c → Fits root (with_replacement h c)
    kept may (Insert at e) passes fits = fits
    kept may (InsertAll at es) passes fits = fits
    kept may (Replace u new) passes fits =
        may u new (ap (λ a. same_path a.path []) (same_element-true (element_of u) (element_of t) (test_of (same_element (element_of u) (element_of t)) new passes))) fits
    kept may (ReplaceWithMany u es) passes fits = fits
    kept may (ReplaceAll first last es) passes fits = fits

  delete_fits : (t : SyntaxElement) (cs : List Change) → is_native root t ≡ true → is_root t ≡ false → All (Fits root) cs → All (Fits root) (delete t cs)
  delete_fits t cs native below all =
      all-taken (is_replace_of t) (with_replacement (λ _. None)) (Replace t None) (Fits root) (kept t (λ _. None) (λ u new same fits. and_from _ _ (native_target u new fits) (not_from_false (is_root u) (same ∙ below)))) (and_from _ _ native (not_from_false (is_root t) below)) cs all

  replace_fits : (t e : SyntaxElement) (cs : List Change) → is_native root t ≡ true → (not (is_root t) || is_one_node (e ∷ [])) ≡ true → All (Fits root) cs → All (Fits root) (replace t e cs)
  replace_fits t e cs native by_node all =
      all-taken (is_replace_of t) (with_replacement (option_map (λ _. e))) (Replace t (Some e)) (Fits root) (kept t (option_map (λ _. e)) may) (and_from _ _ native by_node) cs all
    where
      may : (u : SyntaxElement) (new : Option SyntaxElement) → is_root u ≡ is_root t → Fits root (Replace u new) → Fits root (Replace u (option_map (λ _. e) new))
      may u None same fits = fits
      may u (Some f) same fits = and_from _ _ (and_parts _ _ fits).0 (ap (λ b. not b || is_one_node (e ∷ [])) same ∙ by_node)

  -- ---- the ends of a range
  pub both_native : (first last : SyntaxElement) → (not (is_native root first) || not (is_native root last)) ≡ false → (is_native root first ≡ true) × (is_native root last ≡ true)
  both_native first last h =
      let parts = or_parts _ _ h in
      (not-false _ parts.0, not-false _ parts.1)

  range_fits : (first last : SyntaxElement) (es : List SyntaxElement) → (is_native root first ≡ true) × (is_native root last ≡ true) → is_range first last ≡ true → same_element (element_of first) (element_of last) ≡ false → Fits root (ReplaceAll first last es)
  range_fits first last es native range two =
      and_from _ _ (and_from _ _ (and_from _ _ native.0 native.1) range) (not_from_false _ (apart root first last native.0 native.1 two))

  pub deleted_native : (first last : SyntaxElement) → refusal root (DeletingAll first last) ≡ None → is_native root first ≡ true
  deleted_native first last taken =
      let meets = three_lines (not (is_native root first) || not (is_native root last)) (not (is_range first last)) (is_root first) Foreign BadRange DeletesRoot taken in
      (both_native first last meets.0).0

  pub deleted_range : (first last : SyntaxElement) → refusal root (DeletingAll first last) ≡ None → same_element (element_of first) (element_of last) ≡ false → Fits root (ReplaceAll first last [])
  deleted_range first last taken two =
      let meets = three_lines (not (is_native root first) || not (is_native root last)) (not (is_range first last)) (is_root first) Foreign BadRange DeletesRoot taken in
      range_fits first last [] (both_native first last meets.0) (not-false _ meets.1) two

  pub replaced_element : (first last : SyntaxElement) (es : List SyntaxElement) → refusal root (ReplacingAll first last es) ≡ None → Fits root (ReplaceWithMany first es)
  replaced_element first last es taken =
      let meets = three_lines (not (is_native root first) || not (is_native root last)) (not (is_range first last)) (is_root first && not (is_one_node es)) Foreign BadRange RootReplacement taken in
      and_from _ _ (both_native first last meets.0).0 (root_by_node (is_root first) (is_one_node es) meets.2)

  pub replaced_range : (first last : SyntaxElement) (es : List SyntaxElement) → refusal root (ReplacingAll first last es) ≡ None → same_element (element_of first) (element_of last) ≡ false → Fits root (ReplaceAll first last es)
  replaced_range first last es taken two =
      let meets = three_lines (not (is_native root first) || not (is_native root last)) (not (is_range first last)) (is_root first && not (is_one_node es)) Foreign BadRange RootReplacement taken in
      range_fits first last es (both_native first last meets.0) (not-false _ meets.1) two

  pub recorded_fits : (call : RecordCall) (cs : List Change) → refusal root call ≡ None → All (Fits root) cs → All (Fits root) (recorded call cs)
  recorded_fits (Inserting at e) cs accepted all =
      All-push (Fits root) cs (Insert at e) all (not-false (is_native_position root at) (one_line (not (is_native_position root at)) Foreign accepted))
  recorded_fits (InsertingAll at es) cs accepted all =
      All-push (Fits root) cs (InsertAll at es) all (not-false (is_native_position root at) (one_line (not (is_native_position root at)) Foreign accepted))
  recorded_fits (Deleting t) cs accepted all =
      let meets = two_lines (not (is_native root t)) (is_root t) Foreign DeletesRoot accepted in
      delete_fits t cs (not-false _ meets.0) meets.1 all
  recorded_fits (Replacing t e) cs accepted all =
      let meets = two_lines (not (is_native root t)) (is_root t && not (is_one_node (e ∷ []))) Foreign RootReplacement accepted in
      replace_fits t e cs (not-false _ meets.0) (root_by_node (is_root t) (is_one_node (e ∷ [])) meets.1) all
  recorded_fits (ReplacingWithMany t es) cs accepted all =
      let meets = two_lines (not (is_native root t)) (is_root t && not (is_one_node es)) Foreign RootReplacement accepted in
      All-push (Fits root) cs (ReplaceWithMany t es) all (and_from _ _ (not-false (is_native root t) meets.0) (root_by_node (is_root t) (is_one_node es) meets.1))
  recorded_fits (DeletingAll first last) cs accepted all =
      let meets = three_lines (not (is_native root first) || not (is_native root last)) (not (is_range first last)) (is_root first) Foreign BadRange DeletesRoot accepted in
      let native = both_native first last meets.0 in
      cond_both (same_element (element_of first) (element_of last)) _ _ (All (Fits root)) (λ _. delete_fits first cs native.0 meets.2 all) (λ two. All-push (Fits root) cs (ReplaceAll first last []) all (range_fits first last [] native (not-false _ meets.1) two))
  recorded_fits (ReplacingAll first last es) cs accepted all =
      let meets = three_lines (not (is_native root first) || not (is_native root last)) (not (is_range first last)) (is_root first && not (is_one_node es)) Foreign BadRange RootReplacement accepted in
      let native = both_native first last meets.0 in
      cond_both (same_element (element_of first) (element_of last)) _ _ (All (Fits root)) (λ _. All-push (Fits root) cs (ReplaceWithMany first es) all (and_from _ _ native.0 (root_by_node (is_root first) (is_one_node es) meets.2))) (λ two. All-push (Fits root) cs (ReplaceAll first last es) all (range_fits first last es native (not-false _ meets.1) two))

-- ---- where no line of a table applies
pub no-line : {X : Type 0} (a b : Bool) (x y : X) → a ≡ false → b ≡ false → first_fit ((a, x) ∷ (b, y) ∷ []) ≡ None
no-line true b x y h k = absurd (true≢false h)
no-line false true x y h k = absurd (true≢false k)
no-line false false x y h k = refl

pub no-line-of-three : {X : Type 0} (a b c : Bool) (x y z : X) → a ≡ false → b ≡ false → c ≡ false → first_fit ((a, x) ∷ (b, y) ∷ (c, z) ∷ []) ≡ None
no-line-of-three true b c x y z h k l = absurd (true≢false h)
no-line-of-three false b c x y z h k l = no-line b c y z k l
