-- The root of a new tree is a node.
--     kept-node, brought-node       a node that is kept is one in the new tree, and so is one that is brought
--     stays-a-node                  what stands in the place of the root is one node
--     takes-its-place               the node that a change brings which replaces the root
--     if-given                      the change that replaces it gives one element
--     not-token                     one node is no token
use Rattle.std.specs.Prelude.{◌≡◌, ℕ, true, false, cond, List, [], ◌∷◌, map, flat_map, length, slice_get, unwrap_or, option_map, Option, Some, None, IfSome, refl}
use Rattle.std.specs.Option.{option_map_or}
use Rattle.std.proofs.Common.{ap, sym, subst, ◌∙◌}
use Rattle.std.proofs.lemmas.Bool.{true≢false}
use Rattle.std.proofs.lemmas.Option.{none-some, same_Some}
use Rattle.std.proofs.lemmas.List.{append-nil, length-map}
use Rattle.cst_core.specs.GreenElement.{element_tree}
use Rattle.cst_core.specs.Path.{Path, has_path}
use Rattle.cst_core.specs.Tree.{SyntaxTree, Forest, Node, Token, at, is_token, forest, forest_relabelled}
use Rattle.cst_core.specs.Element.{Element, IsNode, subtree, address}
use Rattle.edit_change.specs.inner.KindOnly.{kind_only}
use Rattle.one_pass.specs.inner.Pass.{entry_in, given_in}
use Rattle.edit_change.specs.Rewriting.{NumberedAim, replacements_at, is_replaced, rewritten, rewritten_from, rewritten_whole}
use Rattle.one_pass.specs.declared.marked_element.GivenTable.{GivenTable}
use Rattle.edit_change.specs.Change.{payload, targets}
use Rattle.edit_change.specs.Nesting.{first_clash}
use Rattle.one_pass.specs.inner.OwnerTables.{AreGiven}
use Rattle.one_pass.specs.inner.Root.{IsAlone}
use Rattle.edit_change.specs.inner.OneNode.{IsOneNode, BringsNode}
use Rattle.edit_change.specs.NewTree.{Origin, OriginTree, plain, origin, payload_of, dependents, given, independents}
use Rattle.edit_change.specs.declared.change.Change.{Change}
use Rattle.edit_change.proofs.RootAlone.{root-alone, some-starts}
use Rattle.edit_change.proofs.GivenTrees.{given_is}

-- ---- what stands there
-- a node, whatever its label and its children
tree-of-node : (e : Element) → IsNode e → (k : ℕ) × (f : Forest ℕ) × (subtree e ≡ Node k f)
tree-of-node e node =
    (elim (at e.root e.path) as (λ o. option_map is_token o ≡ Some false → (k : ℕ) × (f : Forest ℕ) × (unwrap_or o (Token 0 []) ≡ Node k f)) [
      | None ↦ λ h. absurd (none-some false h)
      | Some t ↦ λ h. shown t (same_Some (is_token t) false h)
    ]) node
  where
    shown : (t : SyntaxTree) → is_token t ≡ false → (k : ℕ) × (f : Forest ℕ) × (t ≡ Node k f)
    shown (Token k s) h = absurd (true≢false h)
    shown (Node k f) h = (k, f, refl)

kept-node : (table : ℕ → List SyntaxTree) (cs : List NumberedAim) (t : SyntaxTree) (k : ℕ) (f : Forest ℕ) → t ≡ Node k f → IsOneNode (rewritten kind_only table cs [] t ∷ [])
kept-node table cs t k f is = (k, forest (rewritten_from kind_only table cs [] 0 f), ap (λ u. rewritten kind_only table cs [] u ∷ []) is)

brought-node : (o : Path → ℕ → Origin) (g : ℕ → List OriginTree) (cs : List NumberedAim) (t : SyntaxTree) (k : ℕ) (f : Forest ℕ) → t ≡ Node k f → IsOneNode (plain (rewritten o g cs [] t) ∷ [])
brought-node o g cs t k f is =
    ((o [] k).kind, forest_relabelled (λ l. l.kind) (forest (rewritten_from o g cs [] 0 f)), ap (λ u. plain (rewritten o g cs [] u) ∷ []) is)

-- the change that replaces the root gives one element
one-given : (cs : List NumberedAim) (table : GivenTable) (t : SyntaxTree) (c : ℕ) → replacements_at cs [] ≡ c ∷ [] → IsOneNode (rewritten_whole kind_only (given_in table) cs t) → length (entry_in table c) ≡ 1
one-given cs table t c alone one =
    let whole : rewritten_whole kind_only (given_in table) cs t ≡ given_in table c = ap (λ b. cond b (flat_map (given_in table) (replacements_at cs [])) (rewritten kind_only (given_in table) cs [] t ∷ [])) (some-starts cs [] c alone) ∙ ap (flat_map (given_in table)) alone ∙ append-nil (given_in table c) in
    sym (length-map (entry_in table c) (λ e. element_tree e.element)) ∙ ap length (sym whole ∙ one.2)

pub if-given : (cs : List NumberedAim) (table : GivenTable) (t : SyntaxTree) (r : Option ℕ) → IsAlone cs r → IsOneNode (rewritten_whole kind_only (given_in table) cs t) → IfSome r (λ c. length (entry_in table c) ≡ 1)
if-given cs table t None alone one = tt
if-given cs table t (Some c) alone one = one-given cs table t c alone one

pub not-token : (t : SyntaxTree) → is_token t ≡ true → IsOneNode (t ∷ []) → ⊥
not-token t is one =
    let same : t ≡ Node one.0 one.1 = let e = one.2 in cc in
    true≢false (sym is ∙ ap is_token same)

module _ (cs : List Change) (places : ℕ → Path) (table : GivenTable) (are : AreGiven cs places table) (root : Element) where
  top-kept : IsNode root → is_replaced (independents cs) [] ≡ false → IsOneNode (rewritten_whole kind_only (given_in table) (independents cs) (subtree root))
  top-kept node none =
      let t = tree-of-node root node in
      subst IsOneNode (sym (ap (λ b. cond b (flat_map (given_in table) (replacements_at (independents cs) [])) (rewritten kind_only (given_in table) (independents cs) [] (subtree root) ∷ [])) none)) (kept-node (given_in table) (independents cs) (subtree root) t.0 t.1 t.2)

  top-brought : (i : ℕ) (c : Change) → first_clash cs ≡ None → slice_get cs i ≡ Some c → has_path (targets c) [] ≡ true → BringsNode c → IsOneNode (rewritten_whole kind_only (given_in table) (independents cs) (subtree root))
  top-brought i c apart at_i h brings =
      let alone = root-alone cs i c apart at_i h in
      let t = tree-of-node brings.0 brings.2 in
      let own = origin (address brings.0) (Some i) in
      let payload_is : payload_of cs i ≡ brings.0 ∷ [] = ap (λ o. option_map_or payload o []) at_i ∙ brings.1 in
      let given_is_one : given_in table i ≡ plain (rewritten own (given cs places) (dependents cs places i) [] (subtree brings.0)) ∷ [] = are i ∙ ap (map plain) (given_is cs places i ∙ ap (map (λ e. rewritten (origin (address e) (Some i)) (given cs places) (dependents cs places i) [] (subtree e))) payload_is) in
      let whole : rewritten_whole kind_only (given_in table) (independents cs) (subtree root) ≡ given_in table i = ap (λ b. cond b (flat_map (given_in table) (replacements_at (independents cs) [])) (rewritten kind_only (given_in table) (independents cs) [] (subtree root) ∷ [])) (some-starts (independents cs) [] i alone) ∙ ap (flat_map (given_in table)) alone ∙ append-nil (given_in table i) in
      subst IsOneNode (sym (whole ∙ given_is_one)) (brought-node own (given cs places) (dependents cs places i) (subtree brings.0) t.0 t.1 t.2)

-- by the change that replaces the root, if one does
pub stays-a-node : (cs : List Change) (root : Element) → IsNode root → is_replaced (independents cs) [] ≡ false → (places : ℕ → Path) (table : GivenTable) → AreGiven cs places table → IsOneNode (rewritten_whole kind_only (given_in table) (independents cs) (subtree root))
stays-a-node cs root node none places table are = top-kept cs places table are root node none

pub takes-its-place : (cs : List Change) (root : Element) (i : ℕ) (c : Change) → first_clash cs ≡ None → slice_get cs i ≡ Some c → has_path (targets c) [] ≡ true → BringsNode c → (places : ℕ → Path) (table : GivenTable) → AreGiven cs places table → IsOneNode (rewritten_whole kind_only (given_in table) (independents cs) (subtree root))
takes-its-place cs root i c apart at_i there brings places table are =
    top-brought cs places table are root i c apart at_i there brings
