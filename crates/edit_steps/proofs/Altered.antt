-- The node whose children a fitting change alters is a node of the tree, and lies in the change's surroundings.
--     prefix_above, own_up_to, prefix_up_to      the paths on the way to a path
--     one_item, no_item             lists of one path
--     parents-inv, parents-push     the parent of a path
--     fit_at                        one of several changes fits
--     native_node, target_native, many_native, first_native      what a fitting change aims at is native
--     no_replacing                  an insert replaces nothing
--     region_has                    a node that a change replaces is in its region
--     IsAltered, altered            THE NODE that a change alters
--     node_over                     what is above a node is a node
use Rattle.std.specs.Prelude.{◌≡◌, ℕ, zero, suc, ◌-◌, Bool, true, false, ◌==◌, ◌&&◌, not, List, [], ◌∷◌, ◌++◌, map, Option, Some, None, IsSome, refl}
use Rattle.std.specs.Option.{option_map_or}
use Rattle.std.proofs.Common.{ap, sym, subst, ◌∙◌}
use Rattle.std.proofs.lemmas.Bool.{and_parts, or_cases, or_left, or_right, false≢true}
use Rattle.std.proofs.lemmas.List.{append-nil, append_assoc}
use mathlib.Core.Logic.{inl, inr}
use Rattle.cst_core.specs.Path.{Path, same_path, has_path, above, up_to, parent_path, last_slot, counted_from}
use Rattle.cst_core.specs.Tree.{SyntaxTree, at, is_token}
use Rattle.cst_core.specs.Tree as tree
use Rattle.cst_core.specs.Element.{Element}
use Rattle.cst_core.specs.SyntaxElement.{element_of}
use Rattle.cst_core.specs.declared.element.SyntaxElement.{SyntaxElement}
use Rattle.cst_core.specs.declared.element.SyntaxElement.TheVariants.{Node, Token}
use Rattle.cst_core.proofs.LastSlot.{parent-and-slot, parent_path-push}
use Rattle.green_tree.proofs.Lookup.{IsNodeThere, at_front, at_parent}
use Rattle.edit_change.specs.Aim.{AfterElement, Over, replaces, parents}
use Rattle.edit_change.specs.ChangeAim.{position_aim, aim}
use Rattle.edit_change.specs.Fits.{Fits, is_native, is_native_position, is_range, have_one_path}
use Rattle.edit_change.specs.Nesting.{region, surroundings}
use Rattle.edit_change.specs.Position.{anchor}
use Rattle.edit_change.specs.PositionForm.{FirstChild, After}
use Rattle.edit_change.specs.declared.change.Change.{Change}
use Rattle.edit_change.specs.declared.change.Change.TheVariants.{Insert, InsertAll, Replace, ReplaceWithMany, ReplaceAll}
use Rattle.edit_change.specs.declared.position.Position.{Position}
use Rattle.edit_change.proofs.Aiming.{range-has-parent}
use Rattle.edit_change.proofs.Paths.{same_path-true, same_path_from}
use Rattle.edit_change.proofs.AimsApart.{has_own, only_one}
use Rattle.edit_change.proofs.OwnersKeep.{has_left}

-- ---- paths on the way
has-map : (i : ℕ) (p : Path) (ps : List Path) → has_path ps p ≡ true → has_path (map (λ q. i ∷ q) ps) (i ∷ p) ≡ true
has-map i p [] h = h
has-map i p (q ∷ ps) h =
    elim (or_cases (same_path p q) (has_path ps p) h) [
      | inl here ↦ or_left (same_path (i ∷ p) (i ∷ q)) (has_path (map (λ q. i ∷ q) ps) (i ∷ p)) (same_path_from (i ∷ p) (i ∷ q) (ap (λ r. i ∷ r) (same_path-true p q here)))
      | inr there ↦ or_right (same_path (i ∷ p) (i ∷ q)) (has_path (map (λ q. i ∷ q) ps) (i ∷ p)) (has-map i p ps there)
    ]

pub prefix_above : (s : Path) (j : ℕ) (r : Path) → has_path (above (s ++ j ∷ r)) s ≡ true
prefix_above [] j r = refl
prefix_above (i ∷ s) j r = has-map i s (above (s ++ j ∷ r)) (prefix_above s j r)

has_right : (ps qs : List Path) (p : Path) → has_path qs p ≡ true → has_path (ps ++ qs) p ≡ true
has_right [] qs p h = h
has_right (q ∷ ps) qs p h = or_right (same_path p q) (has_path (ps ++ qs) p) (has_right ps qs p h)

pub own_up_to : (p : Path) → has_path (up_to p) p ≡ true
own_up_to p = has_right (above p) (p ∷ []) p (has_own p [])

pub prefix_up_to : (s r : Path) → has_path (up_to (s ++ r)) s ≡ true
prefix_up_to s [] = subst (λ q. has_path (up_to q) s ≡ true) (sym (append-nil s)) (own_up_to s)
prefix_up_to s (j ∷ r) = has_left (above (s ++ j ∷ r)) ((s ++ j ∷ r) ∷ []) s (prefix_above s j r)

-- the paths at and above a parent are above its child
prefix_of_child : (s r p : Path) (i : ℕ) → s ++ r ≡ p → has_path (above (p ++ i ∷ [])) s ≡ true
prefix_of_child s [] p i same =
    subst (λ q. has_path (above (q ++ i ∷ [])) s ≡ true) (sym (append-nil s) ∙ same) (prefix_above s i [])
prefix_of_child s (j ∷ r) p i same =
    subst (λ q. has_path (above q) s ≡ true) (sym (append_assoc s (j ∷ r) (i ∷ [])) ∙ ap (λ q. q ++ i ∷ []) same) (prefix_above s j (r ++ i ∷ []))

up_to_child : (s r p : Path) (i : ℕ) → s ++ r ≡ p → has_path (up_to (p ++ i ∷ [])) s ≡ true
up_to_child s r p i same = has_left (above (p ++ i ∷ [])) ((p ++ i ∷ []) ∷ []) s (prefix_of_child s r p i same)

-- ---- the parent of a path
pub one_item : (q r : Path) → q ∷ [] ≡ r ∷ [] → q ≡ r
one_item q r e = cc

pub no_item : (q : Path) → ◌≡◌ {A = List Path} [] (q ∷ []) → ⊥
no_item q e = cc

pub parents-inv : (z p : Path) → parents (AfterElement z) ≡ p ∷ [] → (k : ℕ) × (z ≡ p ++ k ∷ [])
parents-inv [] p h = absurd (no_item p h)
parents-inv (i ∷ z) p h = (last_slot (i ∷ z), parent-and-slot i z ∙ ap (λ q. q ++ last_slot (i ∷ z) ∷ []) (one_item (parent_path (i ∷ z)) p h))

pub parents-push : (p : Path) (k : ℕ) → parents (AfterElement (p ++ k ∷ [])) ≡ p ∷ []
parents-push [] k = refl
parents-push (i ∷ p) k = ap (λ q. q ∷ []) (parent_path-push (i ∷ p) k)

node_there : (o : Option SyntaxTree) → option_map_or (λ t. not (is_token t)) o false ≡ true → IsNodeThere o
node_there None h = absurd (false≢true h)
node_there (Some (tree.Token k s)) h = absurd (false≢true h)
node_there (Some (tree.Node k f)) h = record { kind = k; below = f; is = refl }

no_token_there : (o : Option SyntaxTree) → option_map_or is_token o false ≡ true → IsNodeThere o → ⊥
no_token_there o h there = false≢true (sym (ap (λ x. option_map_or is_token x false) there.is) ∙ h)

some_there : (o : Option SyntaxTree) (f : SyntaxTree → Bool) → option_map_or f o false ≡ true → IsSome o
some_there None f h = absurd (false≢true h)
some_there (Some t) f h = refl

pub no_replacing : (at : Position) (y : Path) → replaces y (position_aim at) ≡ true → ⊥
no_replacing (FirstChild n) y h = false≢true h
no_replacing (After e) y h = false≢true h

module _ (root : Element) where
  pub native_node : (n : Element) → is_native root (Node n) ≡ true → IsNodeThere (at root.root n.path)
  native_node n h = node_there (at root.root n.path) (and_parts (n.number == root.number) _ h).1

  native_token : (t : Element) → is_native root (Token t) ≡ true → IsNodeThere (at root.root t.path) → ⊥
  native_token t h = no_token_there (at root.root t.path) (and_parts (t.number == root.number) _ h).1

  native_some : (e : SyntaxElement) → is_native root e ≡ true → IsSome (at root.root (element_of e).path)
  native_some (Node n) h = some_there (at root.root n.path) (λ t. not (is_token t)) (and_parts (n.number == root.number) _ h).1
  native_some (Token t) h = some_there (at root.root t.path) is_token (and_parts (t.number == root.number) _ h).1

  pub target_native : (t : SyntaxElement) (e : Option SyntaxElement) → Fits root (Replace t e) → is_native root t ≡ true
  target_native t None h = (and_parts (is_native root t) _ h).0
  target_native t (Some e) h = (and_parts (is_native root t) _ h).0

  pub many_native : (t : SyntaxElement) (es : List SyntaxElement) → Fits root (ReplaceWithMany t es) → is_native root t ≡ true
  many_native t es h = (and_parts (is_native root t) _ h).0

  pub first_native : (first last : SyntaxElement) (es : List SyntaxElement) → Fits root (ReplaceAll first last es) → is_native root first ≡ true
  first_native first last es h =
      let whole = and_parts (is_native root first && is_native root last && is_range first last) (not (have_one_path first last)) h in
      let range = and_parts (is_native root first && is_native root last) (is_range first last) whole.0 in
      (and_parts (is_native root first) (is_native root last) range.0).0

  -- ---- a node that is replaced
  one_replaced : (t : SyntaxElement) (y : Path) → is_native root t ≡ true → IsNodeThere (at root.root y) → has_path ((element_of t).path ∷ []) y ≡ true → has_path (region (Replace t None)) y ≡ true
  one_replaced (Node n) y native there h = h
  one_replaced (Token t) y native there h =
      absurd (native_token t native (subst (λ q. IsNodeThere (at root.root q)) (only_one y t.path h) there))

  pub region_has : (d : Change) (y : Path) → Fits root d → IsNodeThere (at root.root y) → replaces y (aim d) ≡ true → has_path (region d) y ≡ true
  region_has (Insert at e) y fit there h = absurd (no_replacing at y h)
  region_has (InsertAll at es) y fit there h = absurd (no_replacing at y h)
  region_has (Replace t e) y fit there h = one_replaced t y (target_native t e fit) there h
  region_has (ReplaceWithMany t es) y fit there h = one_replaced t y (many_native t es fit) there h
  region_has (ReplaceAll first last es) y fit there h = h

  -- ---- the node whose children a change alters: it is there, and all on the way to it is in these surroundings
  pub record IsAltered (surrounding : List Path) (p : Path) : Type 0 where
    pub node : IsNodeThere (at root.root p)
    pub around : (s r : Path) → s ++ r ≡ p → has_path surrounding s ≡ true

  parent_node : (e : SyntaxElement) (p : Path) (k : ℕ) → is_native root e ≡ true → (element_of e).path ≡ p ++ k ∷ [] → IsNodeThere (at root.root p)
  parent_node e p k native same = at_parent root.root p k (subst (λ q. IsSome (at root.root q)) same (native_some e native))

  altered_position : (position : Position) (p : Path) → is_native_position root position ≡ true → parents (position_aim position) ≡ p ∷ [] → IsAltered (up_to (anchor position).path) p
  altered_position (FirstChild n) p native h =
      let same : n.path ≡ p = one_item n.path p h in
      record {
        node = subst (λ q. IsNodeThere (at root.root q)) same (native_node n native);
        around = λ s r e. subst (λ q. has_path (up_to q) s ≡ true) (e ∙ sym same) (prefix_up_to s r);
      }
  altered_position (After e) p native h =
      let back = parents-inv (element_of e).path p h in
      record {
        node = parent_node e p back.0 native back.1;
        around = λ s r same. subst (λ q. has_path (up_to q) s ≡ true) (sym back.1) (up_to_child s r p back.0 same);
      }

  -- the parent of a replacement's first target
  altered_target : (t : SyntaxElement) (p : Path) (k : ℕ) → is_native root t ≡ true → (element_of t).path ≡ p ++ k ∷ [] → IsAltered (above (element_of t).path) p
  altered_target t p k native same = record {
    node = parent_node t p k native same;
    around = λ s r e. ap (λ q. has_path (above q) s) same ∙ prefix_of_child s r p k e;
  }

  first_of_range : (f p : Path) (n : ℕ) → (f ≡ [] → ⊥) → parents (Over (map (λ i. parent_path f ++ i ∷ []) (counted_from (last_slot f) n))) ≡ p ∷ [] → (k : ℕ) × (f ≡ p ++ k ∷ [])
  first_of_range [] p n some h = absurd (some refl)
  first_of_range (i ∷ f) p zero some h = absurd (no_item p h)
  first_of_range (i ∷ f) p (suc n) some h =
      let back = parents-inv (parent_path (i ∷ f) ++ last_slot (i ∷ f) ∷ []) p h in
      (back.0, parent-and-slot i f ∙ back.1)

  pub altered : (c : Change) (p : Path) → Fits root c → parents (aim c) ≡ p ∷ [] → IsAltered (surroundings c) p
  altered (Insert at e) p fit h = altered_position at p fit h
  altered (InsertAll at es) p fit h = altered_position at p fit h
  altered (Replace t e) p fit h =
      let back = parents-inv (element_of t).path p h in
      altered_target t p back.0 (target_native t e fit) back.1
  altered (ReplaceWithMany t es) p fit h =
      let back = parents-inv (element_of t).path p h in
      altered_target t p back.0 (many_native t es fit) back.1
  altered (ReplaceAll first last es) p fit h =
      let back = first_of_range (element_of first).path p (suc (last_slot (element_of last).path) - last_slot (element_of first).path) (range-has-parent root first last es fit) h in
      altered_target first p back.0 (first_native first last es fit) back.1

-- ---- what is above a node
pub node_over : (t : SyntaxTree) (s r : Path) → IsNodeThere (at t (s ++ r)) → IsNodeThere (at t s)
node_over t s [] there = subst (λ q. IsNodeThere (at t q)) (append-nil s) there
node_over t s (i ∷ r) there =
    let whole : (s ++ i ∷ []) ++ r ≡ s ++ i ∷ r = append_assoc s (i ∷ []) r in
    let child = node_over t (s ++ i ∷ []) r (subst (λ q. IsNodeThere (at t q)) (sym whole) there) in
    at_front t s i (tree.Node child.kind child.below) child.is
