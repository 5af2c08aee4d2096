-- A change builds all nodes on the way to it: where it is carried out, its aim is there.
--     is_node, is_there             what a path leads to is a node, is an element
--     AimsAt, nodes_to, aims-builds      an aim at what is there in that form builds all nodes on the way to it
--     fits-aims                     a fitting change aims so in the old tree
--     at-without_texts              what a path leads to, in a tree without texts
--     AreAlike, alike_from, moved-aims      below two paths trees have one shape, so an aim below the first one is moved with it
--     staged-free, staged-owned     where a change without an owner aims, where one with an owner aims
--     free-live                     A CHANGE WITHOUT AN OWNER builds all nodes on the way to it, in the old tree
--     owned-live                    SO DOES ONE WITH AN OWNER, in the payload that has the shape of the owner's target
--     target-number, target-root    the owner's target has the number of the old tree; where numbers tell trees, it is in that tree
--     tree_of-free, tree_of-owned   the tree in which it is carried out
use Rattle.std.specs.Prelude.{◌≡◌, ℕ, zero, suc, ◌+◌, ◌-◌, Bool, true, false, ◌==◌, not, cond, nat_eq, List, [], ◌∷◌, ◌++◌, map, flat_map, length, sum_by, slice_get, unwrap_or, All, Option, Some, None, option_map, option_and_then, refl}
use Rattle.std.specs.Option.{option_map_or}
use Rattle.std.proofs.Common.{ap, sym, subst, ◌∙◌, arith}
use Rattle.std.proofs.lemmas.Bool.{and_parts, eqb-true, eq-eqb}
use Rattle.std.proofs.lemmas.List.{append_assoc}
use Rattle.std.proofs.lemmas.Option.{none-some, same_Some, slice_get-map}
use Rattle.cst_core.specs.Path.{Path, parent_path, last_slot, counted_from, first_item}
use Rattle.green_tree.specs.Tree as tree
use Rattle.green_tree.specs.Tree.{Forest, SyntaxTree, trees, children, is_token, at, without_texts, forest_without_texts, SameShape}
use Rattle.green_tree.proofs.Lookup.{IsNodeThere, at-append}
use Rattle.cst_core.specs.Element.{Element, subtree, NumbersTell}
use Rattle.cst_core.specs.SyntaxElement.{element_of}
use Rattle.cst_core.specs.declared.element.SyntaxElement.{SyntaxElement}
use Rattle.cst_core.specs.declared.element.SyntaxElement.TheVariants.{Node, Token}
use Rattle.cst_core.proofs.LastSlot.{parent-and-slot}
use Rattle.edit_change.specs.Aim.{Aim, FirstIn, AfterElement, Over, parents}
use Rattle.edit_change.specs.Change.{payload, elements, targets}
use Rattle.edit_change.specs.ChangeAim.{position_aim, aim}
use Rattle.edit_change.specs.Fits.{Fits, is_native, is_native_position}
use Rattle.edit_change.specs.Nesting.{owner, has_owner}
use Rattle.edit_change.specs.PositionForm.{FirstChild, After}
use Rattle.edit_change.specs.declared.change.Change.{Change}
use Rattle.edit_change.specs.declared.change.Change.TheVariants.{Insert, InsertAll, Replace, ReplaceWithMany, ReplaceAll}
use Rattle.edit_change.specs.declared.position.Position.{Position}
use Rattle.edit_change.proofs.Aiming.{range-has-parent}
use Rattle.edit_steps.specs.StepCount.{is_live, step_builds}
use Rattle.edit_change.specs.NewTree.{moved_path, moved_aim, targets_of, payload_of}
use Rattle.edit_change.specs.StagedChange.{staged_aim, tree_of}
use Rattle.edit_change.proofs.MovedAims.{fit_at}
use Rattle.edit_steps.proofs.Altered.{native_node, target_native, many_native, first_native}
use Rattle.edit_change.proofs.AimsApart.{IsUnder, IsBelow, moved-path, owned_below}

-- ---- an aim at what is there
abbrev pub is_node : Option SyntaxTree → Bool
is_node o = option_map_or (λ e. not (is_token e)) o false

abbrev pub is_there : Option SyntaxTree → Bool
is_there o = option_map_or (λ e. true) o false

abbrev pub AimsAt : SyntaxTree → Aim → Type 0
AimsAt t (FirstIn p) = is_node (at t p) ≡ true
AimsAt t (AfterElement p) = is_there (at t p) ≡ true
AimsAt t (Over []) = Unit {0}
AimsAt t (Over (p ∷ ps)) = is_there (at t p) ≡ true

-- the nodes at and above the node whose children an aim alters
abbrev pub nodes_to : Aim → ℕ
nodes_to a = sum_by (λ p. length p + 1) (parents a)

builds_where : (t : SyntaxTree) (a : Aim) → is_live t a ≡ true → step_builds t a ≡ nodes_to a
builds_where t a live = ap (λ b. cond b (nodes_to a) 0) live

-- At the top nothing is put after, and a replaced top has no parent: then both are 0.
pub aims-builds : (t : SyntaxTree) (a : Aim) → AimsAt t a → step_builds t a ≡ nodes_to a
aims-builds t (FirstIn p) h = builds_where t (FirstIn p) h
aims-builds t (AfterElement []) h = refl
aims-builds t (AfterElement (i ∷ p)) h = builds_where t (AfterElement (i ∷ p)) h
aims-builds t (Over []) h = refl
aims-builds t (Over ([] ∷ ps)) h = refl
aims-builds t (Over ((i ∷ p) ∷ ps)) h = builds_where t (Over ((i ∷ p) ∷ ps)) h

-- ---- a fitting change
some_element : (f : SyntaxTree → Bool) (o : Option SyntaxTree) → option_map_or f o false ≡ true → is_there o ≡ true
some_element f None h = h
some_element f (Some t) h = refl

module _ (root : Element) where
  native_there : (e : SyntaxElement) → is_native root e ≡ true → is_there (at root.root (element_of e).path) ≡ true
  native_there (Node n) h = some_element (λ t. not (is_token t)) (at root.root n.path) (and_parts (n.number == root.number) _ h).1
  native_there (Token t) h = some_element is_token (at root.root t.path) (and_parts (t.number == root.number) _ h).1

  position-aims : (position : Position) → is_native_position root position ≡ true → AimsAt root.root (position_aim position)
  position-aims (FirstChild n) h = (and_parts (n.number == root.number) _ h).1
  position-aims (After e) h = native_there e h

  -- the first path of a range is that of its first end
  range-aims : (f : Path) (count : ℕ) → (f ≡ [] → ⊥) → is_there (at root.root f) ≡ true → AimsAt root.root (Over (map (λ i. parent_path f ++ i ∷ []) (counted_from (last_slot f) count)))
  range-aims [] count some h = absurd (some refl)
  range-aims (i ∷ f) zero some h = tt
  range-aims (i ∷ f) (suc count) some h = ap (λ p. is_there (at root.root p)) (sym (parent-and-slot i f)) ∙ h

  pub fits-aims : (c : Change) → Fits root c → AimsAt root.root (aim c)
  fits-aims (Insert at e) fit = position-aims at fit
  fits-aims (InsertAll at es) fit = position-aims at fit
  fits-aims (Replace t e) fit = native_there t (target_native root t e fit)
  fits-aims (ReplaceWithMany t es) fit = native_there t (many_native root t es fit)
  fits-aims (ReplaceAll first last es) fit =
      range-aims (element_of first).path (suc (last_slot (element_of last).path) - last_slot (element_of first).path) (range-has-parent root first last es fit) (native_there first (first_native root first last es fit))

-- ---- trees of one shape
trees-without_texts : (f : Forest ℕ) → trees (forest_without_texts f) ≡ map without_texts (trees f)
trees-without_texts tree.end = refl
trees-without_texts (tree.more t f) = ap (λ ts. without_texts t ∷ ts) (trees-without_texts f)

children-without_texts : (t : SyntaxTree) → children (without_texts t) ≡ map without_texts (children t)
children-without_texts (tree.Token k s) = refl
children-without_texts (tree.Node k f) = trees-without_texts f

pub at-without_texts : (t : SyntaxTree) (p : Path) → at (without_texts t) p ≡ option_map without_texts (at t p)
at-without_texts t [] = refl
at-without_texts t (i ∷ p) =
    let child : slice_get (children (without_texts t)) i ≡ option_map without_texts (slice_get (children t) i) = ap (λ ts. slice_get ts i) (children-without_texts t) ∙ slice_get-map without_texts (children t) i in
    let rest : option_and_then (λ c. at c p) (option_map without_texts (slice_get (children t) i)) ≡ option_map without_texts (option_and_then (λ c. at c p) (slice_get (children t) i)) = elim (slice_get (children t) i) as (λ o. option_and_then (λ c. at c p) (option_map without_texts o) ≡ option_map without_texts (option_and_then (λ c. at c p) o)) [ None ↦ refl | Some c ↦ at-without_texts c p ] in
    ap (option_and_then (λ c. at c p)) child ∙ rest

at-shape : (t u : SyntaxTree) (p : Path) → SameShape t u → option_map without_texts (at t p) ≡ option_map without_texts (at u p)
at-shape t u p same = sym (at-without_texts t p) ∙ ap (λ w. at w p) same ∙ at-without_texts u p

-- the form of an element is that of its shape
node-form : (o : Option SyntaxTree) → is_node (option_map without_texts o) ≡ is_node o
node-form None = refl
node-form (Some (tree.Token k s)) = refl
node-form (Some (tree.Node k f)) = refl

there-form : (o : Option SyntaxTree) → is_there (option_map without_texts o) ≡ is_there o
there-form None = refl
there-form (Some t) = refl

-- ---- below a path that is moved to a path of the same shape
abbrev pub AreAlike : SyntaxTree → Path → SyntaxTree → Path → Type 0
AreAlike t n v q = (s : Path) → option_map without_texts (at t (n ++ s)) ≡ option_map without_texts (at v (q ++ s))

at-below : (t : SyntaxTree) (p : Path) (u : SyntaxTree) (s : Path) → at t p ≡ Some u → at t (p ++ s) ≡ at u s
at-below t p u s is = at-append t p s ∙ ap (option_and_then (λ c. at c s)) is

pub alike_from : (t v : SyntaxTree) (n q : Path) (x y : SyntaxTree) → at t n ≡ Some x → at v q ≡ Some y → SameShape x y → AreAlike t n v q
alike_from t v n q x y here there same s =
    ap (option_map without_texts) (at-below t n x s here) ∙ at-shape x y s same ∙ sym (ap (option_map without_texts) (at-below v q y s there))

module _ (t v : SyntaxTree) (n q : Path) (alike : AreAlike t n v q) where
  moved-form : (form : Option SyntaxTree → Bool) (keeps : (o : Option SyntaxTree) → form (option_map without_texts o) ≡ form o) (p : Path) → IsUnder n p → form (at t p) ≡ true → form (at v (moved_path n q p)) ≡ true
  moved-form form keeps p u h =
      ap (λ r. form (at v r)) (moved-path n q p u) ∙ sym (keeps (at v (q ++ u.0))) ∙ ap form (sym (alike u.0)) ∙ keeps (at t (n ++ u.0)) ∙ ap (λ r. form (at t r)) (sym u.1) ∙ h

  pub moved-aims : (a : Aim) → IsBelow n a → AimsAt t a → AimsAt v (moved_aim n q a)
  moved-aims (FirstIn p) u h = moved-form is_node node-form p u h
  moved-aims (AfterElement p) u h = moved-form is_there there-form p u h
  moved-aims (Over []) u h = tt
  moved-aims (Over (p ∷ ps)) u h = moved-form is_there there-form p u h

-- ---- where a change aims
pub staged-free : (cs : List Change) (places : ℕ → Path) (c : Change) → owner cs c ≡ None → staged_aim cs places c ≡ aim c
staged-free cs places c free =
    ap (λ x. option_map_or (λ o. moved_aim (unwrap_or (first_item (targets_of cs o)) []) (places o) (aim c)) x (aim c)) free

pub staged-owned : (cs : List Change) (places : ℕ → Path) (c : Change) (o : ℕ) → owner cs c ≡ Some o → staged_aim cs places c ≡ moved_aim (unwrap_or (first_item (targets_of cs o)) []) (places o) (aim c)
staged-owned cs places c o owned =
    ap (λ x. option_map_or (λ o. moved_aim (unwrap_or (first_item (targets_of cs o)) []) (places o) (aim c)) x (aim c)) owned

-- ---- without an owner
root-subtree : (root : Element) → root.path ≡ [] → subtree root ≡ root.root
root-subtree root top = ap (λ p. unwrap_or (at root.root p) (tree.Token 0 [])) top

pub free-live : (cs : List Change) (root : Element) → root.path ≡ [] → All (Fits root) cs → (places : ℕ → Path) (n : ℕ) (c : Change) → slice_get cs n ≡ Some c → owner cs c ≡ None → step_builds (subtree root) (staged_aim cs places c) ≡ sum_by (λ p. length p + 1) (parents (staged_aim cs places c))
free-live cs root top fit places n c is free =
    let here : AimsAt root.root (aim c) = fits-aims root c (fit_at root cs fit n c is) in
    let whole : AimsAt (subtree root) (aim c) = subst (λ t. AimsAt t (aim c)) (sym (root-subtree root top)) here in
    subst (λ a. step_builds (subtree root) a ≡ nodes_to a) (sym (staged-free cs places c free)) (aims-builds (subtree root) (aim c) whole)

pub tree_of-free : (cs : List Change) (t : SyntaxTree) (c : Change) → owner cs c ≡ None → tree_of cs t c ≡ t
tree_of-free cs t c free =
    ap (λ x. option_map_or (λ o. unwrap_or (first_item (map subtree (payload_of cs o))) t) x t) free

-- ---- with an owner
pub tree_of-owned : (cs : List Change) (w : SyntaxTree) (c : Change) (o : ℕ) (t r : Element) → slice_get cs o ≡ Some (Replace (Node t) (Some (Node r))) → owner cs c ≡ Some o → tree_of cs w c ≡ subtree r
tree_of-owned cs w c o t r by owned =
    ap (λ x. option_map_or (λ o. unwrap_or (first_item (map subtree (payload_of cs o))) w) x w) owned ∙ ap (λ x. unwrap_or (first_item (map subtree (option_map_or payload x []))) w) by

-- the owner's target
pub target-number : (cs : List Change) (root : Element) → All (Fits root) cs → (o : ℕ) (t r : Element) → slice_get cs o ≡ Some (Replace (Node t) (Some (Node r))) → t.number ≡ root.number
target-number cs root fit o t r by =
    let native = target_native root (Node t) (Some (Node r)) (fit_at root cs fit o (Replace (Node t) (Some (Node r))) by) in
    eqb-true t.number root.number (and_parts (t.number == root.number) _ native).0

all_after : (P : Element → Type 0) (xs ys : List Element) → All P (xs ++ ys) → All P ys
all_after P [] ys h = h
all_after P (x ∷ xs) ys h = all_after P xs ys (λ k d within. h (suc k) d (omega (arith, within)))

target_among : (P : Element → Type 0) (cs : List Change) (es : List Element) → All P (flat_map elements cs ++ es) → (o : ℕ) (t r : Element) → slice_get cs o ≡ Some (Replace (Node t) (Some (Node r))) → P t
target_among P [] es h o t r by = absurd (none-some (Replace (Node t) (Some (Node r))) by)
target_among P (c ∷ cs) es h zero t r by =
    let here : All P (t ∷ r ∷ flat_map elements cs ++ es) = subst (λ d. All P (flat_map elements (d ∷ cs) ++ es)) (same_Some c (Replace (Node t) (Some (Node r))) by) h in
    here zero t (omega arith)
target_among P (c ∷ cs) es h (suc o) t r by =
    target_among P cs es (all_after P (elements c) (flat_map elements cs ++ es) (subst (All P) (append_assoc (elements c) (flat_map elements cs) es) h)) o t r by

pub target-root : (cs : List Change) (root : Element) (es : List Element) → NumbersTell (root ∷ flat_map elements cs ++ es) → All (Fits root) cs → (o : ℕ) (t r : Element) → slice_get cs o ≡ Some (Replace (Node t) (Some (Node r))) → t.root ≡ root.root
target-root cs root es tell fit o t r by =
    let same : root.number ≡ t.number → root.root ≡ t.root = target_among (λ e. root.number ≡ e.number → root.root ≡ e.root) cs es (λ k d within. tell zero (suc k) d (omega arith) (omega (arith, within))) o t r by in
    sym (same (sym (target-number cs root fit o t r by)))

target-there : (root t : Element) → t.root ≡ root.root → IsNodeThere (at root.root t.path) → at root.root t.path ≡ Some (subtree t)
target-there root t whole node =
    let target : subtree t ≡ tree.Node node.kind node.below = ap (λ w. unwrap_or (at w t.path) (tree.Token 0 [])) whole ∙ ap (λ x. unwrap_or x (tree.Token 0 [])) node.is in
    node.is ∙ ap Some (sym target)

-- The shape is that of the target's own tree, which is the old one only where numbers tell trees (`target-root`).
pub owned-live : (cs : List Change) (root : Element) → All (Fits root) cs → (places : ℕ → Path) (n o : ℕ) (c : Change) (t r : Element) → slice_get cs o ≡ Some (Replace (Node t) (Some (Node r))) → t.root ≡ root.root → slice_get cs n ≡ Some c → owner cs c ≡ Some o → (u : SyntaxTree) → at (subtree r) (places o) ≡ Some u → SameShape (subtree t) u → step_builds (subtree r) (staged_aim cs places c) ≡ sum_by (λ p. length p + 1) (parents (staged_aim cs places c))
owned-live cs root fit places n o c t r by whole is owned u place same =
    let target : Path = unwrap_or (first_item (targets_of cs o)) [] in
    let moved : Aim = moved_aim target (places o) (aim c) in
    let change : Change = Replace (Node t) (Some (Node r)) in
    let own : target ≡ t.path = ap (λ x. unwrap_or (first_item (option_map_or targets x [])) []) by in
    let native = target_native root (Node t) (Some (Node r)) (fit_at root cs fit o change by) in
    let there : at root.root t.path ≡ Some (subtree t) = target-there root t whole (native_node root t native) in
    let alike : AreAlike root.root target (subtree r) (places o) = alike_from root.root (subtree r) target (places o) (subtree t) u (ap (at root.root) own ∙ there) place same in
    let has : has_owner cs o c ≡ true = ap (λ x. option_map_or (nat_eq o) x false) owned ∙ eq-eqb o o refl in
    let aims : AimsAt (subtree r) moved = moved-aims root.root (subtree r) target (places o) alike (aim c) (owned_below cs o c has) (fits-aims root c (fit_at root cs fit n c is)) in
    subst (λ a. step_builds (subtree r) a ≡ nodes_to a) (sym (staged-owned cs places c o owned)) (aims-builds (subtree r) moved aims)
