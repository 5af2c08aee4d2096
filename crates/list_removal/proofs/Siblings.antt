-- The order of the siblings that a removal goes over.
--     parent-push, slot-push     the parent of a path one slot longer, and its last slot
--     same-itself                a path is equal to itself
--     IsBefore                   the first element stands before the second, below one parent of one tree
--     IsOwn                      an element stands in its own tree, in its form
--     next-after, previous-before      the sibling that a step leads to
--     past                       the same with one whitespace token skipped
--     token_kept, last_after     an element that a test leaves; the last one of a run that ends after a separator
use Rattle.std.specs.Prelude.{◌≡◌, ℕ, zero, suc, ◌≤◌, ◌&&◌, not, Bool, true, false, cond, List, [], ◌∷◌, ◌++◌, Option, Some, None, option_map, option_and_then, unwrap_or, refl}
use Rattle.std.specs.Option.{option_map_or}
use Rattle.std.proofs.Common.{ap, ap₂, sym, subst, ◌∙◌, arith}
use Rattle.std.proofs.lemmas.Bool.{and_from, eq-eqb}
use Rattle.std.proofs.lemmas.Option.{none-some, same_Some}
use Rattle.cst_core.specs.Path.{Path, same_path, parent_path, last_slot, next_path, previous_path}
use Rattle.cst_core.specs.Tree as tree
use Rattle.cst_core.specs.Tree.{SyntaxTree, at, is_token}
use Rattle.cst_core.specs.Element.{Element, element_at}
use Rattle.cst_core.specs.SyntaxElement.{element_of, syntax_as, syntax_at, next_sibling, previous_sibling}
use Rattle.cst_core.specs.Kinds.{WHITESPACE}
use Rattle.cst_core.specs.SyntaxKind.{SyntaxKind}
use Rattle.cst_core.specs.declared.element.SyntaxElement.{SyntaxElement}
use Rattle.cst_core.specs.declared.element.SyntaxElement.TheVariants.{Node, Token}
use Rattle.syntax_editor.specs.Fits.{is_native}
use Rattle.list_removal.specs.Removal.{is_token_of, if_token_of, past_whitespace, with_whitespace_after}

-- ---- paths
pub parent-push : (p : Path) (i : ℕ) → parent_path (p ++ i ∷ []) ≡ p
parent-push [] i = refl
parent-push (j ∷ []) i = refl
parent-push (j ∷ k ∷ p) i = ap (λ q. j ∷ q) (parent-push (k ∷ p) i)

pub slot-push : (p : Path) (i : ℕ) → last_slot (p ++ i ∷ []) ≡ i
slot-push [] i = refl
slot-push (j ∷ []) i = refl
slot-push (j ∷ k ∷ p) i = slot-push (k ∷ p) i

pub not_top : (p : Path) (i : ℕ) → same_path (p ++ i ∷ []) [] ≡ false
not_top [] i = refl
not_top (j ∷ p) i = refl

pub same-itself : (p : Path) → same_path p p ≡ true
same-itself [] = refl
same-itself (i ∷ p) = and_from _ _ (eq-eqb i i refl) (same-itself p)

-- ---- the order
pub record IsBefore (a b : Element) : Type 0 where
  pub number : b.number ≡ a.number
  pub root : b.root ≡ a.root
  pub parent : parent_path a.path ≡ parent_path b.path
  pub slots : last_slot a.path ≤ last_slot b.path
  pub first_below : same_path a.path [] ≡ false
  pub last_below : same_path b.path [] ≡ false

pub before-further : (a b c : Element) → IsBefore a b → IsBefore b c → IsBefore a c
before-further a b c h k =
    record {
      number = k.number ∙ h.number;
      root = k.root ∙ h.root;
      parent = h.parent ∙ k.parent;
      slots = omega arith;
      first_below = h.first_below;
      last_below = k.last_below;
    }

next_path-after : (e : Element) (p q : Path) → e.path ≡ p → next_path p ≡ Some q → IsBefore e (element_at e q)
next_path-after e [] q at_p is = absurd (none-some q is)
next_path-after e (i ∷ p) q at_p is =
    let there : parent_path (i ∷ p) ++ suc (last_slot (i ∷ p)) ∷ [] ≡ q = same_Some _ q is in
    subst (λ r. IsBefore e (element_at e r)) there (record {
      number = refl;
      root = refl;
      parent = ap parent_path at_p ∙ sym (parent-push (parent_path (i ∷ p)) (suc (last_slot (i ∷ p))));
      slots = (let slot : last_slot e.path ≡ last_slot (i ∷ p) = ap last_slot at_p in omega (arith, slot-push (parent_path (i ∷ p)) (suc (last_slot (i ∷ p)))));
      first_below = ap (λ r. same_path r []) at_p;
      last_below = not_top (parent_path (i ∷ p)) (suc (last_slot (i ∷ p)));
    })

previous_path-before : (e : Element) (q : Path) (k : ℕ) → last_slot e.path ≡ k → previous_path e.path ≡ Some q → same_path e.path [] ≡ false → IsBefore (element_at e q) e
previous_path-before e q zero at_k is below = let none : None ≡ Some q = rw at_k at is in absurd (none-some q none)
previous_path-before e q (suc j) at_k is below =
    let some : Some (parent_path e.path ++ j ∷ []) ≡ Some q = rw at_k at is in
    subst (λ r. IsBefore (element_at e r) e) (same_Some (parent_path e.path ++ j ∷ []) q some) (record {
      number = refl;
      root = refl;
      parent = parent-push (parent_path e.path) j;
      slots = omega (arith, slot-push (parent_path e.path) j);
      first_below = not_top (parent_path e.path) j;
      last_below = below;
    })

-- a path with a slot before it has a slot
has_slot : (p q : Path) → previous_path p ≡ Some q → same_path p [] ≡ false
has_slot [] q is = absurd (none-some q is)
has_slot (i ∷ p) q is = refl

-- ---- the elements there
abbrev pub IsOwn : SyntaxElement → Type 0
IsOwn s = is_native (element_of s) s ≡ true

record IsPlaced (e : Element) (o : Option Path) (s : SyntaxElement) : Type 0 where
  pub path : Path
  pub is : o ≡ Some path
  pub element : element_of s ≡ element_at e path
  pub own : IsOwn s

module _ (e : Element) (q : Path) where
  own-token : (k : ℕ) (t : List ℕ) → at e.root q ≡ Some (tree.Token k t) → IsOwn (Token (element_at e q))
  own-token k t there = ap₂ (λ a b. a && b) (eq-eqb e.number e.number refl) (ap (λ o. option_map_or is_token o false) there)

  own-node : (k : ℕ) (f : tree.Forest ℕ) → at e.root q ≡ Some (tree.Node k f) → IsOwn (Node (element_at e q))
  own-node k f there = ap₂ (λ a b. a && b) (eq-eqb e.number e.number refl) (ap (λ o. option_map_or (λ t. not (is_token t)) o false) there)

  placed-there : (o : Option SyntaxTree) (s : SyntaxElement) → at e.root q ≡ o → option_map (λ t. syntax_as t (element_at e q)) o ≡ Some s → IsPlaced e (Some q) s
  placed-there None s there is = absurd (none-some s is)
  placed-there (Some (tree.Token k t)) s there is =
      subst (IsPlaced e (Some q)) (same_Some (Token (element_at e q)) s is) (record { path = q; is = refl; element = refl; own = own-token k t there })
  placed-there (Some (tree.Node k f)) s there is =
      subst (IsPlaced e (Some q)) (same_Some (Node (element_at e q)) s is) (record { path = q; is = refl; element = refl; own = own-node k f there })

placed : (e : Element) (o : Option Path) (s : SyntaxElement) → option_and_then (syntax_at e) o ≡ Some s → IsPlaced e o s
placed e None s is = absurd (none-some s is)
placed e (Some q) s is = placed-there e q (at e.root q) s refl is

pub next-after : (e : Element) (s : SyntaxElement) → next_sibling e ≡ Some s → IsBefore e (element_of s) × IsOwn s
next-after e s is =
    let there = placed e (next_path e.path) s is in
    (subst (IsBefore e) (sym there.element) (next_path-after e e.path there.path refl there.is), there.own)

pub previous-before : (e : Element) (s : SyntaxElement) → previous_sibling e ≡ Some s → IsBefore (element_of s) e × IsOwn s
previous-before e s is =
    let there = placed e (previous_path e.path) s is in
    (subst (λ f. IsBefore f e) (sym there.element) (previous_path-before e there.path (last_slot e.path) refl there.is (has_slot e.path there.path there.is)), there.own)

-- ---- one whitespace token skipped
module _ (R : Element → Element → Type 0) (further : (a b c : Element) → R a b → R b c → R a c) (step : Element → Option SyntaxElement) (leads : (e : Element) (s : SyntaxElement) → step e ≡ Some s → R e (element_of s) × IsOwn s) where
  over : (e s w : SyntaxElement) (b : Bool) → step (element_of e) ≡ Some w → cond b (step (element_of w)) (Some w) ≡ Some s → R (element_of e) (element_of s) × IsOwn s
  over e s w true first is =
      let second = leads (element_of w) s is in
      (further (element_of e) (element_of w) (element_of s) (leads (element_of e) w first).0 second.0, second.1)
  over e s w false first is = leads (element_of e) s (first ∙ is)

  from_first : (e s : SyntaxElement) (o : Option SyntaxElement) → step (element_of e) ≡ o → option_and_then (λ w. cond (is_token_of WHITESPACE w) (step (element_of w)) (Some w)) o ≡ Some s → R (element_of e) (element_of s) × IsOwn s
  from_first e s None first is = absurd (none-some s is)
  from_first e s (Some w) first is = over e s w (is_token_of WHITESPACE w) first is

  pub past : (e s : SyntaxElement) → past_whitespace step e ≡ Some s → R (element_of e) (element_of s) × IsOwn s
  past e s is = from_first e s (step (element_of e)) refl is

-- ---- tests
kept_if : (b : Bool) (e s : SyntaxElement) → cond b (Some e) None ≡ Some s → Some e ≡ Some s
kept_if true e s is = is
kept_if false e s is = absurd (none-some s is)

pub token_kept : (kind : SyntaxKind) (o : Option SyntaxElement) (s : SyntaxElement) → if_token_of kind o ≡ Some s → o ≡ Some s
token_kept kind None s is = absurd (none-some s is)
token_kept kind (Some e) s is = kept_if (is_token_of kind e) e s is

-- ---- the end of a run
module _ (e s : SyntaxElement) (h : IsBefore (element_of e) (element_of s) × IsOwn s) where
  last_of : (o : Option SyntaxElement) → if_token_of WHITESPACE (next_sibling (element_of s)) ≡ o → IsBefore (element_of e) (element_of (unwrap_or o s)) × IsOwn (unwrap_or o s)
  last_of None is = h
  last_of (Some w) is =
      let next = next-after (element_of s) w (token_kept WHITESPACE (next_sibling (element_of s)) w is) in
      (before-further (element_of e) (element_of s) (element_of w) h.0 next.0, next.1)

  pub last_after : IsBefore (element_of e) (element_of (with_whitespace_after s)) × IsOwn (with_whitespace_after s)
  last_after = last_of (if_token_of WHITESPACE (next_sibling (element_of s))) refl
