-- The way up from an element, among the paths of those above it.
--     above-parent                   those above an element are those on the way to its parent
--     parent-of-ok, shorter-parent   the same of an answer
--     nearest-here, nearest-above    where the lowest of these paths has a copy; where it has none
--     nearest-found                  the same of a look-up
--     parent-shorter                 a parent is of the same tree, and less deep
--     none-mapped                    in an empty mapping nothing has a copy
--     passed-to, passed-all          where a node has no copy, nor those above it: on the way to one of these, and to the top
--     passed-itself, passed-on       a node itself; further on the way
use Rattle.std.specs.Prelude.{◌≡◌, ℕ, zero, suc, ◌+◌, ◌-◌, ◌<◌, ◌≤◌, take, List, [], ◌∷◌, ◌++◌, map, filter_map, length, Option, Some, None, option_map, Result, Ok, Err, IfOk, IfSome, refl}
use Rattle.std.specs.List.{cons_option}
use Rattle.std.proofs.Common.{ap, sym, ◌∙◌, append-nil, arith}
use Rattle.std.proofs.lemmas.Bool.{cases_lt}
use Rattle.std.proofs.lemmas.List.{map-append, length_push, take_all, length-take-le}
use Rattle.std.proofs.lemmas.List.Elements.{filter_map-append}
use Rattle.std.proofs.lemmas.Option.{none-some, same_Some}
use mathlib.Core.Logic.{inl, inr}
use Rattle.cst_core.specs.Path.{Path, parent_path, last_slot, above, up_to, last_item}
use Rattle.cst_core.specs.Element.{Address, Element, address, element_at, parent_of}
use Rattle.edit_map.specs.Mapping.{Mapping, copy, below_copy}
use Rattle.edit_map.specs.Following.{step_among}
use Rattle.edit_map.specs.inner.Climbing.{in_tree, at_depth, HasNoCopy}
use Rattle.edit_map.specs.inner.Nearest.{PassesTo, PassesAll}
use Rattle.edit_map.proofs.Climbs.{child-of-parent}

up_to-cons : (i : ℕ) (p : Path) → up_to (i ∷ p) ≡ [] ∷ map (λ q. i ∷ q) (up_to p)
up_to-cons i p = ap (λ ps. [] ∷ ps) (sym (map-append (λ q. i ∷ q) (above p) (p ∷ [])))

up_to_parent : (i : ℕ) (p : Path) → above (i ∷ p) ≡ up_to (parent_path (i ∷ p))
up_to_parent i [] = refl
up_to_parent i (j ∷ p) = ap (λ ps. [] ∷ map (λ q. i ∷ q) ps) (up_to_parent j p) ∙ sym (up_to-cons i (parent_path (j ∷ p)))

pub above-parent : (e parent : Element) → Some parent ≡ parent_of e → above e.path ≡ up_to parent.path
above-parent e parent is =
    (elim e.path as (λ p. e.path ≡ p → Some parent ≡ parent_of e → above p ≡ up_to parent.path) [
      | [] ↦ λ at is. absurd (none-some parent (sym (is ∙ rw at refl)))
      | i ∷ p ↦ λ at is. (
          let same : parent ≡ element_at e (parent_path (i ∷ p)) = same_Some parent (element_at e (parent_path (i ∷ p))) (is ∙ rw at refl) in
          up_to_parent i p ∙ ap (λ (f : Element). up_to f.path) (sym same))
    ]) refl is

pub parent-of-ok : {E : Type 0} (e : Element) (r : Result (Option Element) E) → IfOk r (λ o. o ≡ parent_of e) → IfOk r (λ o. IfSome o (λ n. above e.path ≡ up_to n.path))
parent-of-ok e (Err f) is = tt
parent-of-ok e (Ok None) is = tt
parent-of-ok e (Ok (Some n)) is = above-parent e n is

-- ---- the last item of a list that one is put after
last_push : {X : Type 0} (xs : List X) (x : X) → last_item (xs ++ x ∷ []) ≡ Some x
last_push [] x = refl
last_push (y ∷ []) x = refl
last_push (y ∷ z ∷ xs) x = last_push (z ∷ xs) x

module _ {X Y : Type 0} (f : X → Option Y) (xs : List X) (x : X) where
  last-here : (y : Y) → f x ≡ Some y → last_item (filter_map f (xs ++ x ∷ [])) ≡ Some y
  last-here y is =
      ap last_item (filter_map-append f xs (x ∷ [])) ∙ ap (λ o. last_item (filter_map f xs ++ cons_option o [])) is ∙ last_push (filter_map f xs) y

  last-before : f x ≡ None → last_item (filter_map f (xs ++ x ∷ [])) ≡ last_item (filter_map f xs)
  last-before is =
      ap last_item (filter_map-append f xs (x ∷ [])) ∙ ap (λ o. last_item (filter_map f xs ++ cons_option o [])) is ∙ ap last_item (append-nil (filter_map f xs))

pub nearest-here : (m : Mapping) (e c : Element) (p : Path) → copy m (record { number = e.number; path = p }) ≡ Some c → step_among m e (up_to p) ≡ Some (below_copy e p c)
nearest-here m e c p is =
    last-here (λ q. option_map (below_copy e q) (copy m (record { number = e.number; path = q }))) (above p) p (below_copy e p c) (ap (option_map (below_copy e p)) is)

pub nearest-above : (m : Mapping) (e : Element) (p : Path) → copy m (record { number = e.number; path = p }) ≡ None → step_among m e (up_to p) ≡ step_among m e (above p)
nearest-above m e p is =
    last-before (λ q. option_map (below_copy e q) (copy m (record { number = e.number; path = q }))) (above p) p (ap (option_map (below_copy e p)) is)

-- ---- what a look-up says
pub nearest-found : (m : Mapping) (here e : Element) → e.number ≡ here.number → (c : Element) (p : Path) → p ≡ here.path → Some c ≡ copy m (address here) → step_among m e (up_to here.path) ≡ Some (below_copy e p c)
nearest-found m here e number c p at is =
    nearest-here m e c here.path (ap (λ n. copy m (record { number = n; path = here.path })) number ∙ sym is) ∙ ap (λ q. Some (below_copy e q c)) (sym at)

pub parent-shorter : (e parent : Element) → Some parent ≡ parent_of e → (parent.number ≡ e.number) × (length parent.path < length e.path)
parent-shorter e parent is =
    let child = child-of-parent e parent is in
    let long : length e.path ≡ length parent.path + 1 = ap (λ (a : Address). length a.path) child ∙ length_push parent.path (last_slot e.path) in
    (sym (ap (λ (a : Address). a.number) child), omega (arith, long))

pub shorter-parent : {E : Type 0} (e : Element) (r : Result (Option Element) E) → IfOk r (λ o. o ≡ parent_of e) → IfOk r (λ o. IfSome o (λ n. length n.path ≤ length e.path))
shorter-parent e (Err f) is = tt
shorter-parent e (Ok None) is = tt
shorter-parent e (Ok (Some n)) is = omega (arith, (parent-shorter e n is).1)

-- ---- several at once
above-take : (p : Path) (k : ℕ) → k < length p → above (take (suc k) p) ≡ up_to (take k p)
above-take [] k l = absurd (omega (arith, l))
above-take (i ∷ p) zero l = refl
above-take (i ∷ p) (suc k) l = ap (λ ps. [] ∷ map (λ q. i ∷ q) ps) (above-take p k (omega (arith, l))) ∙ sym (up_to-cons i (take k p))

pub none-mapped : (m : Mapping) (e : Element) (ps : List Path) → m ≡ [] → step_among m e ps ≡ None
none-mapped m e ps none = ap (λ m. step_among m e ps) none ∙ ap last_item (nothing ps)
  where
    nothing : (qs : List Path) → filter_map (λ p. option_map (below_copy e p) (copy [] (record { number = e.number; path = p }))) qs ≡ []
    nothing [] = refl
    nothing (q ∷ qs) = nothing qs

module _ (m : Mapping) (e : Element) (p : Path) where
  abbrev passes : ℕ → Type 0
  passes k = HasNoCopy m (in_tree e.number (take k p))

  skipped : (d n k : ℕ) → k ≡ d + n → k ≤ length p → ((i : ℕ) → d < i → i < k + 1 → passes i) → step_among m e (up_to (take k p)) ≡ step_among m e (up_to (take d p))
  skipped d zero k is l free = let same : k ≡ d = omega (arith, is) in ap (λ i. step_among m e (up_to (take i p))) same
  skipped d (suc n) k is l free =
      let next : k ≡ suc (d + n) = omega (arith, is) in
      nearest-above m e (take k p) (free k (omega (arith, is)) (omega arith)) ∙ ap (λ i. step_among m e (above (take i p))) next ∙ ap (step_among m e) (above-take p (d + n) (omega (arith, l, next))) ∙ skipped d n (d + n) refl (omega (arith, l, next)) (λ i more less. free i more (omega (arith, less, next)))

  skipped-to : (d : ℕ) → d ≤ length p → ((k : ℕ) → d < k → k < length p + 1 → passes k) → step_among m e (up_to p) ≡ step_among m e (up_to (take d p))
  skipped-to d l free =
      let all : take (length p) p ≡ p = take_all (length p) p (omega arith) in
      ap (λ q. step_among m e (up_to q)) (sym all) ∙ skipped d (length p - d) (length p) (omega (arith, l)) (omega arith) free

  skipped-all : ((k : ℕ) → k < length p + 1 → passes k) → step_among m e (up_to p) ≡ None
  skipped-all free = skipped-to 0 (omega arith) (λ k more less. free k less) ∙ nearest-above m e [] (free 0 (omega arith))

-- a node that has no copy
module _ (m : Mapping) (node : Element) (none : None ≡ copy m (address node)) where
  has-none : (e : Element) → e.number ≡ node.number → (k : ℕ) → k < length node.path + 1 → (k < length node.path → HasNoCopy m (at_depth (address node) k)) → HasNoCopy m (in_tree e.number (take k node.path))
  has-none e number k less free =
      rw number (elim (cases_lt k (length node.path)) [
        | inl above ↦ free above
        | inr here ↦ ap (λ p. copy m (in_tree node.number p)) (take_all k node.path here) ∙ sym none
      ])

  pub passed-all : ((k : ℕ) → k < length node.path → HasNoCopy m (at_depth (address node) k)) → PassesAll m node
  passed-all free = λ e number. skipped-all m e node.path (λ k less. has-none e number k less (free k))

  pub passed-to : (d : ℕ) → d < length node.path → ((k : ℕ) → d < k → k < length node.path → HasNoCopy m (at_depth (address node) k)) → PassesTo m node (element_at node (take d node.path))
  passed-to d within free = record {
    number = refl;
    short = rw (length-take-le d node.path (omega (arith, within))) (omega (arith, within));
    same = λ e number. skipped-to m e node.path d (omega (arith, within)) (λ k more less. has-none e number k less (free k more));
  }

pub passed-itself : (m : Mapping) (node : Element) → PassesTo m node node
passed-itself m node = record { number = refl; short = omega arith; same = λ e number. refl }

pub passed-on : (m : Mapping) (node here next : Element) → PassesTo m node here → PassesTo m here next → PassesTo m node next
passed-on m node here next passed further = record {
  number = further.number ∙ passed.number;
  short = omega (arith, further.short, passed.short);
  same = λ e number. passed.same e number ∙ further.same e (number ∙ sym passed.number);
}
