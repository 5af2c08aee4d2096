-- What following reaches, where numbers tell trees apart and where they do not.
--     Standing, standing-at          a node or token where one of that form stands; so is what stands at a path
--     syntax-falls                   a step leads to a number at which fewer pairs count
--     KnownPair, known_pairs         a pair of elements whose numbers tell their trees; so is each pair of a mapping
--     no_step-exact, step-exact      where numbers tell trees, no step is one of neither kind, and a step one of both
use Rattle.std.specs.Prelude.{◌≡◌, ℕ, zero, suc, ◌<◌, true, false, List, [], ◌∷◌, ◌++◌, map, filter_map, length, drop, Option, Some, None, option_map, option_and_then, unwrap_or, IsSomeAnd, All, Contains, slice_get, refl}
use Rattle.std.specs.List.{AllByRecursion, cons_option}
use Rattle.std.proofs.Common.{ap, sym, subst, ◌∙◌, append-nil}
use Rattle.std.proofs.lemmas.Bool.{true≢false}
use Rattle.std.proofs.lemmas.Option.{none-some, same_Some}
use Rattle.std.proofs.lemmas.List.Elements.{All-head, recursion_from_All, All-from_recursion, All-contains, All-contains_itself}
use Rattle.cst_core.specs.Path.{Path, above, last_item}
use Rattle.cst_core.specs.Tree as tree
use Rattle.cst_core.specs.Tree.{SyntaxTree, at, children, is_token, SameShape}
use Rattle.cst_core.specs.Element.{Address, Element, subtree, element_at, IsNode, NumbersTell}
use Rattle.cst_core.specs.SyntaxElement.{element_of, syntax_as, syntax_of, syntax_at}
use Rattle.cst_core.specs.declared.element.SyntaxElement.{SyntaxElement}
use Rattle.cst_core.specs.declared.element.SyntaxElement.TheVariants.{Node, Token}
use Rattle.edit_map.specs.Mapping.{Mapping, copy, below_copy, step, Steps, IsFollowed, IsRising, mapped_elements}
use Rattle.edit_map.specs.Builder.{IsPair, ArePairs}
use Rattle.edit_map.specs.Following.{asked_paths, step_among, syntax_step, SyntaxSteps, IsReached}
use Rattle.edit_map.proofs.Copies.{pair_of_copy}
use Rattle.edit_map.proofs.Followed.{counted, copy-falls}
use Rattle.edit_map.proofs.Shapes.{children-shape, at-append, Tells, IsTold, all_told, all_left, all_right, all_of_map}
use Rattle.edit_map.proofs.Upwards.{nearest-above}

-- ---- where an element stands
pub record Standing (f : SyntaxElement) : Type 0 where
  pub tree : SyntaxTree
  pub there : at (element_of f).root (element_of f).path ≡ Some tree
  pub form : f ≡ syntax_as tree (element_of f)

element_as : (t : SyntaxTree) (e : Element) → element_of (syntax_as t e) ≡ e
element_as (tree.Token k s) e = refl
element_as (tree.Node k f) e = refl

standing-as : (g : Element) (p : Path) (t : SyntaxTree) (f : SyntaxElement) → at g.root p ≡ Some t → syntax_as t (element_at g p) ≡ f → Standing f × (element_of f ≡ element_at g p)
standing-as g p t f there is =
    let same : element_of f ≡ element_at g p = sym (ap element_of is) ∙ element_as t (element_at g p) in (
      record {
        tree = t;
        there = ap (λ (e : Element). at e.root e.path) same ∙ there;
        form = sym is ∙ ap (syntax_as t) (sym same);
      },
      same,
    )

pub standing-at : (g : Element) (p : Path) (f : SyntaxElement) → syntax_at g p ≡ Some f → Standing f × (element_of f ≡ element_at g p)
standing-at g p f is =
    (elim (at g.root p) as (λ o. at g.root p ≡ o → option_map (λ t. syntax_as t (element_at g p)) o ≡ Some f → Standing f × (element_of f ≡ element_at g p)) [
      | None ↦ λ _ none. absurd (none-some f none)
      | Some t ↦ λ there some. standing-as g p t f there (same_Some (syntax_as t (element_at g p)) f some)
    ]) refl is

-- ---- paths on the way
module _ {X Y : Type 0} (P : X → Type 0) (f : X → Option Y) (y : Y) where
  last_cons : (z : Y) (x : X) → P x → f x ≡ Some z → (ys : List Y) → (last_item ys ≡ Some y → (u : X) × P u × (f u ≡ Some y)) → last_item (z ∷ ys) ≡ Some y → (u : X) × P u × (f u ≡ Some y)
  last_cons z x p is [] rest l = (x, p, is ∙ l)
  last_cons z x p is (w ∷ ws) rest l = rest l

  last_among : (xs : List X) → AllByRecursion P xs → last_item (filter_map f xs) ≡ Some y → (x : X) × P x × (f x ≡ Some y)
  last_among [] all e = absurd (none-some y e)
  last_among (x ∷ xs) all e =
      (elim (f x) as (λ o. f x ≡ o → last_item (cons_option o (filter_map f xs)) ≡ Some y → (u : X) × P u × (f u ≡ Some y)) [
        | None ↦ λ _ l. last_among xs all.1 l
        | Some z ↦ λ is l. last_cons z x all.0 is (filter_map f xs) (last_among xs all.1) l
      ]) refl e

abbrev IsOnTheWay : Path → Path → Type 0
IsOnTheWay q p = (r : Path) × (q ≡ p ++ r)

all_push : (P : Path → Type 0) (ps : List Path) (p : Path) → AllByRecursion P ps → P p → AllByRecursion P (ps ++ p ∷ [])
all_push P [] p all last = (last, tt)
all_push P (q ∷ ps) p all last = (all.0, all_push P ps p all.1 last)

one_down : (i : ℕ) (q : Path) (ps : List Path) → AllByRecursion (IsOnTheWay q) ps → AllByRecursion (IsOnTheWay (i ∷ q)) (map (λ p. i ∷ p) ps)
one_down i q [] all = tt
one_down i q (p ∷ ps) all = ((all.0.0, ap (λ s. i ∷ s) all.0.1), one_down i q ps all.1)

above_way : (q : Path) → AllByRecursion (IsOnTheWay q) (above q)
above_way [] = tt
above_way (i ∷ q) = ((i ∷ q, refl), one_down i q (above q) (above_way q))

asked_way : (e : SyntaxElement) → AllByRecursion (IsOnTheWay (element_of e).path) (asked_paths e)
asked_way (Node e) = all_push (IsOnTheWay e.path) (above e.path) e.path (above_way e.path) ([], sym (append-nil e.path))
asked_way (Token e) = above_way e.path

drop-way : (p r : Path) → drop (length p) (p ++ r) ≡ r
drop-way [] r = refl
drop-way (i ∷ p) r = drop-way p r

-- what is copied on a step: the copy of the element at a path on the way
record Copied (m : Mapping) (e : SyntaxElement) (g : Element) : Type 0 where
  pub path : Path
  pub rest : Path
  pub way : (element_of e).path ≡ path ++ rest
  pub copy_is : Element
  pub copies : copy m (record { number = (element_of e).number; path = path }) ≡ Some copy_is
  pub goal_is : below_copy (element_of e) path copy_is ≡ g

copied_on : (m : Mapping) (e : SyntaxElement) (g : Element) → step_among m (element_of e) (asked_paths e) ≡ Some g → Copied m e g
copied_on m e g is =
    let found = last_among (IsOnTheWay (element_of e).path) (λ p. option_map (below_copy (element_of e) p) (copy m (record { number = (element_of e).number; path = p }))) g (asked_paths e) (asked_way e) is in
    by_copy found.0 found.1 (copy m (record { number = (element_of e).number; path = found.0 })) refl found.2
  where
    by_copy : (p : Path) → IsOnTheWay (element_of e).path p → (o : Option Element) → copy m (record { number = (element_of e).number; path = p }) ≡ o → option_map (below_copy (element_of e) p) o ≡ Some g → Copied m e g
    by_copy p way None at none = absurd (none-some g none)
    by_copy p way (Some c) at some = record { path = p; rest = way.0; way = way.1; copy_is = c; copies = at; goal_is = same_Some (below_copy (element_of e) p c) g some }

-- a step has an element of the address that is among those asked for
stepped : (m : Mapping) (e f : SyntaxElement) → syntax_step m e ≡ Some f → (g : Element) × (step_among m (element_of e) (asked_paths e) ≡ Some g) × (syntax_at g g.path ≡ Some f)
stepped m e f is =
    (elim (step_among m (element_of e) (asked_paths e)) as (λ o. step_among m (element_of e) (asked_paths e) ≡ o → option_and_then (λ g. syntax_at g g.path) o ≡ Some f → (g : Element) × (step_among m (element_of e) (asked_paths e) ≡ Some g) × (syntax_at g g.path ≡ Some f)) [
      | None ↦ λ _ none. absurd (none-some f none)
      | Some g ↦ λ at some. (g, at, some)
    ]) refl is

pub syntax-falls : (m : Mapping) → IsRising m → (e f : SyntaxElement) → syntax_step m e ≡ Some f → counted (element_of f).number m < counted (element_of e).number m
syntax-falls m rising e f is =
    let s = stepped m e f is in
    let c = copied_on m e s.0 s.1 in
    let same : (element_of f).number ≡ c.copy_is.number = ap (λ (x : Element). x.number) ((standing-at s.0 s.0.path f s.2).1) ∙ sym (ap (λ (x : Element). x.number) c.goal_is) in
    rw same ((copy-falls m rising (record { number = (element_of e).number; path = c.path }) c.copy_is c.copies).1)

-- ---- where numbers tell trees
abbrev pub KnownPair : List Element → Element × Element → Type 0
KnownPair es pair = IsPair pair × ((x : Element) → IsTold es x → Tells x pair.0) × IsTold es pair.1

pub known_pairs : (e : Element) (m : Mapping) → ArePairs m → NumbersTell (e ∷ mapped_elements m) → All (KnownPair (e ∷ mapped_elements m)) m
known_pairs e m pairs tell =
    let es = e ∷ mapped_elements m in
    let firsts = map (λ (pair : Element × Element). pair.0) m in
    let copies = map (λ (pair : Element × Element). pair.1) m in
    let told : AllByRecursion (IsTold es) es = recursion_from_All (IsTold es) es (all_told es tell) in
    let itself : AllByRecursion (Contains es) es = recursion_from_All (Contains es) es (All-contains_itself es) in
    let inputs = all_of_map (Contains es) (λ (pair : Element × Element). pair.0) m (all_left (Contains es) firsts copies itself.1) in
    let outputs = all_of_map (IsTold es) (λ (pair : Element × Element). pair.1) m (all_right (IsTold es) firsts copies told.1) in
    All-from_recursion (KnownPair es) m (together es m (recursion_from_All IsPair m pairs) inputs outputs)
  where
    together : (es : List Element) (m : Mapping) → AllByRecursion IsPair m → AllByRecursion (λ pair. Contains es pair.0) m → AllByRecursion (λ pair. IsTold es pair.1) m → AllByRecursion (KnownPair es) m
    together es [] a b c = tt
    together es (pair ∷ m) a b c = ((a.0, (λ x told. All-contains (Tells x) es pair.0 told b.0), c.0), together es m a.1 b.1 c.1)

-- the path below leads on in a tree of the same shape
child_leads : (u v : SyntaxTree) (i : ℕ) (r : Path) (c : SyntaxTree) (o : Option SyntaxTree) → slice_get (children u) i ≡ o → IsSomeAnd o (SameShape c) → ((d : SyntaxTree) → SameShape c d → (w : SyntaxTree) × (at d r ≡ Some w)) → (w : SyntaxTree) × (at u (i ∷ r) ≡ Some w)
child_leads u v i r c None child same below = absurd same
child_leads u v i r c (Some d) child same below = let found = below d same in (found.0, ap (option_and_then (λ t. at t r)) child ∙ found.1)

at-shape : (r : Path) (t u v : SyntaxTree) → SameShape t u → at t r ≡ Some v → (w : SyntaxTree) × (at u r ≡ Some w)
at-shape [] t u v same is = (u, refl)
at-shape (i ∷ r) t u v same is =
    (elim (slice_get (children t) i) as (λ o. slice_get (children t) i ≡ o → option_and_then (λ c. at c r) o ≡ Some v → (w : SyntaxTree) × (at u (i ∷ r) ≡ Some w)) [
      | None ↦ λ _ none. absurd (none-some v none)
      | Some c ↦ λ child below. child_leads u v i r c (slice_get (children u) i) refl (children-shape t u c i same child) (λ d alike. at-shape r c d v alike below)
    ]) refl is

-- a node stands where a path leads
node_there : (e : Element) → IsNode e → at e.root e.path ≡ Some (subtree e)
node_there e is =
    (elim (at e.root e.path) as (λ o. option_map is_token o ≡ Some false → o ≡ Some (unwrap_or o (tree.Token 0 []))) [
      | None ↦ λ none. absurd (none-some false none)
      | Some t ↦ λ _. refl
    ]) is

-- what stands on the way to an element
way_there : (t : SyntaxTree) (p r : Path) (v : SyntaxTree) → at t (p ++ r) ≡ Some v → (u : SyntaxTree) × (at t p ≡ Some u) × (at u r ≡ Some v)
way_there t p r v is =
    (elim (at t p) as (λ o. at t p ≡ o → option_and_then (λ c. at c r) o ≡ Some v → (u : SyntaxTree) × (at t p ≡ Some u) × (at u r ≡ Some v)) [
      | None ↦ λ _ none. absurd (none-some v none)
      | Some u ↦ λ there below. (u, there, below)
    ]) refl (sym (at-append t p r) ∙ is)

module _ (m : Mapping) (es : List Element) (known : All (KnownPair es) m) where
  -- the pair of a copy, which has the tree of the element
  pair_there : (e : Element) → IsTold es e → (p : Path) (c : Element) → copy m (record { number = e.number; path = p }) ≡ Some c → (pair : Element × Element) × KnownPair es pair × (pair.1 ≡ c) × (at pair.0.root pair.0.path ≡ at e.root p)
  pair_there e told p c is =
      let found = pair_of_copy (KnownPair es) m (record { number = e.number; path = p }) c known is in
      let number : e.number ≡ found.0.0.number = sym (ap (λ (a : Address). a.number) found.2) in
      let root : e.root ≡ found.0.0.root = found.1.1 e told number in
      let path : found.0.0.path ≡ p = ap (λ (a : Address). a.path) found.2 in
      (found.0, found.1, found.3, ap (λ q. at found.0.0.root q) path ∙ ap (λ t. at t p) (sym root))

  -- a copy has an element where the path below leads
  lands : (e : Element) → IsTold es e → (v : SyntaxTree) → at e.root e.path ≡ Some v → (p r : Path) → e.path ≡ p ++ r → (c : Element) → copy m (record { number = e.number; path = p }) ≡ Some c → (w : SyntaxTree) × (at (below_copy e p c).root (below_copy e p c).path ≡ Some w) × IsTold es (below_copy e p c)
  lands e told v there p r way c is =
      let pair = pair_there e told p c is in
      let on = way_there e.root p r v (ap (at e.root) (sym way) ∙ there) in
      let input : subtree pair.0.0 ≡ on.0 = ap (λ o. unwrap_or o (tree.Token 0 [])) (pair.3 ∙ on.1) in
      let same : SameShape on.0 (subtree pair.0.1) = ap tree.without_texts (sym input) ∙ pair.1.0.rises.1 in
      let found = at-shape r on.0 (subtree pair.0.1) v same on.2 in
      let top : at c.root c.path ≡ Some (subtree c) = subst (λ d. at d.root d.path ≡ Some (subtree d)) pair.2 (node_there pair.0.1 pair.1.0.output) in
      let below : at (subtree c) r ≡ Some found.0 = subst (λ d. at (subtree d) r ≡ Some found.0) pair.2 found.1 in
      let rest : drop (length p) e.path ≡ r = ap (drop (length p)) way ∙ drop-way p r in
      (found.0, ap (λ q. at c.root (c.path ++ q)) rest ∙ at-append c.root c.path r ∙ ap (option_and_then (λ t. at t r)) top ∙ below, subst (IsTold es) pair.2 pair.1.2)

  -- no token is mapped
  token_unmapped : (e : Element) → IsTold es e → (v : SyntaxTree) → at e.root e.path ≡ Some v → is_token v ≡ true → copy m (record { number = e.number; path = e.path }) ≡ None
  token_unmapped e told v there form = by_copy (copy m (record { number = e.number; path = e.path })) refl
    where
      by_copy : (o : Option Element) → copy m (record { number = e.number; path = e.path }) ≡ o → copy m (record { number = e.number; path = e.path }) ≡ None
      by_copy None at = at
      by_copy (Some c) at =
          let pair = pair_there e told e.path c at in
          let both : Some true ≡ Some false = sym (ap (option_map is_token) (pair.3 ∙ there) ∙ ap Some form) ∙ pair.1.0.input in
          absurd (true≢false (same_Some true false both))

  -- where a token stands its own path is asked for in vain
  asked-all : (e : SyntaxElement) → Standing e → IsTold es (element_of e) → step m (element_of e) ≡ step_among m (element_of e) (asked_paths e)
  asked-all (Node e) standing told = refl
  asked-all (Token e) standing told = nearest-above m e e.path (token_unmapped e told standing.tree standing.there (by_form standing.tree standing.form))
    where
      by_form : (t : SyntaxTree) → Token e ≡ syntax_as t e → is_token t ≡ true
      by_form (tree.Token k s) form = refl
      by_form (tree.Node k f) form = cc

  lands_on : (e : SyntaxElement) → Standing e → IsTold es (element_of e) → (g : Element) → step_among m (element_of e) (asked_paths e) ≡ Some g → (w : SyntaxTree) × (at g.root g.path ≡ Some w) × IsTold es g
  lands_on e standing told g is =
      let c = copied_on m e g is in
      subst (λ g. (w : SyntaxTree) × (at g.root g.path ≡ Some w) × IsTold es g) c.goal_is (lands (element_of e) told standing.tree standing.there c.path c.rest c.way c.copy_is c.copies)

  pub no_step-exact : (e : SyntaxElement) → Standing e → IsTold es (element_of e) → syntax_step m e ≡ None → step m (element_of e) ≡ None
  no_step-exact e standing told none = by_goal (step_among m (element_of e) (asked_paths e)) refl
    where
      by_goal : (o : Option Element) → step_among m (element_of e) (asked_paths e) ≡ o → step m (element_of e) ≡ None
      by_goal None at = asked-all e standing told ∙ at
      by_goal (Some g) at =
          let on = lands_on e standing told g at in
          let some : syntax_step m e ≡ Some (syntax_as on.0 (element_at g g.path)) = ap (option_and_then (λ h. syntax_at h h.path)) at ∙ ap (option_map (λ t. syntax_as t (element_at g g.path))) on.1 in
          absurd (none-some (syntax_as on.0 (element_at g g.path)) (sym none ∙ some))

  pub step-exact : (e f : SyntaxElement) → Standing e → IsTold es (element_of e) → syntax_step m e ≡ Some f → (step m (element_of e) ≡ Some (element_of f)) × IsTold es (element_of f)
  step-exact e f standing told is =
      let s = stepped m e f is in
      let on = lands_on e standing told s.0 s.1 in
      let same : element_of f ≡ s.0 = (standing-at s.0 s.0.path f s.2).1 in
      (asked-all e standing told ∙ s.1 ∙ ap Some (sym same), subst (IsTold es) (sym same) on.2)

-- ---- in a row
pub standing-given : (e : SyntaxElement) (t : SyntaxTree) → at (element_of e).root (element_of e).path ≡ Some t → e ≡ syntax_of (element_of e) → Standing e
standing-given e t there form = record {
  tree = t;
  there = there;
  form = form ∙ ap (λ o. syntax_as (unwrap_or o (tree.Token 0 [])) (element_of e)) there;
}

pub standing-next : (m : Mapping) (e f : SyntaxElement) → syntax_step m e ≡ Some f → Standing f
standing-next m e f is = let s = stepped m e f is in (standing-at s.0 s.0.path f s.2).0

pub told-first : (e : Element) (m : Mapping) → NumbersTell (e ∷ mapped_elements m) → IsTold (e ∷ mapped_elements m) e
told-first e m tell = All-head (IsTold (e ∷ mapped_elements m)) e (mapped_elements m) (all_told (e ∷ mapped_elements m) tell)

pub reached-back : (m : Mapping) (e f g : SyntaxElement) → syntax_step m e ≡ Some f → IsReached m f g → IsReached m e g
reached-back m e f g is there = record {
  reached = (suc there.reached.0, subst (λ o. IsSomeAnd o (λ h. SyntaxSteps m there.reached.0 h g)) (sym is) there.reached.1);
  ends = there.ends;
}

pub followed-back : (m : Mapping) (e f g : Element) → step m e ≡ Some f → IsFollowed m f g → IsFollowed m e g
followed-back m e f g is there = record {
  reached = (suc there.reached.0, subst (λ o. IsSomeAnd o (λ h. Steps m there.reached.0 h g)) (sym is) there.reached.1);
  ends = there.ends;
}

pub followed-there : (m : Mapping) (e : Element) → step m e ≡ None → IsFollowed m e e
followed-there m e none = record { reached = (zero, refl); ends = none }

-- ---- from the first element on
module _ (m : Mapping) (first : Element) (pairs : ArePairs m) (tell : NumbersTell (first ∷ mapped_elements m)) where
  pub step-told : (e f : SyntaxElement) → Standing e → IsTold (first ∷ mapped_elements m) (element_of e) → syntax_step m e ≡ Some f → (step m (element_of e) ≡ Some (element_of f)) × IsTold (first ∷ mapped_elements m) (element_of f)
  step-told = step-exact m (first ∷ mapped_elements m) (known_pairs first m pairs tell)

  pub no_step-told : (e : SyntaxElement) → Standing e → IsTold (first ∷ mapped_elements m) (element_of e) → syntax_step m e ≡ None → step m (element_of e) ≡ None
  no_step-told = no_step-exact m (first ∷ mapped_elements m) (known_pairs first m pairs tell)
