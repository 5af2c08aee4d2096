-- Where each node that an aim alters is there and stays, all that is touched is built.
--     inside-has                    what is inside a slot, with the slot before it
--     AllStay                       of the part at a path: each of these paths leads to a node, and no aim replaces it, nor what it is in
--     all-built                     then all that is touched is built
--     touched-all, touched-none     THE SAME OF A TREE; none, where its top is replaced
use Rattle.std.specs.Prelude.{◌≡◌, ℕ, suc, ◌+◌, Bool, true, false, not, cond, nat_eq, List, [], ◌∷◌, ◌++◌, slice_get, Option, Some, None, OnOk, Result, Ok, Err, option_and_then, refl}
use Rattle.std.specs.List.{AllByRecursion}
use Rattle.std.proofs.Common.{ap, ap₂, sym, subst, ◌∙◌, arith}
use Rattle.std.proofs.lemmas.Bool.{or_cases, or_left, or_right, and_from, false≢true, true≢false, eqb-true, eq-eqb}
use Rattle.std.proofs.lemmas.List.{append_assoc}
use Rattle.std.proofs.lemmas.List.Elements.{recursion_from_All}
use mathlib.Core.Logic.{◌⊎◌, inl, inr}
use lib.Pointwise.{pointwise_decides}
use Rattle.green_tree.specs.Path.{Path, same_path, has_path, parent_path}
use Rattle.green_tree.specs.Tree.{SyntaxTree, Forest, Token, Node, end, more, trees, at, is_token}
use Rattle.green_tree.specs.GreenElement.{element_tree}
use Rattle.green_tree.specs.declared.green.GreenElement.{GreenElement}
use Rattle.green_tree.proofs.Lookup.{IsNodeThere}
use Rattle.std.specs.Option.{option_map_or}
use Rattle.edit_change.specs.Aim.{Aim, FirstIn, AfterElement, Over, parents}
use Rattle.edit_change.specs.Rewriting.{NumberedAim, is_replaced}
use Rattle.green_tree.specs.Count.{counted}
use Rattle.edit_change.specs.Effort.{inside, touched, touched_from, parents_of}
use Rattle.one_pass.specs.inner.Built.{built, built_from, nodes_built, IsBuilt, AreBuilt}
use Rattle.edit_change.specs.declared.aimed.Aimed.{Aimed}
use Rattle.edit_change.specs.inner.Aimed.{aims_of}
use Rattle.one_pass.specs.inner.Pass.{CountsBuilt, CountsTouched}

pub inside-has : (i : ℕ) (q : Path) (ps : List Path) → has_path (inside i ps) q ≡ true → has_path ps (i ∷ q) ≡ true
inside-has i q [] h = h
inside-has i q ([] ∷ ps) h = inside-has i q ps h
inside-has i q ((j ∷ p) ∷ ps) h = go (nat_eq j i) refl (inside-has i q ps) h
  where
    go : (b : Bool) → nat_eq j i ≡ b → (has_path (inside i ps) q ≡ true → has_path ps (i ∷ q) ≡ true) → has_path (cond b (p ∷ inside i ps) (inside i ps)) q ≡ true → has_path ((j ∷ p) ∷ ps) (i ∷ q) ≡ true
    go false is rest h = or_right (same_path (i ∷ q) (j ∷ p)) (has_path ps (i ∷ q)) (rest h)
    go true is rest h =
        elim (or_cases (same_path q p) (has_path (inside i ps) q) h) [
          | inl here ↦ or_left (same_path (i ∷ q) (j ∷ p)) (has_path ps (i ∷ q)) (and_from (nat_eq i j) (same_path q p) (eq-eqb i j (sym (eqb-true j i is))) here)
          | inr there ↦ or_right (same_path (i ∷ q) (j ∷ p)) (has_path ps (i ∷ q)) (rest there)
        ]

no_node : (k : ℕ) (s : List ℕ) (q : Path) → IsNodeThere (at (Token k s) q) → ⊥
no_node k s [] there = cc (there.is)
no_node k s (i ∷ q) there = cc (there.is)

nothing_touched : (t : SyntaxTree) → touched t [] ≡ 0
nothing_touched (Token k s) = refl
nothing_touched (Node k f) = refl

decides : (p q : Path) → (same_path p q ≡ true → p ≡ q) × (p ≡ q → same_path p q ≡ true)
decides = pointwise_decides (λ x y. (eqb-true x y, eq-eqb x y))

first_has : (q : Path) (ps : List Path) → has_path (q ∷ ps) q ≡ true
first_has q ps = or_left (same_path q q) (has_path ps q) ((decides q q).1 refl)

module _ (cs : List NumberedAim) where
  pub record Stays (p : Path) (t : SyntaxTree) (q : Path) : Type 0 where
    pub node : IsNodeThere (at t q)
    pub stays : (s r : Path) → s ++ r ≡ q → is_replaced cs (p ++ s) ≡ false

  abbrev pub AllStay : Path → SyntaxTree → List Path → Type 0
  AllStay p t ps = (q : Path) → has_path ps q ≡ true → Stays p t q

  -- the same of children from a slot on
  abbrev ChildrenStay : Path → ℕ → Forest ℕ → List Path → Type 0
  ChildrenStay p i f ps =
      (j k : ℕ) (t : SyntaxTree) → k ≡ i + j → slice_get (trees f) j ≡ Some t → AllStay (p ++ k ∷ []) t (inside k ps)

  child-stays : (p : Path) (k : ℕ) (f : Forest ℕ) (ps : List Path) → AllStay p (Node k f) ps → ChildrenStay p 0 f ps
  child-stays p kind f ps h j k t same there q has =
      let here : k ≡ j = omega (arith, same) in
      let whole : Stays p (Node kind f) (k ∷ q) = h (k ∷ q) (inside-has k q ps has) in
      let child : at (Node kind f) (k ∷ q) ≡ at t q = ap (λ o. option_and_then (λ c. at c q) o) (ap (slice_get (trees f)) here ∙ there) in
      record {
        node = subst IsNodeThere child whole.node;
        stays = λ s r is. ap (is_replaced cs) (append_assoc p (k ∷ []) s) ∙ whole.stays (k ∷ s) r (ap (λ u. k ∷ u) is);
      }

  one-child : (p : Path) (i : ℕ) (t : SyntaxTree) (ps : List Path) → AllStay (p ++ i ∷ []) t (inside i ps) → built cs (p ++ i ∷ []) t (inside i ps) ≡ touched t (inside i ps) → cond (is_replaced cs (p ++ i ∷ [])) 0 (built cs (p ++ i ∷ []) t (inside i ps)) ≡ touched t (inside i ps)
  one-child p i t ps stay same = go (is_replaced cs (p ++ i ∷ [])) refl (inside i ps) refl
    where
      go : (b : Bool) → is_replaced cs (p ++ i ∷ []) ≡ b → (qs : List Path) → inside i ps ≡ qs → cond b 0 (built cs (p ++ i ∷ []) t (inside i ps)) ≡ touched t (inside i ps)
      go false is qs in_slot = same
      go true is [] in_slot = sym (ap (touched t) in_slot ∙ nothing_touched t)
      go true is (q ∷ qs) in_slot =
          let here : Stays (p ++ i ∷ []) t q = stay q (ap (λ rs. has_path rs q) in_slot ∙ first_has q qs) in
          let kept : is_replaced cs (p ++ i ∷ []) ≡ false = ap (is_replaced cs) (sym (append_assoc p (i ∷ []) [])) ∙ here.stays [] q refl in
          absurd (true≢false (sym is ∙ kept))

  mutual
    pub all-built : (p : Path) (t : SyntaxTree) (ps : List Path) → AllStay p t ps → built cs p t ps ≡ touched t ps
    all-built p (Token k s) [] h = refl
    all-built p (Token k s) (q ∷ ps) h = absurd (no_node k s q (h q (first_has q ps)).node)
    all-built p (Node k f) [] h = refl
    all-built p (Node k f) (q ∷ ps) h = ap (λ n. 1 + n) (all-built_from p 0 f (q ∷ ps) (child-stays p k f (q ∷ ps) h))

    all-built_from : (p : Path) (i : ℕ) (f : Forest ℕ) (ps : List Path) → ChildrenStay p i f ps → built_from cs p i f ps ≡ touched_from i f ps
    all-built_from p i end ps h = refl
    all-built_from p i (more t f) ps h =
        let here : AllStay (p ++ i ∷ []) t (inside i ps) = h 0 i t (omega arith) refl in
        ap₂ (λ m n. m + n) (one-child p i t ps here (all-built (p ++ i ∷ []) t (inside i ps) here)) (all-built_from p (suc i) f ps (λ j k u same there. h (suc j) k u (omega (arith, same)) there))

-- ---- the parents of aims
one_or_none : (a : Aim) → (parents a ≡ []) ⊎ ((p : Path) × (parents a ≡ p ∷ []))
one_or_none (FirstIn p) = inr (p, refl)
one_or_none (AfterElement []) = inl refl
one_or_none (AfterElement (i ∷ p)) = inr (parent_path (i ∷ p), refl)
one_or_none (Over []) = inl refl
one_or_none (Over ([] ∷ ps)) = inl refl
one_or_none (Over ((i ∷ p) ∷ ps)) = inr (parent_path (i ∷ p), refl)

each-parent : (P : Path → Type 0) (ds : List NumberedAim) → AllByRecursion (λ c. (p : Path) → parents c.1 ≡ p ∷ [] → P p) ds → (q : Path) → has_path (parents_of ds) q ≡ true → P q
each-parent P [] a q h = absurd (false≢true h)
each-parent P (c ∷ ds) a q h =
    elim (one_or_none c.1) [
      | inl none ↦ each-parent P ds a.1 q (ap (λ ps. has_path (ps ++ parents_of ds) q) (sym none) ∙ h)
      | inr one ↦ elim (or_cases (same_path q one.0) (has_path (parents_of ds) q) (ap (λ ps. has_path (ps ++ parents_of ds) q) (sym one.1) ∙ h)) [
        | inl here ↦ subst P (sym ((decides q one.0).0 here)) (a.0 one.0 one.1)
        | inr there ↦ each-parent P ds a.1 q there
      ]
    ]

node_there : (o : Option SyntaxTree) → option_map_or (λ t. not (is_token t)) o false ≡ true → IsNodeThere o
node_there None h = absurd (false≢true h)
node_there (Some (Token k s)) h = absurd (false≢true h)
node_there (Some (Node k f)) h = record { kind = k; below = f; is = refl }

module _ (cs : List NumberedAim) (t : SyntaxTree) (all : AreBuilt cs t) where
  each : AllStay cs [] t (parents_of cs)
  each q has =
      let it : IsBuilt cs t q = each-parent (IsBuilt cs t) cs (recursion_from_All (λ c. (p : Path) → parents c.1 ≡ p ∷ [] → IsBuilt cs t p) cs all) q has in
      record { node = node_there (at t q) it.node; stays = it.stays }

  pub touched-all : nodes_built cs t ≡ touched t (parents_of cs)
  touched-all = all-built cs [] t (parents_of cs) each

  pub touched-none : is_replaced cs [] ≡ true → touched t (parents_of cs) ≡ 0
  touched-none is = go (parents_of cs) refl
    where
      go : (ps : List Path) → parents_of cs ≡ ps → touched t (parents_of cs) ≡ 0
      go [] are = ap (touched t) are ∙ nothing_touched t
      go (q ∷ ps) are =
          let here : Stays cs [] t q = each q (ap (λ rs. has_path rs q) are ∙ first_has q ps) in
          absurd (true≢false (sym is ∙ here.stays [] q refl))

-- ---- as code counts them
pub counts-touched : (aims : List Aimed) (e : GreenElement) (before after : ℕ) → CountsBuilt aims e before after → CountsTouched aims e before after
counts-touched aims e before after counts all = counts ∙ ap (counted before) (touched-all (aims_of aims) (element_tree e) all)

pub on_ok-touched : {T E : Type 0} (r : Result T E) (aims : List Aimed) (e : GreenElement) (before after : ℕ) → OnOk r (CountsBuilt aims e before after) → OnOk r (CountsTouched aims e before after)
on_ok-touched (Ok x) aims e before after h = counts-touched aims e before after h
on_ok-touched (Err x) aims e before after h = tt
