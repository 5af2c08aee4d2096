-- The paths of what is told of a new tree lead to elements of it.
--     topmost-there                 those of the topmost elements that pass a test
--     numbered-lead, copies-lead    those of copies, with annotations; those of the copies of one address
--     changed-there, annotated-there      those of the changed and of the annotated elements of a plan
use Rattle.std.specs.Prelude.{◌≡◌, ℕ, ◌&&◌, not, Bool, true, false, List, [], ◌∷◌, ◌++◌, map, Some, None, option_map, is_some, IsSome, All, refl}
use Rattle.std.specs.List.{AllByRecursion}
use Rattle.std.specs.Option.{option_map_or}
use Rattle.std.proofs.Common.{ap, sym, subst, ◌∙◌}
use Rattle.std.proofs.lemmas.Bool.{and_parts}
use Rattle.std.proofs.lemmas.List.Elements.{All-from_recursion}
use Rattle.cst_core.specs.Path.{Path}
use Rattle.cst_core.specs.Tree.{Tree, SyntaxTree, label, at, paths, relabelled}
use Rattle.cst_core.specs.Element.{Address, Element, IsElement, element_at, same_address}
use Rattle.edit_change.specs.Topmost.{holds_at, parent_holds, topmost}
use Rattle.edit_plan.specs.Plan.{Plan}
use Rattle.edit_plan.specs.Engine.{IsRewritten}
use Rattle.edit_change.specs.NewTree.{OriginTree, plain, is_free}
use Rattle.edit_plan.specs.inner.Annotating.{numbered_paths}
use Rattle.edit_change.specs.Results.{is_brought, copies_of}
use Rattle.edit_change.proofs.Lists.{all_filter, all_weaker}
use Rattle.edit_change.proofs.Relabelled.{at-relabelled}

all-any : {X : Type 0} (xs : List X) → AllByRecursion (λ x. Unit {0}) xs
all-any [] = tt
all-any (x ∷ xs) = (tt, all-any xs)

holds-there : {L : Type 0} (test : L → Bool) (t : Tree L) (p : Path) → holds_at test t p ≡ true → IsSome (at t p)
holds-there test t p =
    elim (at t p) as (λ o. option_map_or (λ e. test (label e)) o false ≡ true → IsSome o) [
      | None ↦ λ h. cc
      | Some e ↦ λ h. refl
    ]

topmost-there : {L : Type 0} (test : L → Bool) (t : Tree L) → AllByRecursion (λ p. IsSome (at t p)) (topmost test t)
topmost-there test t =
    all_weaker (λ p. Unit {0} × ((holds_at test t p && not (parent_holds test t p)) ≡ true)) (λ p. IsSome (at t p)) (topmost test t) (λ p h. holds-there test t p (and_parts (holds_at test t p) (not (parent_holds test t p)) h.1).0) (all_filter (λ p. Unit {0}) (λ p. holds_at test t p && not (parent_holds test t p)) (paths t) (all-any (paths t)))

still-there : {L M : Type 0} (h : L → M) (t : Tree L) (p : Path) → IsSome (at t p) → IsSome (at (relabelled h t) p)
still-there h t p some =
    ap is_some (at-relabelled h t p) ∙ (elim (at t p) as (λ o. is_some (option_map (relabelled h) o) ≡ is_some o) [ None ↦ refl | Some e ↦ refl ]) ∙ some

pub changed-there : (p : Plan) (tree : SyntaxTree) (changed : List Path) (annotated : List (ℕ × Path)) → IsRewritten p tree changed annotated → (e : Element) → e.root ≡ tree → All (λ q. IsElement (element_at e q)) changed
changed-there p tree changed annotated r e is =
    All-from_recursion (λ q. IsSome (at e.root q)) changed (subst (λ ps. AllByRecursion (λ q. IsSome (at e.root q)) ps) (sym r.changed_is) (all_weaker (λ q. IsSome (at r.made q)) (λ q. IsSome (at e.root q)) _ (λ q h. subst (λ t. IsSome (at t q)) (sym (is ∙ r.tree_is)) (still-there (λ o. o.kind) r.made q h)) (topmost-there (is_brought (is_free p.changes)) r.made)))

copies-there : (t : OriginTree) (a : Address) → AllByRecursion (λ p. IsSome (at t p)) (copies_of t a)
copies-there t a =
    all_weaker (λ p. Unit {0} × (holds_at (λ o. same_address a o.address) t p ≡ true)) (λ p. IsSome (at t p)) (copies_of t a) (λ p h. holds-there (λ o. same_address a o.address) t p h.1) (all_filter (λ p. Unit {0}) (holds_at (λ o. same_address a o.address) t) (paths t) (all-any (paths t)))

pub copies-lead : (t : OriginTree) (a : Address) → All (λ p. IsSome (at (plain t) p)) (copies_of t a)
copies-lead t a =
    All-from_recursion (λ p. IsSome (at (plain t) p)) (copies_of t a) (all_weaker (λ p. IsSome (at t p)) (λ p. IsSome (at (plain t) p)) (copies_of t a) (λ p h. still-there (λ o. o.kind) t p h) (copies-there t a))

both-there : (t : OriginTree) (n : ℕ) (ps : List Path) (rest : List (ℕ × Path)) → AllByRecursion (λ p. IsSome (at t p)) ps → AllByRecursion (λ m. IsSome (at t m.1)) rest → AllByRecursion (λ m. IsSome (at t m.1)) (map (λ p. (n, p)) ps ++ rest)
both-there t n [] rest h k = k
both-there t n (p ∷ ps) rest h k = (h.0, both-there t n ps rest h.1 k)

numbered-there : (t : OriginTree) (ns : List ℕ) (rs : List Address) → AllByRecursion (λ m. IsSome (at t m.1)) (numbered_paths ns (map (copies_of t) rs))
numbered-there t [] rs = tt
numbered-there t (n ∷ ns) [] = tt
numbered-there t (n ∷ ns) (r ∷ rs) = both-there t n (copies_of t r) (numbered_paths ns (map (copies_of t) rs)) (copies-there t r) (numbered-there t ns rs)

pub numbered-lead : (t : OriginTree) (tree : SyntaxTree) (ns : List ℕ) (rs : List Address) → tree ≡ plain t → All (λ n. IsSome (at tree n.1)) (numbered_paths ns (map (copies_of t) rs))
numbered-lead t tree ns rs is =
    All-from_recursion (λ n. IsSome (at tree n.1)) (numbered_paths ns (map (copies_of t) rs)) (all_weaker (λ n. IsSome (at t n.1)) (λ n. IsSome (at tree n.1)) _ (λ n h. subst (λ x. IsSome (at x n.1)) (sym is) (still-there (λ o. o.kind) t n.1 h)) (numbered-there t ns rs))

pub annotated-there : (p : Plan) (tree : SyntaxTree) (changed : List Path) (annotated : List (ℕ × Path)) → IsRewritten p tree changed annotated → (e : Element) → e.root ≡ tree → All (λ n. IsElement (element_at e n.1)) annotated
annotated-there p tree changed annotated r e is = subst (λ t. All (λ n. IsSome (at t n.1)) annotated) (sym is) r.leads
