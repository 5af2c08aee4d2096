-- The node that is found again, by its path.
--     as-found                      the first node of the old one's kind and start is the one found again
--     node-found                    its path leads from a root to a node
use Rattle.std.specs.Prelude.{◌≡◌, ℕ, ◌+◌, Bool, true, false, not, cond, nat_eq, ◌&&◌, List, [], ◌∷◌, ◌++◌, filter, find, Option, Some, None, option_map, option_and_then, refl}
use Rattle.std.specs.Option.{option_map_or}
use Rattle.std.proofs.Common.{ap, ap₂, sym, arith, ◌∙◌}
use Rattle.std.proofs.lemmas.Bool.{false≢true}
use Rattle.cst_core.specs.Path.{Path}
use Rattle.cst_core.specs.Tree.{SyntaxTree, Token, Node, at, label, is_token, paths}
use Rattle.cst_core.specs.Order.{node_paths, start}
use Rattle.cst_core.specs.Element.{Element, subtree, element_at}
use Rattle.cst_core.specs.SyntaxElement.{node_of, syntax_as, syntax_at}
use Rattle.green_tree.specs.inner.FirstNode.{starts_as, first_from}
use Rattle.edit_change.specs.Results.{stands_like, stand_in_path}

find-same : {X : Type 0} (g h : X → Bool) (xs : List X) → ((x : X) → g x ≡ h x) → find g xs ≡ find h xs
find-same g h [] e = refl
find-same g h (x ∷ xs) e = ap₂ (λ b r. cond b (Some x) r) (e x) (find-same g h xs e)

found-passes : {X : Type 0} (g h : X → Bool) (xs : List X) (x : X) → find g (filter h xs) ≡ Some x → h x ≡ true
found-passes g h [] x is = absurd (cc)
found-passes g h (y ∷ xs) x is =
    (elim (h y) as (λ b. h y ≡ b → find g (cond b (y ∷ filter h xs) (filter h xs)) ≡ Some x → h x ≡ true) [
      | true ↦ λ passes. elim (g y) as (λ b. cond b (Some y) (find g (filter h xs)) ≡ Some x → h x ≡ true) [
        | true ↦ λ same. (let s : y ≡ x = cc in ap h (sym s) ∙ passes)
        | false ↦ λ rest. found-passes g h xs x rest
      ]
      | false ↦ λ _. λ rest. found-passes g h xs x rest
    ]) refl is

pub as-found : (old e : Element) (t : SyntaxTree) (kind begin : ℕ) (r : Option Path) → e.path ≡ [] → t ≡ subtree e → kind ≡ label (subtree old) → begin ≡ start old.root old.path → r ≡ first_from kind 0 begin t → r ≡ stand_in_path old e.root
as-found old e t kind begin r top tree same starts is =
    let whole : t ≡ e.root = tree ∙ ap (λ p. subtree (element_at e p)) top in
    let tests : (p : Path) → starts_as kind 0 begin e.root p ≡ stands_like old e.root p = λ p.
    let zero_more : 0 + start e.root p ≡ start e.root p = omega arith in
    ap₂ (λ k b. option_map_or (λ d. nat_eq (label d) k) (at e.root p) false && nat_eq (0 + start e.root p) b) same starts
    ∙ ap (λ n. option_map_or (λ d. nat_eq (label d) (label (subtree old))) (at e.root p) false && nat_eq n (start old.root old.path)) zero_more in
    is ∙ ap (first_from kind 0 begin) whole ∙ find-same (starts_as kind 0 begin e.root) (stands_like old e.root) (node_paths e.root) tests

there : (e : Element) (p : Path) (o : Option SyntaxTree) → option_map_or (λ c. not (is_token c)) o false ≡ true → option_and_then node_of (option_map (λ t. syntax_as t (element_at e p)) o) ≡ Some (element_at e p)
there e p None node = absurd (false≢true node)
there e p (Some (Token k s)) node = absurd (false≢true node)
there e p (Some (Node k f)) node = refl

pub node-found : (old e : Element) (p : Path) (r : Option Element) → e.path ≡ [] → Some p ≡ stand_in_path old e.root → r ≡ option_and_then node_of (syntax_at e (e.path ++ p)) → r ≡ option_map (element_at e) (stand_in_path old e.root)
node-found old e p r top is leads =
    let node = found-passes (stands_like old e.root) (λ q. option_map_or (λ c. not (is_token c)) (at e.root q) false) (paths e.root) p (sym is) in
    leads ∙ ap (λ q. option_and_then node_of (syntax_at e (q ++ p))) top ∙ there e p (at e.root p) node ∙ ap (option_map (element_at e)) is
