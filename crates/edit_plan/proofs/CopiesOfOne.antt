-- The copies of one element in the tree that a plan makes.
--     copy-paths                    where they are, of what one pass tells
--     copies-there                  these paths lead to elements of each edit that the plan makes
--     are-copies                    what they lead to
--     ok-gives                      what an answer gives that promises more
use Rattle.std.specs.Prelude.{◌≡◌, ℕ, List, [], ◌∷◌, ◌++◌, map, All, IsSome, Some, Result, Ok, Err, IfOk}
use Rattle.std.proofs.Common.{ap, sym, subst, ◌∙◌}
use Rattle.cst_core.specs.Path.{Path}
use Rattle.cst_core.specs.Tree.{SyntaxTree, at}
use Rattle.cst_core.specs.Element.{Element, IsElement, NumbersTell, element_at, address}
use Rattle.cst_core.specs.SyntaxElement.{element_of, syntax_at}
use Rattle.cst_core.specs.declared.element.SyntaxElement.{SyntaxElement}
use Rattle.edit_map.specs.Mapping.{IsRising, followed, mapped_elements}
use Rattle.edit_change.specs.NewTree.{plain}
use Rattle.edit_change.specs.Results.{copies_of}
use Rattle.edit_change.specs.Places.{ArePlaces}
use Rattle.one_pass.specs.inner.Root.{TellsNewTree}
use Rattle.edit_plan.specs.Plan.{Plan, Edit, Makes}
use Rattle.edit_plan.specs.FurtherPlans.{AreCopies}
use Rattle.edit_plan.specs.inner.CopyPaths.{AreCopyPaths}
use Rattle.edit_plan.proofs.StagesOfRuns.{PlaceIsUnique}
use Rattle.edit_plan.proofs.PathsOfResults.{copies-lead}
use Rattle.edit_plan.proofs.TwoPlaces.{one-made}

pub copy-paths : (p : Plan) (e : Element) (f : SyntaxElement) (tree : SyntaxTree) (before : List (List Path)) (paths found : List Path) (places : ℕ → Path) → ArePlaces p.mapping p.changes places → TellsNewTree p.root p.changes places (f ∷ []) tree (before ++ found ∷ []) paths → (NumbersTell (e ∷ mapped_elements p.mapping) → element_of f ≡ followed p.mapping e) → AreCopyPaths p e found
copy-paths p e f tree before paths found places are told reached =
    let is : found ≡ copies_of told.made (address (element_of f)) = alone before found (copies_of told.made (address (element_of f))) told.copies_are in
    record {
      made = told.made;
      would = record { places = places; are_places = are; is_new = told.is_new };
      lead = subst (All (λ q. IsSome (at (plain told.made) q))) (sym is) (copies-lead told.made (address (element_of f)));
      copies_are = λ tell. is ∙ ap (λ x. copies_of told.made (address x)) (reached tell);
    }
  where
    alone : (xs : List (List Path)) (x y : List Path) → xs ++ x ∷ [] ≡ y ∷ [] → x ≡ y
    alone [] x y is = cc
    alone (z ∷ []) x y is = absurd (cc)
    alone (z ∷ w ∷ xs) x y is = absurd (cc)

module _ (unique : PlaceIsUnique) (p : Plan) (rises : IsRising p.mapping) (number : ℕ) (edit : Edit) (makes : Makes p number edit) (e : SyntaxElement) (found : List Path) (are : AreCopyPaths p (element_of e) found) (root : Element) (is : root ≡ edit.new_root) where
  pub copies-there : All (λ q. IsElement (element_at root q)) found
  copies-there =
      let tree : plain are.made ≡ root.root = ap plain (one-made unique p rises are.made makes.made are.would makes.would) ∙ sym makes.tree_is ∙ ap (λ x. x.root) (sym is) in
      subst (λ t. All (λ q. IsSome (at t q)) found) tree are.lead

  pub are-copies : (es : List SyntaxElement) → map (λ x. Some x) es ≡ map (syntax_at root) found → NumbersTell (element_of e ∷ mapped_elements p.mapping) → AreCopies p edit e es
  are-copies es lead tell = record {
    made = are.made;
    would = are.would;
    found_are = lead ∙ ap (λ r. map (syntax_at r) found) is ∙ ap (map (syntax_at edit.new_root)) (are.copies_are tell);
  }

-- ---- in code
pub ok-gives : {T E : Type 0} (P Q : T → Type 0) (r : Result T E) → ((v : T) → P v → Q v) → IfOk r P → IfOk r Q
ok-gives P Q (Ok v) gives holds = gives v holds
ok-gives P Q (Err e) gives holds = tt
