use Rattle.std.proofs.Common.{◌≡◌, ◌≤◌, ◌+◌, ℕ, List, [], Result, Ok, Err, IfErr, IsErrAnd, MatchResult, OnErr, append-nil, refl, sym, subst}
use Rattle.cst_core.specs.Green.{IsTooLong, branch_tree}
use Rattle.cst_core.specs.Tree.{SyntaxTree, text}
use Rattle.cst_core.specs.TreeError.{TreeError}
use Rattle.cst_core.specs.TreeError.TheVariants as Trees
use Rattle.tree_text.specs.Depth.{depth, depth_limit}
use Rattle.tree_text.specs.Grammar.{IsExpression, is_gap_blank}
use Rattle.tree_text.specs.KindNames.{name_in}
use Rattle.tree_text.specs.Refusals.{BeginsAs, ReadRefuses}
use Rattle.tree_text.specs.declared.error.ExpressionError.{ExpressionError}
use Rattle.tree_text.specs.declared.error.ExpressionError.TheVariants.{Tree, Memory}
use Rattle.tree_text.specs.declared.gaps.Gaps.TheVariants.{Lines}
use Rattle.tree_text.proofs.EncodedBytes.{are-gaps}
use Rattle.tree_text.proofs.Names.{own_names}
use Rattle.tree_text.proofs.OneTree.{same-tree}
use Rattle.tree_text.proofs.Results.{kept_by_map_err, of_the_value}
use Rattle.tree_text.proofs.root.read_root.Goals as goal

-- an error that is exchanged for another one
exchanged : {A : Type 0} (r : Result A TreeError) (m : Result A ExpressionError) (Q : TreeError → ExpressionError → Type 0) (P : ExpressionError → Type 0) → MatchResult r (λ x. m ≡ Ok x) (λ e. IsErrAnd m (Q e)) → ((e : TreeError) → r ≡ Err e → (f : ExpressionError) → Q e f → P f) → IfErr m P
exchanged (Ok x) m Q P is each = subst (λ v. IfErr v P) (sym is) tt
exchanged (Err e) (Err f) Q P is each = each e refl f is
exchanged (Err e) (Ok x) Q P is each = absurd is

begins : (t : SyntaxTree) (w : List ℕ) → IsExpression (name_in []) is_gap_blank t w → IsTooLong (text t) → BeginsAs [] is_gap_blank (λ u. IsTooLong (text u)) w
begins t w found long = record {
  front = w;
  rest = [];
  is = sym (append-nil w);
  goes = (t, [], subst (IsExpression (name_in []) is_gap_blank t) (sym (append-nil w)) found);
  only = λ u x expression. subst (λ y. IsTooLong (text y)) (same-tree (name_in []) is_gap_blank own_names.names (are-gaps Lines) t u w x found expression) long;
}

pub returns-clause-refused : goal.returns-clause-refused
returns-clause-refused c = λ left.
    let w = c.args.expression.now in
    let t = branch_tree c.in_ok-root.root in
    let P : ExpressionError → Type 0 = ReadRefuses [] is_gap_blank w in
    exchanged c.new_root.result c.map_err.result _ P c.map_err.ensures.cases (λ e is f q.
    elim e as (λ x. c.new_root.result ≡ Err x → (x ≡ Trees.Memory → f ≡ Memory) → ((x ≡ Trees.Memory → ⊥) → f ≡ Tree x) → P f) [
      | Trees.TooLong ↦ λ was memory other'. subst P (sym (other' (λ same. cc))) (begins t w c.in_ok-root.ensures.found (c.new_root.ensures.too_long.0 was))
      | Trees.NoTreeNumber ↦ λ was memory other'. absurd (left (c.new_root.ensures.no_number.0 was).0)
      | Trees.Memory ↦ λ was memory other'. subst P (sym (memory refl)) tt
    ] is q.0 q.1)

pub returns-clause-root : goal.returns-clause-root
returns-clause-root c =
    kept_by_map_err c.new_root.result c.map_err.result (λ n. n.number ≡ c.args.ids.now × n.path ≡ [] × depth n.root ≤ depth_limit) _ c.map_err.ensures.cases
    (of_the_value c.new_root.result _ (λ n. n.number ≡ c.args.ids.now × n.path ≡ [] × depth n.root ≤ depth_limit) c.new_root.ensures.ok (refl, refl, c.in_ok-root.ensures.limited))

pub returns-clause-found : goal.returns-clause-found
returns-clause-found c =
    kept_by_map_err c.new_root.result c.map_err.result (λ n. IsExpression (name_in []) is_gap_blank n.root c.args.expression.now) _ c.map_err.ensures.cases
    (of_the_value c.new_root.result _ (λ n. IsExpression (name_in []) is_gap_blank n.root c.args.expression.now) c.new_root.ensures.ok c.in_ok-root.ensures.found)

pub returns-clause-only : goal.returns-clause-only
returns-clause-only c = λ t expression.
    kept_by_map_err c.new_root.result c.map_err.result (λ n. n.root ≡ t) _ c.map_err.ensures.cases
    (of_the_value c.new_root.result _ (λ n. n.root ≡ t) c.new_root.ensures.ok (c.in_ok-root.ensures.only t expression))

pub returns-clause-drawn : goal.returns-clause-drawn
returns-clause-drawn c =
    kept_by_map_err c.new_root.result c.map_err.result (λ _. c.new_root.new.ids ≡ c.args.ids.now + 1) _ c.map_err.ensures.cases c.new_root.ensures.drawn

pub returns-clause-err : goal.returns-clause-err
returns-clause-err c =
    let stays = c.new_root.new.ids ≡ c.args.ids.now in
    exchanged c.new_root.result c.map_err.result _ (λ _. stays) c.map_err.ensures.cases (λ e is f q. subst (λ r. OnErr r stays) is c.new_root.ensures.err)
