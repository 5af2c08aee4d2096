use Rattle.std.proofs.Common.{◌≡◌, ◌-◌, ◌<◌, ◌≤◌, ◌++◌, Some, None, arith, ap, sym, subst, ◌∙◌}
use Rattle.std.specs.Prelude.{IfOk, option_map}
use Rattle.green_tree.specs.Tree.{at, text_length}
use Rattle.green_tree.specs.Order.{start}
use Rattle.green_tree.specs.inner.TokensByOffset.{covering}
use Rattle.green_tree.specs.Green.{branch_tree, length_limit}
use Rattle.cst_core.specs.SyntaxElement.{syntax_at}
use Rattle.cst_core.specs.AtOffset.{covering_of}
use Rattle.green_tree.proofs.TextLengths.{text_length-part}
use Rattle.green_tree.proofs.FoundTokens.{err_is_not_ok}
use Rattle.cst_core.proofs.Touched.{covering_before, covering_back, syntax_covering, covering_nowhere, none_covering_below}
use Rattle.cst_core.proofs.node.SyntaxNode.covering_element.Goals as goal
use Rattle.cst_core.proofs.node.SyntaxNode.covering_element.Goals.{then-start-base-via-then-start-base, then-start-base-via-else-start-base+then-end-start}

pub returns-then-start-base-clause-ok : goal.returns-then-start-base-clause-ok
returns-then-start-base-clause-ok c =
    let there : at c.args.self.now.root c.args.self.now.path ≡ Some (branch_tree c.self.inside.green) = rw (← c.self.view_is) c.self.invariant.there in
    elim c.then-start-base.branch [
      | then-start-base-via-then-start-base w ↦ covering_before c.args.self.now (branch_tree c.self.inside.green) c.args.start c.args.end there (omega (arith, c.text_start-base.ensures, w.if-start-base.true))
      | then-start-base-via-else-start-base+then-end-start w ↦ covering_back c.args.self.now c.args.start c.args.end (omega (arith, w.if-end-start.true))
    ]

pub covering_path-requires : goal.covering_path-requires
covering_path-requires c =
    let there : at c.args.self.now.root c.args.self.now.path ≡ Some (branch_tree c.self.inside.green) = rw (← c.self.view_is) c.self.invariant.there in
    let fits : text_length c.args.self.now.root < length_limit = rw (← c.self.view_is) c.self.invariant.fits in
    record { fits = text_length-part c.args.self.now.root c.args.self.now.path (branch_tree c.self.inside.green) there fits }

pub returns-in-Some-clause-ok : goal.returns-in-Some-clause-ok
returns-in-Some-clause-ok c =
    let there : at c.args.self.now.root c.args.self.now.path ≡ Some (branch_tree c.self.inside.green) = rw (← c.self.view_is) c.self.invariant.there in
    let after : start c.args.self.now.root c.args.self.now.path ≤ c.args.start = omega (arith, c.text_start-base.ensures, c.if-start-base.false) in
    let ordered : c.args.start ≤ c.args.end = omega (arith, c.if-end-start.false) in
    let way : Some c.in-Some.path.items ≡ covering (branch_tree c.self.inside.green) (c.args.start - start c.args.self.now.root c.args.self.now.path) (c.args.end - start c.args.self.now.root c.args.self.now.path) = ap (option_map (λ path. path.items)) (sym c.in-Some.is) ∙ c.in_ok-path.ensures.ok ∙ ap (λ n. covering (branch_tree c.self.inside.green) (c.args.start - n) (c.args.end - n)) c.text_start-base.ensures in
    let same : syntax_at c.args.self.now (c.args.self.now.path ++ c.deref.result.now) ≡ covering_of c.args.self.now c.args.start c.args.end = rw c.deref.ensures.value (syntax_covering c.args.self.now (branch_tree c.self.inside.green) c.args.start c.args.end c.in-Some.path.items there after ordered way) in
    subst (λ x. IfOk c.element_at.result (λ r. r ≡ x)) same c.element_at.ensures.ok

pub returns-in-None-clause-ok : goal.returns-in-None-clause-ok
returns-in-None-clause-ok c =
    let there : at c.args.self.now.root c.args.self.now.path ≡ Some (branch_tree c.self.inside.green) = rw (← c.self.view_is) c.self.invariant.there in
    let after : start c.args.self.now.root c.args.self.now.path ≤ c.args.start = omega (arith, c.text_start-base.ensures, c.if-start-base.false) in
    let ordered : c.args.start ≤ c.args.end = omega (arith, c.if-end-start.false) in
    let nowhere : None ≡ covering (branch_tree c.self.inside.green) (c.args.start - start c.args.self.now.root c.args.self.now.path) (c.args.end - start c.args.self.now.root c.args.self.now.path) = ap (option_map (λ path. path.items)) (sym c.in-None.is) ∙ c.in_ok-path.ensures.ok ∙ ap (λ n. covering (branch_tree c.self.inside.green) (c.args.start - n) (c.args.end - n)) c.text_start-base.ensures in
    covering_nowhere c.args.self.now (branch_tree c.self.inside.green) c.args.start c.args.end there after ordered nowhere

pub returns-in-Some-clause-none : goal.returns-in-Some-clause-none
returns-in-Some-clause-none c nothing =
    let there : at c.args.self.now.root c.args.self.now.path ≡ Some (branch_tree c.self.inside.green) = rw (← c.self.view_is) c.self.invariant.there in
    let after : start c.args.self.now.root c.args.self.now.path ≤ c.args.start = omega (arith, c.text_start-base.ensures, c.if-start-base.false) in
    let ordered : c.args.start ≤ c.args.end = omega (arith, c.if-end-start.false) in
    let way : Some c.in-Some.path.items ≡ covering (branch_tree c.self.inside.green) (c.args.start - start c.args.self.now.root c.args.self.now.path) (c.args.end - start c.args.self.now.root c.args.self.now.path) = ap (option_map (λ path. path.items)) (sym c.in-Some.is) ∙ c.in_ok-path.ensures.ok ∙ ap (λ n. covering (branch_tree c.self.inside.green) (c.args.start - n) (c.args.end - n)) c.text_start-base.ensures in
    let same : syntax_at c.args.self.now (c.args.self.now.path ++ c.deref.result.now) ≡ covering_of c.args.self.now c.args.start c.args.end = rw c.deref.ensures.value (syntax_covering c.args.self.now (branch_tree c.self.inside.green) c.args.start c.args.end c.in-Some.path.items there after ordered way) in
    c.element_at.ensures.none (same ∙ nothing)

pub returns-in_err-path-clause-none : goal.returns-in_err-path-clause-none
returns-in_err-path-clause-none c nothing =
    let there : at c.args.self.now.root c.args.self.now.path ≡ Some (branch_tree c.self.inside.green) = rw (← c.self.view_is) c.self.invariant.there in
    let after : start c.args.self.now.root c.args.self.now.path ≤ c.args.start = omega (arith, c.text_start-base.ensures, c.if-start-base.false) in
    let ordered : c.args.start ≤ c.args.end = omega (arith, c.if-end-start.false) in
    let nowhere = none_covering_below c.args.self.now (branch_tree c.self.inside.green) c.args.start c.args.end there after ordered nothing in
    absurd (err_is_not_ok (c.in_err-path.ensures.none (ap (λ n. covering (branch_tree c.self.inside.green) (c.args.start - n) (c.args.end - n)) c.text_start-base.ensures ∙ nowhere)))
