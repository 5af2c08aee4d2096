use Rattle.std.proofs.Common.{◌≡◌, ◌-◌, ◌<◌, ◌≤◌, [], map, length, get_or, Some, arith, ap, sym, ◌∙◌}
use Rattle.green_tree.specs.Tree.{at, text_length}
use Rattle.green_tree.specs.Order.{start}
use Rattle.green_tree.specs.inner.TokensByOffset.{tokens_touching}
use Rattle.green_tree.specs.Green.{branch_tree, length_limit}
use Rattle.green_tree.specs.inner.FoundToken.{reached, reached_below}
use Rattle.cst_core.specs.Element.{below}
use Rattle.cst_core.specs.declared.offsets.TokenAtOffset.TheVariants as tokens
use Rattle.green_tree.proofs.TextLengths.{text_length-part}
use Rattle.cst_core.proofs.Children.{subtree_there}
use Rattle.cst_core.proofs.Touched.{touching_none, token_at-found, is_found, first_two-none, first_two-one, first_two-both, none_touching_below, none_found}
use Rattle.cst_core.proofs.node.SyntaxNode.token_at_offset.Goals as goal

pub returns-then-offset-base-clause-ok : goal.returns-then-offset-base-clause-ok
returns-then-offset-base-clause-ok c =
    let there : at c.args.self.now.root c.args.self.now.path ≡ Some (branch_tree c.self.inside.green) = rw (← c.self.view_is) c.self.invariant.there in
    touching_none c.args.self.now (branch_tree c.self.inside.green) c.args.offset there (omega (arith, c.text_start-base.ensures, c.if-offset-base.true))

pub tokens_at-requires : goal.tokens_at-requires
tokens_at-requires c =
    let there : at c.args.self.now.root c.args.self.now.path ≡ Some (branch_tree c.self.inside.green) = rw (← c.self.view_is) c.self.invariant.there in
    let fits : text_length c.args.self.now.root < length_limit = rw (← c.self.view_is) c.self.invariant.fits in
    record { fits = text_length-part c.args.self.now.root c.args.self.now.path (branch_tree c.self.inside.green) there fits }

pub returns-in-empty-clause-ok : goal.returns-in-empty-clause-ok
returns-in-empty-clause-ok c =
    let there : at c.args.self.now.root c.args.self.now.path ≡ Some (branch_tree c.self.inside.green) = rw (← c.self.view_is) c.self.invariant.there in
    let after : start c.args.self.now.root c.args.self.now.path ≤ c.args.offset = omega (arith, c.text_start-base.ensures, c.if-offset-base.false) in
    let reaches : map reached c.in_ok-found.found.items ≡ reached_below [] (branch_tree c.self.inside.green) (tokens_touching (branch_tree c.self.inside.green) (c.args.offset - start c.args.self.now.root c.args.self.now.path)) = rw (← c.text_start-base.ensures) c.in_ok-found.ensures.found in
    let whole = token_at-found c.args.self.now (branch_tree c.self.inside.green) c.args.offset c.in_ok-found.found.items there after reaches in
    let none : length c.in_ok-found.found.items ≡ 0 = rw (← c.as_slice.ensures.value) (omega (arith, c.in-empty.len_below)) in
    sym (whole ∙ first_two-none c.args.self.now c.in_ok-found.found.items none)

pub token_below-requires : goal.token_below-requires
token_below-requires c =
    let there : at c.args.self.now.root c.args.self.now.path ≡ Some (branch_tree c.self.inside.green) = rw (← c.self.view_is) c.self.invariant.there in
    let after : start c.args.self.now.root c.args.self.now.path ≤ c.args.offset = omega (arith, c.text_start-base.ensures, c.if-offset-base.false) in
    let reaches : map reached c.in_ok-found.found.items ≡ reached_below [] (branch_tree c.self.inside.green) (tokens_touching (branch_tree c.self.inside.green) (c.args.offset - start c.args.self.now.root c.args.self.now.path)) = rw (← c.text_start-base.ensures) c.in_ok-found.ensures.found in
    let inside : 0 < length c.in_ok-found.found.items = rw (← c.as_slice.ensures.value) (omega (arith, c.in-len1.len_at_least)) in
    let item : c.token-item.result ≡ get_or c.in_ok-found.found.items 0 c.token-item.result = rw (← c.as_slice.ensures.value) c.token-item.is in
    ap (λ t. at t c.token-item.result.path.items) (subtree_there c.args.self.now (branch_tree c.self.inside.green) there) ∙ is_found (branch_tree c.self.inside.green) c.in_ok-found.found.items (tokens_touching (branch_tree c.self.inside.green) (c.args.offset - start c.args.self.now.root c.args.self.now.path)) 0 c.token-item.result reaches inside item

pub returns-in-len1-clause-ok : goal.returns-in-len1-clause-ok
returns-in-len1-clause-ok c =
    let there : at c.args.self.now.root c.args.self.now.path ≡ Some (branch_tree c.self.inside.green) = rw (← c.self.view_is) c.self.invariant.there in
    let after : start c.args.self.now.root c.args.self.now.path ≤ c.args.offset = omega (arith, c.text_start-base.ensures, c.if-offset-base.false) in
    let reaches : map reached c.in_ok-found.found.items ≡ reached_below [] (branch_tree c.self.inside.green) (tokens_touching (branch_tree c.self.inside.green) (c.args.offset - start c.args.self.now.root c.args.self.now.path)) = rw (← c.text_start-base.ensures) c.in_ok-found.ensures.found in
    let whole = token_at-found c.args.self.now (branch_tree c.self.inside.green) c.args.offset c.in_ok-found.found.items there after reaches in
    let one : length c.in_ok-found.found.items ≡ 1 = rw (← c.as_slice.ensures.value) (omega (arith, c.in-len1.len_at_least, c.in-len1.len_below)) in
    let item : c.token-item.result ≡ get_or c.in_ok-found.found.items 0 c.token-item.result = rw (← c.as_slice.ensures.value) c.token-item.is in
    ap (λ e. tokens.Single e) c.in_ok-token_below-in-len1.ensures ∙ sym (whole ∙ first_two-one c.args.self.now c.in_ok-found.found.items c.token-item.result one item)

pub token_below-requires-in-len2-up : goal.token_below-requires-in-len2-up
token_below-requires-in-len2-up c =
    let there : at c.args.self.now.root c.args.self.now.path ≡ Some (branch_tree c.self.inside.green) = rw (← c.self.view_is) c.self.invariant.there in
    let after : start c.args.self.now.root c.args.self.now.path ≤ c.args.offset = omega (arith, c.text_start-base.ensures, c.if-offset-base.false) in
    let reaches : map reached c.in_ok-found.found.items ≡ reached_below [] (branch_tree c.self.inside.green) (tokens_touching (branch_tree c.self.inside.green) (c.args.offset - start c.args.self.now.root c.args.self.now.path)) = rw (← c.text_start-base.ensures) c.in_ok-found.ensures.found in
    let inside : 0 < length c.in_ok-found.found.items = rw (← c.as_slice.ensures.value) (omega (arith, c.in-len2-up.len_at_least)) in
    let item : c.left-item.result ≡ get_or c.in_ok-found.found.items 0 c.left-item.result = rw (← c.as_slice.ensures.value) c.left-item.is in
    ap (λ t. at t c.left-item.result.path.items) (subtree_there c.args.self.now (branch_tree c.self.inside.green) there) ∙ is_found (branch_tree c.self.inside.green) c.in_ok-found.found.items (tokens_touching (branch_tree c.self.inside.green) (c.args.offset - start c.args.self.now.root c.args.self.now.path)) 0 c.left-item.result reaches inside item

pub token_below-requires-in-len2-up-2 : goal.token_below-requires-in-len2-up-2
token_below-requires-in-len2-up-2 c =
    let there : at c.args.self.now.root c.args.self.now.path ≡ Some (branch_tree c.self.inside.green) = rw (← c.self.view_is) c.self.invariant.there in
    let after : start c.args.self.now.root c.args.self.now.path ≤ c.args.offset = omega (arith, c.text_start-base.ensures, c.if-offset-base.false) in
    let reaches : map reached c.in_ok-found.found.items ≡ reached_below [] (branch_tree c.self.inside.green) (tokens_touching (branch_tree c.self.inside.green) (c.args.offset - start c.args.self.now.root c.args.self.now.path)) = rw (← c.text_start-base.ensures) c.in_ok-found.ensures.found in
    let inside : 1 < length c.in_ok-found.found.items = rw (← c.as_slice.ensures.value) (omega (arith, c.in-len2-up.len_at_least)) in
    let item : c.right-item.result ≡ get_or c.in_ok-found.found.items 1 c.right-item.result = rw (← c.as_slice.ensures.value) c.right-item.is in
    ap (λ t. at t c.right-item.result.path.items) (subtree_there c.args.self.now (branch_tree c.self.inside.green) there) ∙ is_found (branch_tree c.self.inside.green) c.in_ok-found.found.items (tokens_touching (branch_tree c.self.inside.green) (c.args.offset - start c.args.self.now.root c.args.self.now.path)) 1 c.right-item.result reaches inside item

pub returns-clause-ok : goal.returns-clause-ok
returns-clause-ok c =
    let there : at c.args.self.now.root c.args.self.now.path ≡ Some (branch_tree c.self.inside.green) = rw (← c.self.view_is) c.self.invariant.there in
    let after : start c.args.self.now.root c.args.self.now.path ≤ c.args.offset = omega (arith, c.text_start-base.ensures, c.if-offset-base.false) in
    let reaches : map reached c.in_ok-found.found.items ≡ reached_below [] (branch_tree c.self.inside.green) (tokens_touching (branch_tree c.self.inside.green) (c.args.offset - start c.args.self.now.root c.args.self.now.path)) = rw (← c.text_start-base.ensures) c.in_ok-found.ensures.found in
    let whole = token_at-found c.args.self.now (branch_tree c.self.inside.green) c.args.offset c.in_ok-found.found.items there after reaches in
    let two : 2 ≤ length c.in_ok-found.found.items = rw (← c.as_slice.ensures.value) c.in-len2-up.len_at_least in
    let left : c.left-item.result ≡ get_or c.in_ok-found.found.items 0 c.left-item.result = rw (← c.as_slice.ensures.value) c.left-item.is in
    let right : c.right-item.result ≡ get_or c.in_ok-found.found.items 1 c.right-item.result = rw (← c.as_slice.ensures.value) c.right-item.is in
    ap (λ e. tokens.Between e c.in_ok-token_below-in-len2-up.field-0) c.in_ok-left-in-len2-up.ensures ∙ ap (λ e. tokens.Between (below c.args.self.now c.left-item.result.path.items) e) c.in_ok-token_below-in-len2-up.ensures ∙ sym (whole ∙ first_two-both c.args.self.now c.in_ok-found.found.items c.left-item.result c.right-item.result two left right)

pub returns-in_err-found-clause-none : goal.returns-in_err-found-clause-none
returns-in_err-found-clause-none c nothing =
    let there : at c.args.self.now.root c.args.self.now.path ≡ Some (branch_tree c.self.inside.green) = rw (← c.self.view_is) c.self.invariant.there in
    let after : start c.args.self.now.root c.args.self.now.path ≤ c.args.offset = omega (arith, c.text_start-base.ensures, c.if-offset-base.false) in
    let none = none_touching_below c.args.self.now (branch_tree c.self.inside.green) c.args.offset there after nothing in
    let refused = c.in_err-found.ensures.none (ap (λ n. tokens_touching (branch_tree c.self.inside.green) (c.args.offset - n)) c.text_start-base.ensures ∙ none) in
    absurd (cc)

pub returns-in_err-token_below-in-len1-clause-none : goal.returns-in_err-token_below-in-len1-clause-none
returns-in_err-token_below-in-len1-clause-none c nothing =
    let there : at c.args.self.now.root c.args.self.now.path ≡ Some (branch_tree c.self.inside.green) = rw (← c.self.view_is) c.self.invariant.there in
    let after : start c.args.self.now.root c.args.self.now.path ≤ c.args.offset = omega (arith, c.text_start-base.ensures, c.if-offset-base.false) in
    let none = none_touching_below c.args.self.now (branch_tree c.self.inside.green) c.args.offset there after nothing in
    let reaches : map reached c.in_ok-found.found.items ≡ reached_below [] (branch_tree c.self.inside.green) (tokens_touching (branch_tree c.self.inside.green) (c.args.offset - start c.args.self.now.root c.args.self.now.path)) = rw (← c.text_start-base.ensures) c.in_ok-found.ensures.found in
    let empty = none_found (branch_tree c.self.inside.green) c.in_ok-found.found.items _ reaches none in
    let some : 0 < length c.in_ok-found.found.items = rw (← c.as_slice.ensures.value) (omega (arith, c.in-len1.len_at_least)) in
    absurd (omega (arith, empty, some))

pub returns-in_err-left-in-len2-up-clause-none : goal.returns-in_err-left-in-len2-up-clause-none
returns-in_err-left-in-len2-up-clause-none c nothing =
    let there : at c.args.self.now.root c.args.self.now.path ≡ Some (branch_tree c.self.inside.green) = rw (← c.self.view_is) c.self.invariant.there in
    let after : start c.args.self.now.root c.args.self.now.path ≤ c.args.offset = omega (arith, c.text_start-base.ensures, c.if-offset-base.false) in
    let none = none_touching_below c.args.self.now (branch_tree c.self.inside.green) c.args.offset there after nothing in
    let reaches : map reached c.in_ok-found.found.items ≡ reached_below [] (branch_tree c.self.inside.green) (tokens_touching (branch_tree c.self.inside.green) (c.args.offset - start c.args.self.now.root c.args.self.now.path)) = rw (← c.text_start-base.ensures) c.in_ok-found.ensures.found in
    let empty = none_found (branch_tree c.self.inside.green) c.in_ok-found.found.items _ reaches none in
    let some : 0 < length c.in_ok-found.found.items = rw (← c.as_slice.ensures.value) (omega (arith, c.in-len2-up.len_at_least)) in
    absurd (omega (arith, empty, some))

pub returns-in_err-token_below-in-len2-up-clause-none : goal.returns-in_err-token_below-in-len2-up-clause-none
returns-in_err-token_below-in-len2-up-clause-none c nothing =
    let there : at c.args.self.now.root c.args.self.now.path ≡ Some (branch_tree c.self.inside.green) = rw (← c.self.view_is) c.self.invariant.there in
    let after : start c.args.self.now.root c.args.self.now.path ≤ c.args.offset = omega (arith, c.text_start-base.ensures, c.if-offset-base.false) in
    let none = none_touching_below c.args.self.now (branch_tree c.self.inside.green) c.args.offset there after nothing in
    let reaches : map reached c.in_ok-found.found.items ≡ reached_below [] (branch_tree c.self.inside.green) (tokens_touching (branch_tree c.self.inside.green) (c.args.offset - start c.args.self.now.root c.args.self.now.path)) = rw (← c.text_start-base.ensures) c.in_ok-found.ensures.found in
    let empty = none_found (branch_tree c.self.inside.green) c.in_ok-found.found.items _ reaches none in
    let some : 0 < length c.in_ok-found.found.items = rw (← c.as_slice.ensures.value) (omega (arith, c.in-len2-up.len_at_least)) in
    absurd (omega (arith, empty, some))

pub returns-in-len1-clause-none : goal.returns-in-len1-clause-none
returns-in-len1-clause-none c nothing =
    let there : at c.args.self.now.root c.args.self.now.path ≡ Some (branch_tree c.self.inside.green) = rw (← c.self.view_is) c.self.invariant.there in
    let after : start c.args.self.now.root c.args.self.now.path ≤ c.args.offset = omega (arith, c.text_start-base.ensures, c.if-offset-base.false) in
    let none = none_touching_below c.args.self.now (branch_tree c.self.inside.green) c.args.offset there after nothing in
    let reaches : map reached c.in_ok-found.found.items ≡ reached_below [] (branch_tree c.self.inside.green) (tokens_touching (branch_tree c.self.inside.green) (c.args.offset - start c.args.self.now.root c.args.self.now.path)) = rw (← c.text_start-base.ensures) c.in_ok-found.ensures.found in
    let empty = none_found (branch_tree c.self.inside.green) c.in_ok-found.found.items _ reaches none in
    let some : 0 < length c.in_ok-found.found.items = rw (← c.as_slice.ensures.value) (omega (arith, c.in-len1.len_at_least)) in
    absurd (omega (arith, empty, some))

pub returns-clause-none : goal.returns-clause-none
returns-clause-none c nothing =
    let there : at c.args.self.now.root c.args.self.now.path ≡ Some (branch_tree c.self.inside.green) = rw (← c.self.view_is) c.self.invariant.there in
    let after : start c.args.self.now.root c.args.self.now.path ≤ c.args.offset = omega (arith, c.text_start-base.ensures, c.if-offset-base.false) in
    let none = none_touching_below c.args.self.now (branch_tree c.self.inside.green) c.args.offset there after nothing in
    let reaches : map reached c.in_ok-found.found.items ≡ reached_below [] (branch_tree c.self.inside.green) (tokens_touching (branch_tree c.self.inside.green) (c.args.offset - start c.args.self.now.root c.args.self.now.path)) = rw (← c.text_start-base.ensures) c.in_ok-found.ensures.found in
    let empty = none_found (branch_tree c.self.inside.green) c.in_ok-found.found.items _ reaches none in
    let some : 0 < length c.in_ok-found.found.items = rw (← c.as_slice.ensures.value) (omega (arith, c.in-len2-up.len_at_least)) in
    absurd (omega (arith, empty, some))
