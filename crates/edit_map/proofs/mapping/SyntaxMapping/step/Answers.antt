use Rattle.std.proofs.Common.{◌≡◌, [], rules, length, ap, sym, ◌∙◌, arith}
use Rattle.std.specs.Vec.{vec_len}
use Rattle.std.proofs.lemmas.Bool.{eqb-true}
use Rattle.std.specs.Prelude.{option_and_then}
use Rattle.std.proofs.lemmas.Grind.{common_steps}
use Rattle.cst_core.specs.SyntaxElement.{element_of, syntax_at}
use Rattle.edit_map.specs.Following.{asked_paths}
use Rattle.edit_map.proofs.Tables.{empty}
use Rattle.edit_map.proofs.Upwards.{none-mapped}
use Rattle.edit_map.proofs.mapping.SyntaxMapping.step.Goals as goal

pub slice_bounds-element_at-count : goal.slice_bounds-element_at-count
slice_bounds-element_at-count c =
    let node = rw c.in-Some.is at c.in_ok-node.ensures.short in
    let depth = rw c.in-Some-2.is at c.in_ok-copy.ensures.short in
    omega (arith, node, depth, ap length c.slots.ensures)

pub slice_bounds-element_at-start : goal.slice_bounds-element_at-start
slice_bounds-element_at-start c =
    let node = rw c.in-Some.is at c.in_ok-node.ensures.short in
    let depth = rw c.in-Some-2.is at c.in_ok-copy.ensures.short in
    omega (arith, node, depth, ap length c.slots.ensures)

pub returns-then-is_empty : goal.returns-then-is_empty
returns-then-is_empty c =
    let none : c.args.self.now ≡ [] = rw (← c.self.view_is) (empty c.self.inside.pairs.items (omega (arith, eqb-true (vec_len c.self.inside.pairs) 0 (sym c.is_empty.ensures ∙ c.if-is_empty.true), c.self.inside.pairs.ok.0))) in
    sym (ap (option_and_then (λ g. syntax_at g g.path)) (none-mapped c.args.self.now (element_of c.args.element.now) (asked_paths c.args.element.now) none))

pub returns-in_default : goal.returns-in_default
returns-in_default c = search rules

pub returns-in_default-2 : goal.returns-in_default-2
returns-in_default-2 c = search rules

pub returns : goal.returns
returns c = grind (arith, common_steps)
