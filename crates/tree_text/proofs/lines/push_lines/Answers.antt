use Rattle.std.proofs.Common.{◌≡◌, ◌<◌, ◌+◌, ◌++◌, ◌∷◌, [], length, refl, sym, ap, ap₂, ◌∙◌, subst, arith, string_bytes}
use Rattle.std.proofs.lemmas.List.{nil_from_length}
use Rattle.cst_core.specs.Green.{leaf_tree, texts, length_limit}
use Rattle.cst_core.specs.GreenElement.{element_tree}
use Rattle.tree_text.specs.KindNames.{text_in}
use Rattle.tree_text.specs.Lines.{lines_in}
use Rattle.tree_text.specs.inner.Indents.{indent, node_line}
use Rattle.tree_text.proofs.OpenRests.{rest_long, long_after, work_opened, work_passed, work_closed}
use Rattle.tree_text.proofs.OpenLines.{left_lines, node_lined, token_lined, node_past, into_first, past_token, past_node, token_counted}
use Rattle.tree_text.proofs.lines.push_lines.Goals as goal

pub loop-child-preserved-in_default : goal.loop-child-preserved-in_default
loop-child-preserved-in_default c =
    let name = text_in c.args.names.now in
    let out = string_bytes c.loop-child.out in
    let next = c.loop-child.next in
    let above = c.pop.new.self.items in
    let r = c.in-Some-pop.after in
    let none : c.loop-child.rest.now ≡ [] = nil_from_length _ c.in_default.ensures.cases in
    let wrote : out ++ left_lines name next [] (above ++ r ∷ []) ≡ _ =
    ap₂ (λ es rs. out ++ left_lines name next es rs) (sym none) (sym c.in-Some-pop.ensures.items) ∙ c.loop-child.invariant.wrote in
    let starts : next + (0 + long_after (above ++ r ∷ [])) ≡ _ =
    ap₂ (λ es rs. next + (rest_long es + long_after rs)) (sym none) (sym c.in-Some-pop.ensures.items) ∙ c.loop-child.invariant.starts in
    record {
      wrote = node_past name out next _ above r wrote;
      starts = past_node next above r _ starts;
    }

pub loop-child-preserved-in-Node : goal.loop-child-preserved-in-Node
loop-child-preserved-in-Node c =
    let name = text_in c.args.names.now in
    let out = string_bytes c.loop-child.out in
    let new = string_bytes c.push_node_line-in-Node.new.out in
    let next = c.loop-child.next in
    let above = c.loop-child.above.items in
    let child = c.in-Some.child.now in
    let after = c.in-Some.after in
    let below = c.in-Node.below in
    let rest = c.children-rest-in-Node.result.now in
    let split = c.in-Some.ensures.cases.0 in
    let is = ap element_tree c.in-Node.is in
    let so_far : out ++ left_lines name next (child ∷ after.now) above ≡ _ = ap (λ es. out ++ left_lines name next es above) (sym split) ∙ c.loop-child.invariant.wrote in
    let starts : next + (rest_long (child ∷ after.now) + long_after above) ≡ _ = ap (λ es. next + (rest_long es + long_after above)) (sym split) ∙ c.loop-child.invariant.starts in
    let level : c.len-level.result + 1 ≡ 1 + length above = omega arith in
    let wrote = c.in_ok-push_node_line-in-Node.ensures ∙ ap (λ l. out ++ node_line c.args.names.now l next below) level in
    record {
      wrote =
          ap (λ rs. new ++ left_lines name next rest rs) c.in_ok-push-in-Node.ensures.items
          ∙ node_lined name out new next child after.now above _ so_far below rest after is c.children-rest-in-Node.ensures refl wrote;
      starts =
          ap (λ rs. next + (rest_long rest + long_after rs)) c.in_ok-push-in-Node.ensures.items
          ∙ into_first next child after.now above below rest after _ is c.children-rest-in-Node.ensures refl starts;
    }

pub loop-child-preserved : goal.loop-child-preserved
loop-child-preserved c =
    let name = text_in c.args.names.now in
    let out = string_bytes c.loop-child.out in
    let new = string_bytes c.push_token_line.new.out in
    let next = c.loop-child.next in
    let above = c.loop-child.above.items in
    let child = c.in-Some.child.now in
    let after = c.in-Some.after.now in
    let token = c.in-Token.token in
    let split = c.in-Some.ensures.cases.0 in
    let is = ap element_tree c.in-Token.is in
    let so_far : out ++ left_lines name next (child ∷ after) above ≡ _ = ap (λ es. out ++ left_lines name next es above) (sym split) ∙ c.loop-child.invariant.wrote in
    let starts : next + (rest_long (child ∷ after) + long_after above) ≡ _ = ap (λ es. next + (rest_long es + long_after above)) (sym split) ∙ c.loop-child.invariant.starts in
    let level : c.len-level.result + 1 ≡ 1 + length above = omega arith in
    let wrote = c.in_ok-push_token_line-in-Token.ensures ∙ ap (λ l. out ++ lines_in c.args.names.now (indent l) next (leaf_tree token)) level in
    let all : rest_long c.children-rest.result.now ≡ length (texts c.args.node.now.children) = ap (λ ts. length (texts ts)) c.children-rest.ensures in
    let short : c.args.start + rest_long c.children-rest.result.now < length_limit = subst (λ n. c.args.start + n < length_limit) (sym all) c.requires in
    let count = c.length-next.ensures ∙ token_counted next child after above token c.args.start (rest_long c.children-rest.result.now) is starts short in
    record {
      wrote = token_lined name out new next child after above _ so_far token c.length-next.result is count wrote;
      starts = past_token next child after above token c.length-next.result _ is count starts;
    }

pub loop-child-smaller-in_default : goal.loop-child-smaller-in_default
loop-child-smaller-in_default c =
    work_closed c.loop-child.rest.now c.loop-child.above.items c.pop.new.self.items c.in-Some-pop.after (nil_from_length _ c.in_default.ensures.cases) c.in-Some-pop.ensures.items

pub loop-child-smaller-in-Node : goal.loop-child-smaller-in-Node
loop-child-smaller-in-Node c =
    work_opened c.loop-child.rest.now c.in-Some.child.now c.in-Some.after.now c.in-Some.ensures.cases.0 c.children-rest-in-Node.result.now c.loop-child.above.items c.push.new.self.items c.in-Some.after
    c.in-Node.below (ap element_tree c.in-Node.is) c.children-rest-in-Node.ensures c.in_ok-push-in-Node.ensures.items refl

pub loop-child-smaller : goal.loop-child-smaller
loop-child-smaller c =
    work_passed c.loop-child.rest.now c.in-Some.child.now c.in-Some.after.now c.in-Some.ensures.cases.0 c.loop-child.above.items c.in-Token.token (ap element_tree c.in-Token.is)
