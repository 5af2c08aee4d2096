use Rattle.std.proofs.Common.{◌≡◌, ◌++◌, ◌∷◌, [], refl, sym, ap, ap₂, ◌∙◌, codes, string_bytes, rules}
use Rattle.std.proofs.lemmas.List.{nil_from_length}
use Rattle.cst_core.specs.GreenElement.{element_tree}
use Rattle.tree_text.specs.KindNames.{text_in}
use Rattle.tree_text.proofs.OpenTexts.{left_text, node_begun, token_written, node_ended}
use Rattle.tree_text.proofs.OpenRests.{work_opened, work_passed, work_closed}
use Rattle.tree_text.proofs.write.push_node.Goals as goal

pub loop-child-preserved-in_default : goal.loop-child-preserved-in_default
loop-child-preserved-in_default c =
    let name = text_in c.args.names.now in
    let out = string_bytes c.loop-child.out in
    let above = c.pop.new.self.items in
    let none : c.loop-child.rest.now ≡ [] = nil_from_length _ c.in_default.ensures.cases in
    let end : string_bytes c.push.new.self ≡ out ++ codes ")" = search rules in
    let so_far : out ++ left_text name [] (above ++ c.in-Some-pop.after ∷ []) ≡ _ =
    ap₂ (λ es rs. out ++ left_text name es rs) (sym none) (sym c.in-Some-pop.ensures.items) ∙ c.loop-child.invariant in
    node_ended name out (string_bytes c.push.new.self) _ end above c.in-Some-pop.after so_far

pub loop-child-preserved-in-Node : goal.loop-child-preserved-in-Node
loop-child-preserved-in-Node c =
    let name = text_in c.args.names.now in
    let out = string_bytes c.loop-child.out in
    let split = c.in-Some.ensures.cases.0 in
    let space : string_bytes c.push-in-loop-child.new.self ≡ out ++ codes " " = search rules in
    let so_far : out ++ left_text name (c.in-Some.child.now ∷ c.in-Some.after.now) c.loop-child.above.items ≡ _ = ap (λ es. out ++ left_text name es c.loop-child.above.items) (sym split) ∙ c.loop-child.invariant in
    ap (λ rs. string_bytes c.push_opening-in-Node.new.out ++ left_text name c.children-rest-in-Node.result.now rs) c.in_ok-push-in-Node.ensures.items
    ∙ node_begun name out (string_bytes c.push-in-loop-child.new.self) (string_bytes c.push_opening-in-Node.new.out) c.in-Some.child.now c.in-Some.after.now c.loop-child.above.items _ space so_far
    c.in-Node.below c.children-rest-in-Node.result.now c.in-Some.after (ap element_tree c.in-Node.is) c.children-rest-in-Node.ensures refl c.in_ok-push_opening-in-Node.ensures

pub loop-child-preserved : goal.loop-child-preserved
loop-child-preserved c =
    let name = text_in c.args.names.now in
    let out = string_bytes c.loop-child.out in
    let split = c.in-Some.ensures.cases.0 in
    let so_far : out ++ left_text name (c.in-Some.child.now ∷ c.in-Some.after.now) c.loop-child.above.items ≡ _ = ap (λ es. out ++ left_text name es c.loop-child.above.items) (sym split) ∙ c.loop-child.invariant in
    token_written name out _ (string_bytes c.push_token.new.out) c.in-Some.child.now c.in-Some.after.now c.loop-child.above.items _ (search rules) so_far
    c.in-Token.token (ap element_tree c.in-Token.is) c.in_ok-push_token-in-Token.ensures

pub loop-child-smaller-in_default : goal.loop-child-smaller-in_default
loop-child-smaller-in_default c =
    work_closed c.loop-child.rest.now c.loop-child.above.items c.pop.new.self.items c.in-Some-pop.after (nil_from_length _ c.in_default.ensures.cases) c.in-Some-pop.ensures.items

pub loop-child-smaller-in-Node : goal.loop-child-smaller-in-Node
loop-child-smaller-in-Node c =
    work_opened c.loop-child.rest.now c.in-Some.child.now c.in-Some.after.now c.in-Some.ensures.cases.0 c.children-rest-in-Node.result.now c.loop-child.above.items c.push-in-Node.new.self.items c.in-Some.after
    c.in-Node.below (ap element_tree c.in-Node.is) c.children-rest-in-Node.ensures c.in_ok-push-in-Node.ensures.items refl

pub loop-child-smaller : goal.loop-child-smaller
loop-child-smaller c =
    work_passed c.loop-child.rest.now c.in-Some.child.now c.in-Some.after.now c.in-Some.ensures.cases.0 c.loop-child.above.items c.in-Token.token (ap element_tree c.in-Token.is)
