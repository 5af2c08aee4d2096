use Rattle.std.proofs.Common.{◌≡◌, ◌++◌, ℕ, List, true, refl, ap₂, sym, take, drop, ◌∙◌, append_assoc}
use Rattle.std.proofs.lemmas.Grind.{put_five}
use Rattle.cst_core.specs.Green.{texts}
use Rattle.cst_core.specs.GreenElement.{element_trees}
use Rattle.edit_change.specs.Display.{put_in, reset, element_texts}
use Rattle.edit_change.proofs.change_text.write_opened.Goals as goal

pieces : (a b c d e : List ℕ) → a ++ (b ++ (c ++ (d ++ e))) ≡ a ++ b ++ c ++ d ++ e
pieces a b c d e = sym (append_assoc a b (c ++ (d ++ e))) ∙ sym (append_assoc (a ++ b) c (d ++ e)) ∙ sym (append_assoc (a ++ b ++ c) d e)

written : true ≡ true
written = refl

pub returns : goal.returns
returns g c = λ plain fine.
    let first = c.in_ok-write_shared.ensures plain written in
    let begin = c.in_ok-write_code.ensures first.plain written in
    let new = c.in_ok-write_elements.ensures begin.plain written in
    let end = c.in_ok-write_code-2.ensures new.plain written in
    let last = c.write_shared-2.ensures end.plain fine in
    let style = c.args.style in
    let all = element_trees c.args.siblings.now in
    put_five g.W.Write.write_str_gives _ _ _ _ _ _ _ _ _ _ _ _ first begin new end last
    (ap₂ (λ xs ys. texts xs ++ (put_in style ++ (element_texts c.args.elements.now ++ (reset style ++ texts ys)))) c.before-2.ensures c.from_slot.ensures
    ∙ pieces (texts (take c.args.slot all)) (put_in style) (element_texts c.args.elements.now) (reset style) (texts (drop c.args.slot all)))
