use Rattle.std.proofs.Common.{◌++◌, refl, sym, ◌∙◌, append_assoc}
use Rattle.std.proofs.lemmas.Grind.{put_four}
use Rattle.std.specs.Prelude.{codes, decimal}
use Rattle.edit_plan.specs.PlanText.{fate_text, what_text}
use Rattle.edit_plan.proofs.plan_text.write_line.Goals as goal

pub returns : goal.returns
returns g c = λ plain ok.
    let number = c.in_ok-write.ensures.writes plain refl in
    let what = c.in_ok-write_what.ensures number.plain refl in
    let fate = c.in_ok-write_fate.ensures what.plain refl in
    let last = c.write_str.ensures.writes fate.plain ok in
    let first = decimal c.args.number ++ codes " " in
    let does = what_text c.args.change.now in
    let becomes = fate_text c.args.plan.now.changes c.args.number in
    put_four g.W.Write.write_str_gives _ _ _ _ _ _ _ _ _ _ number what fate last (sym (append_assoc first does (becomes ++ codes "\n")) ∙ sym (append_assoc (first ++ does) becomes (codes "\n")))
