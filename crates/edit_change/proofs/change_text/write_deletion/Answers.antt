use Rattle.std.proofs.Common.{◌∷◌, [], ◌++◌, refl, ap, sym, ◌∙◌, append_assoc}
use Rattle.std.proofs.lemmas.Grind.{put_three}
use Rattle.edit_change.specs.Display.{taken_away, reset, element_texts}
use Rattle.edit_change.proofs.change_text.write_deletion.Goals as goal

pub returns : goal.returns
returns g c = λ plain fine.
    let first = c.in_ok-write_code.ensures plain refl in
    let next = c.in_ok-write_elements.ensures first.plain refl in
    let last = c.write_code-2.ensures next.plain fine in
    put_three g.W.Write.write_str_gives _ _ _ _ _ _ _ _ first next last
    (ap (λ es. taken_away c.args.style ++ (element_texts es ++ reset c.args.style)) c.from_ref.ensures.value ∙ sym (append_assoc (taken_away c.args.style) (element_texts (c.args.target.now ∷ [])) (reset c.args.style)))
