use Rattle.std.proofs.Common.{◌≡◌, ◌∷◌, [], ◌++◌, ℕ, List, refl, ap, sym, ◌∙◌, append_assoc}
use Rattle.std.proofs.lemmas.Grind.{put_three}
use Rattle.edit_change.specs.Display.{put_in, taken_away, reset, element_texts}
use Rattle.edit_change.proofs.change_text.write_replacement.Goals as goal

pieces : (a b c d e : List ℕ) → a ++ (b ++ (c ++ d ++ e)) ≡ a ++ b ++ c ++ d ++ e
pieces a b c d e = sym (append_assoc a b (c ++ d ++ e)) ∙ sym (append_assoc (a ++ b) (c ++ d) e) ∙ ap (λ xs. xs ++ e) (sym (append_assoc (a ++ b) c d))

pub returns : goal.returns
returns g c = λ plain fine.
    let first = c.in_ok-write_code.ensures plain refl in
    let next = c.in_ok-write_elements.ensures first.plain refl in
    let last = c.write_put_in.ensures next.plain fine in
    put_three g.W.Write.write_str_gives _ _ _ _ _ _ _ _ first next last
    (ap (λ es. taken_away c.args.style ++ (element_texts es ++ (put_in c.args.style ++ element_texts c.args.elements.now ++ reset c.args.style))) c.from_ref.ensures.value ∙ pieces (taken_away c.args.style) (element_texts (c.args.target.now ∷ [])) (put_in c.args.style) (element_texts c.args.elements.now) (reset c.args.style))
