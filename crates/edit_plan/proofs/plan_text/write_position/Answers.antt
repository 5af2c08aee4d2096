use Rattle.std.specs.Prelude.{◌≡◌, cond, codes, Option, Some, None, option_map}
use Rattle.std.specs.Option.{is_some}
use Rattle.std.proofs.Common.{◌++◌, ap, ap₂, sym, refl, ◌∙◌}
use Rattle.std.proofs.lemmas.Grind.{put_two}
use Rattle.edit_plan.specs.PlanText.{path_text}
use Rattle.edit_plan.proofs.plan_text.write_position.Goals as goal

same-some : {X Y : Type 0} (f : X → Y) (o : Option X) → is_some o ≡ is_some (option_map f o)
same-some f None = refl
same-some f (Some x) = refl

pub returns-then-is_some : goal.returns-then-is_some
returns-then-is_some g c = λ plain ok.
    let first = c.in_ok-write_str.ensures.writes plain refl in
    let found = sym c.if-is_some.true ∙ c.is_some.ensures ∙ same-some (λ n. n.now) c.first_of.result ∙ ap is_some c.first_of.ensures in
    put_two g.W.Write.write_str_gives _ _ _ _ _ _ first (c.write_target.ensures first.plain ok) (ap (λ t. c.args.word.now ++ t) (ap₂ (λ b p. cond b (codes " first ") (codes " after ") ++ path_text p) found c.anchor.ensures))

pub returns-else-is_some : goal.returns-else-is_some
returns-else-is_some g c = λ plain ok.
    let first = c.in_ok-write_str.ensures.writes plain refl in
    let found = sym c.if-is_some.false ∙ c.is_some.ensures ∙ same-some (λ n. n.now) c.first_of.result ∙ ap is_some c.first_of.ensures in
    put_two g.W.Write.write_str_gives _ _ _ _ _ _ first (c.write_target-else-is_some.ensures first.plain ok) (ap (λ t. c.args.word.now ++ t) (ap₂ (λ b p. cond b (codes " first ") (codes " after ") ++ path_text p) found c.anchor-else-is_some.ensures))
