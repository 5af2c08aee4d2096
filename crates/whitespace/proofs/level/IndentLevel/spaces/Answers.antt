use Rattle.std.specs.Prelude.{◌≡◌, ◌≤◌, ◌<◌, ◌*◌, ℕ, List, length, take, replicate, slice_index}
use Rattle.std.specs.Str.{IsCharBoundary}
use Rattle.std.proofs.Common.{arith, ap, sym, ◌∙◌, subst}
use Rattle.std.proofs.lemmas.Grind.{common_steps}
use Rattle.std.proofs.lemmas.List.{length-replicate, get_or-replicate, take-replicate}
use Rattle.whitespace.specs.Level.{space, level_text}
use Rattle.whitespace.proofs.level.IndentLevel.spaces.Goals as goal

module _ (l : ℕ) (all : List ℕ) (small : l ≤ 255) (is : all ≡ replicate 1020 space) where
  within : 4 * l ≤ length all
  within = subst (λ n. 4 * l ≤ n) (sym (ap length is ∙ length-replicate 1020 space)) (omega arith)

  here : 4 * l < 1020 → slice_index all (4 * l) ≡ space
  here below = ap (λ s. slice_index s (4 * l)) is ∙ get_or-replicate 1020 (4 * l) space 0 below

  cut : IsCharBoundary all (4 * l)
  cut = (within, λ below high. absurd (omega (arith, here (subst (λ n. 4 * l < n) (ap length is ∙ length-replicate 1020 space) below))))

  part : take (4 * l) all ≡ level_text l
  part = ap (take (4 * l)) is ∙ take-replicate (4 * l) 1020 space (omega arith)

pub range-requires-clause-end_boundary : goal.range-requires-clause-end_boundary
range-requires-clause-end_boundary c = cut c.args.self.0 _ (omega arith) c.all_spaces.ensures

pub returns : goal.returns
returns c = let from : c.range.result.now ≡ take (4 * c.args.self.0) c.all_spaces.result.now = grind (arith, common_steps) in from ∙ part c.args.self.0 _ (omega arith) c.all_spaces.ensures
