use Rattle.std.proofs.Common.{◌++◌, ◌∷◌, take, refl, sym, ◌∙◌}
use Rattle.green_tree.specs.GreenElementRef.{ref_tree}
use Rattle.green_tree.specs.inner.Neighbors.{first_token}
use Rattle.green_tree.proofs.Options.{mapped_is_not_none}
use Rattle.green_tree.proofs.OffTurns.{found_off, token_there, not_missing, not_none}
use Rattle.green_tree.proofs.Refused.{no-value}
use Rattle.green_tree.proofs.tokens.token_after.Goals as goal

pub turn_after-requires : goal.turn_after-requires
turn_after-requires c = c.requires

pub returns-in_default-clause-path : goal.returns-in_default-clause-path
returns-in_default-clause-path c = sym c.in_default.ensures.way

pub path-requires : goal.path-requires
path-requires c = c.in-Some.ensures.turn.within

pub returns-in_err-green-clause-path : goal.returns-in_err-green-clause-path
returns-in_err-green-clause-path c = no-value _ c.from_residual-in_err-green.result c.from_residual-in_err-green.ensures.0

pub returns-in_err-green-clause-token : goal.returns-in_err-green-clause-token
returns-in_err-green-clause-token c = no-value _ c.from_residual-in_err-green.result c.from_residual-in_err-green.ensures.0

pub returns-in_err-path-clause-none : goal.returns-in_err-path-clause-none
returns-in_err-path-clause-none c = λ none. absurd (mapped_is_not_none (λ p. take c.in-Some.turn.depth c.args.path.now ++ c.in-Some.turn.slot ∷ p) (first_token (ref_tree c.in-Some.turn.child)) c.in-Some.ensures.turn.some (sym c.in-Some.ensures.way ∙ none))

pub returns-in_err-green-clause-none : goal.returns-in_err-green-clause-none
returns-in_err-green-clause-none c = λ none. absurd (mapped_is_not_none (λ p. take c.in-Some.turn.depth c.args.path.now ++ c.in-Some.turn.slot ∷ p) (first_token (ref_tree c.in-Some.turn.child)) c.in-Some.ensures.turn.some (sym c.in-Some.ensures.way ∙ none))

pub returns-in_default-clause-none : goal.returns-in_default-clause-none
returns-in_default-clause-none c = λ none. refl

pub returns-in_default-2-clause-path : goal.returns-in_default-2-clause-path
returns-in_default-2-clause-path c = absurd (not_missing c.in-Some.ensures.turn c.in-Some.ensures.way c.in_ok-path.ensures c.in_ok-green.ensures.ok c.in_default-2.is)

pub returns-in_default-2-clause-none : goal.returns-in_default-2-clause-none
returns-in_default-2-clause-none c = λ none. refl

pub returns-clause-path : goal.returns-clause-path
returns-clause-path c = sym (found_off c.in-Some.ensures.turn c.in-Some.ensures.way c.in_ok-path.ensures c.in_ok-green.ensures.ok).path_is

pub returns-clause-token : goal.returns-clause-token
returns-clause-token c = token_there c.in-Some.ensures.turn c.in-Some.ensures.way c.in_ok-path.ensures c.in_ok-green.ensures.ok c.in-Some-2.green c.in-Some-2.is

pub returns-clause-none : goal.returns-clause-none
returns-clause-none c = λ none. absurd (not_none c.in-Some.ensures.turn c.in-Some.ensures.way c.in_ok-path.ensures c.in_ok-green.ensures.ok none)
