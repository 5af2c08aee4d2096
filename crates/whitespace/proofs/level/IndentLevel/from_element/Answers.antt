use Rattle.std.proofs.Common.{sym, ◌∙◌, subst, ap}
use Rattle.cst_core.specs.SyntaxElement.{element_of}
use Rattle.whitespace.specs.Level.{level}
use Rattle.whitespace.specs.LevelCalls.{ReadsLevel}
use Rattle.whitespace.proofs.TokensBefore.{level_of_token}
use Rattle.whitespace.proofs.level.IndentLevel.from_element.Goals as goal

pub returns-in-Token-clause-level : goal.returns-in-Token-clause-level
returns-in-Token-clause-level c =
    subst (λ n. ReadsLevel n c.from_token.result)
    (sym (level_of_token c.in-Token.token c.kind.ensures.form) ∙ ap (λ e. level (element_of e)) (sym c.in-Token.is))
    c.from_token.ensures.level
