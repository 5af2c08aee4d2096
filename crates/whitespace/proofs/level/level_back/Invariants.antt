use Rattle.std.proofs.Common.{◌≡◌, length}
use Rattle.whitespace.specs.Level.{token_level}
use Rattle.whitespace.proofs.TokensBefore.{before}
use Rattle.whitespace.proofs.level.level_back.Given as goal

-- The level is that of the token that is looked at.
abbrev pub invariant-back : goal.invariant-back
invariant-back l = token_level l.fn.token ≡ token_level l.current

abbrev pub decreases-back : goal.decreases-back
decreases-back l = length (before l.current)
