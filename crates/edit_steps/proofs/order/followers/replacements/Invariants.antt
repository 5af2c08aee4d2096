use Rattle.std.proofs.Common.{◌≡◌, map, take}
use Rattle.std.specs.List.{enumerate_from}
use Rattle.edit_steps.specs.inner.Followers.{token_link}
use Rattle.edit_steps.proofs.order.followers.replacements.Given as goal

abbrev pub invariant-loop-number : goal.invariant-loop-number
invariant-loop-number l =
    l.links.items ≡ map (λ c. token_link l.changes c.0 c.1) (enumerate_from 0 (take l.number l.changes))
