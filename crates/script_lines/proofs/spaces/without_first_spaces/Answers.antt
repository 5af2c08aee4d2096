use Rattle.std.proofs.Common.{◌≡◌, ◌∷◌, rules, lit<}
use Rattle.std.proofs.lemmas.Option.{MatchOption-at_some, MatchOption-at_none}
use Rattle.std.proofs.lemmas.Str.Pattern.{strip_prefix_char}
use Rattle.script_lines.proofs.AroundWords.{behind-more}
use Rattle.script_lines.proofs.spaces.without_first_spaces.Goals as goal

pub loop-rest-preserved : goal.loop-rest-preserved
loop-rest-preserved c =
    let e = strip_prefix_char 32 c.loop-rest.left.now c.strip_prefix.result c.strip_prefix.ensures.cases (lit< tt) in
    let is : c.loop-rest.left.now ≡ 32 ∷ c.in-Some.rest.now = MatchOption-at_some _ _ c.in-Some.rest c.in-Some.is e in
    record { is_text = search rules; behind = behind-more c.args.text.now c.loop-rest.left.now c.in-Some.rest.now c.loop-rest.invariant.behind is }

pub returns-clause-rest : goal.returns-clause-rest
returns-clause-rest c =
    let e = strip_prefix_char 32 c.loop-rest.left.now c.strip_prefix.result c.strip_prefix.ensures.cases (lit< tt) in
    MatchOption-at_none _ _ c.in_default.is e
