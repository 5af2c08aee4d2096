use Rattle.std.proofs.Common.{◌≡◌, [], ◌∷◌, ◌++◌, rules, lit<}
use Rattle.std.proofs.lemmas.Option.{MatchOption-at_some, MatchOption-at_none}
use Rattle.std.proofs.lemmas.Str.Pattern.{strip_suffix_char}
use Rattle.script_lines.proofs.AroundWords.{before-none, before-more}
use Rattle.script_lines.proofs.spaces.without_last_spaces.Goals as goal

pub loop-rest-init : goal.loop-rest-init
loop-rest-init c = record { is_text = search rules; before = before-none c.args.text.now }

pub loop-rest-preserved : goal.loop-rest-preserved
loop-rest-preserved c =
    let e = strip_suffix_char 32 c.loop-rest.left.now c.strip_suffix.result c.strip_suffix.ensures.cases (lit< tt) in
    let is : c.loop-rest.left.now ≡ c.in-Some.rest.now ++ 32 ∷ [] = MatchOption-at_some _ _ c.in-Some.rest c.in-Some.is e in
    record { is_text = search rules; before = before-more c.args.text.now c.loop-rest.left.now c.in-Some.rest.now c.loop-rest.invariant.before is }

pub returns-clause-rest : goal.returns-clause-rest
returns-clause-rest c =
    let e = strip_suffix_char 32 c.loop-rest.left.now c.strip_suffix.result c.strip_suffix.ensures.cases (lit< tt) in
    MatchOption-at_none _ _ c.in_default.is e
