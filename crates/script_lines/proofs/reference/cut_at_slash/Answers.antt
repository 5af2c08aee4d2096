use Rattle.std.proofs.Common.{lit<}
use Rattle.std.proofs.lemmas.Option.{MatchOption-at_some, MatchOption-at_none}
use Rattle.std.proofs.lemmas.Str.Pattern.{split_parts}
use Rattle.script_lines.proofs.Slashes.{parts-behind, parts-whole}
use Rattle.script_lines.proofs.reference.cut_at_slash.Goals as goal

pub returns-in-Some : goal.returns-in-Some
returns-in-Some c =
    let parts = MatchOption-at_some _ _ (c.in-Some.name, c.in-Some.slots) c.in-Some.is (split_parts 47 c.args.text.now c.split_once.result c.split_once.ensures.cases (lit< tt)) in
    parts-behind c.args.text.now c.in-Some.name.now c.in-Some.slots.now parts.0 parts.1

pub returns-in-None : goal.returns-in-None
returns-in-None c =
    parts-whole c.args.text.now (MatchOption-at_none _ _ c.in-None.is (split_parts 47 c.args.text.now c.split_once.result c.split_once.ensures.cases (lit< tt)))
