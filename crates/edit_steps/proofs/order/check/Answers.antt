use Rattle.std.proofs.Common.{◌≡◌, sym, ◌∙◌}
use Rattle.edit_steps.specs.Schedule.{ListsEachOnce, owned_first, gap_first, token_first, respects}
use Rattle.edit_steps.proofs.LinkTables.{owners-carry, gaps-carry, tokens-carry}
use Rattle.edit_steps.proofs.TestsOfLinks.{links-within, links-decide}
use Rattle.edit_steps.proofs.order.check.Goals as goal

pub keeps-requires-clause-within : goal.keeps-requires-clause-within
keeps-requires-clause-within c =
    let cs = c.args.changes.now in
    let linked = c.in_ok-followers.ensures in
    links-within (owned_first cs) cs _ c.deref-2.result.now (owners-carry cs _ linked.owners) c.deref-2.ensures.value c.args.order.now _ c.deref.result.now c.in_ok-indices.ensures c.deref.ensures.value

pub keeps-requires-2-clause-within : goal.keeps-requires-2-clause-within
keeps-requires-2-clause-within c =
    let cs = c.args.changes.now in
    let linked = c.in_ok-followers.ensures in
    links-within gap_first cs _ c.deref-4.result.now (gaps-carry cs _ linked.gaps) c.deref-4.ensures.value c.args.order.now _ c.deref-3.result.now c.in_ok-indices.ensures c.deref-3.ensures.value

pub keeps-requires-3-clause-within : goal.keeps-requires-3-clause-within
keeps-requires-3-clause-within c =
    let cs = c.args.changes.now in
    let linked = c.in_ok-followers.ensures in
    links-within token_first cs _ c.deref-6.result.now (tokens-carry cs _ c.requires.apart linked.tokens) c.deref-6.ensures.value c.args.order.now _ c.deref-5.result.now c.in_ok-indices.ensures c.deref-5.ensures.value

pub returns-then-not-keeps-clause-refused : goal.returns-then-not-keeps-clause-refused
returns-then-not-keeps-clause-refused c =
    let cs = c.args.changes.now in
    let order = c.args.order.now in
    let linked = c.in_ok-followers.ensures in
    let each : ListsEachOnce cs order = c.in_ok-lists_each_once.ensures.0 c.if-not-branch.false in
    let owners : c.keeps.result ≡ respects (owned_first cs) cs order = links-decide (owned_first cs) cs _ c.deref-2.result.now (owners-carry cs _ linked.owners) c.deref-2.ensures.value order _ c.deref.result.now c.in_ok-indices.ensures c.deref.ensures.value c.keeps.result each c.keeps.ensures in
    (each, sym owners ∙ c.if-not-keeps.true)

pub returns-then-not-keeps-2-clause-refused : goal.returns-then-not-keeps-2-clause-refused
returns-then-not-keeps-2-clause-refused c =
    let cs = c.args.changes.now in
    let order = c.args.order.now in
    let linked = c.in_ok-followers.ensures in
    let each : ListsEachOnce cs order = c.in_ok-lists_each_once.ensures.0 c.if-not-branch.false in
    let owners : c.keeps.result ≡ respects (owned_first cs) cs order = links-decide (owned_first cs) cs _ c.deref-2.result.now (owners-carry cs _ linked.owners) c.deref-2.ensures.value order _ c.deref.result.now c.in_ok-indices.ensures c.deref.ensures.value c.keeps.result each c.keeps.ensures in
    let gaps : c.keeps-2.result ≡ respects gap_first cs order = links-decide gap_first cs _ c.deref-4.result.now (gaps-carry cs _ linked.gaps) c.deref-4.ensures.value order _ c.deref-3.result.now c.in_ok-indices.ensures c.deref-3.ensures.value c.keeps-2.result each c.keeps-2.ensures in
    (each, sym owners ∙ c.if-not-keeps.false, sym gaps ∙ c.if-not-keeps-2.true)

pub returns-then-not-keeps-3-clause-refused : goal.returns-then-not-keeps-3-clause-refused
returns-then-not-keeps-3-clause-refused c =
    let cs = c.args.changes.now in
    let order = c.args.order.now in
    let linked = c.in_ok-followers.ensures in
    let each : ListsEachOnce cs order = c.in_ok-lists_each_once.ensures.0 c.if-not-branch.false in
    let owners : c.keeps.result ≡ respects (owned_first cs) cs order = links-decide (owned_first cs) cs _ c.deref-2.result.now (owners-carry cs _ linked.owners) c.deref-2.ensures.value order _ c.deref.result.now c.in_ok-indices.ensures c.deref.ensures.value c.keeps.result each c.keeps.ensures in
    let gaps : c.keeps-2.result ≡ respects gap_first cs order = links-decide gap_first cs _ c.deref-4.result.now (gaps-carry cs _ linked.gaps) c.deref-4.ensures.value order _ c.deref-3.result.now c.in_ok-indices.ensures c.deref-3.ensures.value c.keeps-2.result each c.keeps-2.ensures in
    let tokens : c.keeps-3.result ≡ respects token_first cs order = links-decide token_first cs _ c.deref-6.result.now (tokens-carry cs _ c.requires.apart linked.tokens) c.deref-6.ensures.value order _ c.deref-5.result.now c.in_ok-indices.ensures c.deref-5.ensures.value c.keeps-3.result each c.keeps-3.ensures in
    (each, sym owners ∙ c.if-not-keeps.false, sym gaps ∙ c.if-not-keeps-2.false, sym tokens ∙ c.if-not-keeps-3.true)

pub returns-clause-ok : goal.returns-clause-ok
returns-clause-ok c =
    let cs = c.args.changes.now in
    let order = c.args.order.now in
    let linked = c.in_ok-followers.ensures in
    let each : ListsEachOnce cs order = c.in_ok-lists_each_once.ensures.0 c.if-not-branch.false in
    let owners : c.keeps.result ≡ respects (owned_first cs) cs order = links-decide (owned_first cs) cs _ c.deref-2.result.now (owners-carry cs _ linked.owners) c.deref-2.ensures.value order _ c.deref.result.now c.in_ok-indices.ensures c.deref.ensures.value c.keeps.result each c.keeps.ensures in
    let gaps : c.keeps-2.result ≡ respects gap_first cs order = links-decide gap_first cs _ c.deref-4.result.now (gaps-carry cs _ linked.gaps) c.deref-4.ensures.value order _ c.deref-3.result.now c.in_ok-indices.ensures c.deref-3.ensures.value c.keeps-2.result each c.keeps-2.ensures in
    let tokens : c.keeps-3.result ≡ respects token_first cs order = links-decide token_first cs _ c.deref-6.result.now (tokens-carry cs _ c.requires.apart linked.tokens) c.deref-6.ensures.value order _ c.deref-5.result.now c.in_ok-indices.ensures c.deref-5.ensures.value c.keeps-3.result each c.keeps-3.ensures in
    record {
      each_once = each;
      owned_changes_first = sym owners ∙ c.if-not-keeps.false;
      gaps_in_order = sym gaps ∙ c.if-not-keeps-2.false;
      tokens_last = sym tokens ∙ c.if-not-keeps-3.false;
    }
