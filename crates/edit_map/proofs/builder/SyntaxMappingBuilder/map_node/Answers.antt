use Rattle.std.proofs.Common.{arith}
use Rattle.std.specs.Prelude.{reverse}
use Rattle.std.proofs.lemmas.Grind.{common_steps}
use Rattle.std.proofs.lemmas.List.Elements.{All-push}
use Rattle.std.proofs.lemmas.List.Sorted.{All-permutation, IsPermutation-reverse}
use Rattle.edit_map.specs.Builder.{ArePairsUnder, IsPairUnder}
use Rattle.edit_map.proofs.builder.SyntaxMappingBuilder.map_node.Goals as goal

pub returns-in_err-test_pair-clause-pairs : goal.returns-in_err-test_pair-clause-pairs
returns-in_err-test_pair-clause-pairs c =
    rw (← c.self.view_is) (All-permutation (IsPairUnder c.self.inside.parent) c.self.inside.pairs.items (reverse c.self.inside.pairs.items) (IsPermutation-reverse c.self.inside.pairs.items) c.self.invariant)

pub invariant_of-self : goal.invariant_of-self
invariant_of-self c = rw c.in_err-push.ensures.items c.self.invariant

pub returns-in_err-push-clause-pairs : goal.returns-in_err-push-clause-pairs
returns-in_err-push-clause-pairs c =
    All-permutation (IsPairUnder c.self.inside.parent) c.push.new.self.items (reverse c.push.new.self.items) (IsPermutation-reverse c.push.new.self.items) (rw c.in_err-push.ensures.items c.self.invariant)

pub invariant_of-self-2 : goal.invariant_of-self-2
invariant_of-self-2 c =
    rw c.in_ok-push.ensures.items (All-push (IsPairUnder c.self.inside.parent) c.self.inside.pairs.items (c.args.input, c.args.output) c.self.invariant c.in_ok-test_pair.ensures.ok)

pub returns-clause-ok : goal.returns-clause-ok
returns-clause-ok c = grind (arith, common_steps)

pub returns-clause-taken : goal.returns-clause-taken
returns-clause-taken c = rw (← c.self.view_is) c.in_ok-test_pair.ensures.ok

pub returns-clause-pairs : goal.returns-clause-pairs
returns-clause-pairs c =
    All-permutation (IsPairUnder c.self.inside.parent) c.push.new.self.items (reverse c.push.new.self.items) (IsPermutation-reverse c.push.new.self.items) (rw c.in_ok-push.ensures.items (All-push (IsPairUnder c.self.inside.parent) c.self.inside.pairs.items (c.args.input, c.args.output) c.self.invariant c.in_ok-test_pair.ensures.ok))
