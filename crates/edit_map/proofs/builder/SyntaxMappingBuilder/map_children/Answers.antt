use Rattle.std.specs.Prelude.{reverse}
use Rattle.std.proofs.lemmas.List.Elements.{All-append}
use Rattle.std.proofs.lemmas.List.Sorted.{All-permutation, IsPermutation-reverse}
use Rattle.edit_map.specs.Builder.{IsPairUnder}
use Rattle.edit_map.proofs.Making.{under-more}
use Rattle.edit_map.proofs.builder.SyntaxMappingBuilder.map_children.Goals as goal

pub returns-then-inputs-outputs-clause-refused : goal.returns-then-inputs-outputs-clause-refused
returns-then-inputs-outputs-clause-refused c = c.if-inputs-outputs.true

pub returns-then-inputs-outputs-clause-pairs : goal.returns-then-inputs-outputs-clause-pairs
returns-then-inputs-outputs-clause-pairs c =
    rw (← c.self.view_is) (All-permutation (IsPairUnder c.self.inside.parent) c.self.inside.pairs.items (reverse c.self.inside.pairs.items) (IsPermutation-reverse c.self.inside.pairs.items) c.self.invariant)

pub returns-in_err-pairs-clause-pairs : goal.returns-in_err-pairs-clause-pairs
returns-in_err-pairs-clause-pairs c =
    rw (← c.self.view_is) (All-permutation (IsPairUnder c.self.inside.parent) c.self.inside.pairs.items (reverse c.self.inside.pairs.items) (IsPermutation-reverse c.self.inside.pairs.items) c.self.invariant)

pub invariant_of-self : goal.invariant_of-self
invariant_of-self c = rw c.in_err-append.ensures.items c.self.invariant

pub returns-in_err-append-clause-pairs : goal.returns-in_err-append-clause-pairs
returns-in_err-append-clause-pairs c =
    All-permutation (IsPairUnder c.self.inside.parent) c.append.new.self.items (reverse c.append.new.self.items) (IsPermutation-reverse c.append.new.self.items) (rw c.in_err-append.ensures.items c.self.invariant)

pub invariant_of-self-2 : goal.invariant_of-self-2
invariant_of-self-2 c =
    rw c.in_ok-append.ensures.items (All-append (IsPairUnder c.self.inside.parent) c.self.inside.pairs.items c.in_ok-pairs.pairs.items c.self.invariant c.in_ok-pairs.ensures.taken)

pub returns-clause-pairs : goal.returns-clause-pairs
returns-clause-pairs c =
    under-more c.self.inside.parent c.self.inside.pairs.items c.in_ok-pairs.pairs.items c.append.new.self.items c.in_ok-append.ensures.items c.self.invariant c.in_ok-pairs.ensures.taken
