use Rattle.edit_map.proofs.Making.{made-pairs}
use Rattle.edit_map.proofs.Numbered.{numbered-alike, numbered-mapping}
use Rattle.edit_map.proofs.mapping.SyntaxMapping.take_in.Goals as goal

pub invariant_of-self : goal.invariant_of-self
invariant_of-self c = record {
  mapping = c.self.invariant.mapping;
  numbered = numbered-alike c.self.inside.pairs.items c.self.inside.numbers c.enter_all.new.numbers c.self.invariant.numbered c.enter_all.ensures.tree c.enter_all.ensures.values;
}

pub invariant_of-self-in_err-reserve : goal.invariant_of-self-in_err-reserve
invariant_of-self-in_err-reserve c =
    rw c.reserve.ensures.items (record {
      mapping = c.self.invariant.mapping;
      numbered = numbered-alike c.self.inside.pairs.items c.self.inside.numbers c.enter_all.new.numbers c.self.invariant.numbered c.enter_all.ensures.tree c.enter_all.ensures.values;
    })

pub put_all-requires-clause-numbered : goal.put_all-requires-clause-numbered
put_all-requires-clause-numbered c =
    rw c.reserve.ensures.items (numbered-alike c.self.inside.pairs.items c.self.inside.numbers c.enter_all.new.numbers c.self.invariant.numbered c.enter_all.ensures.tree c.enter_all.ensures.values)

pub invariant_of-self-2 : goal.invariant_of-self-2
invariant_of-self-2 c =
    let n = c.put_all.new.pairs.items in
    let made = rw c.reserve.ensures.items at c.put_all.ensures.made in
    record {
      mapping = numbered-mapping n c.put_all.new.numbers c.put_all.ensures.numbered (made-pairs c.args.pairs.items c.self.inside.pairs.items n c.requires c.self.invariant.mapping.pairs made);
      numbered = c.put_all.ensures.numbered;
    }

pub returns-clause-is_mapping : goal.returns-clause-is_mapping
returns-clause-is_mapping c = (invariant_of-self-2 c).mapping
