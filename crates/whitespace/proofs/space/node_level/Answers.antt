use Rattle.whitespace.proofs.space.node_level.Goals as goal

pub returns : goal.returns
returns c = c.as_space_error.ensures.found _ c.from_node.ensures.level
