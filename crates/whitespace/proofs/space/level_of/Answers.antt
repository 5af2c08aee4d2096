use Rattle.whitespace.proofs.space.level_of.Goals as goal

pub returns : goal.returns
returns c = c.as_space_error.ensures.found _ c.from_element.ensures.level
