use Rattle.std.proofs.Common.{[], refl}
use Rattle.change_list.proofs.change_list.index_of.Goals as goal

pub returns : goal.returns
returns c =
    c.in_ok-note_all-2.ensures.noted c.args.own.now refl (c.in_ok-note_all.ensures.noted [] refl (record { says = c.new-index.ensures.empty; tree = c.new-index.ensures.tree }))
