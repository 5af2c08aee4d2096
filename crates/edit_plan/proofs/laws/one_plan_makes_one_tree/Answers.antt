use Rattle.edit_plan.proofs.TwoPlaces.{one-root, one-changed, one-annotated}
use Rattle.edit_plan.proofs.laws.one_plan_makes_one_tree.Goals as goal

pub returns-clause-root : goal.returns-clause-root
returns-clause-root c plan number e f is of_e of_f =
    one-root c.place_is_unique.ensures plan (c.pairs_rise.ensures _ is.mapping_is.pairs) number e f of_e of_f

pub returns-clause-changed : goal.returns-clause-changed
returns-clause-changed c plan number e f is of_e of_f =
    one-changed c.place_is_unique.ensures plan (c.pairs_rise.ensures _ is.mapping_is.pairs) number e f of_e of_f

pub returns-clause-annotated : goal.returns-clause-annotated
returns-clause-annotated c plan number e f is of_e of_f tell annotation =
    one-annotated c.place_is_unique.ensures plan (c.pairs_rise.ensures _ is.mapping_is.pairs) number e f of_e of_f tell annotation
