use Rattle.callers.proofs.search_replace.text_is_told.Goals as goal

pub returns : goal.returns
returns c pattern new next file edit r none = c.edit_text_is_filled.ensures r.plan r.number edit r.makes none
