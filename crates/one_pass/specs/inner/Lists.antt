-- Lists of lists.
--     AreEmpty                      each of the lists is empty
use Rattle.std.specs.Prelude.{◌≡◌, ℕ, ◌<◌, List, [], length, get_or, Vec}
use Rattle.std.specs.Global.{Global}

abbrev pub AreEmpty : {T : Type 0} → List (Vec T Global) → Type 0
AreEmpty {T} lists = (k : ℕ) (d : Vec T Global) → k < length lists → (get_or lists k d).items ≡ []
