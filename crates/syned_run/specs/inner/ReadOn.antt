-- What a read adds to what was read before.
--     ReadsOn                     n bytes of a reader, at most n as the limit, went to the end of what was there; none only at the reader's end
--     ReadsFrom                   the same of a reader, where this tells its bytes
use Rattle.std.specs.Prelude.{◌≡◌, ℕ, ◌≤◌, List, ◌++◌, length, Option}
use Rattle.std.specs.Io.KnownBytes.{Consumes, IsAtEnd}

pub record ReadsOn (left left' : Option (List ℕ)) (old new : List ℕ) (limit n : ℕ) : Type 0 where
  pub bytes : List ℕ
  pub added : new ≡ old ++ bytes
  pub consumed : Consumes left left' bytes
  pub count : length bytes ≡ n
  pub limited : n ≤ limit
  pub ended : n ≡ 0 → IsAtEnd left'

abbrev pub ReadsFrom : {R : Type 0} → (R → Option (List ℕ)) → R → R → List ℕ → List ℕ → ℕ → ℕ → Type 0
ReadsFrom remaining before after old new limit n = ReadsOn (remaining before) (remaining after) old new limit n
