-- What a reader gave after several reads.
use Rattle.std.proofs.Common.{◌≡◌, ℕ, ◌≤◌, ◌+◌, arith, length-append, List, ◌++◌, None, Some, Option, IfSome, length, take, sym, ap, ◌∙◌, append-nil}
use Rattle.std.proofs.Math.Seq.{take-append_seam}
use Rattle.std.proofs.lemmas.List.{take_all}
use Rattle.std.proofs.KnownBytes.{Consumes-trans}
use Rattle.std.specs.Io.KnownBytes.{Consumes, IsAtEnd}
use Rattle.syned_run.specs.Ends.{TakesAtMost}

-- all of it
pub read_whole : (a b : Option (List ℕ)) (bs : List ℕ) (k : ℕ) → Consumes a b bs → IsAtEnd b → length bs ≤ k → IfSome a (λ all. bs ≡ take k all)
read_whole None b bs k read ended fits = tt
read_whole (Some x) None bs k read ended fits = absurd read
read_whole (Some x) (Some y) bs k read ended fits =
    let same : x ≡ bs = read ∙ ap (λ l. bs ++ l) ended ∙ append-nil bs in
    sym (ap (take k) same ∙ take_all k bs fits)

-- as much as is wanted
pub read_enough : (a b : Option (List ℕ)) (bs : List ℕ) (k : ℕ) → Consumes a b bs → length bs ≡ k → IfSome a (λ all. bs ≡ take k all)
read_enough None b bs k read long = tt
read_enough (Some x) None bs k read long = absurd read
read_enough (Some x) (Some y) bs k read long = sym (ap (take k) read ∙ ap (λ n. take n (bs ++ y)) (sym long) ∙ take-append_seam bs y)

-- what several reads took, and then one more
pub takes_more : (a b c : Option (List ℕ)) (bs : List ℕ) (k n : ℕ) → Consumes a b bs → TakesAtMost b c k → length bs + k ≤ n → TakesAtMost a c n
takes_more a b c bs k n read (bytes, consumed, fits) room =
    let long : length (bs ++ bytes) ≡ length bs + length bytes = length-append bs bytes in
    (bs ++ bytes, Consumes-trans a b c bs bytes read consumed, omega arith)

-- a read of no byte adds none
pub no_longer : (old new bytes : List ℕ) (n k : ℕ) → new ≡ old ++ bytes → length bytes ≡ n → n ≡ 0 → length old ≤ k → length new ≤ k
no_longer old new bytes n k added count none fits =
    let long : length new ≡ length old + length bytes = ap length added ∙ length-append old bytes in
    omega arith
