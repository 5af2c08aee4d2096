-- The texts of nodes that are made of elements.
--     wrapper-length         how long the text of a node between others is
use Rattle.std.specs.Prelude.{◌≡◌, ◌+◌, List, [], ◌∷◌, ◌++◌, length, refl}
use Rattle.std.proofs.Common.{ap, sym, ◌∙◌, arith, append_assoc, length-append}
use Rattle.cst_core.specs.Tree.{SyntaxTree, text, text_length}
use Rattle.cst_core.specs.Green.{texts}

texts-append : (ts us : List SyntaxTree) → texts (ts ++ us) ≡ texts ts ++ texts us
texts-append [] us = refl
texts-append (t ∷ ts) us = ap (λ s. text t ++ s) (texts-append ts us) ∙ sym (append_assoc (text t) (texts ts) (texts us))

pub wrapper-length : (ts us : List SyntaxTree) (t : SyntaxTree) → length (texts (ts ++ t ∷ us)) ≡ length (texts ts) + text_length t + length (texts us)
wrapper-length ts us t = omega (arith, ap length (texts-append ts (t ∷ us)), length-append (texts ts) (text t ++ texts us), length-append (text t) (texts us))
