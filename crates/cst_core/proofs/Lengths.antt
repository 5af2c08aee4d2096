-- The length of an element's text, and where it ends.
use Rattle.std.proofs.Common.{◌≡◌, ℕ, ◌+◌, ◌<◌, ◌≤◌, Option, Some, None, refl, ap, sym, ◌∙◌, arith}
use Rattle.std.specs.Prelude.{IsSome}
use Rattle.green_tree.specs.Tree.{SyntaxTree, at, text, text_length}
use Rattle.green_tree.specs.Green.{length_limit, capped_length}
use Rattle.green_tree.specs.Order.{start}
use Rattle.cst_core.specs.Element.{Element, IsElement, subtree}
use Rattle.cst_core.specs.AtOffset.{end_of}
use Rattle.green_tree.proofs.TextLengths.{text_length-part, start-text_length-le}
use Rattle.cst_core.proofs.Children.{subtree_there}

-- the length of an element's text is the capped one
pub text_length-capped : (e : Element) (t : SyntaxTree) (n : ℕ) → at e.root e.path ≡ Some t → text_length e.root < length_limit → n ≡ capped_length (text t) → n ≡ text_length (subtree e)
text_length-capped e t n there fits is =
    let short : text_length t < length_limit = text_length-part e.root e.path t there fits in
    let whole : n ≡ text_length t = omega (arith, is, short) in
    whole ∙ ap text_length (sym (subtree_there e t there))

-- and within the limit
pub text_length-fits : (e : Element) (t : SyntaxTree) (n : ℕ) → at e.root e.path ≡ Some t → text_length e.root < length_limit → n ≡ capped_length (text t) → n < length_limit
text_length-fits e t n there fits is =
    let short : text_length t < length_limit = text_length-part e.root e.path t there fits in
    omega (arith, is, short)

-- it ends within the whole tree's
end-at : (e : Element) (t : SyntaxTree) → at e.root e.path ≡ Some t → end_of e ≤ text_length e.root
end-at e t there =
    let own : text_length (subtree e) ≡ text_length t = ap text_length (subtree_there e t there) in
    omega (arith, own, start-text_length-le e.root e.path t there)

end-of-some : (e : Element) (o : Option SyntaxTree) → at e.root e.path ≡ o → IsSome o → end_of e ≤ text_length e.root
end-of-some e None there some = absurd (cc)
end-of-some e (Some t) there some = end-at e t there

pub end-within : (e : Element) → IsElement e → end_of e ≤ text_length e.root
end-within e there = end-of-some e (at e.root e.path) refl there

pub end-fits : (e : Element) (t : SyntaxTree) (n m : ℕ) → at e.root e.path ≡ Some t → text_length e.root < length_limit → n ≡ start e.root e.path → m ≡ text_length (subtree e) → n + m < length_limit
end-fits e t n m there fits starts long = omega (arith, end-at e t there)
