use Rattle.std.proofs.Common.{◌≡◌, map, subst, sym}
use Rattle.syned_script.specs.WordValue.{texts_of, word_of, with_number}
use Rattle.syned_script.proofs.WordNumbers.{listed}
use Rattle.syned_script.proofs.words.Words.in_order.Goals as goal

pub returns : goal.returns
returns c =
    let words = c.self.inside.in_order.items in
    subst (λ ws. map word_of ws ≡ map (with_number c.args.self.now) c.args.self.now) (sym c.as_slice.ensures.value)
    (subst (λ ts. map word_of words ≡ map (with_number ts) ts) c.self.view_is (listed (texts_of words) words c.self.invariant.numbers))
