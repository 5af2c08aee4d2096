-- A builder with one more pair, and one with one pair.
use Rattle.std.proofs.Common.{◌≡◌, ◌∷◌, [], Option, Some, Result, Ok, Err, OnOk, sym, ap, subst, ◌∙◌}
use Rattle.std.specs.Result.{IsErrAnd, MatchResult}
use Rattle.syntax_editor.specs.Element.{Element}
use Rattle.syntax_editor.specs.Builder.{Builder, IsPairUnder}
use Rattle.syntax_editor.specs.MapError.{MapError}
use Rattle.syned_script.specs.StopOfError.{stop_of_map}
use Rattle.syned_script.specs.inner.Mapped.{IsAdded, IsPairOf}
use Rattle.syned_script.specs.declared.stop.Stop.{Stop}

pub added-so : (input output : Option Element) (i o : Element) (before after : Builder) (r : Result (Unit {0}) MapError) (mapped : Result (Unit {0}) Stop) → input ≡ Some i → output ≡ Some o → OnOk r (IsPairUnder before.parent (i, o)) → OnOk r (after ≡ record before { pairs = (i, o) ∷ before.pairs }) → MatchResult r (λ x. mapped ≡ Ok x) (λ e. IsErrAnd mapped (λ x. x ≡ stop_of_map e)) → OnOk mapped (IsAdded input output before after)
added-so input output i o before after (Ok x) mapped input-there output-there under added is = subst (λ m. OnOk m (IsAdded input output before after)) (sym is) (i, o, input-there, output-there, (under, added))
added-so input output i o before after (Err e) (Ok x) input-there output-there under added is = absurd is
added-so input output i o before after (Err e) (Err x) input-there output-there under added is = tt

pub one-pair : (parent input output : Option Element) (p : Element) (before after : Builder) → parent ≡ Some p → before ≡ record { parent = p; pairs = [] } → IsAdded input output before after → IsPairOf parent input output after
one-pair parent input output p before after there is (i, o, input-there, output-there, (under, added)) =
    (p, there, (i, o, input-there, output-there, (subst (λ b. IsPairUnder b.parent (i, o)) is under, ap (λ b. b.pairs) added ∙ ap (λ b. (i, o) ∷ b.pairs) is)))
