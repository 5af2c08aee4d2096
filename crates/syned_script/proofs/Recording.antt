-- What the function gives that makes a call and maps its error.
use Rattle.std.proofs.Common.{◌≡◌, Option, Some, Result, Ok, Err, OnOk, IfErr, refl, sym, subst}
use Rattle.std.specs.Result.{IsErrAnd, MatchResult}
use Rattle.syntax_editor.specs.RecordCall.{RecordCall}
use Rattle.syntax_editor.specs.Editor.{Editor, Takes, Records, RecordRefuses}
use Rattle.syntax_editor.specs.declared.error.RecordError.{RecordError}
use Rattle.syntax_editor.specs.declared.error.RecordError.TheVariants as record_error
use Rattle.syned_script.specs.StopOfError.{stop_of_record}
use Rattle.syned_script.specs.inner.Stops.{RecordStops, RecordGives}
use Rattle.syned_script.specs.declared.stop.Stop.{Stop}

refused-so : (o : Option RecordCall) (call : RecordCall) (editor : Editor) (e : RecordError) → o ≡ Some call → RecordRefuses call editor e → RecordStops o editor (stop_of_record e)
refused-so o call editor record_error.Foreign there h = (call, record_error.Foreign, there, refl, h)
refused-so o call editor record_error.BadRange there h = (call, record_error.BadRange, there, refl, h)
refused-so o call editor record_error.DeletesRoot there h = (call, record_error.DeletesRoot, there, refl, h)
refused-so o call editor record_error.RootReplacement there h = (call, record_error.RootReplacement, there, refl, h)
refused-so o call editor record_error.LevelTooLarge there h = absurd h
refused-so o call editor record_error.NoTreeNumber there h = absurd h
refused-so o call editor record_error.Memory there h = tt

pub recorded-so : (o : Option RecordCall) (call : RecordCall) (before after : Editor) (r : Result (Unit {0}) RecordError) (mapped : Result (Unit {0}) Stop) → o ≡ Some call → OnOk r (Takes before call) → OnOk r (Records call before after) → IfErr r (RecordRefuses call before) → MatchResult r (λ x. mapped ≡ Ok x) (λ e. IsErrAnd mapped (λ x. x ≡ stop_of_record e)) → RecordGives o before mapped after
recorded-so o call before after (Ok x) mapped there takes records refused is = subst (λ m. RecordGives o before m after) (sym is) (call, there, takes, records)
recorded-so o call before after (Err e) (Ok x) there takes records refused is = absurd is
recorded-so o call before after (Err e) (Err x) there takes records refused is = subst (RecordStops o before) (sym is) (refused-so o call before e there refused)
