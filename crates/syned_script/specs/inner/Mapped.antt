-- What the functions give that map a node to its copy.
--     ForBoth             there are two nodes, and this holds of them
--     IsAdded             a builder with one more pair
--     AddingStops         why a builder took no pair of two nodes that may not be there
--     IsPairOf            a builder of one pair below a node
--     PairStops           why there is none
--     IsMapped            an editor took the pair up
--     MapGives            what the whole line gives
use Rattle.std.specs.Prelude.{◌≡◌, ◌⊎◌, [], ◌∷◌, Option, Some, None, Result, Ok, Err}
use Rattle.syntax_editor.specs.Element.{Element}
use Rattle.syntax_editor.specs.Builder.{Builder, IsPairUnder}
use Rattle.syntax_editor.specs.Editor.{Editor, Maps}
use Rattle.syned_script.specs.State.{PairRefuses}
use Rattle.syned_script.specs.inner.Stops.{StopsFor}
use Rattle.syned_script.specs.declared.stop.Stop.{Stop}

abbrev pub ForBoth : Option Element → Option Element → (Element × Element → Type 0) → Type 0
ForBoth input output P = (i o : Element) × (input ≡ Some i) × (output ≡ Some o) × P (i, o)

abbrev pub IsAdded : Option Element → Option Element → Builder → Builder → Type 0
IsAdded input output before after =
    ForBoth input output
    (λ pair. IsPairUnder before.parent pair × (after ≡ record before { pairs = pair ∷ before.pairs }))

abbrev pub AddingStops : Option Element → Option Element → Element → Stop → Type 0
AddingStops input output parent stop =
    StopsFor ((input ≡ None) ⊎ (output ≡ None)) (λ r. ForBoth input output (λ pair. PairRefuses parent pair r)) stop

abbrev pub IsPairOf : Option Element → Option Element → Option Element → Builder → Type 0
IsPairOf parent input output builder =
    (p : Element) × (parent ≡ Some p) × ForBoth input output (λ pair. IsPairUnder p pair × (builder.pairs ≡ pair ∷ []))

abbrev pub PairStops : Option Element → Option Element → Option Element → Stop → Type 0
PairStops parent input output stop =
    StopsFor ((parent ≡ None) ⊎ ((input ≡ None) ⊎ (output ≡ None)))
    (λ r. (p : Element) × (parent ≡ Some p) × ForBoth input output (λ pair. PairRefuses p pair r)) stop

abbrev pub IsMapped : Option Element → Option Element → Option Element → Editor → Editor → Type 0
IsMapped parent input output before after =
    (p : Element) × (parent ≡ Some p)
    × ForBoth input output (λ pair. IsPairUnder p pair × Maps (pair ∷ []) before after)

abbrev pub MapGives : (parent input output : Option Element) → Editor → Result (Unit {0}) Stop → Editor → Type 0
MapGives parent input output before (Ok done) after = IsMapped parent input output before after
MapGives parent input output before (Err stop) after = PairStops parent input output stop
