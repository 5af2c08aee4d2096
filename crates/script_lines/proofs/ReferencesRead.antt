-- A reference that is read part by part.
--     not-named      its first part is no name
--     no-path        what is behind it is no path
--     has-parts      a name and a path
use Rattle.std.proofs.Common.{◌≡◌, ℕ, List, ◌∷◌, Option, Some, None, Vec, MatchOption, sym, ◌∙◌, ap, subst, refl}
use Rattle.std.specs.Global.{Global}
use Rattle.script_lines.specs.Line.{Each, IsNumber, IsRef, between}
use Rattle.script_lines.specs.Name.{IsName}
use Rattle.script_lines.specs.ScriptLine.{Ref}

pub not-named : (text name : List ℕ) (slots : List (List ℕ)) → between 47 text ≡ name ∷ slots → (IsName name → ⊥) → (r : Ref) → IsRef text r → ⊥
not-named text name slots parts none r is =
    let own : between 47 text ≡ r.name ∷ is.slots = is.parts in
    let same : r.name ≡ name = cc in
    none (subst IsName same is.named)

pub no-path : (text name : List ℕ) (slots : List (List ℕ)) → between 47 text ≡ name ∷ slots → (read : Option (Vec ℕ Global)) → MatchOption read ((path : List ℕ) → Each IsNumber slots path → ⊥) (λ path. Each IsNumber slots path.items) → ((x : Vec ℕ Global) → read ≡ Some x → ⊥) → (r : Ref) → IsRef text r → ⊥
no-path text name slots parts (Some v) read none r is = none v refl
no-path text name slots parts None read none r is =
    let own : between 47 text ≡ r.name ∷ is.slots = is.parts in
    let same : is.slots ≡ slots = cc in
    read r.path (subst (λ l. Each IsNumber l r.path) same is.numbered)

pub has-parts : (text name : List ℕ) (slots : List (List ℕ)) → between 47 text ≡ name ∷ slots → (own : List ℕ) → own ≡ name → IsName name → (path : List ℕ) → Each IsNumber slots path → IsRef text (record { name = own; path = path })
has-parts text name slots parts own is named path numbered = record {
  slots = slots;
  parts = parts ∙ ap (λ n. n ∷ slots) (sym is);
  named = subst IsName (sym is) named;
  numbered = numbered;
}
