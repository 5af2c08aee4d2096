-- What aims in code stand for.
--     siblings_from                 the paths of an element and of the siblings after it, n with the first; the top has none
--     aim_in                        an aim from the element at a path
--     FormedAim, formed                the number of a change, a path, and the form in which it aims from there
--     of_formed                     the numbered aim that it stands for
--     numbered, aims_of             the numbered aim that it stands for; those of a list
--     some_path                     there is a path among these
--     has_parent                    it alters the children of some node
--     seen_from, formed_below       an aim at a child slot or below, with that slot dropped; of these aims those that there are
--     and_those                     one more of these, if it is there
use Rattle.std.specs.Prelude.{ℕ, zero, suc, Bool, true, false, cond, nat_eq, List, [], ◌∷◌, ◌++◌, map, Option, Some, None}
use Rattle.green_tree.specs.Path.{Path, parent_path, last_slot, counted_from}
use Rattle.edit_change.specs.Aim.{Aim, FirstIn, AfterElement, Over, parents}
use Rattle.edit_change.specs.Rewriting.{NumberedAim}
use Rattle.edit_change.specs.declared.aimed.AimForm.{AimForm}
use Rattle.edit_change.specs.declared.aimed.AimForm.TheVariants as form
use Rattle.edit_change.specs.declared.aimed.Aimed.{Aimed}

abbrev pub siblings_from : Path → ℕ → List Path
siblings_from [] zero = []
siblings_from [] (suc n) = [] ∷ []
siblings_from (i ∷ p) n = map (λ j. parent_path (i ∷ p) ++ j ∷ []) (counted_from (last_slot (i ∷ p)) n)

abbrev pub aim_in : Path → AimForm → Aim
aim_in p form.FirstIn = FirstIn p
aim_in p form.AfterElement = AfterElement p
aim_in p (form.Over n) = Over (siblings_from p n)

pub record FormedAim : Type 0 where
  pub change : ℕ
  pub path : Path
  pub form : AimForm

abbrev pub formed : Aimed → FormedAim
formed a = record { change = a.change; path = a.path.now; form = a.form }

abbrev pub of_formed : FormedAim → NumberedAim
of_formed a = (a.change, aim_in a.path a.form)

abbrev pub numbered : Aimed → NumberedAim
numbered a = of_formed (formed a)

abbrev pub aims_of : List Aimed → List NumberedAim
aims_of xs = map numbered xs

abbrev pub some_path : List Path → Bool
some_path [] = false
some_path (p ∷ ps) = true

abbrev pub has_parent : NumberedAim → Bool
has_parent c = some_path (parents c.1)

-- ---- as they are seen from a child
abbrev seen_along : ℕ → ℕ → AimForm → Path → Option FormedAim
seen_along i c w [] = None
seen_along i c w (j ∷ q) = cond (nat_eq i j) (Some (record { change = c; path = q; form = w })) None

abbrev pub seen_from : ℕ → FormedAim → Option FormedAim
seen_from i a = seen_along i a.change a.form a.path

abbrev pub and_those : Option FormedAim → List FormedAim → List FormedAim
and_those None xs = xs
and_those (Some a) xs = a ∷ xs

abbrev pub formed_below : ℕ → List FormedAim → List FormedAim
formed_below i [] = []
formed_below i (a ∷ xs) = and_those (seen_from i a) (formed_below i xs)
