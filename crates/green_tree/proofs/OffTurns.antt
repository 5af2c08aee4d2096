-- The token that a walk finds below the child where a turn leaves a path.
--     found_off, token_there        its path is the way through the turn; it leads to the token
--     not_missing, not_none         there is such a token, and such a way
use Rattle.std.specs.Prelude.{◌≡◌, ◌∷◌, [], ◌++◌, take, Option, Some, None, option_map, IsSome}
use Rattle.std.proofs.Common.{ap, sym, ◌∙◌, append_assoc}
use Rattle.std.proofs.lemmas.Bool.{false≢true}
use Rattle.std.proofs.lemmas.Option.{none-some, same_Some}
use Rattle.green_tree.specs.Path.{Path}
use Rattle.green_tree.specs.Tree.{SyntaxTree, at}
use Rattle.green_tree.specs.Green.{Leaf, leaf_tree}
use Rattle.green_tree.specs.GreenElementRef.{ref_tree}
use Rattle.green_tree.specs.inner.FoundToken.{FindsToken}
use Rattle.green_tree.specs.inner.Turn.{IsTurn, way_through}
use Rattle.green_tree.specs.declared.tokens.Turn.{Turn}

module _ {way_in : SyntaxTree → Option Path} {root : SyntaxTree} {path : Path} {turn : Turn} {whole : Option Path} {off now : Path} {found : Option Leaf} (turns : IsTurn way_in root path turn) (way : whole ≡ way_through way_in path turn) (begins : off ≡ take turn.depth path ++ turn.slot ∷ []) (finds : FindsToken (ref_tree turn.child) (way_in (ref_tree turn.child)) off now found) where
  pub record FoundOff : Type 0 where
    pub path_is : whole ≡ Some now
    pub token : option_map (λ l. Some (leaf_tree l)) found ≡ Some (at root now)

  pub found_off : FoundOff
  found_off = go (way_in (ref_tree turn.child)) turns.some way finds
    where
      go : (o : Option Path) → IsSome o → whole ≡ option_map (λ p. take turn.depth path ++ turn.slot ∷ p) o → FindsToken (ref_tree turn.child) o off now found → FoundOff
      go None some is there = absurd (false≢true some)
      go (Some p) some is there =
          let slots : now ≡ take turn.depth path ++ turn.slot ∷ p = there.slots ∙ ap (λ q. q ++ p) begins ∙ append_assoc (take turn.depth path) (turn.slot ∷ []) p in
          record {
            path_is = is ∙ ap Some (sym slots);
            token = there.token ∙ ap Some (sym (ap (at root) slots ∙ turns.below p));
          }

  pub token_there : (l : Leaf) → found ≡ Some l → at root now ≡ Some (leaf_tree l)
  token_there l is = sym (same_Some (Some (leaf_tree l)) (at root now) (sym (ap (option_map (λ l. Some (leaf_tree l))) is) ∙ found_off.token))

  pub not_missing : found ≡ None → ⊥
  not_missing is = none-some (at root now) (sym (ap (option_map (λ l. Some (leaf_tree l))) is) ∙ found_off.token)

  pub not_none : whole ≡ None → ⊥
  not_none none = none-some now (sym none ∙ found_off.path_is)
