use Rattle.std.proofs.Common.{◌≡◌, ◌-◌, ◌∷◌, [], ◌∙◌, take, length, refl, ap, ap₂, arith}
use Rattle.std.proofs.Math.Seq.{take-append_seam}
use Rattle.std.proofs.lemmas.List.{length-append}
use Rattle.one_pass.proofs.open_nodes.push_made.Goals as goal

pub returns : goal.returns
returns c =
    let old = c.args.walk.now.path in
    record {
      same = record { kind = refl; elements = refl; depth = refl };
      sought = refl;
      aims = refl;
      passed = refl;
      slot = omega arith;
      out = c.in_ok-push.ensures.items;
      path = λ p n is.
          let count : old.len - 1 ≡ length p = omega (arith, old.ok.0, ap length is, length-append p (n ∷ [])) in
          c.pop.ensures.rest ∙ ap₂ take count is ∙ take-append_seam p (n ∷ []);
      found = refl;
      count = refl;
    }
