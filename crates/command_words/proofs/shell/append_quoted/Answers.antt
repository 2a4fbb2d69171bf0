use Rattle.std.proofs.Common.{◌≡◌, ◌∙◌, ◌++◌, ◌∷◌, ℕ, List, [], ap, map, refl, subst, sym}
use Rattle.std.specs.Prelude.{flat_map}
use Rattle.std.proofs.lemmas.Iterator.{YieldsList-from_chars}
use Rattle.std.proofs.lemmas.Iterator.Consumers.{YieldsList-end}
use Rattle.std.specs.Str.{chars}
use Rattle.command_words.specs.Shell.{quoted_char}
use Rattle.command_words.proofs.shell.append_quoted.Goals as goal

all_the_same : (xs : List ℕ) → map (λ x. x) xs ≡ xs
all_the_same [] = refl
all_the_same (x ∷ xs) = ap (λ ys. x ∷ ys) (all_the_same xs)

pub returns : goal.returns
returns c =
    let t = YieldsList-end (YieldsList-from_chars c.args.name.now c.utf8.name cc) c.loop-letter.yielded _ c.loop-letter.yielded_by _ _ c.in-None.is c.next.ensures.steps in
    subst (λ all. c.loop-letter.out.items ≡ c.args.out.now.items ++ flat_map quoted_char all)
    (sym (all_the_same c.loop-letter.yielded) ∙ t.0) c.loop-letter.invariant
