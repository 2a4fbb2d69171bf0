use Rattle.std.proofs.Common.{◌≡◌, ◌∙◌, ℕ, ap, refl, List, Option, Some, None}
use Rattle.std.specs.Prelude.{option_and_then}
use Rattle.std.specs.Str.Parse.{ExplainsUnsignedError, HasUnsignedDigitsIfOk, ParsesUnsigned}
use Rattle.clap.specs.Words.{found_of, one_text}
use Rattle.clap.proofs.WalkLemmas.{one_text-rows}
use Rattle.command_words.specs.Matches.{number_named, u32_of}
use Rattle.command_words.proofs.Numerals.{number_read}
use Rattle.command_words.proofs.matches.number_of.Goals as goal

pub returns : goal.returns
returns c =
    let f = found_of c.args.matches.now in
    let id = c.args.id.now in
    go (one_text f id) refl ∙ ap number_named (one_text-rows f id)
  where
    go : (o : Option (List ℕ)) → one_text (found_of c.args.matches.now) c.args.id.now ≡ o → c.get_one.result ≡ option_and_then u32_of o
    go None e = c.get_one.ensures.none e
    go (Some t) e = number_read _ (λ bs r. ParsesUnsigned 32 10 bs r × ExplainsUnsignedError 10 bs r × HasUnsignedDigitsIfOk bs r) t c.get_one.result (λ r g. g.0) (c.get_one.ensures.value t e)
