use Rattle.std.proofs.Common.{rules, ◌≡◌, ◌∷◌}
use Rattle.dsc.proofs.StringCharacters.{one_more}
use Rattle.dsc.proofs.strings.string_characters.Goals as goal

pub loop-first-preserved : goal.loop-first-preserved
loop-first-preserved c =
    let shape : c.loop-first.rest.now ≡ c.in-Some.first.now ∷ c.in-Some.others.now = search rules in
    one_more c.loop-first.characters.items _ c.loop-first.rest.now c.in-Some.others.now _ _ c.in-Some.first.now _ _ shape c.in_ok-push.ensures.items
    c.character_at-character.ensures.character c.character_at-character.ensures.len c.split_at.ensures.back c.loop-first.invariant
