use Rattle.std.proofs.Common.{ap, ◌∙◌}
use Rattle.std.specs.Prelude.{◌||◌, not}
use Rattle.pagespec.proofs.OneMoreModifier.{shows_turn, shows_scale, shows_move, shows_large, not_not, turn_stands, scale_stands, move_stands, large_stands, shows_same}
use Rattle.pagespec.proofs.parsed.Modifiers.and.Goals as goal

pub returns-in-Turn : goal.returns-in-Turn
returns-in-Turn c = λ ms m shows stands.
    shows_same ms m _ _ (turn_stands c.args.modifier c.in-Turn.n m c.in-Turn.is stands) (shows_turn ms c.args.self c.in-Turn.n shows)

pub returns-in-Scale : goal.returns-in-Scale
returns-in-Scale c = λ ms m shows stands.
    let here = scale_stands c.args.modifier c.in-Scale.v m c.in-Scale.is stands in
    shows_same ms m _ _ here.0
    (shows_scale ms c.args.self c.in-Scale.v c.or.result _ _ shows here.1 c.or.ensures
    (ap (λ b. c.args.self.scale_zero || b) (ap not c.is_above_zero.ensures ∙ not_not _)) (ap (λ b. c.args.self.repeated || b) c.is_some.ensures))

pub returns-in-Offset : goal.returns-in-Offset
returns-in-Offset c = λ ms m shows stands.
    let here = move_stands c.args.modifier c.in-Offset.x c.in-Offset.y m c.in-Offset.is stands in
    shows_same ms m _ _ here.0
    (shows_move ms c.args.self c.in-Offset.x c.in-Offset.y c.or-in-Offset.result _ shows here.1 c.or-in-Offset.ensures
    (ap (λ b. c.args.self.repeated || b) c.is_some-in-Offset.ensures))

pub returns-in-TooLarge : goal.returns-in-TooLarge
returns-in-TooLarge c = λ ms m shows stands.
    shows_large ms c.args.self m shows (large_stands c.args.modifier m c.in-TooLarge.is stands)
