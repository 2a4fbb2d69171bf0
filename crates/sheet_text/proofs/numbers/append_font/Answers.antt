use Rattle.std.specs.Prelude.{codes}
use Rattle.rules.specs.Numbers.{points_text}
use Rattle.sheet_text.proofs.Appended.{three}
use Rattle.sheet_text.proofs.numbers.append_font.Goals as goal

pub returns : goal.returns
returns c =
    three c.args.text.now (codes "gsave 0 setgray /Times-Roman findfont ") (points_text c.args.size) (codes " scalefont setfont ") _ _ _
    c.in_ok-append.ensures.appended c.in_ok-append_points.ensures c.in_ok-append-2.ensures.appended
