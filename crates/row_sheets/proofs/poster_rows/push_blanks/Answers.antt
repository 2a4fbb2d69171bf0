use Rattle.std.proofs.Common.{rules, refl, ◌≡◌, ◌++◌, ◌∷◌, []}
use Rattle.rules.specs.Made.{Blank}
use Rattle.row_sheets.proofs.Filling.{sheet, sheet_behind}
use Rattle.row_sheets.proofs.poster_rows.push_blanks.Goals as goal

pub loop-n-preserved : goal.loop-n-preserved
loop-n-preserved c =
    let paper = c.args.poster.now.sheet in
    let e : c.push.new.self ≡ c.loop-n.made ++ sheet paper (Blank ∷ []) ∷ [] = search rules in
    sheet_behind paper (λ m. Blank ∷ []) c.args.made.now c.loop-n.made c.push.new.self (Blank ∷ []) c.loop-n.n c.loop-n.invariant refl e
