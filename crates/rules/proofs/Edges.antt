-- A border without an inset is drawn along the paper's edges.
use Rattle.std.proofs.Common.{List, ℕ, ◌++◌, ap, ◌∙◌}
use Rattle.std.specs.Prelude.{codes, ℤ, pos, ◌-ℤ◌}
use Rattle.std.proofs.Math.IntN.{+ℤ_idr}
use Rattle.rules.specs.Bytes.{line}
use Rattle.rules.specs.Numbers.{points_text}
use Rattle.rules.specs.Output.{BorderOnEdge, path_text}

abbrev stroked : ℤ → List ℕ → List ℕ
stroked width path = line (codes "gsave " ++ points_text width ++ codes " setlinewidth " ++ path ++ codes " stroke grestore")

pub border_on_edge : BorderOnEdge
border_on_edge paper width =
    ap (λ w. stroked width (path_text (pos 0) w (paper.height -ℤ pos 0))) (+ℤ_idr paper.width)
    ∙ ap (λ h. stroked width (path_text (pos 0) paper.width h)) (+ℤ_idr paper.height)
