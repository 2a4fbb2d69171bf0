use Rattle.std.proofs.Common.{◌≡◌, ◌≤◌}
use Rattle.std.specs.Prelude.{IfSome}
use Rattle.papers.proofs.CutPages.{cut_before}
use Rattle.papers.proofs.cuts.cut_by.Given as goal

abbrev pub invariant-loop-page : goal.invariant-loop-page
invariant-loop-page l = (l.cut ≡ cut_before l.paper l.own l.page) × IfSome l.cut (λ c. c.pages ≤ l.page)
