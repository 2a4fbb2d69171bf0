use Rattle.std.proofs.Common.{◌≡◌, ◌≤◌}
use Rattle.std.specs.Prelude.{IfSome, option_map}
use Rattle.dsc.specs.Fields.{fields_in}
use Rattle.papers.specs.Reach.{boxes_or, placing}
use Rattle.papers.proofs.ReachingPages.{reach_before}
use Rattle.papers.proofs.reach.reach_with.Given as goal

abbrev pub invariant-loop-page : goal.invariant-loop-page
invariant-loop-page l =
    (l.reach ≡ reach_before (placing l.pages.taken.now l.pages.own.now (boxes_or (option_map (λ v. fields_in v.now) l.other) l.pages.document.now) l.pages.cut_apart) l.pages.papers.now l.page)
    × IfSome l.reach (λ r. r.pages ≤ l.page)
