use Rattle.std.proofs.Common.{◌≡◌, drop, []}
use Rattle.papers.specs.Reported.{different_from}
use Rattle.dressing.specs.Sizes.{AreSizesOf, papers_of}
use Rattle.dressing.proofs.reported.reported_papers.Given as goal

abbrev pub invariant-loop-sheet : goal.invariant-loop-sheet
invariant-loop-sheet l = record {
  rest : different_from l.reported.items (drop l.sheet (papers_of l.sheets)) ≡ different_from [] (papers_of l.sheets);
  sizes : AreSizesOf l.reported.items l.sizes;
}
