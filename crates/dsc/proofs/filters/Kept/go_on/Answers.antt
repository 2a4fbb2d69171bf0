use Rattle.std.proofs.Common.{ap, ◌∙◌, sym, ◌++◌, take, drop, if◌then◌else◌, []}
use Rattle.dsc.proofs.Filtering.{run_grows}
use Rattle.dsc.proofs.filters.Kept.go_on.Goals as goal

pub returns-then-not-dropped-clause-kept : goal.returns-then-not-dropped-clause-kept
returns-then-not-dropped-clause-kept c =
    let k = c.args.self.now in
    run_grows (k.copied.items ++ k.held.now) k.run.now k.run_len c.args.len
    ∙ ap (λ t. ((k.copied.items ++ k.held.now) ++ take k.run_len k.run.now) ++ (if t then [] else take c.args.len (drop k.run_len k.run.now))) (sym c.if-not-dropped.true)
