use Rattle.std.proofs.Common.{sym, ◌∙◌, subst}
use Rattle.rules.specs.Sheets.{Layout}
use Rattle.gather_table.specs.Table.{HasGroup}
use Rattle.gather_table.proofs.GroupLooks.{none_missing_in}
use Rattle.test_runs.proofs.tests.callers.tables.Tables.close_plainly.Goals as goal

pub close_group-requires : goal.close_group-requires
close_group-requires c =
    let has = subst (λ (l : Layout). HasGroup l c.args.sheet c.args.group) (sym c.args.self.now.same) (c.has_group.ensures c.if-not-has_group.false) in
    record { group = none_missing_in _ _ c.args.sheet c.args.group has (sym c.if-look_group-ne0.false ∙ c.look_group.ensures) }
