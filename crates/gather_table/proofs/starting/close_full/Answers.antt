use Rattle.std.proofs.Common.{rules, arith, refl}
use Rattle.std.proofs.lemmas.Nat.{one_shl}
use Rattle.rules.specs.Sheets.{layout}
use Rattle.gather_table.proofs.FirstClosings.{groups_in, full_closed, open_kept}
use Rattle.gather_table.proofs.Sheets.{few_groups}
use Rattle.gather_table.proofs.starting.close_full.Goals as goal

pub bounds-words-closing : goal.bounds-words-closing
bounds-words-closing c = (groups_in (layout c.args.plan.now) c.args.words.now c.args.sheet c.args.group c.args.home c.requires.home c.requires.group c.requires.room).1

pub bounds-words-closing-then-words-closing : goal.bounds-words-closing-then-words-closing
bounds-words-closing-then-words-closing c = let i = (groups_in (layout c.args.plan.now) c.args.words.now c.args.sheet c.args.group c.args.home c.requires.home c.requires.group c.requires.room).1 in omega arith

pub bounds-words-closing-then-words-closing-2 : goal.bounds-words-closing-then-words-closing-2
bounds-words-closing-then-words-closing-2 c = let i = (groups_in (layout c.args.plan.now) c.args.words.now c.args.sheet c.args.group c.args.home c.requires.home c.requires.group c.requires.room).1 in omega arith

pub returns-then-words-closing-clause-closed : goal.returns-then-words-closing-clause-closed
returns-then-words-closing-clause-closed c =
    let shape = layout c.args.plan.now in
    let few = few_groups shape c.requires.sound.narrow c.args.sheet c.requires.group.sheet in
    let below = c.requires.group.group in
    full_closed shape c.args.words.now c.args.sheet c.args.group c.full_bits-full.result _ _ _ c.args.home c.requires.sound c.requires.home c.requires.group c.requires.room (search rules)
    c.if-words-closing.true refl (search rules) (one_shl c.args.group 64 (omega arith)) refl

pub returns-else-words-closing-clause-closed : goal.returns-else-words-closing-clause-closed
returns-else-words-closing-clause-closed c =
    let shape = layout c.args.plan.now in
    open_kept shape c.args.words.now c.args.sheet c.args.group c.full_bits-full.result c.args.home c.requires.home c.requires.group c.requires.room (search rules)
    c.if-words-closing.false
