-- The command of the program, computed once.
use Rattle.std.proofs.Common.{◌≡◌, refl, true}
use Rattle.std.specs.Prelude.{codes}
use Rattle.std.specs.List.{fold, list_all}
use Rattle.clap.specs.Words.{is_simple, new_app, with_rule}
use Rattle.clap.specs.Simple.{on_top}
use Rattle.clap.specs.Faults.{is_simple_and_free}
use Rattle.command_words.specs.Arguments.{are_distinct, stands_by_itself}
use Rattle.pstops_cli.specs.Command.{bare_shape, pstops, rules}

pub pstops_is_simple : is_simple pstops ≡ true
unfolding pstops
pstops_is_simple = refl

pub pstops_is_free : is_simple_and_free pstops ≡ true
unfolding pstops
pstops_is_free = refl

pub pstops_is_plain : pstops.top.is_plain ≡ true
unfolding pstops
pstops_is_plain = refl

pub pstops_has_rules : pstops.top.rules ≡ rules
unfolding pstops
pstops_has_rules = refl

-- it is the bare command with its rules added in turn
pub pstops_is_made : fold with_rule (on_top bare_shape (new_app (codes "pstops"))) rules ≡ pstops
unfolding pstops
pstops_is_made = refl

pub each_rule_fits : list_all stands_by_itself rules ≡ true
each_rule_fits = refl

pub rules_are_distinct : are_distinct rules ≡ true
rules_are_distinct = refl
