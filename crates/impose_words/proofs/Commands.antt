-- The command and its subcommands, read off the tables that they are made of.
use Rattle.std.proofs.Common.{◌≡◌, ◌∙◌, ◌+◌, ◌<◌, ℕ, ap, sym, refl, true, false, Bool, List, [], ◌∷◌, ◌++◌, drop, get_or, length, map, not, ◌&&◌}
use Rattle.std.proofs.lemmas.List.{at_drop_more}
use Rattle.std.specs.Prelude.{codes, is_some}
use Rattle.std.specs.List.{fold}
use Rattle.clap.specs.Words.{AddsArg, AddsSubcommand, App, Rule, app_of, is_simple, new_app, rule_of, with_rule, with_subcommand}
use Rattle.clap.specs.Walk.{is_empty, is_simple_arg}
use Rattle.clap.specs.Simple.{on_top}
use Rattle.clap.specs.Faults.{is_simple_and_free}
use Rattle.clap.proofs.SimpleLemmas.{is_false}
use Rattle.clap.specs.declared.builder.arg.Arg.{Arg}
use Rattle.clap.specs.declared.builder.command.Command.{Command}
use Rattle.clap.specs.declared.builder.command.Command.TheViews.{out-Command}
use Rattle.impose_words.specs.Command.{app_in, first_apps, impose, other_apps, rule_in, rules_in, with_app, with_group, with_row, with_top}
use Rattle.impose_words.specs.declared.arguments.Argument.{Argument}
use Rattle.impose_words.specs.declared.arguments.Argument.TheVariants as argument
use Rattle.impose_words.specs.declared.arguments.Subcommand.{Subcommand}
use Rattle.impose_words.specs.declared.subcommands.Group.{Group}

pub impose_is_simple : is_simple impose ≡ true
unfolding impose
impose_is_simple = refl

pub impose_is_free : is_simple_and_free impose ≡ true
unfolding impose
impose_is_free = refl

-- what the command is made of is what its table has
abbrev pub made : App → App
made a = fold (λ a sub. with_subcommand a sub.top) a (first_apps ++ other_apps)

pub impose_is_made : made (on_top with_top (new_app (codes "impose"))) ≡ impose
unfolding impose
impose_is_made = refl

both : (a b : Bool) → (a && b) ≡ true → (a ≡ true) × (b ≡ true)
both true b e = (refl, e)
both false b e = cc

-- one more of a list is done
pub one_more : {S X : Type 0} → (f : S → X → S) (s t all : S) (xs : List X) (i : ℕ) (x : X) → i < length xs → t ≡ f s (get_or xs i x)
    → fold f s (drop i xs) ≡ all → fold f t (drop (i + 1) xs) ≡ all
one_more f s t all xs i x within is so_far = ap (λ u. fold f u (drop (i + 1) xs)) is ∙ sym (at_drop_more (fold f s) xs i x within) ∙ so_far

-- ---- an argument

is_simple_row : (row : Argument) → (rule_in row).is_simple ≡ true
is_simple_row (argument.Required id name help) = refl
is_simple_row (argument.Positional id name help) = refl
is_simple_row (argument.Valued id name help) = refl
is_simple_row (argument.Chosen id name help choices) = refl
is_simple_row (argument.LetteredValued letter id name help) = refl
is_simple_row (argument.Flag id help) = refl
is_simple_row (argument.LetteredFlag letter id help) = refl

-- a simple argument isn't global
is_local : (a : Arg) → is_simple_arg a ≡ true → a.global ≡ false
is_local a e =
    let p = both (is_empty a.overrides.items) _ e in
    let q = both (is_empty a.default_vals_ifs.items) _ p.1 in
    let r = both (is_empty a.groups.items) _ q.1 in
    let s = both (not (is_some a.val_delim)) _ r.1 in
    let t = both (not (is_some a.terminator)) _ s.1 in
    let u = both (not a.allow_hyphen_values) _ t.1 in
    let v = both (not a.allow_negative_numbers) _ u.1 in
    let w = both (not a.require_equals) _ v.1 in
    is_false _ (both (not a.last) (not a.global) w.1).1

pub adds_row : (c d : Command) (a : Arg) (row : Argument) → AddsArg c a d → rule_of a ≡ rule_in row → app_of d ≡ with_row (app_of c) row
adds_row c d a row h is = h.shape (is_local a (ap (λ r. r.is_simple) is ∙ is_simple_row row)) ∙ ap (with_rule (app_of c)) is

-- rows add what they mean
pub rows_added : (a : App) (rows : List Argument) → fold with_row a rows ≡ fold with_rule a (map rule_in rows)
rows_added a [] = refl
rows_added a (row ∷ rows) = rows_added (with_row a row) rows

-- ---- a subcommand

abbrev is_plain : App → Bool
is_plain a = a.top.is_plain

-- a plain command has no global argument
no_globals : (c : Command) → is_plain (app_of c) ≡ true → (out-Command c).has_globals ≡ false
no_globals c e =
    let f = out-Command c in
    let p = both (is_empty f.groups.items) _ e in
    let q = both (not f.allow_external_subcommands) _ p.1 in
    let r = both (not f.has_globals) _ q.1 in
    is_false _ r.0

-- arguments leave it plain
plain_rules : (a : App) (rules : List Rule) → is_plain (fold with_rule a rules) ≡ is_plain a
plain_rules a [] = refl
plain_rules a (rule ∷ rules) = plain_rules (with_rule a rule) rules

plain_groups : (a : App) (groups : List Group) → is_plain (fold with_group a groups) ≡ is_plain a
plain_groups a [] = refl
plain_groups a (g ∷ groups) = plain_groups (with_group a g) groups ∙ plain_rules a (rules_in g)

pub adds_command : (c sub d : Command) (row : Subcommand) → AddsSubcommand c sub d → app_of sub ≡ app_in row → app_of d ≡ with_app (app_of c) row
adds_command c sub d row h is =
    h.shape (no_globals sub (ap is_plain is ∙ plain_groups (new_app row.name.now) row.groups.now))
    ∙ ap (λ a. with_subcommand (app_of c) a.top) is
