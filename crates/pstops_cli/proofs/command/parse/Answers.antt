use Rattle.std.proofs.Common.{◌≡◌, ◌∙◌, ◌<◌, ap, ap₂, sym, subst, true, false, map, List, [], ◌∷◌, inl, inr, suc, length, arith, get_or}
use Rattle.std.specs.Prelude.{codes, string_bytes, is_some}
use Rattle.std.specs.List.{fold, list_all}
use Rattle.clap.specs.Words.{Rule, app_of, fault_of, first_value, found_of, matches_of, with_rule, rule_of, is_simple, IsAmong, IsParsedFrom}
use Rattle.clap.specs.Built.{TakesValue}
use Rattle.clap.specs.Faults.{is_simple_and_free}
use Rattle.clap.proofs.CallerLemmas.{required_in_chain}
use Rattle.clap.specs.declared.builder.arg.Arg.{Arg}
use Rattle.clap.specs.declared.builder.command.Command.{Command}
use Rattle.clap.specs.declared.error.kind.ErrorKind.{ErrorKind}
use Rattle.clap.specs.declared.parser.matches.ArgMatches.{ArgMatches}
use Rattle.command_words.specs.Arguments.{are_distinct, stands_by_itself}
use Rattle.command_words.proofs.Chain.{chain_app, distinct, each_fits, takes_a_value}
use Rattle.pstops_cli.specs.Command.{IsChain, word_rule, pstops, rules}
use Rattle.pstops_cli.proofs.SimpleCommand.{each_rule_fits, pstops_is_free, pstops_is_made, pstops_is_simple, rules_are_distinct}
use Rattle.pstops_cli.proofs.WorkerNumbers.{sides_in_range, some_arg, workers_in_range}
use Rattle.pstops_cli.proofs.command.parse.Goals as goal
use Rattle.pstops_cli.proofs.command.parse.Goals.{in-Some-2, in-None-2}

is_pstops : (c : Command) → IsChain c → app_of c ≡ pstops
is_pstops c h = chain_app h.start c h.args h.chain (ap (list_all stands_by_itself) h.are ∙ each_rule_fits) ∙ ap₂ (fold with_rule) h.app h.are ∙ pstops_is_made

abbrev first_rule : Rule
first_rule = record (word_rule (codes "specs")) { required = true }

first_is : (xs : List Arg) (d : Arg) → map rule_of xs ≡ rules → (0 < length xs) × TakesValue (get_or xs 0 d) × ((get_or xs 0 d).id.now ≡ codes "specs")
first_is [] d e = let bad : 0 ≡ 11 = ap length e in absurd (omega (arith, bad))
first_is (x ∷ xs) d e =
    let is : rule_of x ≡ first_rule = ap (λ l. get_or l 0 first_rule) e in
    (omega arith, takes_a_value x (ap (λ r. r.required) is) (ap (λ r. r.action) is) (ap (λ r. r.range) is) (ap stands_by_itself is), ap (λ r. r.id) is)

has_specs : (c : Command) (m : ArgMatches) → IsChain c → IsParsedFrom c m → is_some (first_value (found_of m) (codes "specs")) ≡ true
has_specs c m h p =
    let d = some_arg h.args h.are in
    let first = first_is h.args d h.are in
    let fit = each_fits h.args (ap (list_all stands_by_itself) h.are ∙ each_rule_fits) in
    let apart = distinct h.args (ap are_distinct h.are ∙ rules_are_distinct) in
    let given = required_in_chain h.start c h.args 0 d m h.chain h.no_args h.no_groups h.no_globals h.negates fit apart first.0 first.1 p in
    subst (λ id. is_some (first_value (found_of m) id) ≡ true) first.2 given

pub returns-in-Ok-clause-taken : goal.returns-in-Ok-clause-taken
returns-in-Ok-clause-taken c =
    let is = is_pstops c.in_ok-command.command c.in_ok-command.ensures in
    ap (λ a. fault_of a (map string_bytes c.args.words.now)) (sym is) ∙ c.in-Ok.ensures.kinds (ap is_simple_and_free is ∙ pstops_is_free)

pub returns-in-Ok-clause-found : goal.returns-in-Ok-clause-found
returns-in-Ok-clause-found c =
    let is = is_pstops c.in_ok-command.command c.in_ok-command.ensures in record {
      rows = (c.in-Ok.ensures.matches (ap is_simple is ∙ pstops_is_simple)).0 ∙ ap (λ a. matches_of a (map string_bytes c.args.words.now)) is;
      specs = has_specs c.in_ok-command.command c.in-Ok.matches c.in_ok-command.ensures c.in-Ok.ensures.parsed;
      workers = workers_in_range c.in_ok-command.command c.in-Ok.matches is c.in-Ok.ensures.parsed;
      sides = sides_in_range c.in_ok-command.command c.in-Ok.matches is c.in-Ok.ensures.parsed;
    }

no_kind : (e : ErrorKind) (ks : List ErrorKind) → IsAmong e ks → ks ≡ [] → ⊥
no_kind e [] h is = h
no_kind e (k ∷ ks) h is = let bad : suc (length ks) ≡ 0 = ap length is in absurd (omega arith)

pub returns-clause-refused : goal.returns-clause-refused
returns-clause-refused c =
    let is = is_pstops c.in_ok-command.command c.in_ok-command.ensures in
    let kinds = c.in-Err.ensures.kinds (ap is_simple_and_free is ∙ pstops_is_free) in λ none. elim kinds [
      | inl h ↦
          let same = c.kind.ensures ∙ h in
          let bad : false ≡ true = rw same at c.if-eq.ensures in
          cc
      | inr h ↦ no_kind _ _ h (ap (λ a. fault_of a (map string_bytes c.args.words.now)) is ∙ none)
    ]
