use Rattle.std.proofs.Common.{◌≡◌, ◌∙◌, ap, true}
use Rattle.std.proofs.lemmas.Result.{IfOk-weaker}
use Rattle.clap.specs.Simple.{app_of_fields, on_top}
use Rattle.clap.specs.declared.builder.command.Command.{Command, Command-F}
use Rattle.clap.specs.declared.builder.command.Command.TheViews.{out-Command}
use Rattle.pstops_cli.specs.Command.{IsChain, bare_shape}
use Rattle.pstops_cli.proofs.command.pstops_command.Goals as goal

pub returns : goal.returns
returns c =
    -- the three switches are all that the bare command has besides
    let switched : out-Command c.disable_version_flag-bare.result
    ≡ record (out-Command c.new.result) { no_binary_name = true; disable_help_flag = true; disable_version_flag = true }
    = c.disable_version_flag-bare.ensures
    ∙ ap (λ (f : Command-F Command). record f { disable_version_flag = true }) (c.disable_help_flag.ensures ∙ ap (λ (f : Command-F Command). record f { disable_help_flag = true }) c.no_binary_name.ensures) in
    IfOk-weaker c.args-3.result _ IsChain (λ d chain. record {
      start = c.disable_version_flag-bare.result;
      args = c.in_ok-args.args.items;
      chain = chain;
      app = ap app_of_fields switched ∙ ap (on_top bare_shape) c.new.ensures.app;
      no_args = ap (λ f. f.args.items) switched ∙ c.new.ensures.empty.0;
      no_groups = ap (λ f. f.groups.items) switched ∙ c.new.ensures.empty.1;
      no_globals = ap (λ f. f.has_globals) switched ∙ c.new.ensures.local;
      negates = ap (λ f. f.subcommand_negates_reqs) switched ∙ c.new.ensures.negates;
      are = c.in_ok-args.ensures;
    }) c.args-3.ensures
