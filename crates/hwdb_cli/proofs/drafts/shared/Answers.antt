use Rattle.std.proofs.Common.{◌∙◌, ap, Bool}
use Rattle.clap.specs.Simple.{app_of_fields, new_app}
use Rattle.clap.specs.declared.builder.command.Command.{Command}
use Rattle.clap.specs.declared.builder.command.Command.TheOpen.{Command-F}
use Rattle.hwdb_cli.specs.Drafts.{IsCommandOf}
use Rattle.hwdb_cli.proofs.drafts.shared.Goals as goal

pub returns : goal.returns
returns c =
    let has_globals : Command-F Command → Bool = λ f. f.has_globals in
    let named : IsCommandOf (new_app c.args.name.now) c.after_help-command.result = record {
      app = ap app_of_fields c.after_help-command.ensures ∙ ap app_of_fields c.about.ensures ∙ c.new.ensures.app;
      local = ap has_globals c.after_help-command.ensures ∙ ap has_globals c.about.ensures ∙ c.new.ensures.local;
    } in
    let with_usr = c.with_argument-with_usr.ensures _ _ named c.flag-usr.ensures in
    let with_strict = c.with_argument-with_strict.ensures _ _ with_usr c.strict_option.ensures in
    let with_root = c.with_argument-with_root.ensures _ _ with_strict c.root_option.ensures in
    c.with_argument.ensures _ _ with_root c.color_option.ensures
