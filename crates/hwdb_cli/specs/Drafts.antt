-- Commands and arguments while the command line is put together.
use Rattle.std.specs.Prelude.{◌≡◌, IfOk, Result, false}
use Rattle.clap.specs.Simple.{App, app_of}
use Rattle.clap.specs.Walk.{Rule, rule_of}
use Rattle.clap.specs.declared.builder.arg.Arg.{Arg}
use Rattle.clap.specs.declared.builder.command.Command.{Command}
use Rattle.clap.specs.declared.builder.command.Command.TheViews.{out-Command}

-- the argument has this rule, and belongs to one command alone
pub record IsArgument (r : Rule) (a : Arg) : Type 0 where
  pub rule : rule_of a ≡ r
  pub local : a.global ≡ false

-- the command is this one, and no argument of it belongs to others too
pub record IsCommandOf (a : App) (c : Command) : Type 0 where
  pub app : app_of c ≡ a
  pub local : (out-Command c).has_globals ≡ false

-- if it was made, it is this command
abbrev pub IsDraft : {E : Type 0} → App → Result Command E → Type 0
IsDraft a draft = IfOk draft (IsCommandOf a)
