use Rattle.std.proofs.Common.{◌≡◌, ◌∙◌, ◌&&◌, ap, is_some, None, Option}
use Rattle.std.specs.Option.{unwrap_or}
use Rattle.std.specs.Prelude.{codes}
use Rattle.clap.specs.Matches.{found_of}
use Rattle.clap.specs.Walk.{Text, rows_of}
use Rattle.hwdb_spec_commands.specs.Jobs.{has_flag}
use Rattle.hwdb_cli.proofs.args.text_asked.Goals as goal

pub returns-in-Some-clause-text : goal.returns-in-Some-clause-text
returns-in-Some-clause-text c = c.has_flag.ensures ∙ ap (λ (o : Option (Option Text)). is_some o && has_flag (codes "text") (rows_of (found_of c.args.inner.now))) c.in-Some.ensures

pub returns-in-Some-clause-misfit : goal.returns-in-Some-clause-misfit
returns-in-Some-clause-misfit c = ap (λ (o : Option (Option Text)). unwrap_or o None) c.in-Some.ensures

pub returns-in-None-clause-text : goal.returns-in-None-clause-text
returns-in-None-clause-text c = ap (λ (o : Option (Option Text)). is_some o && has_flag (codes "text") (rows_of (found_of c.args.inner.now))) c.in-None.ensures

pub returns-in-None-clause-misfit : goal.returns-in-None-clause-misfit
returns-in-None-clause-misfit c = ap (λ (o : Option (Option Text)). unwrap_or o None) c.in-None.ensures
