use Rattle.std.proofs.Common.{◌∙◌, ap, List, ℕ}
use Rattle.hwdb_spec.specs.Lemmas.Calls.{each_value}
use Rattle.hwdb_spec_commands.specs.ScanAsked.{scanned_name, scanned_path, unscanned_text}
use Rattle.hwdb_plan.specs.Ended.{IsUnscanned}
use Rattle.hwdb_tool.proofs.scan_command.words_of.Goals as goal

pub returns : goal.returns
returns c =
    each_value _ (λ text. IsUnscanned (scanned_path c.args.root.now c.args.device.now) text.items) c.unscanned_text.result
    (λ text said. (
      c.args.cause,
      said.0,
      said.1,
      said.2 ∙ ap (λ (name : List ℕ). unscanned_text name c.args.cause said.0) (c.name_of.ensures ∙ ap scanned_name c.in_ok-path.ensures),
    ))
    c.unscanned_text.ensures
