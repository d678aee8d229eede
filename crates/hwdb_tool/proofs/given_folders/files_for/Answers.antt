use Rattle.std.proofs.Common.{map, string_bytes, sym, ◌∙◌, Global, String, Vec}
use Rattle.hwdb_plan.specs.Lemmas.GivenFolders.{plain_reached}
use Rattle.hwdb_tool.proofs.given_folders.files_for.Goals as goal

pub returns-else-is_dash-clause-told : goal.returns-else-is_dash-clause-told
returns-else-is_dash-clause-told g c = λ tells.
    plain_reached (g.D.System.reads c.args.system.now) (λ (v : Vec (String Global) Global). map string_bytes v.items) c.args.path.now (sym c.is_dash.ensures ∙ c.if-is_dash.false) c.files_at.result (c.files_at.ensures.told tells)
