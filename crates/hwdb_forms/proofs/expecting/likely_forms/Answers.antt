use Rattle.std.proofs.Common.{◌∙◌, ◌++◌, ap, map, List}
use Rattle.hwdb_spec_commands.specs.FormTable.{free}
use Rattle.hwdb_spec_commands.specs.LikelyForms.{kept, narrow}
use Rattle.hwdb_spec.specs.Forms.{Form}
use Rattle.hwdb_forms.proofs.FrontLemmas.{mapped}
use Rattle.hwdb_forms.proofs.expecting.likely_forms.Goals as goal

pub returns : goal.returns
returns c =
    c.in_ok-forms.ensures
    ∙ ap (λ (fs : List Form). fs ++ map (λ prefix. free prefix.now) c.free_prefixes.result.now) c.likely_known.ensures
    ∙ ap (λ (fs : List Form). (kept ++ map (λ k. k.form) narrow) ++ fs) (mapped free c.free_prefixes.result.now ∙ ap (map free) c.free_prefixes.ensures)
