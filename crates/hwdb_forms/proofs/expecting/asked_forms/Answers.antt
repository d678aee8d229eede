use Rattle.std.proofs.Common.{◌∙◌, ◌++◌, ap, map, List}
use Rattle.hwdb_spec_commands.specs.FormTable.{free, known}
use Rattle.hwdb_spec.specs.Forms.{Form}
use Rattle.hwdb_forms.proofs.FrontLemmas.{mapped}
use Rattle.hwdb_forms.proofs.expecting.asked_forms.Goals as goal

pub returns : goal.returns
returns c =
    c.in_ok-forms.ensures
    ∙ ap (λ (fs : List Form). fs ++ map (λ prefix. free prefix.now) c.free_prefixes.result.now) c.known.ensures
    ∙ ap (λ (fs : List Form). map (λ k. k.form) known ++ fs) (mapped free c.free_prefixes.result.now ∙ ap (map free) c.free_prefixes.ensures)
