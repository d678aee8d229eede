use Rattle.std.proofs.Common.{◌++◌, ap, map, sym, List}
use Rattle.hwdb_spec_commands.specs.FormTable.{free, free_prefixes}
use Rattle.hwdb_spec_commands.specs.LikelyForms.{kept, narrow}
use Rattle.hwdb_spec.specs.Forms.{Form, can_match}
use Rattle.hwdb_spec.specs.Patterns.{tokens}
use Rattle.hwdb_forms.proofs.AnswerLemmas.{first_matches}
use Rattle.hwdb_forms.proofs.guesses.meets_likely.Goals as goal

pub returns : goal.returns
returns c = λ e.
    sym (first_matches (kept ++ map (λ k. k.form) narrow) (map free free_prefixes) (tokens c.args.pattern.now) _
    (ap (λ (fs : List Form). can_match fs (tokens c.args.pattern.now)) c.likely_known.ensures) (c.meets_one.ensures e))
