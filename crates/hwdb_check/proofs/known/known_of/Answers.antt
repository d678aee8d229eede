use Rattle.std.proofs.Common.{◌∙◌, ap, refl}
use Rattle.hwdb_spec_commands.specs.Warnings.{greatest}
use Rattle.hwdb_check.specs.Internal.{replacing_of}
use Rattle.hwdb_check.proofs.SoughtLemmas.{all_unread, all_unpaired}
use Rattle.hwdb_check.proofs.known.known_of.Goals as goal

pub returns : goal.returns
returns c = (
  record {
    repeated = c.in_ok-repeated_lines.ensures;
    replaced = λ n. c.in_ok-replaced_lines.ensures n ∙ ap (λ all. greatest (replacing_of all all n)) c.requires;
    unread = λ n. c.in_ok-unread_lines.ensures n ∙ ap (all_unread n) c.requires;
    unpaired = λ n. c.in_ok-unpaired_lines.ensures n ∙ ap (all_unpaired n) c.requires;
  },
  refl,
)
