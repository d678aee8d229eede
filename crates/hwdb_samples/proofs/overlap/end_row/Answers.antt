use Rattle.std.proofs.Common.{refl, sym, map}
use Rattle.std.proofs.lemmas.List.{length-map}
use Rattle.hwdb_samples.specs.Internal.{token_of}
use Rattle.hwdb_samples.proofs.OverlapLemmas.{end_row}
use Rattle.hwdb_samples.proofs.overlap.end_row.Goals as goal

pub returns-clause-within : goal.returns-clause-within
returns-clause-within c = end_row _ c.in_ok-row.row.items (map token_of c.args.under.now) _ (sym (length-map c.args.under.now token_of)) (c.in_ok-row.ensures.items_if_clones_equal (λ y e. e)) refl
