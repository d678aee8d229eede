use Rattle.std.proofs.Common.{◌≡◌}
use Rattle.hwdb_spec.specs.Format.{IsDatabase, layout_of}
use Rattle.hwdb_spec.specs.Tree.{Tree}
use Rattle.hwdb_lookup.proofs.PartsLemmas.{windows_given}
use Rattle.hwdb_lookup.proofs.lookups.found_in.Goals as goal

pub returns-clause-found : goal.returns-clause-found
returns-clause-found c file t m h = c.in_ok-found.ensures.found file t (c.seen_of.ensures.seen file m) m.outline.layout h

pub returns-in_err-found-clause-stop : goal.returns-in_err-found-clause-stop
returns-in_err-found-clause-stop c =
    windows_given c.args.windows c.seen_of.result (λ file. (t : Tree) × (c.args.windows.outline.frame.sizes ≡ layout_of file) × IsDatabase file t) (λ file. (t : Tree) × IsDatabase file t)
    c.seen_of.ensures.bytes c.seen_of.ensures.places c.seen_of.ensures.seen (λ file is q. (q.0, is.outline.layout, q.1))
    c.in_err-found.field-0.0 c.from_residual.result c.from_residual.ensures.1 c.in_err-found.ensures.stop
