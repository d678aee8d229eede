use Rattle.std.proofs.Common.{◌≡◌, ◌+◌, ◌-◌, ◌*◌, subst, take, drop, slice_index, arith}
use Rattle.hwdb_reader.specs.Passes.Views.{IsPart}
use Rattle.hwdb_lookup.proofs.PartsLemmas.{window_part}
use Rattle.hwdb_lookup.proofs.seen.Seen.part.Goals as goal

pub returns-then-from-place-clause-read : goal.returns-then-from-place-clause-read
returns-then-from-place-clause-read c file is =
    let b = c.args.self.bytes.now in
    let k = c.loop-k.k in
    let place = slice_index c.args.self.places.now k in
    let n = c.args.to - c.args.from in
    let first = k * 4096 + (c.args.from - place) in
    let e : n ≡ first + n - first = omega arith in
    let p : IsPart file c.args.from (take n (drop first b)) = window_part file b place k c.args.from n (is.each k (omega arith)) (omega arith) (omega arith) (omega arith) in
    subst (λ m. IsPart file c.args.from (take m (drop first b))) e p
