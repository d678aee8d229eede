use Rattle.std.proofs.Common.{◌≤◌, ◌+◌, ◌-◌, ℕ, arith}
use Rattle.std.proofs.lemmas.List.Elements.{All-contains}
use Rattle.hwdb_pattern.specs.Internal.Met.{lengths_of}
use Rattle.hwdb_pattern.proofs.PathLemmas.{between_spread}
use Rattle.hwdb_pattern.proofs.PlaceLemmas.{spread_rest}
use Rattle.hwdb_pattern.proofs.TableLemmas.{said_all}
use Rattle.hwdb_pattern.proofs.met.Met.after_star.Goals as goal

pub returns-in-Some : goal.returns-in-Some
returns-in-Some c =
    let end = c.args.end in
    let least = c.in-Some.least in
    let count = end + 1 - least in
    let below : least ≤ end = All-contains (λ (m : ℕ). m ≤ end) (lengths_of c.args.self.now) least c.requires.within c.in-Some.ensures.member in
    between_spread end least (least + count) (lengths_of c.args.self.now) _ c.in-Some.ensures.least (λ _. c.in-Some.ensures.member) (spread_rest least end below) (said_all least count)
