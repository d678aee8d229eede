use Rattle.std.proofs.Common.{map, refl, sym, subst, take, ℕ}
use Rattle.hwdb_spec.specs.Fronts.{Stops}
use Rattle.hwdb_pattern.specs.Fronts.{token_of}
use Rattle.hwdb_pattern.specs.Internal.Met.{lengths_of}
use Rattle.hwdb_pattern.proofs.FrontLemmas.{again, has_one, is_stop}
use Rattle.hwdb_pattern.proofs.fronts.longest_front.Goals as goal
use Rattle.hwdb_pattern.proofs.fronts.longest_front.Goals.{in-Some, in-None}

pub returns-clause-stops : goal.returns-clause-stops
returns-clause-stops c =
    let ts = map token_of c.args.tokens.now in
    let device = c.args.device.now in
    let lengths = lengths_of c.in_ok-met.met in
    let count = c.in_ok-count.count in
    let longest = c.in_ok-count.ensures.longest in
    let l = again c.args.tokens.now (take count c.args.tokens.now) count device lengths refl c.in_ok-met.ensures.are in
    elim c.match-least.branch [
      | in-Some w ↦ subst (λ (n : ℕ). Stops ts device (record { tokens = count; bytes = n })) (sym w.bytes-is) (is_stop ts device lengths count w.in-Some.bytes longest l w.in-Some.ensures.member w.in-Some.ensures.least)
      | in-None w ↦ absurd (has_one ts device lengths count longest l w.in-None.ensures.none)
    ]
