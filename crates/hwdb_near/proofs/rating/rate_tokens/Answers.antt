use Rattle.std.proofs.Common.{◌∙◌, ◌-◌, ap, length, map, reverse, take, List, ℕ}
use Rattle.std.proofs.lemmas.List.{take_rest, length-reverse}
use Rattle.std.specs.Borrow.{Bor}
use Rattle.hwdb_spec_commands.specs.Near.{literals}
use Rattle.hwdb_pattern.specs.Fronts.{token_of}
use Rattle.hwdb_near.proofs.NearestLemmas.{front_is, missing_is}
use Rattle.hwdb_near.proofs.rating.rate_tokens.Goals as goal

pub returns-clause-missing : goal.returns-clause-missing
returns-clause-missing c =
    let tokens = c.args.tokens.now in
    let k = c.in_ok-count.count in
    let j = c.in_ok-back.back in
    let computed = c.longest_is_computed.ensures in
    missing_is tokens _ c.args.device.now c.args.reversed.now k j c.literals.result
    (computed (map token_of tokens) c.args.device.now k c.in_ok-count.ensures.longest) c.in_ok-count.ensures.within
    (ap (λ (l : List (Bor (List ℕ))). take (length l - k) l) c.reverse.ensures.after ∙ ap (λ (n : ℕ). take (n - k) (reverse tokens)) (length-reverse tokens)) c.requires
    (computed _ c.args.reversed.now j c.in_ok-back.ensures.longest)
    (c.literals.ensures ∙ ap (λ (l : List (Bor (List ℕ))). literals (map token_of l)) (take_rest _ j))

pub returns-clause-front : goal.returns-clause-front
returns-clause-front c =
    let tokens = c.args.tokens.now in
    front_is tokens c.args.device.now c.in_ok-count.count c.literals-front.result
    (c.longest_is_computed.ensures (map token_of tokens) c.args.device.now c.in_ok-count.count c.in_ok-count.ensures.longest) c.literals-front.ensures
