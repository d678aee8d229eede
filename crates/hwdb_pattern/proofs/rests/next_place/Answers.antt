use Rattle.hwdb_pattern.proofs.PlaceLemmas.{literal_next, literal_none, if_some_weaker, if_none_weaker}
use Rattle.hwdb_pattern.proofs.TokenLemmas.{token_byte}
use Rattle.hwdb_pattern.proofs.rests.next_place.Goals as goal

pub returns-then-stands_for_itself-clause-some : goal.returns-then-stands_for_itself-clause-some
returns-then-stands_for_itself-clause-some c =
    if_some_weaker c.next_byte.result _ _
    (λ place n. literal_next c.args.bytes.now c.args.at place
    (token_byte c.args.text.now c.requires.some c.requires.no_star (c.stands_for_itself.ensures.no_mark c.if-stands_for_itself.true) (c.stands_for_itself.ensures.no_bracket c.if-stands_for_itself.true)) n)
    c.next_byte.ensures.some

pub returns-then-stands_for_itself-clause-none : goal.returns-then-stands_for_itself-clause-none
returns-then-stands_for_itself-clause-none c =
    if_none_weaker c.next_byte.result _ _
    (λ n. literal_none c.args.bytes.now c.args.at
    (token_byte c.args.text.now c.requires.some c.requires.no_star (c.stands_for_itself.ensures.no_mark c.if-stands_for_itself.true) (c.stands_for_itself.ensures.no_bracket c.if-stands_for_itself.true)) n)
    c.next_byte.ensures.none
