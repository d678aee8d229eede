use Rattle.std.proofs.Common.{◌+◌, add-one, nat_eq, string_bytes}
use Rattle.std.proofs.Common.{◌∙◌, ap}
use Rattle.std.specs.List.{starts_with}
use Rattle.hwdb_databases.proofs.ReviewLemmas.{any_found, any_none, any_passed}
use Rattle.hwdb_databases.proofs.reviewing.begins_with_one.Goals as goal

pub returns-then-starts_with : goal.returns-then-starts_with
returns-then-starts_with c =
    any_found (λ p. starts_with nat_eq c.args.text.now p) string_bytes c.args.prefixes.now c.loop-prefix.prefix-index c.prefix-item.result c.starts_with.result _ c.loop-prefix-test.true (c.starts_with.ensures.value ∙ ap (λ t. starts_with nat_eq c.args.text.now t) (c.as_bytes.ensures.value ∙ ap string_bytes c.prefix-item.is)) c.if-starts_with.true c.loop-prefix.invariant

pub loop-prefix-preserved : goal.loop-prefix-preserved
loop-prefix-preserved c =
    any_passed (λ p. starts_with nat_eq c.args.text.now p) string_bytes c.args.prefixes.now c.loop-prefix.prefix-index (c.loop-prefix.prefix-index + 1) c.prefix-item.result c.starts_with.result _ c.loop-prefix-test.true
    (add-one c.loop-prefix.prefix-index) (c.starts_with.ensures.value ∙ ap (λ t. starts_with nat_eq c.args.text.now t) (c.as_bytes.ensures.value ∙ ap string_bytes c.prefix-item.is)) c.if-starts_with.false c.loop-prefix.invariant

pub returns : goal.returns
returns c = any_none (λ p. starts_with nat_eq c.args.text.now p) string_bytes c.args.prefixes.now c.loop-prefix.prefix-index _ c.loop-prefix-test.false c.loop-prefix.invariant
