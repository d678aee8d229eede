use Rattle.std.proofs.Common.{◌≤◌, ◌+◌, ◌∙◌, ap, length, arith}
use Rattle.hwdb_lookup.proofs.PartsLemmas.{children_same, place_found, values_same, prefix_same, end_same, place_there, refuted, record_room}
use Rattle.hwdb_lookup.proofs.nodes.enter.Goals as goal

pub returns-in_default-clause-stop : goal.returns-in_default-clause-stop
returns-in_default-clause-stop c file m fits =
    let last = fits.0 in
    let long = c.in_ok-fields.ensures.long in
    let end = end_same c.args.frame.sizes file c.in_ok-fields.fields.now c.args.off (c.in_ok-fields.ensures.read file m) (omega (arith, long)) in
    c.in_default.ensures (omega (arith, last, end))

pub returns-then-not-is_string-clause-stop : goal.returns-then-not-is_string-clause-stop
returns-then-not-is_string-clause-stop c file m fits =
    let l = c.args.frame.sizes in
    let long = c.in_ok-bytes.ensures.long in
    let is = c.in-Some.ensures.1 in
    let room = record_room l c.in_ok-fields.fields.now 0 c.args.frame.node_fields in
    let at = prefix_same l file c.in_ok-bytes.bytes.now c.args.off (c.in_ok-bytes.ensures.read file m) (omega (arith, long, is, room)) in
    refuted _ _ c.if-not-is_string.true c.is_string.ensures (place_there l c.args.known file _ _ m (c.u64_at-prefix.ensures ∙ at) fits.1)

pub returns-clause-head : goal.returns-clause-head
returns-clause-head c file m =
    let l = c.args.frame.sizes in
    let part = c.in_ok-bytes.bytes.now in
    let p = c.in_ok-bytes.ensures.read file m in
    let long = c.in_ok-bytes.ensures.long in
    let is = c.in-Some.ensures.1 in
    let first = c.in_ok-fields.ensures.long in
    let room = record_room l c.in_ok-fields.fields.now 0 c.args.frame.node_fields in
    let all : 24 ≤ length part = omega (arith, long, is, room) in
    record {
      children = children_same l file part c.args.off p all;
      values = c.u64_at-values.ensures ∙ values_same l file part c.args.off p all;
      prefix = c.u64_at-prefix.ensures ∙ prefix_same l file part c.args.off p all;
      end = ap (λ n. c.args.off + n) is ∙ end_same l file c.in_ok-fields.fields.now c.args.off (c.in_ok-fields.ensures.read file m) (omega (arith, first));
      part = p;
    }

pub returns-clause-sound : goal.returns-clause-sound
returns-clause-sound c file m =
    let l = c.args.frame.sizes in
    let part = c.in_ok-bytes.bytes.now in
    let p = c.in_ok-bytes.ensures.read file m in
    let long = c.in_ok-bytes.ensures.long in
    let fits = c.in-Some.ensures.0 in
    let is = c.in-Some.ensures.1 in
    let first = c.in_ok-fields.ensures.long in
    let room = record_room l c.in_ok-fields.fields.now 0 c.args.frame.node_fields in
    let all : 24 ≤ length part = omega (arith, long, is, room) in
    let end = end_same l file c.in_ok-fields.fields.now c.args.off (c.in_ok-fields.ensures.read file m) (omega (arith, first)) in (
      omega (arith, fits, end),
      place_found l c.args.known file _ _ _ m (c.u64_at-prefix.ensures ∙ prefix_same l file part c.args.off p all) c.if-not-is_string.false c.is_string.ensures,
    )
