use Rattle.std.proofs.Common.{◌<◌, ◌≤◌, ◌++◌, ◌∙◌, ap, refl, List, ℕ, get_or, length, arith}
use Rattle.std.specs.Prelude.{flat_map}
use Rattle.std.proofs.lemmas.List.{get_or_default}
use Rattle.std.proofs.lemmas.List.Concat.{flat_map-cons}
use Rattle.hwdb_spec.specs.Written.{value_text}
use Rattle.hwdb_writer.specs.Internal.Stored.{IsAt, IsValue}
use Rattle.hwdb_writer.proofs.EmissionLemmas.{made_more, made_all}
use Rattle.hwdb_writer.proofs.NumberLemmas.{value_same}
use Rattle.hwdb_writer.proofs.StoredLemmas.{pairs_length, pairs_at, no_value}
use Rattle.hwdb_writer.proofs.records.push_values.Goals as goal

pub loop-value-preserved : goal.loop-value-preserved
loop-value-preserved c = λ place xs p.
    let R = IsValue (IsAt place c.args.places.now) in
    let long = pairs_length R c.args.values.now xs p in
    let i = c.loop-value.value-index in
    let lt : i < length xs = omega (arith, long, c.loop-value-test.true) in
    let x = get_or xs i no_value in
    let own = pairs_at R c.args.values.now xs i _ no_value c.loop-value-test.true p in
    made_more (flat_map (value_text place)) (value_text place) (flat_map-cons (value_text place)) xs i x (get_or_default xs i no_value x lt) lt _ _ _
    (c.in_ok-push_value.ensures ∙ ap (λ (t : List ℕ). c.loop-value.out.items ++ t) (value_same place c.args.places.now _ x own))
    (c.loop-value.invariant place xs p)

pub push_value-requires : goal.push_value-requires
push_value-requires c =
    let own = pairs_at (IsValue (IsAt c.requires.0 c.args.places.now)) c.args.values.now c.requires.1 c.loop-value.value-index _ no_value c.loop-value-test.true c.requires.2 in
    record { key = own.key.known; value = own.value.known; path = own.path.known }

pub returns : goal.returns
returns c = λ place xs p.
    let long = pairs_length (IsValue (IsAt place c.args.places.now)) c.args.values.now xs p in
    let le : length xs ≤ c.loop-value.value-index = omega (arith, long, c.loop-value-test.false) in
    made_all (flat_map (value_text place)) refl xs c.loop-value.value-index le _ _ (c.loop-value.invariant place xs p)
