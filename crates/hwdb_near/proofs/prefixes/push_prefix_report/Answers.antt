use Rattle.std.proofs.Common.{◌≡◌, ◌∙◌, ◌++◌, [], ℕ, List, ap, append-nil, arith, eqb-true, filter, length, map, sym}
use Rattle.std.specs.Vec.{vec_len}
use Rattle.hwdb_spec_commands.specs.NearAsked.{database_patterns}
use Rattle.hwdb_spec_commands.specs.NearPrefixes.{has_prefix, is_below}
use Rattle.hwdb_near.proofs.FromLemmas.{no_items, nothing_closest}
use Rattle.hwdb_near.proofs.prefixes.push_prefix_report.Goals as goal

pub returns-then-is_empty : goal.returns-then-is_empty
returns-then-is_empty c =
    let there = c.in_ok-there.there in
    let len : vec_len there ≡ 0 = eqb-true (vec_len there) 0 (sym c.if-is_empty.ensures) in
    let ok = there.ok in
    let none : there.items ≡ [] = no_items there.items (omega (arith, len, ok)) in
    let texts : filter (has_prefix c.args.prefix.now) (map (λ t. t.now) c.args.texts.now) ≡ [] = sym c.in_ok-there.ensures ∙ ap (map (λ t. t.now)) none in
    let nothing = nothing_closest (filter (is_below c.args.prefix.now) (database_patterns c.args.db.now)) (filter (has_prefix c.args.prefix.now) (map (λ t. t.now) c.args.texts.now)) texts in
    record { report = sym (append-nil c.args.report.now.items) ∙ ap (λ (l : List ℕ). c.args.report.now.items ++ l) (sym nothing) }
