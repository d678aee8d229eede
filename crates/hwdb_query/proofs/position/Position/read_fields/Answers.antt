use Rattle.std.proofs.Common.{◌∙◌, ap, arith, ◌<◌, ◌^◌}
use Rattle.std.specs.Fmt.{decimal}
use Rattle.hex.specs.Hex.{decode_of}
use Rattle.hwdb_query.proofs.NumberLemmas.{never_some, missing, no_colon_decimal, no_colon_hex}
use Rattle.hwdb_query.proofs.position.Position.read_fields.Goals as goal

pub returns-in_default-clause-refused : goal.returns-in_default-clause-refused
returns-in_default-clause-refused c = λ none p s.
    let a : p.priority < 2 ^ 64 = omega (arith, s.priority) in
    let b : p.line < 2 ^ 64 = omega (arith, s.line) in
    c.in_default.ensures.found (decimal p.priority) (decimal p.line) s.pattern_text s.key_text s.text (no_colon_decimal p.priority a) (no_colon_decimal p.line b) (no_colon_hex s.pattern_text p.pattern s.pattern)

pub returns-in_default-short_number-clause-refused : goal.returns-in_default-short_number-clause-refused
returns-in_default-short_number-clause-refused c = λ none p s.
    let a : p.priority < 2 ^ 64 = omega (arith, s.priority) in
    let b : p.line < 2 ^ 64 = omega (arith, s.line) in
    let same = c.in-Some.ensures.found (decimal p.priority) (decimal p.line) s.pattern_text s.key_text s.text (no_colon_decimal p.priority a) (no_colon_decimal p.line b) (no_colon_hex s.pattern_text p.pattern s.pattern) in
    never_some p.priority _ c.in_default-short_number.is (c.short_number.ensures.found p.priority s.priority same.0)

pub returns-in_default-long_number-clause-refused : goal.returns-in_default-long_number-clause-refused
returns-in_default-long_number-clause-refused c = λ none p s.
    let a : p.priority < 2 ^ 64 = omega (arith, s.priority) in
    let b : p.line < 2 ^ 64 = omega (arith, s.line) in
    let same = c.in-Some.ensures.found (decimal p.priority) (decimal p.line) s.pattern_text s.key_text s.text (no_colon_decimal p.priority a) (no_colon_decimal p.line b) (no_colon_hex s.pattern_text p.pattern s.pattern) in
    never_some p.line _ c.in_default-long_number.is (c.long_number.ensures.found p.line s.line same.1)

pub returns-in_default-2-clause-refused : goal.returns-in_default-2-clause-refused
returns-in_default-2-clause-refused c = λ none p s.
    let a : p.priority < 2 ^ 64 = omega (arith, s.priority) in
    let b : p.line < 2 ^ 64 = omega (arith, s.line) in
    let same = c.in-Some.ensures.found (decimal p.priority) (decimal p.line) s.pattern_text s.key_text s.text (no_colon_decimal p.priority a) (no_colon_decimal p.line b) (no_colon_hex s.pattern_text p.pattern s.pattern) in
    missing _ _ _ c.in_default-2.is c.in_ok-pattern.ensures p.pattern (ap decode_of same.2 ∙ s.pattern)

pub returns-in_default-3-clause-refused : goal.returns-in_default-3-clause-refused
returns-in_default-3-clause-refused c = λ none p s.
    let a : p.priority < 2 ^ 64 = omega (arith, s.priority) in
    let b : p.line < 2 ^ 64 = omega (arith, s.line) in
    let same = c.in-Some.ensures.found (decimal p.priority) (decimal p.line) s.pattern_text s.key_text s.text (no_colon_decimal p.priority a) (no_colon_decimal p.line b) (no_colon_hex s.pattern_text p.pattern s.pattern) in
    missing _ _ _ c.in_default-3.is c.in_ok-key.ensures p.key (ap decode_of same.3 ∙ s.key)
