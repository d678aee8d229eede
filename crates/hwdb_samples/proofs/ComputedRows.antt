-- The worked rows, computed.
use Rattle.std.proofs.Common.{◌≡◌, ◌∙◌, ap, refl, sym, ℕ, List, [], Option, Some, None, codes, length, get_or, inl, inr, true, false, arith}
use Rattle.hwdb_spec.specs.Answers.{effective_of, is_after, is_match, last_assignments, last_matching, last_of_each, last_value}
use Rattle.hwdb_spec.specs.Assignment.{assignment_cmp, position_cmp, put, put_all}
use Rattle.hwdb_spec.specs.Forms.{all_bytes_from}
use Rattle.hwdb_spec.specs.Patterns.{bracket_at, items_from, item_at, classes, tokens_from, token_at, some_ending, byte_then, piece_then, matches}
use Rattle.hwdb_spec_commands.specs.FormTable.{free_prefixes, known}
use Rattle.hwdb_spec_commands.specs.FormTexts.{byte_texts, counted_texts, either_texts, end_texts, field_texts, fields_texts, fixed_texts, many_texts, no_texts, pieces_texts, text_among}
use Rattle.hwdb_spec_commands.specs.SamplesFound.{counted_from, last_from, moved, same_rules}
use Rattle.hwdb_samples.specs.KeyRows.{KeyRuleRows, PropertyRows, TurnRows, ValueRows}
use Rattle.hwdb_spec_commands.specs.Overlaps.{apart, some_end, within}
use Rattle.hwdb_samples.specs.Rows.{AgreeRows, ApartRows, AskedRows, ChangedRows, CoverRows, FoundRows, GivenRows, KeyedRows, LaterRows, NearRows, RuleRows, SameRows, ShownRows, TextRows, new_side, old_side}
use Rattle.hwdb_spec_commands.specs.SampleRules.{after_rules, given, HasRule, IsSame, Shows}
use Rattle.hwdb_spec_commands.specs.SampleTexts.{usual}

pub given_rows_hold : GivenRows
unfolding after_rules matches piece_then byte_then some_ending tokens_from token_at bracket_at items_from item_at classes
given_rows_hold = refl

pub later_rows_hold : LaterRows
unfolding after_rules matches piece_then byte_then some_ending tokens_from token_at bracket_at items_from item_at classes
later_rows_hold = refl

-- texts of another first byte, or of another length
first_apart : (xs ys : List ℕ) → (get_or xs 0 0 ≡ get_or ys 0 0 → ⊥) → xs ≡ ys → ⊥
first_apart xs ys n e = n (ap (λ (l : List ℕ). get_or l 0 0) e)

size_apart : (xs ys : List ℕ) → (length xs ≡ length ys → ⊥) → xs ≡ ys → ⊥
size_apart xs ys n e = n (ap length e)

some_is : (xs ys : List ℕ) → Some xs ≡ Some ys → xs ≡ ys
some_is xs ys e = ap (λ (o : Option (List ℕ)). elim o [ None ↦ [] | Some t ↦ t ]) e

-- what both sides give this device
old_gives : given (codes "ab") old_side ≡ Some (codes "1")
unfolding after_rules matches piece_then byte_then some_ending tokens_from token_at
old_gives = refl

new_gives : given (codes "ab") new_side ≡ Some (codes "2")
unfolding after_rules matches piece_then byte_then some_ending tokens_from token_at
new_gives = refl

differs : IsSame old_side new_side (codes "ab") → ⊥
differs e = first_apart (codes "1") (codes "2") (λ k. absurd (omega (arith, k))) (some_is (codes "1") (codes "2") (sym old_gives ∙ e ∙ new_gives))

same_ac : IsSame old_side new_side (codes "ac")
unfolding after_rules matches piece_then byte_then some_ending tokens_from token_at
same_ac = refl

same_b : IsSame old_side new_side (codes "b")
unfolding after_rules matches piece_then byte_then some_ending tokens_from token_at
same_b = refl

pub same_rows_hold : SameRows
same_rows_hold = (differs, same_ac, same_b)

one_is_two : codes "1" ≡ codes "2" → ⊥
one_is_two = first_apart (codes "1") (codes "2") (λ k. absurd (omega (arith, k)))

star_is_b : codes "a*" ≡ codes "ab" → ⊥
star_is_b e = let k = ap (λ (l : List ℕ). get_or l 1 0) e in absurd (omega (arith, k))

no_old : HasRule old_side (codes "ab") (codes "2") → ⊥
no_old (inl e) = one_is_two e.1
no_old (inr none) = none

no_first : HasRule new_side (codes "ab") (codes "1") → ⊥
no_first (inl e) = star_is_b e.0
no_first (inr (inl e)) = one_is_two (sym e.1)
no_first (inr (inr none)) = none

no_star : HasRule new_side (codes "a*") (codes "2") → ⊥
no_star (inl e) = one_is_two e.1
no_star (inr (inl e)) = star_is_b (sym e.0)
no_star (inr (inr none)) = none

pub rule_rows_hold : RuleRows
rule_rows_hold = (inr (inl (refl, refl)), no_old, no_first, no_star)

mark_ab : is_match (codes "ab") (codes "a?") ≡ true
unfolding matches piece_then byte_then some_ending tokens_from token_at
mark_ab = refl

b_ab : is_match (codes "ab") (codes "b") ≡ false
unfolding matches piece_then byte_then some_ending tokens_from token_at
b_ab = refl

other_device : Shows old_side new_side (codes "a?", codes "ac") → ⊥
other_device shows = shows.differs same_ac

other_pattern : Shows old_side new_side (codes "b", codes "ab") → ⊥
other_pattern shows = absurd (let clash : true ≡ false = sym shows.matched ∙ b_ab in cc)

pub shown_rows_hold : ShownRows
shown_rows_hold = (record { matched = mark_ab; differs = differs }, other_device, other_pattern)

pub text_rows_hold : TextRows
unfolding tokens_from token_at bracket_at items_from item_at classes usual
text_rows_hold = (refl, refl)

pub apart_rows_hold : ApartRows
unfolding apart
apart_rows_hold = refl

pub cover_rows_hold : CoverRows
unfolding tokens_from token_at bracket_at items_from item_at classes within some_end
cover_rows_hold = (refl, refl, refl, refl)

pub near_rows_hold : NearRows
unfolding apart
near_rows_hold = refl

pub agree_rows_hold : AgreeRows
unfolding tokens_from token_at within some_end counted_from same_rules
agree_rows_hold = (refl, refl, refl, refl)

pub changed_rows_hold : ChangedRows
unfolding last_from moved put put_all
changed_rows_hold = (refl, refl, refl, refl, refl)

pub found_rows_hold : FoundRows
unfolding last_from moved put put_all apart tokens_from token_at within some_end counted_from same_rules matches piece_then byte_then some_ending after_rules usual byte_texts many_texts counted_texts either_texts end_texts field_texts fields_texts fixed_texts no_texts pieces_texts text_among all_bytes_from known free_prefixes
found_rows_hold = (refl, refl, refl, refl)

pub asked_rows_hold : AskedRows
unfolding last_from moved put put_all apart tokens_from token_at within some_end counted_from same_rules matches piece_then byte_then some_ending after_rules usual byte_texts many_texts counted_texts either_texts end_texts field_texts fields_texts fixed_texts no_texts pieces_texts text_among all_bytes_from known free_prefixes
asked_rows_hold = (refl, refl)

pub keyed_rows_hold : KeyedRows
unfolding last_from moved put put_all apart tokens_from token_at within some_end counted_from same_rules matches piece_then byte_then some_ending after_rules usual byte_texts many_texts counted_texts either_texts end_texts field_texts fields_texts fixed_texts no_texts pieces_texts text_among all_bytes_from known free_prefixes
keyed_rows_hold = refl

-- ---- all keys

pub turn_rows_hold : TurnRows
unfolding last_of_each put_all put assignment_cmp position_cmp
turn_rows_hold = refl

pub property_rows_hold : PropertyRows
unfolding last_of_each put_all put assignment_cmp position_cmp last_assignments last_matching is_after effective_of last_value matches piece_then byte_then some_ending tokens_from token_at
property_rows_hold = refl

pub value_rows_hold : ValueRows
unfolding last_of_each put_all put assignment_cmp position_cmp last_assignments last_matching is_after effective_of last_value matches piece_then byte_then some_ending tokens_from token_at
value_rows_hold = refl

pub key_rule_rows_hold : KeyRuleRows
unfolding last_of_each put_all put assignment_cmp position_cmp
key_rule_rows_hold = (refl, refl)
