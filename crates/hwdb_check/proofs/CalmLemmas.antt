-- Lines of which none is directly below another match line.
use Rattle.std.proofs.Common.{◌≡◌, ℕ, ◌+◌, ◌==◌, Bool, true, false, not, List, [], ◌∷◌, refl, ap, ◌∙◌, sym, cond, subst, suc, take, arith, eq-eqb, eqb-true, get_or, length, ne_eqb}
use Rattle.std.specs.List.{list_any, prefix_len}
use Rattle.std.specs.Prelude.{if◌then◌else◌}
use Rattle.std.specs.BTreeSet.{BTreeSet}
use Rattle.hwdb_spec.specs.Lines.{Line, begins_with, clean, clean_line, has, is, is_blank, is_match, is_none, numbered, pieces, trimmed}
use Rattle.hwdb_spec_commands.specs.Warnings.{repeated_from, repeated_lines}
use Rattle.hwdb_check.specs.Internal.{IsSetOf, calm, line_of}
use Rattle.hwdb_check.specs.Lemmas.Lines.{cleaned}
use Rattle.hwdb_check.proofs.RepeatLemmas.{commented, match_first, no_numbers, other_first, zeroed}

by_both : (A : Type 0) (b : Bool) → (b ≡ true → A) → (b ≡ false → A) → A
by_both A true f g = f refl
by_both A false f g = g refl

tell : (c x y : Bool) → (if c then x else y) ≡ true → (c ≡ true → x ≡ true) × (c ≡ false → y ≡ true)
tell true x y e = (λ h. e, λ h. cc)
tell false x y e = (λ h. cc, λ h. e)

-- a line that begins with a space is no match line
spaced : (x : ℕ) (after : List ℕ) → (x == 32) ≡ true → (if is_none (trimmed (x ∷ after)) then false else not (begins_with 32 (trimmed (x ∷ after)))) ≡ false
unfolding trimmed
spaced x after f = by (if is_none (trimmed after) then is_blank x else false)
  where
    by : (gone : Bool) → (if is_none (if gone then [] else x ∷ trimmed after) then false else not (begins_with 32 (if gone then [] else x ∷ trimmed after))) ≡ false
    by true = refl
    by false = ap not f

cut_first : (comment : Bool) (k x : ℕ) (t : List ℕ) → comment ≡ false → take (cond (not comment) (1 + k) 0) (x ∷ t) ≡ x ∷ take k t
cut_first true k x t e = cc
cut_first false k x t e = let one : 1 + k ≡ suc k = omega arith in ap (λ (n : ℕ). take n (x ∷ t)) one

no_match : (number x : ℕ) (t : List ℕ) → (x == 35) ≡ false → (x == 32) ≡ true → is_match (clean_line (line_of number (x ∷ t))) ≡ false
no_match number x t e f =
    let size : ℕ = prefix_len (λ b. not (is 35 b)) t in
    subst (λ (l : List ℕ). (if is_none (trimmed l) then false else not (begins_with 32 (trimmed l))) ≡ false) (sym (cut_first (x == 35) size x t e)) (spaced x (take size t) f)

empty_passed : (above : List (List ℕ)) (n : ℕ) (more : List Line) → repeated_from above (clean (line_of n [] ∷ more)) ≡ repeated_from [] (clean more)
unfolding repeated_from trimmed
empty_passed above n more = refl

-- no line is below a match line, if none is after these
pub calm_none : (after : Bool) (above : List (List ℕ)) (n : ℕ) (texts : List (List ℕ)) → (after ≡ false → above ≡ []) → calm after texts ≡ true → repeated_from above (clean (numbered n texts)) ≡ []
unfolding calm repeated_from numbered
calm_none after above n [] h e = refl
calm_none after above n ([] ∷ more) h e = empty_passed above n (numbered (n + 1) more) ∙ calm_none false [] (n + 1) more (λ f. refl) e
calm_none after above n ((x ∷ t) ∷ more) h e =
    let line : Line = line_of n (x ∷ t) in
    let rest : List Line = numbered (n + 1) more in
    let first : ((x == 35) ≡ true → calm after more ≡ true)
    × ((x == 35) ≡ false → (if x == 32 then (if has 0 (x ∷ t) then false else calm false more) else (if after then false else calm true more)) ≡ true) =
    tell (x == 35) _ _ e in
    by_both _ (x == 35)
    (λ comment. ap (repeated_from above) (commented n (x ∷ t) rest comment) ∙ calm_none after above (n + 1) more h (first.0 comment))
    (λ plain.
    let second : ((x == 32) ≡ true → (if has 0 (x ∷ t) then false else calm false more) ≡ true) × ((x == 32) ≡ false → (if after then false else calm true more) ≡ true) =
    tell (x == 32) _ _ (first.1 plain) in
    by_both _ (x == 32)
    (λ space.
    let third : (has 0 (x ∷ t) ≡ true → false ≡ true) × (has 0 (x ∷ t) ≡ false → calm false more ≡ true) = tell (has 0 (x ∷ t)) false (calm false more) (second.0 space) in
    by_both _ (has 0 (x ∷ t))
    (λ zero. let no : false ≡ true = third.0 zero in cc)
    (λ whole.
    ap (repeated_from above) (cleaned n (x ∷ t) rest plain whole)
    ∙ other_first above (clean_line line) (clean rest) (no_match n x t plain space)
    ∙ calm_none false [] (n + 1) more (λ f. refl) (third.1 whole)))
    (λ other.
    let fourth : (after ≡ true → false ≡ true) × (after ≡ false → calm true more ≡ true) = tell after false (calm true more) (second.1 other) in
    by_both _ after
    (λ yes. let no : false ≡ true = fourth.0 yes in cc)
    (λ not_after.
    ap (λ (l : List (List ℕ)). repeated_from l (clean (line ∷ rest))) (h not_after)
    ∙ by_both _ (has 0 (x ∷ t))
    (λ zero. ap (repeated_from []) (zeroed n (x ∷ t) rest zero) ∙ calm_none true [] (n + 1) more (λ f. cc) (fourth.1 not_after))
    (λ whole.
    ap (repeated_from []) (cleaned n (x ∷ t) rest plain whole)
    ∙ by_both _ (is_match (clean_line line))
    (λ matched. match_first [] (clean_line line) (clean rest) matched ∙ calm_none true ((clean_line line).text ∷ []) (n + 1) more (λ f. cc) (fourth.1 not_after))
    (λ unmatched. other_first [] (clean_line line) (clean rest) unmatched ∙ calm_none true [] (n + 1) more (λ f. cc) (fourth.1 not_after))))))

pub file_calm : (file : List ℕ) → calm false (pieces (is 10) file) ≡ true → repeated_lines file ≡ []
file_calm file e = calm_none false [] 1 (pieces (is 10) file) (λ f. refl) e

pub none_left : (after : Bool) (left : List (List ℕ)) (whole : Bool) → left ≡ [] → calm after left ≡ whole → whole ≡ true
unfolding calm
none_left after left whole e w = sym (ap (calm after) (sym e) ∙ w)

pub calm_set : (file : List ℕ) (set : BTreeSet ℕ) → repeated_lines file ≡ [] → set.keys ≡ [] → IsSetOf (repeated_lines file) set
calm_set file set e k = λ n. no_numbers set k n ∙ ap (list_any (is n)) (sym e)

-- what is said after one line
if_yes : (c x y : Bool) → c ≡ true → x ≡ (if c then x else y)
if_yes true x y e = refl
if_yes false x y e = cc

if_no : (c x y : Bool) → c ≡ false → y ≡ (if c then x else y)
if_no true x y e = cc
if_no false x y e = refl

pub calm_empty : (after : Bool) (text : List ℕ) (more : List (List ℕ)) → true ≡ (length text == 0) → calm false more ≡ calm after (text ∷ more)
unfolding calm
calm_empty after [] more e = refl
calm_empty after (x ∷ t) more e = absurd (let none : suc (length t) ≡ 0 = eqb-true (suc (length t)) 0 (sym e) in omega (arith, none))

pub calm_comment : (after : Bool) (text : List ℕ) (more : List (List ℕ)) → false ≡ (length text == 0) → get_or text 0 0 ≡ 35 → calm after more ≡ calm after (text ∷ more)
unfolding calm
calm_comment after [] more e c = cc
calm_comment after (x ∷ t) more e c = if_yes (x == 35) _ _ (eq-eqb x 35 c)

pub calm_spoilt : (after : Bool) (text : List ℕ) (more : List (List ℕ)) → false ≡ (length text == 0) → (get_or text 0 0 ≡ 35 → ⊥) → get_or text 0 0 ≡ 32 → has 0 text ≡ true → false ≡ calm after (text ∷ more)
unfolding calm
calm_spoilt after [] more e c s z = cc
calm_spoilt after (x ∷ t) more e c s z = if_yes (has 0 (x ∷ t)) _ _ z ∙ if_yes (x == 32) _ _ (eq-eqb x 32 s) ∙ if_no (x == 35) _ _ (ne_eqb x 35 c)

pub calm_property : (after : Bool) (text : List ℕ) (more : List (List ℕ)) → false ≡ (length text == 0) → (get_or text 0 0 ≡ 35 → ⊥) → get_or text 0 0 ≡ 32 → has 0 text ≡ false → calm false more ≡ calm after (text ∷ more)
unfolding calm
calm_property after [] more e c s z = cc
calm_property after (x ∷ t) more e c s z = if_no (has 0 (x ∷ t)) _ _ z ∙ if_yes (x == 32) _ _ (eq-eqb x 32 s) ∙ if_no (x == 35) _ _ (ne_eqb x 35 c)

pub calm_below : (after : Bool) (text : List ℕ) (more : List (List ℕ)) → false ≡ (length text == 0) → (get_or text 0 0 ≡ 35 → ⊥) → (get_or text 0 0 ≡ 32 → ⊥) → after ≡ true → false ≡ calm after (text ∷ more)
unfolding calm
calm_below after [] more e c s a = cc
calm_below after (x ∷ t) more e c s a = if_yes after _ _ a ∙ if_no (x == 32) _ _ (ne_eqb x 32 s) ∙ if_no (x == 35) _ _ (ne_eqb x 35 c)

pub calm_match : (after : Bool) (text : List ℕ) (more : List (List ℕ)) → false ≡ (length text == 0) → (get_or text 0 0 ≡ 35 → ⊥) → (get_or text 0 0 ≡ 32 → ⊥) → after ≡ false → calm true more ≡ calm after (text ∷ more)
unfolding calm
calm_match after [] more e c s a = cc
calm_match after (x ∷ t) more e c s a = if_no after _ _ a ∙ if_no (x == 32) _ _ (ne_eqb x 32 s) ∙ if_no (x == 35) _ _ (ne_eqb x 35 c)
