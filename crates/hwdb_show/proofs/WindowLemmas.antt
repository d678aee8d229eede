-- What is shown of a line, and where the mark below it is.
use Rattle.std.proofs.Common.{◌≡◌, ℕ, zero, suc, ◌<◌, ◌≤◌, ◌+◌, ◌-◌, ◌∙◌, Bool, true, false, cond, nat_lt, List, [], ◌∷◌, ◌++◌, take, drop, length, get_or, refl, sym, ap, arith, append_assoc, codes}
use Rattle.std.proofs.lemmas.Bool.{lt-ltb, le-ltb, ltb-false, ltb-true}
use Rattle.std.proofs.lemmas.List.{get_or-drop, get_or-take, length-drop, length-take, take_all}
use Rattle.std.proofs.lemmas.Grind.{flat_map-append}
use Rattle.hwdb_spec.specs.Lines.{byte}
use Rattle.hwdb_spec_commands.specs.Reports.{above_mark, back_cut, front_cut, shown, shown_byte, window, window_start}
use Rattle.hwdb_show.specs.Laws.{FittingIsWhole, FrontIsShown, MarkIsAtEnd, MarkIsBelowByte, WindowRow}

pub window_row : WindowRow
window_row = refl

-- ---- where what is shown begins
-- the same, over the two tests
abbrev start_by : (long front : Bool) (at : ℕ) → ℕ
start_by long front at = cond long (cond front 0 (at - 80)) 0

pub fits : (text : List ℕ) (at : ℕ) → length text ≤ 160 → window_start text at ≡ 0
fits text at h = ap (λ (b : Bool). start_by b (nat_lt at 160) at) (le-ltb 160 (length text) h)

none_by : (long : Bool) (at : ℕ) → start_by long true at ≡ 0
none_by true at = refl
none_by false at = refl

pub at_front : (text : List ℕ) (at : ℕ) → at < 160 → window_start text at ≡ 0
at_front text at h = ap (λ (b : Bool). start_by (nat_lt 160 (length text)) b at) (lt-ltb at 160 h) ∙ none_by (nat_lt 160 (length text)) at

pub far : (text : List ℕ) (at : ℕ) → 160 < length text → 160 ≤ at → window_start text at ≡ at - 80
far text at l h =
    ap (λ (b : Bool). start_by b (nat_lt at 160) at) (lt-ltb 160 (length text) l) ∙ ap (λ (b : Bool). start_by true b at) (le-ltb at 160 h)

-- it is at most so many bytes before the place, and not after it
abbrev pub IsNear : (text : List ℕ) (at : ℕ) → Type 0
IsNear text at = (window_start text at ≤ at) × (at - window_start text at < 160)

near_by : (text : List ℕ) (at : ℕ) (long front : Bool) → nat_lt 160 (length text) ≡ long → nat_lt at 160 ≡ front → at < length text → IsNear text at
near_by text at false front e f h = let z = fits text at (ltb-false 160 (length text) e) in (omega (arith, z), omega (arith, z, h, ltb-false 160 (length text) e))
near_by text at true true e f h = let z = at_front text at (ltb-true at 160 f) in (omega (arith, z), omega (arith, z, ltb-true at 160 f))
near_by text at true false e f h = let z = far text at (ltb-true 160 (length text) e) (ltb-false at 160 f) in (omega (arith, z), omega (arith, z, ltb-false at 160 f))

near : (text : List ℕ) (at : ℕ) → at < length text → IsNear text at
near text at = near_by text at (nat_lt 160 (length text)) (nat_lt at 160) refl refl

-- ---- the byte of the place
split_at : (w : List ℕ) (k : ℕ) → k < length w → w ≡ take k w ++ (get_or w k 0 ∷ drop (suc k) w)
split_at [] k h = absurd (omega (arith, h))
split_at (b ∷ w) zero h = refl
split_at (b ∷ w) (suc k) h = ap (λ (l : List ℕ). b ∷ l) (split_at w k (omega (arith, h)))

shown_at : (w : List ℕ) (k : ℕ) → k < length w → shown w ≡ shown (take k w) ++ (shown_byte (get_or w k 0) ++ shown (drop (suc k) w))
shown_at w k h = ap shown (split_at w k h) ∙ flat_map-append shown_byte (take k w) (get_or w k 0 ∷ drop (suc k) w)

regroup : (a b c d t : List ℕ) → a ++ ((b ++ (c ++ d)) ++ t) ≡ (a ++ b) ++ (c ++ (d ++ t))
regroup a b c d t =
    ap (λ (l : List ℕ). a ++ l) (append_assoc b (c ++ d) t ∙ ap (λ (l : List ℕ). b ++ l) (append_assoc c d t)) ∙ sym (append_assoc a b (c ++ (d ++ t)))

in_window : (text : List ℕ) (at : ℕ) → at < length text → at - window_start text at < length (window text at)
in_window text at h =
    let n = near text at h in
    omega (arith, n, h, length-take 160 (drop (window_start text at) text), length-drop (window_start text at) text)

byte_there : (text : List ℕ) (at : ℕ) → at < length text → get_or (window text at) (at - window_start text at) 0 ≡ get_or text at 0
byte_there text at h =
    let n = near text at h in
    get_or-take 160 (drop (window_start text at) text) (at - window_start text at) 0 n.1
    ∙ get_or-drop (window_start text at) text (at - window_start text at) 0
    ∙ ap (λ (i : ℕ). get_or text i 0) (omega (arith, n.0))

pub below_byte : MarkIsBelowByte
below_byte text at h =
    let k = at - window_start text at in
    let w = window text at in
    let rest = back_cut text at ++ byte "\n" ∷ [] in (
      codes "    " ++ above_mark text at,
      shown (drop (suc k) w) ++ rest,
      ap (λ (l : List ℕ). codes "    " ++ (front_cut text at ++ (l ++ rest))) (shown_at w k (in_window text at h))
          ∙ ap (λ (l : List ℕ). codes "    " ++ l) (regroup (front_cut text at) (shown (take k w)) (shown_byte (get_or w k 0)) (shown (drop (suc k) w)) rest)
          ∙ ap (λ (b : ℕ). (codes "    " ++ above_mark text at) ++ (shown_byte b ++ (shown (drop (suc k) w) ++ rest))) (byte_there text at h),
      refl,
    )

-- ---- a line that is shown whole
fit_window : (text : List ℕ) (at : ℕ) → length text ≤ 160 → window text at ≡ text
fit_window text at h = ap (λ (s : ℕ). take 160 (drop s text)) (fits text at h) ∙ take_all 160 text h

no_front : (text : List ℕ) (at : ℕ) → window_start text at ≡ 0 → front_cut text at ≡ []
no_front text at z = ap (λ (s : ℕ). cond (nat_lt 0 s) (codes "...") []) z

no_back : (text : List ℕ) (at : ℕ) → length text ≤ window_start text at + 160 → back_cut text at ≡ []
no_back text at h = ap (λ (b : Bool). cond b (codes "...") []) (le-ltb (window_start text at + 160) (length text) h)

pub whole : FittingIsWhole
whole text at h =
    let z = fits text at h in
    ap (λ (l : List ℕ). codes "    " ++ (l ++ (shown (window text at) ++ (back_cut text at ++ byte "\n" ∷ [])))) (no_front text at z)
    ∙ ap (λ (l : List ℕ). codes "    " ++ (shown l ++ (back_cut text at ++ byte "\n" ∷ []))) (fit_window text at h)
    ∙ ap (λ (l : List ℕ). codes "    " ++ (shown text ++ (l ++ byte "\n" ∷ []))) (no_back text at (omega (arith, h)))

-- ---- a line of which the front is shown
pub front_shown : FrontIsShown
front_shown text at l h =
    let z = at_front text at h in
    ap (λ (c : List ℕ). codes "    " ++ (c ++ (shown (window text at) ++ (back_cut text at ++ byte "\n" ∷ [])))) (no_front text at z)
    ∙ ap (λ (s : ℕ). codes "    " ++ (shown (take 160 (drop s text)) ++ (cond (nat_lt (s + 160) (length text)) (codes "...") [] ++ byte "\n" ∷ []))) z
    ∙ ap (λ (b : Bool). codes "    " ++ (shown (take 160 text) ++ (cond b (codes "...") [] ++ byte "\n" ∷ []))) (lt-ltb 160 (length text) l)

-- ---- a place at the end
all_above : (text : List ℕ) (at : ℕ) → length (window text at) ≤ at - window_start text at → take (at - window_start text at) (window text at) ≡ window text at
all_above text at h = take_all (at - window_start text at) (window text at) h

end_by : (text : List ℕ) (long : Bool) → nat_lt 160 (length text) ≡ long
    → (length (window text (length text)) ≤ length text - window_start text (length text)) × (length text ≤ window_start text (length text) + 160)
end_by text false e =
    let h = ltb-false 160 (length text) e in
    let z = fits text (length text) h in
    (omega (arith, z, ap (λ (l : List ℕ). length l) (fit_window text (length text) h)), omega (arith, z, h))
end_by text true e =
    let h = ltb-true 160 (length text) e in
    let z = far text (length text) h (omega (arith, h)) in
    (omega (arith, z, h, length-take 160 (drop (window_start text (length text)) text), length-drop (window_start text (length text)) text), omega (arith, z, h))

pub at_end : MarkIsAtEnd
at_end text =
    let at = length text in
    let e = end_by text (nat_lt 160 (length text)) refl in (
      codes "    " ++ above_mark text at,
      ap (λ (l : List ℕ). codes "    " ++ (front_cut text at ++ (shown (window text at) ++ (l ++ byte "\n" ∷ [])))) (no_back text at e.1)
          ∙ ap (λ (l : List ℕ). codes "    " ++ (front_cut text at ++ (shown l ++ byte "\n" ∷ []))) (sym (all_above text at e.0))
          ∙ ap (λ (l : List ℕ). codes "    " ++ l) (sym (append_assoc (front_cut text at) (shown (take (at - window_start text at) (window text at))) (byte "\n" ∷ []))),
      refl,
    )
