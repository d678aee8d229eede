-- The report of a pattern, made of its parts.
use Rattle.std.proofs.Common.{◌≡◌, ◌∙◌, ap, ℕ, List, ◌++◌, codes, drop, take, append_assoc}
use Rattle.hwdb_spec.specs.Patterns.{tokens}
use Rattle.hwdb_spec.specs.Fronts.{Front}
use Rattle.hwdb_spec_commands.specs.Near.{PatternAt, case_text, marked, other_text, pattern_place, quoted, said_line, stop_of, stop_report, token_text, why_text}

pub near_written : (at : PatternAt) (device : List ℕ) (f : Front) (place : ℕ) (old one two three why : List ℕ) → f ≡ stop_of (tokens at.pattern) device → place ≡ pattern_place at.pattern f
    → why ≡ why_text at.pattern device f.bytes (drop place at.pattern) (drop f.bytes device) → one ≡ old ++ said_line at why → two ≡ one ++ marked at.pattern place → three ≡ two ++ marked device f.bytes
    → three ≡ old ++ stop_report device at (stop_of (tokens at.pattern) device)
near_written at device f place old one two three why f_is place_is why_is o t th =
    th ∙ ap (λ (l : List ℕ). l ++ marked device f.bytes) (t ∙ ap (λ (l : List ℕ). l ++ marked at.pattern place) o)
    ∙ append_assoc (old ++ said_line at why) (marked at.pattern place) (marked device f.bytes)
    ∙ append_assoc old (said_line at why) (marked at.pattern place ++ marked device f.bytes)
    ∙ ap (λ (w : List ℕ). old ++ (said_line at w ++ (marked at.pattern place ++ marked device f.bytes))) why_is
    ∙ ap (λ (p : ℕ). old ++ (said_line at (why_text at.pattern device f.bytes (drop p at.pattern) (drop f.bytes device)) ++ (marked at.pattern p ++ marked device f.bytes))) place_is
    ∙ ap (λ (g : Front). old ++ stop_report device at g) f_is

-- why a pattern stops at another byte, written in parts
pub other_written : (wanted left old one two three f t w : List ℕ) → one ≡ old ++ (codes "the device has " ++ (quoted f ++ codes ", the pattern ")) → two ≡ one ++ quoted t → three ≡ two ++ w
    → f ≡ take 1 left → t ≡ token_text wanted → w ≡ case_text wanted left → three ≡ old ++ other_text wanted left
other_written wanted left old one two three f t w o p q f_is t_is w_is =
    let begun = codes "the device has " in
    let middle = codes ", the pattern " in
    q ∙ ap (λ (l : List ℕ). l ++ w) (p ∙ ap (λ (l : List ℕ). l ++ quoted t) o)
    ∙ append_assoc (old ++ (begun ++ (quoted f ++ middle))) (quoted t) w
    ∙ append_assoc old (begun ++ (quoted f ++ middle)) (quoted t ++ w)
    ∙ ap (λ (l : List ℕ). old ++ l) (append_assoc begun (quoted f ++ middle) (quoted t ++ w) ∙ ap (λ (l : List ℕ). begun ++ l) (append_assoc (quoted f) middle (quoted t ++ w)))
    ∙ ap (λ (x : List ℕ). old ++ (begun ++ (quoted x ++ (middle ++ (quoted t ++ w))))) f_is
    ∙ ap (λ (x : List ℕ). old ++ (begun ++ (quoted (take 1 left) ++ (middle ++ (quoted x ++ w))))) t_is
    ∙ ap (λ (x : List ℕ). old ++ (begun ++ (quoted (take 1 left) ++ (middle ++ (quoted (token_text wanted) ++ x))))) w_is
