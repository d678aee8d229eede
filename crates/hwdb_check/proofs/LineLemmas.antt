-- A file, seen from the beginning of a line.
use Rattle.std.proofs.Common.{◌≡◌, ℕ, ◌+◌, ◌<◌, ◌≤◌, ◌⊎◌, ⊎_elim, List, [], ◌∷◌, take, drop, length, refl, ap, ◌∙◌, sym, arith, ne_eqb, eq-eqb}
use Rattle.std.proofs.lemmas.List.{length-drop}
use Rattle.std.specs.List.{position_or_len}
use Rattle.hwdb_spec.specs.Lines.{is, lines, numbered, pieces}
use Rattle.hwdb_spec_commands.specs.Reports.{text_of_line}
use Rattle.hwdb_check.specs.Internal.{IsStart}
use Rattle.hwdb_check.specs.declared.line_texts.LineStart.{LineStart}
use Rattle.hwdb_check.specs.Lemmas.Pieces.{line_at, no_line_at}

text_later : (ps : List (List ℕ)) (p : List ℕ) (number line : ℕ) → number < line → text_of_line (numbered number (p ∷ ps)) line ≡ text_of_line (numbered (number + 1) ps) line
unfolding numbered
text_later ps p number line h = rw (ne_eqb number line (λ e. omega (arith, e))) refl

text_here : (ps : List (List ℕ)) (p : List ℕ) (number : ℕ) → text_of_line (numbered number (p ∷ ps)) number ≡ p
unfolding numbered
text_here ps p number = rw (eq-eqb number number refl) refl

no_text : (number line : ℕ) → text_of_line (numbered number []) line ≡ []
unfolding numbered
no_text number line = refl

-- no line is numbered lower than the first
text_before : (ps : List (List ℕ)) (number line : ℕ) → line < number → text_of_line (numbered number ps) line ≡ []
unfolding numbered
text_before [] number line h = refl
text_before (p ∷ ps) number line h = rw (ne_eqb number line (λ e. omega (arith, e))) (text_before ps (number + 1) line (omega arith))

pub no_line_0 : (file : List ℕ) → text_of_line (lines file) 0 ≡ []
no_line_0 file = text_before (pieces (is 10) file) 1 0 (omega arith)

-- from the next line on
pub next_is_start : (file : List ℕ) (s : LineStart) (end : ℕ) (rest : List ℕ) → s.at < length file → rest ≡ drop s.at file → end ≡ position_or_len (is 10) rest → end ≤ length rest
    → IsStart file s → IsStart file (record { number = s.number + 1; at = s.at + end + 1 })
next_is_start file s end rest h r e within starts = record {
  within = omega (arith, ap length r, length-drop s.at file, within, h);
  same = λ line after.
      starts.same line (omega (arith, after))
      ∙ ap (λ ps. text_of_line (numbered s.number ps) line) (line_at file s.at end rest h r e)
      ∙ text_later (pieces (is 10) (drop (s.at + end + 1) file)) (take end rest) s.number line (omega (arith, after));
}

-- the text of the line that begins there
pub text_at_start : (file : List ℕ) (s : LineStart) (end line : ℕ) (rest : List ℕ) → s.at < length file → rest ≡ drop s.at file → end ≡ position_or_len (is 10) rest
    → IsStart file s → (s.number ≡ line) ⊎ (length file ≤ s.at) → take end rest ≡ text_of_line (lines file) line
text_at_start file s end line rest h r e starts found =
    ⊎_elim (λ (here : s.number ≡ line).
    sym (text_here (pieces (is 10) (drop (s.at + end + 1) file)) (take end rest) s.number)
    ∙ sym (ap (λ ps. text_of_line (numbered s.number ps) s.number) (line_at file s.at end rest h r e))
    ∙ sym (starts.same s.number (omega arith))
    ∙ ap (λ n. text_of_line (lines file) n) here)
    (λ (over : length file ≤ s.at). absurd (omega (arith, over, h))) found

-- nothing at the end
pub text_at_end : (file : List ℕ) (s : LineStart) (line : ℕ) → length file ≤ s.at → s.number ≤ line → IsStart file s → [] ≡ text_of_line (lines file) line
text_at_end file s line over before starts =
    sym (starts.same line before ∙ ap (λ ps. text_of_line (numbered s.number ps) line) (no_line_at file s.at over) ∙ no_text s.number line)
