-- A file, line by line.
use Rattle.std.proofs.Common.{◌≡◌, ℕ, ◌+◌, List, [], ◌∷◌, length, ap, ◌∙◌, sym, subst, zero-add}
use Rattle.hwdb_text.specs.declared.records.Reader.{Reader}
use Rattle.hwdb_spec.specs.Lines.{Line, is, lines, pieces, numbered}
use Rattle.hwdb_text.specs.Internal.Contents.{line}
use Rattle.hwdb_spec.specs.Records.{Origin}
use Rattle.hwdb_text.specs.Internal.Reading.{Reads}
use Rattle.hwdb_text.proofs.ByteLemmas.{count_lines, number_step, no_pieces, no_numbers}

-- no line of nothing is left
pub none_left : (bytes : List ℕ) (left : List (List ℕ)) → left ≡ pieces (is 10) bytes → bytes ≡ [] → left ≡ []
none_left bytes left all none = all ∙ ap (pieces (is 10)) none ∙ no_pieces

-- how many lines there are, before the first one
pub first_count : (bytes : List ℕ) (left : List (List ℕ)) → left ≡ pieces (is 10) bytes → 0 + length left ≡ length (lines bytes)
first_count bytes left all = zero-add (length left) ∙ ap length all ∙ sym (count_lines 1 (pieces (is 10) bytes))

-- before the first line all lines are to come
pub first_reads : (o : Origin) (bytes : List ℕ) (left : List (List ℕ)) (r : Reader) → left ≡ pieces (is 10) bytes
    → Reads o (lines bytes) (lines bytes) r → Reads o (lines bytes) (numbered 1 left) r
first_reads o bytes left r all k =
    let P : List (List ℕ) → Type 0 = λ ps. Reads o (lines bytes) (numbered 1 ps) r in
    subst P (sym all) k

-- a line was read
pub next_reads : (o : Origin) (whole : List Line) (number next : ℕ) (text : List ℕ) (left rest : List (List ℕ)) (r s : Reader) → left ≡ text ∷ rest → next ≡ number + 1
    → ((whole rest : List Line) → Reads o whole (line next text ∷ rest) r → Reads o whole rest s)
    → Reads o whole (numbered (number + 1) left) r → Reads o whole (numbered (next + 1) rest) s
next_reads o whole number next text left rest r s e n step k =
    let P : List Line → Type 0 = λ ls. Reads o whole ls r in
    step whole (numbered (next + 1) rest)
    (subst P (ap (numbered (number + 1)) e ∙ ap (λ (m : ℕ). numbered m (text ∷ rest)) (sym n) ∙ number_step next text rest) k)

-- no line is left
pub end_reads : (o : Origin) (whole : List Line) (n : ℕ) (left : List (List ℕ)) (r : Reader) → left ≡ [] → Reads o whole (numbered n left) r → Reads o whole [] r
end_reads o whole n left r e k =
    let P : List Line → Type 0 = λ ls. Reads o whole ls r in
    subst P (ap (numbered n) e ∙ no_numbers n) k
