-- Bytes that come in pieces, and records.
use Rattle.std.proofs.Common.{◌≡◌, ◌∙◌, ◌++◌, ◌-◌, ◌==◌, ◌∷◌, [], List, None, Option, Some, ap, append_assoc, append-nil, arith, cond, length, refl, suc, sym, take, true, false, zero, ℕ}
use Rattle.std.proofs.Math.Nat.{sub-zero}
use Rattle.std.proofs.Math.Seq.{take-nil}
use Rattle.std.specs.Prelude.{if◌then◌else◌}
use Rattle.hwdb_spec_commands.specs.Scans.{Event, code_after, counted, event_of, is_press, lines_from, lines_of, pressed_line, records_after, scan_text}
use Rattle.hwdb_scan.specs.Laws.{AtOnce, InPieces}
use Rattle.hwdb_scan.specs.Views.{Scanning, after_byte, after_bytes, after_event, byte_text, bytes_text, fewer, joined, start, told_lines}

-- what is held
pub held : (s : Scanning) (one other : List ℕ) → after_bytes s (one ++ other) ≡ after_bytes (after_bytes s one) other
unfolding after_bytes
held s [] other = refl
held s (b ∷ more) other = held (after_byte s b) more other

-- what is added
pub added : (s : Scanning) (one other : List ℕ) → bytes_text s (one ++ other) ≡ bytes_text s one ++ bytes_text (after_bytes s one) other
unfolding after_bytes bytes_text
added s [] other = refl
added s (b ∷ more) other =
    ap (λ (t : List ℕ). byte_text s b ++ t) (added (after_byte s b) more other)
    ∙ sym (append_assoc (byte_text s b) (bytes_text (after_byte s b) more) (bytes_text (after_bytes (after_byte s b) more) other))

pub in_pieces : (s : Scanning) (one other : List ℕ) → InPieces s one other
in_pieces s one other = record { text = added s one other; held = held s one other }

-- ---- at once

-- lines as one text, one more at the front
split_one : (wanted : Option ℕ) (line : List ℕ) (more : List (List ℕ)) → joined (counted wanted (line ∷ more)) ≡ joined (counted wanted (line ∷ [])) ++ joined (counted (fewer wanted 1) more)
split_one None line more = ap (λ (t : List ℕ). t ++ joined more) (sym (append-nil line))
split_one (Some zero) line more = refl
split_one (Some (suc n)) line more =
    let less : n ≡ suc n - 1 = omega arith in
    ap (λ (m : ℕ). line ++ joined (take m more)) less
    ∙ ap (λ (t : List ℕ). t ++ joined (take (suc n - 1) more)) (sym (append-nil line) ∙ ap (λ (l : List (List ℕ)). line ++ joined l) (sym (take-nil n)))

-- none more
split_none : (wanted : Option ℕ) (more : List (List ℕ)) → joined (counted wanted more) ≡ joined (counted wanted []) ++ joined (counted (fewer wanted 0) more)
split_none None more = refl
split_none (Some n) more = ap (λ (m : ℕ). joined (take m more)) (sym (sub-zero n)) ∙ ap (λ (l : List (List ℕ)). joined l ++ joined (take (n - 0) more)) (sym (take-nil n))

-- the lines of an event come first, as many as are asked for
split : (wanted known : Option ℕ) (e : Event) (more : List (List ℕ))
    → joined (counted wanted (lines_of known e ++ more)) ≡ joined (counted wanted (lines_of known e)) ++ joined (counted (fewer wanted (length (lines_of known e))) more)
split wanted known e more =
    elim (is_press e) as (λ b.
    let lines = if b then pressed_line known e.code ∷ [] else [] in
    joined (counted wanted (lines ++ more)) ≡ joined (counted wanted lines) ++ joined (counted (fewer wanted (length lines)) more)) [
      | true ↦ split_one wanted (pressed_line known e.code) more
      | false ↦ split_none wanted more
    ]

-- what is printed of no lines
nothing : (wanted : Option ℕ) → [] ≡ joined (counted wanted [])
nothing None = refl
nothing (Some n) = ap joined (sym (take-nil n))

-- what is added is what is printed of the records
pub told : (s : Scanning) (bytes : List ℕ) → bytes_text s bytes ≡ joined (counted s.wanted (lines_from s.known (records_after s.begun bytes)))
unfolding bytes_text records_after lines_from
told s [] = nothing s.wanted
told s (b ∷ more) =
    let e = event_of (s.begun ++ b ∷ []) in
    elim (length s.begun == 23) as (λ last.
    (if last then joined (told_lines s e) else []) ++ bytes_text (if last then after_event s e else record s { begun = s.begun ++ b ∷ [] }) more
    ≡ joined (counted s.wanted (lines_from s.known (if last then (s.begun ++ b ∷ []) ∷ records_after [] more else records_after (s.begun ++ b ∷ []) more)))) [
      | true ↦ ap (λ (t : List ℕ). joined (told_lines s e) ++ t) (told (after_event s e) more) ∙ sym (split s.wanted s.known e (lines_from (code_after s.known e) (records_after [] more)))
      | false ↦ told (record s { begun = s.begun ++ b ∷ [] }) more
    ]

pub at_once : AtOnce
unfolding scan_text
at_once count bytes = told (start count) bytes

-- ---- texts

-- a line of five pieces, with a byte between the first, the third and the last
pub five : (b : ℕ) (code name rest t0 t1 t2 t3 t4 t5 : List ℕ) → t1 ≡ t0 ++ code → t2 ≡ t1 ++ b ∷ [] → t3 ≡ t2 ++ name → t4 ≡ t3 ++ b ∷ [] → t5 ≡ t4 ++ rest
    → t5 ≡ t0 ++ (code ++ b ∷ (name ++ b ∷ rest))
five b code name rest t0 t1 t2 t3 t4 t5 h1 h2 h3 h4 h5 =
    h5
    ∙ ap (λ (l : List ℕ). l ++ rest) (h4 ∙ ap (λ (l : List ℕ). l ++ b ∷ []) (h3 ∙ ap (λ (l : List ℕ). l ++ name) (h2 ∙ ap (λ (l : List ℕ). l ++ b ∷ []) h1)))
    ∙ append_assoc (((t0 ++ code) ++ b ∷ []) ++ name) (b ∷ []) rest
    ∙ append_assoc ((t0 ++ code) ++ b ∷ []) name (b ∷ rest)
    ∙ append_assoc (t0 ++ code) (b ∷ []) (name ++ b ∷ rest)
    ∙ append_assoc t0 code (b ∷ (name ++ b ∷ rest))
