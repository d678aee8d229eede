-- What one more line does, at each stage of the reader.
use Rattle.std.proofs.Common.{◌≡◌, ℕ, true, List, [], ◌∷◌, ◌++◌, drop, map, refl, ap, ◌∙◌, sym, subst, Result, Ok, Err, append-nil, ◌<◌, ◌≤◌, length, arith}
use Rattle.std.specs.Result.{OnOk}
use Rattle.hwdb_spec.specs.declared.FaultKind.TheVariants.{StrayProperty, NoProperty, StrayMatch, LongMatch}
use Rattle.hwdb_text.specs.declared.records.Stage.{Stage}
use Rattle.hwdb_text.specs.declared.records.Stage.TheVariants.{Start, Matches, Properties}
use Rattle.hwdb_text.specs.declared.records.Reader.{Reader}
use Rattle.hwdb_spec.specs.Lines.{Line, clean, is_match, is_property}
use Rattle.hwdb_spec.specs.Records.{Origin, section_assignments, patterns, property_assignments, section_faults, spoilt_faults, long_faults, property_faults, fault}
use Rattle.hwdb_text.specs.Views.{given_in, text_of}
use Rattle.hwdb_text.specs.Internal.Reading.{AtStart, Closes, Holds, HoldsAt, Reads, gives}
use Rattle.hwdb_text.proofs.StepLemmas.{end_start, end_section, property_start, property_section, match_start, match_more, match_stray}
use Rattle.hwdb_text.proofs.SectionLemmas.{gives_none}

pub on_ok : {T E P Q : Type 0} (r : Result T E) → (P → Q) → OnOk r P → OnOk r Q
on_ok (Ok x) f p = f p
on_ok (Err e) f p = p

pub on_ok_both : {T E P Q S : Type 0} (r : Result T E) → (P → Q → S) → OnOk r P → OnOk r Q → OnOk r S
on_ok_both (Ok x) f p q = f p q
on_ok_both (Err e) f p q = p

at_stage : (o : Origin) (whole rest : List Line) (r : Reader) (g : Stage) → r.stage ≡ g → Holds o whole rest r → HoldsAt g o whole rest r
at_stage o whole rest r g e h = let P : Stage → Type 0 = λ k. HoldsAt k o whole rest r in subst P e h

from_stage : (o : Origin) (whole rest : List Line) (r : Reader) (g : Stage) → r.stage ≡ g → HoldsAt g o whole rest r → Holds o whole rest r
from_stage o whole rest r g e h = let P : Stage → Type 0 = λ k. HoldsAt k o whole rest r in subst P (sym e) h

pub end_matches : (o : Origin) (whole rest : List Line) (r s : Reader) → r.stage ≡ Matches → s.assignments ≡ r.assignments
    → s.faults.items ≡ r.faults.items ++ record { line = r.first; kind = NoProperty } ∷ [] → Closes rest → Holds o whole rest r → AtStart o whole (drop 1 rest) s
end_matches o whole rest r s e ea ef k h =
    let g = at_stage o whole rest r Matches e h in
    end_section o whole rest r s g.0 g.1 [] k g.2 ea (ef ∙ ap (λ (n : ℕ). r.faults.items ++ record { line = n; kind = NoProperty } ∷ []) (g.2).pending.first)

end_by : (g : Stage) (o : Origin) (whole rest : List Line) (r s : Reader) → (g ≡ Matches → ⊥) → s.assignments ≡ r.assignments
    → s.faults ≡ r.faults → Closes rest → HoldsAt g o whole rest r → AtStart o whole (drop 1 rest) s
end_by Start o whole rest r s n ea ef k h = end_start o whole rest r s k h ea ef
end_by Matches o whole rest r s n ea ef k h = absurd (n refl)
end_by Properties o whole rest r s n ea ef k h =
    end_section o whole rest r s h.0 h.1 (h.2 ∷ h.3) k h.4 ea (ap (λ a. a.items) ef ∙ sym (append-nil r.faults.items))

pub end_other : (o : Origin) (whole rest : List Line) (r s : Reader) → (r.stage ≡ Matches → ⊥) → s.assignments ≡ r.assignments
    → s.faults ≡ r.faults → Closes rest → Holds o whole rest r → AtStart o whole (drop 1 rest) s
end_other o whole rest r s n ea ef k h = end_by r.stage o whole rest r s n ea ef k h

pub held_stray_property : (o : Origin) (whole rest : List Line) (x : Line) (r s : Reader) → r.stage ≡ Start → s.stage ≡ Start → is_property x ≡ true
    → s.assignments ≡ r.assignments → s.faults.items ≡ r.faults.items ++ fault StrayProperty x ∷ [] → Holds o whole (x ∷ rest) r → Holds o whole rest s
held_stray_property o whole rest x r s e1 e2 p ea ef h =
    from_stage o whole rest s Start e2 (property_start o whole rest x r s p (at_stage o whole (x ∷ rest) r Start e1 h) ea ef)

property_by : (g : Stage) (o : Origin) (whole rest : List Line) (x : Line) (r s : Reader) → (g ≡ Start → ⊥) → is_property x ≡ true
    → s.first ≡ r.first → s.patterns ≡ r.patterns
    → map (given_in o) s.assignments.items ≡ map (given_in o) r.assignments.items ++ property_assignments o (map text_of r.patterns.items) x
    → s.faults.items ≡ r.faults.items ++ property_faults x → HoldsAt g o whole (x ∷ rest) r → HoldsAt Properties o whole rest s
property_by Start o whole rest x r s n p e1 ep ea ef h = absurd (n refl)
property_by Matches o whole rest x r s n p e1 ep ea ef h =
    (h.0, h.1, x, [], property_section o whole rest x r s h.0 h.1 [] p h.2 e1 ep ea ef)
property_by Properties o whole rest x r s n p e1 ep ea ef h =
    (h.0, h.1, h.2, h.3 ++ (x ∷ []), property_section o whole rest x r s h.0 h.1 (h.2 ∷ h.3) p h.4 e1 ep ea ef)

pub held_property : (o : Origin) (whole rest : List Line) (x : Line) (r s : Reader) → (r.stage ≡ Start → ⊥) → is_property x ≡ true
    → s.first ≡ r.first → s.patterns ≡ r.patterns
    → map (given_in o) s.assignments.items ≡ map (given_in o) r.assignments.items ++ property_assignments o (map text_of r.patterns.items) x
    → s.faults.items ≡ r.faults.items ++ property_faults x → Holds o whole (x ∷ rest) r → HoldsAt Properties o whole rest s
held_property o whole rest x r s n p e1 ep ea ef h = property_by r.stage o whole rest x r s n p e1 ep ea ef h

pub held_match_start : (o : Origin) (whole rest : List Line) (x : Line) (r s : Reader) → r.stage ≡ Start → is_match x ≡ true
    → s.first ≡ x.number → map text_of s.patterns.items ≡ patterns (x ∷ []) → s.assignments ≡ r.assignments
    → s.faults.items ≡ r.faults.items ++ long_faults x → Holds o whole (x ∷ rest) r → HoldsAt Matches o whole rest s
held_match_start o whole rest x r s e p e1 ep ea ef h =
    (x, [], match_start o whole rest x r s p (at_stage o whole (x ∷ rest) r Start e h) e1 ep ea ef)

pub held_match_more : (o : Origin) (whole rest : List Line) (x : Line) (r s : Reader) → r.stage ≡ Matches → s.stage ≡ Matches → is_match x ≡ true
    → s.first ≡ r.first → map text_of s.patterns.items ≡ map text_of r.patterns.items ++ patterns (x ∷ []) → s.assignments ≡ r.assignments
    → s.faults.items ≡ r.faults.items ++ long_faults x → Holds o whole (x ∷ rest) r → Holds o whole rest s
held_match_more o whole rest x r s e1 e2 p ef1 ep ea ef h =
    let g = at_stage o whole (x ∷ rest) r Matches e1 h in
    from_stage o whole rest s Matches e2 (g.0, g.1 ++ (x ∷ []), match_more o whole rest x r s g.0 g.1 p g.2 ef1 ep ea ef)

pub held_stray_match : (o : Origin) (whole rest : List Line) (x : Line) (r s : Reader) → r.stage ≡ Properties → is_match x ≡ true
    → s.assignments ≡ r.assignments → s.faults.items ≡ r.faults.items ++ (fault StrayMatch x ∷ long_faults x) → Holds o whole (x ∷ rest) r → HoldsAt Start o whole rest s
held_stray_match o whole rest x r s e p ea ef h =
    let g = at_stage o whole (x ∷ rest) r Properties e h in
    match_stray o whole rest x r s g.0 g.1 g.2 g.3 p g.4 ea ef

pub long_yes : (l : Line) → 4096 < length l.text → long_faults l ≡ fault LongMatch l ∷ []
long_yes l h = grind arith

pub long_no : (l : Line) → length l.text ≤ 4096 → long_faults l ≡ []
long_no l h = grind arith

-- after the last line
pub finished : (o : Origin) (whole : List Line) (r s : Reader) → Reads o whole [] r → s.spoilt ≡ r.spoilt
    → ((o : Origin) → (whole rest : List Line) → Closes rest → Holds o whole rest r → AtStart o whole (drop 1 rest) s)
    → (map (given_in o) s.assignments.items ≡ gives (section_assignments o) (clean whole)) × (s.spoilt.items ++ s.faults.items ≡ spoilt_faults whole ++ gives section_faults (clean whole))
finished o whole r s h es closed =
    let g = closed o (clean whole) [] tt h.clean in (
      sym (g.assignments ∙ ap (λ k. map (given_in o) s.assignments.items ++ k) (gives_none (section_assignments o)) ∙ append-nil (map (given_in o) s.assignments.items)),
      ap (λ k. k ++ s.faults.items) (ap (λ a. a.items) es ∙ sym (h.spoilt ∙ append-nil r.spoilt.items))
          ∙ ap (λ k. spoilt_faults whole ++ k) (sym (g.faults ∙ ap (λ k. s.faults.items ++ k) (gives_none section_faults) ∙ append-nil s.faults.items)),
    )
