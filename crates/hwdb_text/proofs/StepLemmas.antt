-- What one more line does to what was read.
use Rattle.std.proofs.Common.{◌≡◌, Bool, true, false, List, [], ◌∷◌, ◌++◌, drop, map, refl, ap, ◌∙◌, sym, cond, append_assoc, append-nil}
use Rattle.std.proofs.lemmas.Grind.{flat_map-append}
use Rattle.std.specs.Prelude.{flat_map}
use Rattle.hwdb_spec.specs.declared.Fault.{Fault}
use Rattle.hwdb_spec.specs.declared.FaultKind.TheVariants.{StrayProperty, NoProperty, StrayMatch}
use Rattle.hwdb_text.specs.declared.records.Reader.{Reader}
use Rattle.hwdb_spec.specs.Lines.{Line, is_match, is_property, is_long}
use Rattle.hwdb_spec.specs.Records.{Section, Origin, patterns, section_assignments, property_assignments, section_faults, long_faults, lonely_faults, property_faults, fault}
use Rattle.hwdb_text.specs.Internal.Reading.{section, AllPass, gives, AtStart, InSection, Closes}
use Rattle.hwdb_spec.specs.Assignment.{Assignment}
use Rattle.hwdb_text.specs.Views.{given_in, text_of}
use Rattle.hwdb_text.proofs.SectionLemmas.{Gives, gives_empty, gives_leading, gives_section, gives_last, gives_stray, gives_none}

abbrev no_lead : Line → List Assignment
no_lead x = []

abbrev fault_lead : Line → List Fault
fault_lead x = fault StrayProperty x ∷ []

assignments_give : (o : Origin) → Gives no_lead (section_assignments o)
assignments_give o = record { leading = λ x s. refl; nothing = refl }

faults_give : Gives fault_lead section_faults
faults_give = record { leading = λ x s. refl; nothing = refl }

closing : {X : Type 0} (out : Section → List X) (m : Line) (ms ps rest : List Line) → AllPass is_match (m ∷ ms) → AllPass is_property ps → Closes rest
    → gives out (m ∷ (ms ++ (ps ++ rest))) ≡ out (section [] (m ∷ ms) ps []) ++ gives out (drop 1 rest)
closing out m ms ps [] am ap1 e =
    gives_last out m ms ps am ap1 ∙ sym (ap (λ r. out (section [] (m ∷ ms) ps []) ++ r) (gives_none out) ∙ append-nil (out (section [] (m ∷ ms) ps [])))
closing out m ms ps (x ∷ more) am ap1 e = gives_section out m ms ps x more am ap1 e

passed : {X : Type 0} (out : Section → List X) (rest : List Line) → Closes rest → gives out rest ≡ gives out (drop 1 rest)
passed out [] e = refl
passed out (x ∷ more) e = gives_empty out x more e

section_faults_are : (m : Line) (ms ps : List Line)
    → section_faults (section [] (m ∷ ms) ps []) ≡ (flat_map long_faults (m ∷ ms) ++ flat_map property_faults ps) ++ lonely_faults (m ∷ ms) ps
section_faults_are m ms [] = ap (λ r. r ++ fault NoProperty m ∷ []) (sym (append-nil (flat_map long_faults (m ∷ ms))))
section_faults_are m ms (p ∷ ps) =
    ap (λ r. flat_map long_faults (m ∷ ms) ++ r) (append-nil (flat_map property_faults (p ∷ ps)))
    ∙ sym (append-nil (flat_map long_faults (m ∷ ms) ++ flat_map property_faults (p ∷ ps)))

four : {X : Type 0} (a b c d : List X) → a ++ ((b ++ c) ++ d) ≡ ((a ++ b) ++ c) ++ d
four a b c d = ap (λ r. a ++ r) (append_assoc b c d) ∙ sym (append_assoc a b (c ++ d)) ∙ sym (append_assoc (a ++ b) c d)

-- an end, if nothing has begun
pub end_start : (o : Origin) (whole rest : List Line) (r s : Reader) → Closes rest → AtStart o whole rest r
    → s.assignments ≡ r.assignments → s.faults ≡ r.faults → AtStart o whole (drop 1 rest) s
end_start o whole rest r s e h ea ef = record {
  assignments = h.assignments ∙ ap (λ a. map (given_in o) a.items ++ gives (section_assignments o) rest) (sym ea) ∙ ap (λ g. map (given_in o) s.assignments.items ++ g) (passed (section_assignments o) rest e);
  faults = h.faults ∙ ap (λ f. f.items ++ gives section_faults rest) (sym ef) ∙ ap (λ g. s.faults.items ++ g) (passed section_faults rest e);
}

-- an end, if a section has begun
pub end_section : (o : Origin) (whole rest : List Line) (r s : Reader) (m : Line) (ms ps : List Line) → Closes rest → InSection o whole rest r m ms ps
    → s.assignments ≡ r.assignments → s.faults.items ≡ r.faults.items ++ lonely_faults (m ∷ ms) ps → AtStart o whole (drop 1 rest) s
end_section o whole rest r s m ms ps e h ea ef = record {
  assignments =
      h.assignments.all ∙ ap (λ g. h.assignments.before ++ g) (closing (section_assignments o) m ms ps rest h.pending.are_matches h.pending.are_properties e)
      ∙ sym (append_assoc h.assignments.before (section_assignments o (section [] (m ∷ ms) ps [])) (gives (section_assignments o) (drop 1 rest)))
      ∙ ap (λ g. g ++ gives (section_assignments o) (drop 1 rest)) (sym h.assignments.now ∙ ap (λ a. map (given_in o) a.items) (sym ea));
  faults =
      h.faults.all ∙ ap (λ g. h.faults.before ++ g) (closing section_faults m ms ps rest h.pending.are_matches h.pending.are_properties e
      ∙ ap (λ g. g ++ gives section_faults (drop 1 rest)) (section_faults_are m ms ps))
      ∙ four h.faults.before (flat_map long_faults (m ∷ ms) ++ flat_map property_faults ps) (lonely_faults (m ∷ ms) ps) (gives section_faults (drop 1 rest))
      ∙ ap (λ g. g ++ gives section_faults (drop 1 rest)) (ap (λ g. g ++ lonely_faults (m ∷ ms) ps) (sym h.faults.now) ∙ sym ef);
}

-- a property, if nothing has begun
pub property_start : (o : Origin) (whole rest : List Line) (x : Line) (r s : Reader) → is_property x ≡ true → AtStart o whole (x ∷ rest) r
    → s.assignments ≡ r.assignments → s.faults.items ≡ r.faults.items ++ fault StrayProperty x ∷ [] → AtStart o whole rest s
property_start o whole rest x r s p h ea ef = record {
  assignments = h.assignments ∙ ap (λ g. map (given_in o) r.assignments.items ++ g) (gives_leading no_lead (section_assignments o) (assignments_give o) x rest p)
      ∙ ap (λ a. map (given_in o) a.items ++ gives (section_assignments o) rest) (sym ea);
  faults = h.faults ∙ ap (λ g. r.faults.items ++ g) (gives_leading fault_lead section_faults faults_give x rest p)
      ∙ sym (append_assoc r.faults.items (fault StrayProperty x ∷ []) (gives section_faults rest))
      ∙ ap (λ g. g ++ gives section_faults rest) (sym ef);
}

all_snoc : (test : Line → Bool) (xs : List Line) (x : Line) → AllPass test xs → test x ≡ true → AllPass test (xs ++ (x ∷ []))
all_snoc test [] x a e = (e, tt)
all_snoc test (y ∷ xs) x a e = (a.0, all_snoc test xs x a.1 e)

flat_snoc : {X : Type 0} (f : Line → List X) (xs : List Line) (x : Line) → flat_map f (xs ++ (x ∷ [])) ≡ flat_map f xs ++ f x
flat_snoc f xs x = flat_map-append f xs (x ∷ []) ∙ ap (λ g. flat_map f xs ++ g) (append-nil (f x))

-- a property of a section
pub property_section : (o : Origin) (whole rest : List Line) (x : Line) (r s : Reader) (m : Line) (ms ps : List Line) → is_property x ≡ true
    → InSection o whole (x ∷ rest) r m ms ps → s.first ≡ r.first → s.patterns ≡ r.patterns
    → map (given_in o) s.assignments.items ≡ map (given_in o) r.assignments.items ++ property_assignments o (map text_of r.patterns.items) x
    → s.faults.items ≡ r.faults.items ++ property_faults x → InSection o whole rest s m ms (ps ++ (x ∷ []))
property_section o whole rest x r s m ms ps p h e1 ep ea ef = record {
  pending = record {
    are_matches = h.pending.are_matches;
    are_properties = all_snoc is_property ps x h.pending.are_properties p;
    first = e1 ∙ h.pending.first;
    pattern = ap (λ a. map text_of a.items) ep ∙ h.pending.pattern;
  };
  assignments = record {
    before = h.assignments.before;
    all = h.assignments.all ∙ ap (λ g. h.assignments.before ++ gives (section_assignments o) (m ∷ (ms ++ g))) (sym (append_assoc ps (x ∷ []) rest));
    now = ea ∙ ap (λ g. map (given_in o) r.assignments.items ++ property_assignments o g x) h.pending.pattern
        ∙ ap (λ g. g ++ property_assignments o (patterns (m ∷ ms)) x) h.assignments.now
        ∙ append_assoc h.assignments.before (section_assignments o (section [] (m ∷ ms) ps [])) (property_assignments o (patterns (m ∷ ms)) x)
        ∙ ap (λ g. h.assignments.before ++ g) (sym (flat_snoc (property_assignments o (patterns (m ∷ ms))) ps x));
  };
  faults = record {
    before = h.faults.before;
    all = h.faults.all ∙ ap (λ g. h.faults.before ++ gives section_faults (m ∷ (ms ++ g))) (sym (append_assoc ps (x ∷ []) rest));
    now = ef ∙ ap (λ g. g ++ property_faults x) h.faults.now
        ∙ append_assoc h.faults.before (flat_map long_faults (m ∷ ms) ++ flat_map property_faults ps) (property_faults x)
        ∙ ap (λ g. h.faults.before ++ g) (append_assoc (flat_map long_faults (m ∷ ms)) (flat_map property_faults ps) (property_faults x)
        ∙ ap (λ g. flat_map long_faults (m ∷ ms) ++ g) (sym (flat_snoc property_faults ps x)));
  };
}

-- a match line, if nothing has begun
pub match_start : (o : Origin) (whole rest : List Line) (x : Line) (r s : Reader) → is_match x ≡ true → AtStart o whole (x ∷ rest) r
    → s.first ≡ x.number → map text_of s.patterns.items ≡ patterns (x ∷ []) → s.assignments ≡ r.assignments
    → s.faults.items ≡ r.faults.items ++ long_faults x → InSection o whole rest s x [] []
match_start o whole rest x r s e h e1 ep ea ef = record {
  pending = record {
    are_matches = (e, tt);
    are_properties = tt;
    first = e1;
    pattern = ep;
  };
  assignments = record {
    before = map (given_in o) r.assignments.items;
    all = h.assignments;
    now = ap (λ a. map (given_in o) a.items) ea ∙ sym (append-nil (map (given_in o) r.assignments.items));
  };
  faults = record {
    before = r.faults.items;
    all = h.faults;
    now = ef ∙ ap (λ g. r.faults.items ++ g) (sym (append-nil (long_faults x ++ []) ∙ append-nil (long_faults x)));
  };
}

cond_append : {X : Type 0} (b : Bool) (x : X) (xs ys : List X) → cond b (xs ++ ys) (x ∷ (xs ++ ys)) ≡ cond b xs (x ∷ xs) ++ ys
cond_append true x xs ys = refl
cond_append false x xs ys = refl

patterns_append : (xs ys : List Line) → patterns (xs ++ ys) ≡ patterns xs ++ patterns ys
patterns_append [] ys = refl
patterns_append (x ∷ xs) ys =
    ap (λ g. cond (is_long x) g (x.text ∷ g)) (patterns_append xs ys) ∙ cond_append (is_long x) x.text (patterns xs) (patterns ys)

-- one more match line
pub match_more : (o : Origin) (whole rest : List Line) (x : Line) (r s : Reader) (m : Line) (ms : List Line) → is_match x ≡ true
    → InSection o whole (x ∷ rest) r m ms [] → s.first ≡ r.first → map text_of s.patterns.items ≡ map text_of r.patterns.items ++ patterns (x ∷ [])
    → s.assignments ≡ r.assignments → s.faults.items ≡ r.faults.items ++ long_faults x → InSection o whole rest s m (ms ++ (x ∷ [])) []
match_more o whole rest x r s m ms e h e1 ep ea ef = record {
  pending = record {
    are_matches = (h.pending.are_matches.0, all_snoc is_match ms x h.pending.are_matches.1 e);
    are_properties = tt;
    first = e1 ∙ h.pending.first;
    pattern = ep ∙ ap (λ g. g ++ patterns (x ∷ [])) h.pending.pattern ∙ sym (patterns_append (m ∷ ms) (x ∷ []));
  };
  assignments = record {
    before = h.assignments.before;
    all = h.assignments.all ∙ ap (λ g. h.assignments.before ++ gives (section_assignments o) (m ∷ g)) (sym (append_assoc ms (x ∷ []) rest));
    now = ap (λ a. map (given_in o) a.items) ea ∙ h.assignments.now;
  };
  faults = record {
    before = h.faults.before;
    all = h.faults.all ∙ ap (λ g. h.faults.before ++ gives section_faults (m ∷ g)) (sym (append_assoc ms (x ∷ []) rest));
    now = ef ∙ ap (λ g. g ++ long_faults x) (h.faults.now ∙ ap (λ g. h.faults.before ++ g) (append-nil (flat_map long_faults (m ∷ ms))))
        ∙ append_assoc h.faults.before (flat_map long_faults (m ∷ ms)) (long_faults x)
        ∙ ap (λ g. h.faults.before ++ g) (sym (flat_snoc long_faults (m ∷ ms) x) ∙ sym (append-nil (flat_map long_faults ((m ∷ ms) ++ (x ∷ [])))));
  };
}

stray_faults_are : (m : Line) (ms : List Line) (p : Line) (ps : List Line) (x : Line)
    → section_faults (section [] (m ∷ ms) (p ∷ ps) (x ∷ [])) ≡ (flat_map long_faults (m ∷ ms) ++ flat_map property_faults (p ∷ ps)) ++ (fault StrayMatch x ∷ long_faults x)
stray_faults_are m ms p ps x =
    sym (append_assoc (flat_map long_faults (m ∷ ms)) (flat_map property_faults (p ∷ ps)) ((fault StrayMatch x ∷ long_faults x) ++ []))
    ∙ ap (λ g. (flat_map long_faults (m ∷ ms) ++ flat_map property_faults (p ∷ ps)) ++ g) (append-nil (fault StrayMatch x ∷ long_faults x))

-- a match line after a property
pub match_stray : (o : Origin) (whole rest : List Line) (x : Line) (r s : Reader) (m : Line) (ms : List Line) (p : Line) (ps : List Line) → is_match x ≡ true
    → InSection o whole (x ∷ rest) r m ms (p ∷ ps) → s.assignments ≡ r.assignments
    → s.faults.items ≡ r.faults.items ++ (fault StrayMatch x ∷ long_faults x) → AtStart o whole rest s
match_stray o whole rest x r s m ms p ps e h ea ef = record {
  assignments =
      h.assignments.all ∙ ap (λ g. h.assignments.before ++ g) (gives_stray (section_assignments o) m ms p ps x rest h.pending.are_matches h.pending.are_properties e)
      ∙ sym (append_assoc h.assignments.before (section_assignments o (section [] (m ∷ ms) (p ∷ ps) [])) (gives (section_assignments o) rest))
      ∙ ap (λ g. g ++ gives (section_assignments o) rest) (sym h.assignments.now ∙ ap (λ a. map (given_in o) a.items) (sym ea));
  faults =
      h.faults.all ∙ ap (λ g. h.faults.before ++ g) (gives_stray section_faults m ms p ps x rest h.pending.are_matches h.pending.are_properties e
      ∙ ap (λ g. g ++ gives section_faults rest) (stray_faults_are m ms p ps x))
      ∙ four h.faults.before (flat_map long_faults (m ∷ ms) ++ flat_map property_faults (p ∷ ps)) (fault StrayMatch x ∷ long_faults x) (gives section_faults rest)
      ∙ ap (λ g. g ++ gives section_faults rest) (ap (λ g. g ++ (fault StrayMatch x ∷ long_faults x)) (sym h.faults.now) ∙ sym ef);
}
