-- Records without faults, of assignments each on a line of its own: what each line gives is in the assignments.
use Rattle.std.proofs.Common.{◌≡◌, ℕ, zero, suc, ◌+◌, ◌-◌, ◌<◌, Bool, true, false, not, List, [], ◌∷◌, ◌++◌, map, take, refl, ap, ◌∙◌, sym, subst, cond, arith, append_assoc, append-nil}
use Rattle.std.specs.Prelude.{flat_map}
use Rattle.std.specs.List.{list_any, onto_first, take_while, prefix_len}
use Rattle.std.specs.Ordering.{is_gt}
use Rattle.std.proofs.lemmas.Grind.{flat_map-append}
use Rattle.hwdb_spec.specs.Assignment.{Assignment}
use Rattle.hwdb_spec.specs.Folders.{same}
use Rattle.hwdb_spec.specs.Lines.{Line, clean, clean_line, has_equals, has_key, is_dropped, is_empty, is_long, is_match, is_property, key, lines, pieces, value}
use Rattle.hwdb_spec.specs.Records.{Origin, Section, all_faults, assign, assignments, behind, by_line, fault, fault_cmp, faults, first_section, lonely_faults, long_faults, patterns, property_assignments, property_faults, section_assignments, section_faults, sections, sections_from, size, spoilt_faults, with_fault}
use Rattle.hwdb_spec_commands.specs.Warnings.{repeated_from, repeated_lines}
use Rattle.hwdb_spec.specs.declared.Fault.{Fault}
use Rattle.hwdb_text.specs.Laws.{SectionsAreTheBlock, lines_of}
use Rattle.hwdb_spec.specs.declared.FaultKind.TheVariants.{StrayMatch, StrayProperty}

both_none : {A : Type 0} (xs ys : List A) → xs ++ ys ≡ [] → (xs ≡ []) × (ys ≡ [])
both_none [] ys e = (refl, e)
both_none (x ∷ xs) ys e = cc

-- ---- the runs of a section

abbrev Pass : (Line → Bool) → List Line → Type 0
Pass test [] = Unit {0}
Pass test (l ∷ more) = (test l ≡ true) × Pass test more

abbrev Stops : (Line → Bool) → List Line → Type 0
Stops test [] = Unit {0}
Stops test (l ∷ more) = test l ≡ false

one_more : (n : ℕ) (l : Line) (more : List Line) → take (1 + n) (l ∷ more) ≡ l ∷ take n more
one_more n l more = let e : 1 + n ≡ suc n = omega arith in ap (λ k. take k (l ∷ more)) e

run_cons : (test : Line → Bool) (l : Line) (more : List Line) → take_while test (l ∷ more) ≡ cond (test l) (l ∷ take_while test more) []
run_cons test l more =
    elim (test l) as (λ b. take (cond b (1 + prefix_len test more) 0) (l ∷ more) ≡ cond b (l ∷ take (prefix_len test more) more) []) [
      | true ↦ one_more (prefix_len test more) l more
      | false ↦ refl
    ]

run_passes : (test : Line → Bool) (ls : List Line) → Pass test (take_while test ls)
run_passes test [] = tt
run_passes test (l ∷ more) = subst (Pass test) (sym (run_cons test l more)) (go (test l) refl (run_passes test more))
  where
    go : (b : Bool) → test l ≡ b → Pass test (take_while test more) → Pass test (cond b (l ∷ take_while test more) [])
    go true e h = (e, h)
    go false e h = tt

stops : (test : Line → Bool) (ls : List Line) → Stops test (behind test ls)
unfolding behind
stops test [] = tt
stops test (l ∷ more) = go (test l) refl (stops test more)
  where
    go : (b : Bool) → test l ≡ b → Stops test (behind test more) → Stops test (cond b (behind test more) (l ∷ more))
    go true e h = h
    go false e h = e

no_run : (test : Line → Bool) (ls : List Line) → Stops test ls → take_while test ls ≡ []
no_run test [] s = refl
no_run test (l ∷ more) s = run_cons test l more ∙ ap (λ (b : Bool). cond b (l ∷ take_while test more) []) s

-- no properties without match lines
lone : (ls : List Line) → Stops is_property ls → take_while is_match ls ≡ [] → take_while is_property (behind is_match ls) ≡ []
unfolding behind
lone [] s e = refl
lone (l ∷ more) s e = go (is_match l) refl
  where
    go : (b : Bool) → is_match l ≡ b → take_while is_property (cond b (behind is_match more) (l ∷ more)) ≡ []
    go true f = let no : l ∷ take_while is_match more ≡ [] = sym (run_cons is_match l more ∙ ap (λ (b : Bool). cond b (l ∷ take_while is_match more) []) f) ∙ e in cc
    go false f = no_run is_property (l ∷ more) s

record IsOfRuns (s : Section) : Type 0 where
  matches : Pass is_match s.matches
  properties : Pass is_property s.properties
  lone : s.matches ≡ [] → s.properties ≡ []

first_of_runs : (ls : List Line) → IsOfRuns (first_section ls)
unfolding first_section
first_of_runs ls = record {
  matches = run_passes is_match (behind is_property ls);
  properties = run_passes is_property (behind is_match (behind is_property ls));
  lone = lone (behind is_property ls) (stops is_property ls);
}

abbrev AreOfRuns : List Section → Type 0
AreOfRuns [] = Unit {0}
AreOfRuns (s ∷ more) = IsOfRuns s × AreOfRuns more

of_runs : (skip : ℕ) (ls : List Line) → AreOfRuns (sections_from skip ls)
unfolding sections_from
of_runs skip [] = tt
of_runs (suc skip) (l ∷ more) = of_runs skip more
of_runs zero (l ∷ more) = (first_of_runs (l ∷ more), of_runs (size (first_section (l ∷ more)) - 1) more)

-- ---- what a line gives

module _ (o : Origin) (Q : Assignment → Type 0) where
  -- assignments that pass, each of a line after that of the one before it
  abbrev pub Steady : ℕ → List Assignment → Type 0
  Steady above [] = Unit {0}
  Steady above (a ∷ more) = (above < a.position.line) × Q a × Steady a.position.line more

  steady_front : (n : ℕ) (xs ys : List Assignment) → Steady n (xs ++ ys) → Steady n xs
  steady_front n [] ys h = tt
  steady_front n (x ∷ xs) ys h = (h.0, h.1, steady_front x.position.line xs ys h.2)

  steady_rest : (n : ℕ) (xs ys : List Assignment) → Steady n (xs ++ ys) → (m : ℕ) × Steady m ys
  steady_rest n [] ys h = (n, h)
  steady_rest n (x ∷ xs) ys h = steady_rest x.position.line xs ys h.2

  -- a match line is the pattern of an assignment, and a property the key and the value of one
  pub record IsGiven (l : Line) : Type 0 where
    pub pattern : is_match l ≡ true → (a : Assignment) × Q a × (a.position.pattern ≡ l.text)
    pub equals : is_property l ≡ true → has_equals l ≡ true
    pub keyed : is_property l ≡ true → has_key l ≡ true
    pub property : is_property l ≡ true → (a : Assignment) × Q a × (a.position.key ≡ key l) × (a.value ≡ value l)

  abbrev pub AreGiven : List Line → Type 0
  AreGiven [] = Unit {0}
  AreGiven (l ∷ more) = IsGiven l × AreGiven more

  given_append : (xs ys : List Line) → AreGiven xs → AreGiven ys → AreGiven (xs ++ ys)
  given_append [] ys g h = h
  given_append (x ∷ xs) ys g h = (g.0, given_append xs ys g.1 h)

  -- what is read of some lines: what they give, and that none repeats a match line of them
  record IsSound (ls : List Line) : Type 0 where
    given : AreGiven ls
    single : (rest : List Line) → repeated_from [] (ls ++ rest) ≡ repeated_from [] rest

  nothing_sound : IsSound []
  nothing_sound = record { given = tt; single = λ rest. refl }

  match_no_property : (l : Line) → is_match l ≡ true → is_property l ≡ true → ⊥
  match_no_property l m p = go (is_empty l) (is_property l) m p
    where
      go : (e p : Bool) → cond e false (not p) ≡ true → p ≡ true → ⊥
      go true p m q = cc
      go false true m q = cc
      go false false m q = cc

  no_fault : (l : Line) → property_faults l ≡ [] → (has_equals l ≡ true) × (has_key l ≡ true)
  no_fault l e = go (has_equals l) (has_key l) _ _ e
    where
      go : (h k : Bool) (f g : Fault) → cond h (cond k [] (f ∷ [])) (g ∷ []) ≡ [] → (h ≡ true) × (k ≡ true)
      go true true f g e = (refl, refl)
      go true false f g e = cc
      go false k f g e = cc

  not_long : (l : Line) → long_faults l ≡ [] → is_long l ≡ false
  not_long l e = go (is_long l) _ e
    where
      go : (b : Bool) (f : Fault) → cond b (f ∷ []) [] ≡ [] → b ≡ false
      go true f e = cc
      go false f e = refl

  alone : (p : Line) (t : List ℕ) → property_faults p ≡ [] → property_assignments o (t ∷ []) p ≡ assign o p t ∷ []
  alone p t e = let f = no_fault p e in rw (f.0) (rw (f.1) refl)

  -- properties, each given to one pattern
  each_given : (t : List ℕ) (ps : List Line) → Pass is_property ps → flat_map property_faults ps ≡ [] → (n : ℕ) → Steady n (flat_map (property_assignments o (t ∷ [])) ps) → AreGiven ps
  each_given t [] p e n s = tt
  each_given t (l ∷ more) p e n s =
      let f = both_none (property_faults l) (flat_map property_faults more) e in
      let g = no_fault l f.0 in
      let rest = steady_rest n (property_assignments o (t ∷ []) l) (flat_map (property_assignments o (t ∷ [])) more) s in
      let own : Steady n (assign o l t ∷ []) = subst (Steady n) (alone l t f.0) (steady_front n (property_assignments o (t ∷ []) l) (flat_map (property_assignments o (t ∷ [])) more) s) in (
        record {
          pattern = λ m. absurd (match_no_property l m p.0);
          equals = λ q. g.0;
          keyed = λ q. g.1;
          property = λ q. (assign o l t, own.1, refl, refl);
        },
        each_given t more p.1 f.1 rest.0 rest.1,
      )

  other_passed : (l : Line) (above : List (List ℕ)) (more : List Line) → is_property l ≡ true → repeated_from above (l ∷ more) ≡ repeated_from [] more
  unfolding repeated_from
  other_passed l above more p = go (is_match l) refl
    where
      go : (b : Bool) → is_match l ≡ b
          → cond b (cond (list_any (same l.text) above) (l.number ∷ repeated_from (l.text ∷ above) more) (repeated_from (l.text ∷ above) more)) (repeated_from [] more) ≡ repeated_from [] more
      go true e = absurd (match_no_property l e p)
      go false e = refl

  all_passed : (ps rest : List Line) → Pass is_property ps → repeated_from [] (ps ++ rest) ≡ repeated_from [] rest
  all_passed [] rest p = refl
  all_passed (l ∷ more) rest p = other_passed l [] (more ++ rest) p.0 ∙ all_passed more rest p.1

  match_passed : (m p : Line) (ps rest : List Line) → is_match m ≡ true → is_property p ≡ true → Pass is_property ps → repeated_from [] ((m ∷ (p ∷ ps)) ++ rest) ≡ repeated_from [] rest
  unfolding repeated_from
  match_passed m p ps rest e f a =
      ap (λ (b : Bool). cond b (repeated_from (m.text ∷ []) (p ∷ (ps ++ rest))) (repeated_from [] (p ∷ (ps ++ rest)))) e
      ∙ other_passed p (m.text ∷ []) (ps ++ rest) f
      ∙ all_passed ps rest a

  one_pattern : (m : Line) → long_faults m ≡ [] → patterns (m ∷ []) ≡ m.text ∷ []
  one_pattern m e = ap (λ (b : Bool). cond b [] (m.text ∷ [])) (not_long m e)

  some_patterns : (m l : Line) (ms : List Line) → long_faults m ≡ [] → long_faults l ≡ [] → patterns (m ∷ (l ∷ ms)) ≡ m.text ∷ (l.text ∷ patterns ms)
  some_patterns m l ms e f = rw (not_long m e) (rw (not_long l f) refl)

  two_given : (p m l : Line) (ms : List Line) → property_faults p ≡ [] → long_faults m ≡ [] → long_faults l ≡ []
      → property_assignments o (patterns (m ∷ (l ∷ ms))) p ≡ assign o p m.text ∷ (assign o p l.text ∷ map (assign o p) (patterns ms))
  two_given p m l ms e f g =
      let k = no_fault p e in
      ap (λ (t : List (List ℕ)). property_assignments o t p) (some_patterns m l ms f g) ∙ rw (k.0) (rw (k.1) refl)

  stray_one : Line → List Fault
  stray_one l = fault StrayMatch l ∷ long_faults l

  section_sound : (lead ms ps st : List Line) → Pass is_match ms → Pass is_property ps → (ms ≡ [] → ps ≡ [])
      → map (fault StrayProperty) lead ++ (flat_map long_faults ms ++ (lonely_faults ms ps ++ (flat_map property_faults ps ++ flat_map (λ l. fault StrayMatch l ∷ long_faults l) st))) ≡ []
      → (n : ℕ) → Steady n (flat_map (property_assignments o (patterns ms)) ps) → IsSound (lead ++ (ms ++ (ps ++ st)))
  section_sound (x ∷ lead) ms ps st a b c e n s = cc
  section_sound [] [] [] [] a b c e n s = nothing_sound
  section_sound [] [] [] (x ∷ st) a b c e n s = cc
  section_sound [] [] (p ∷ ps) st a b c e n s = let no : p ∷ ps ≡ [] = c refl in cc
  section_sound [] (m ∷ ms) [] st a b c e n s = let f = both_none (flat_map long_faults (m ∷ ms)) _ e in let no = f.1 in cc
  section_sound [] (m ∷ (l ∷ ms)) (p ∷ ps) st a b c e n s =
      let f = both_none (flat_map long_faults (m ∷ (l ∷ ms))) _ e in
      let g = both_none (long_faults m) (flat_map long_faults (l ∷ ms)) f.0 in
      let h = both_none (long_faults l) (flat_map long_faults ms) g.1 in
      let i = both_none (flat_map property_faults (p ∷ ps)) _ f.1 in
      let j = both_none (property_faults p) (flat_map property_faults ps) i.0 in
      let front : Steady n (property_assignments o (patterns (m ∷ (l ∷ ms))) p) = steady_front n (property_assignments o (patterns (m ∷ (l ∷ ms))) p) _ s in
      let two : Steady n (assign o p m.text ∷ (assign o p l.text ∷ map (assign o p) (patterns ms))) =
      subst (Steady n) (two_given p m l ms j.0 g.0 h.0) front in
      absurd (omega (arith, two.2.0))
  section_sound [] (m ∷ []) (p ∷ ps) (x ∷ st) a b c e n s =
      let f = both_none (flat_map long_faults (m ∷ [])) _ e in
      let g = both_none (flat_map property_faults (p ∷ ps)) _ f.1 in
      let no = g.1 in cc
  section_sound [] (m ∷ []) (p ∷ ps) [] a b c e n s =
      let f = both_none (flat_map long_faults (m ∷ [])) _ e in
      let g = both_none (long_faults m) [] f.0 in
      let h = both_none (flat_map property_faults (p ∷ ps)) _ f.1 in
      let i = both_none (property_faults p) (flat_map property_faults ps) h.0 in
      let t : Steady n (flat_map (property_assignments o (m.text ∷ [])) (p ∷ ps)) =
      subst (λ (t : List (List ℕ)). Steady n (flat_map (property_assignments o t) (p ∷ ps))) (one_pattern m g.0) s in
      let own : Steady n (assign o p m.text ∷ []) =
      subst (Steady n) (alone p m.text i.0) (steady_front n (property_assignments o (m.text ∷ []) p) (flat_map (property_assignments o (m.text ∷ [])) ps) t) in
      let props : AreGiven (p ∷ ps) = each_given m.text (p ∷ ps) b h.0 n t in
      let first : IsGiven m = record {
        pattern = λ q. (assign o p m.text, own.1, refl);
        equals = λ q. absurd (match_no_property m a.0 q);
        keyed = λ q. absurd (match_no_property m a.0 q);
        property = λ q. absurd (match_no_property m a.0 q);
      } in
      record {
        given = (first, given_append (p ∷ ps) [] props tt);
        single = λ rest. ap (λ (r : List Line). repeated_from [] (m ∷ (p ∷ (r ++ rest)))) (append-nil ps) ∙ match_passed m p ps rest a.0 b.0 b.1;
      }

  sections_sound : (ss : List Section) → AreOfRuns ss → flat_map section_faults ss ≡ [] → (n : ℕ) → Steady n (flat_map (section_assignments o) ss) → IsSound (flat_map lines_of ss)
  sections_sound [] r e n s = nothing_sound
  sections_sound (x ∷ ss) r e n s =
      let f = both_none (section_faults x) (flat_map section_faults ss) e in
      let rest = steady_rest n (section_assignments o x) (flat_map (section_assignments o) ss) s in
      let one = section_sound x.leading x.matches x.properties x.stray r.0.matches r.0.properties r.0.lone f.0 n (steady_front n (section_assignments o x) (flat_map (section_assignments o) ss) s) in
      let more = sections_sound ss r.1 f.1 rest.0 rest.1 in
      record {
        given = given_append (lines_of x) (flat_map lines_of ss) one.given more.given;
        single = λ rest. ap (repeated_from []) (append_assoc (lines_of x) (flat_map lines_of ss) rest) ∙ one.single (flat_map lines_of ss ++ rest) ∙ more.single rest;
      }

  -- ---- blocks

  abbrev IsBlockSound : List Line → Type 0
  IsBlockSound b = AreGiven b × (repeated_from [] b ≡ [])

  abbrev AreSound : List (List Line) → Type 0
  AreSound [] = Unit {0}
  AreSound (b ∷ bs) = IsBlockSound b × AreSound bs

  none_repeated : repeated_from [] [] ≡ []
  unfolding repeated_from
  none_repeated = refl

  blocks_sound : SectionsAreTheBlock → (bs : List (List Line)) → flat_map section_faults (flat_map (sections_from 0) bs) ≡ []
      → (n : ℕ) → Steady n (flat_map (section_assignments o) (flat_map (sections_from 0) bs)) → AreSound bs
  blocks_sound law [] e n s = tt
  blocks_sound law (b ∷ bs) e n s =
      let ss = sections_from 0 b in
      let more = flat_map (sections_from 0) bs in
      let f = both_none (flat_map section_faults ss) (flat_map section_faults more) (sym (flat_map-append section_faults ss more) ∙ e) in
      let t : Steady n (flat_map (section_assignments o) ss ++ flat_map (section_assignments o) more) = subst (Steady n) (flat_map-append (section_assignments o) ss more) s in
      let rest = steady_rest n (flat_map (section_assignments o) ss) (flat_map (section_assignments o) more) t in
      let sound : IsSound b = subst IsSound (law b) (sections_sound ss (of_runs 0 b) f.0 n (steady_front n (flat_map (section_assignments o) ss) (flat_map (section_assignments o) more) t)) in
      ((sound.given, ap (repeated_from []) (sym (append-nil b)) ∙ sound.single [] ∙ none_repeated), blocks_sound law bs f.1 rest.0 rest.1)

  -- ---- clean lines

  -- each line that isn't empty is given
  abbrev pub AreAllGiven : List Line → Type 0
  AreAllGiven [] = Unit {0}
  AreAllGiven (l ∷ more) = (is_empty l ≡ false → IsGiven l) × AreAllGiven more

  abbrev AreGivenIn : List (List Line) → Type 0
  AreGivenIn [] = Unit {0}
  AreGivenIn (b ∷ bs) = AreGiven b × AreGivenIn bs

  given_in_blocks : (bs : List (List Line)) → AreSound bs → AreGivenIn bs
  given_in_blocks [] h = tt
  given_in_blocks (b ∷ bs) h = (h.0.0, given_in_blocks bs h.1)

  first_given : (l : Line) (bs : List (List Line)) → AreGivenIn (onto_first l bs) → IsGiven l × AreGivenIn bs
  first_given l [] h = (h.0.0, tt)
  first_given l (b ∷ bs) h = (h.0.0, (h.0.1, h.1))

  lines_given : (ls : List Line) → AreGivenIn (pieces is_empty ls) → AreAllGiven ls
  unfolding pieces
  lines_given [] h = tt
  lines_given (l ∷ more) h = go (is_empty l) refl h (lines_given more)
    where
      go : (b : Bool) → is_empty l ≡ b → AreGivenIn (cond b ([] ∷ pieces is_empty more) (onto_first l (pieces is_empty more))) → (AreGivenIn (pieces is_empty more) → AreAllGiven more)
          → AreAllGiven (l ∷ more)
      go true e g r = (λ f. let no : true ≡ false = sym e ∙ f in cc, r g.1)
      go false e g r = let f = first_given l (pieces is_empty more) g in (λ n. f.0, r f.1)

  -- no line of the first block repeats one of it or one above it, and none of another block one of its own
  abbrev AreSingle : (above : List (List ℕ)) → List (List Line) → Type 0
  AreSingle above [] = Unit {0}
  AreSingle above (b ∷ bs) = (repeated_from above b ≡ []) × AreSingle [] bs

  single_in_blocks : (bs : List (List Line)) → AreSound bs → AreSingle [] bs
  single_in_blocks [] h = tt
  single_in_blocks (b ∷ bs) h = (h.0.1, single_in_blocks bs h.1)

  shut : (m a : Bool) (n : ℕ) (x y : List ℕ) → cond m (cond a (n ∷ x) x) y ≡ [] → (m ≡ true → (a ≡ false) × (x ≡ [])) × (m ≡ false → y ≡ [])
  shut true true n x y e = cc
  shut true false n x y e = (λ m. (refl, e), λ m. cc)
  shut false a n x y e = (λ m. cc, λ m. e)

  onto_single : (l : Line) (above : List (List ℕ)) (bs : List (List Line)) → AreSingle above (onto_first l bs)
      → (is_match l ≡ true → (list_any (same l.text) above ≡ false) × AreSingle (l.text ∷ above) bs) × (is_match l ≡ false → AreSingle [] bs)
  unfolding repeated_from
  onto_single l above [] h =
      let s = shut (is_match l) (list_any (same l.text) above) l.number _ _ h.0 in
      (λ m. ((s.0 m).0, tt), λ m. tt)
  onto_single l above (b ∷ bs) h =
      let s = shut (is_match l) (list_any (same l.text) above) l.number _ _ h.0 in
      (λ m. ((s.0 m).0, ((s.0 m).1, h.1)), λ m. (s.1 m, h.1))

  line_single : (m a : Bool) (n : ℕ) (x y : List ℕ) → (m ≡ true → (a ≡ false) × (x ≡ [])) → (m ≡ false → y ≡ []) → cond m (cond a (n ∷ x) x) y ≡ []
  line_single true a n x y f g = let h = f refl in ap (λ (b : Bool). cond b (n ∷ x) x) h.0 ∙ h.1
  line_single false a n x y f g = g refl

  empty_no_match : (l : Line) → is_empty l ≡ true → is_match l ≡ true → ⊥
  empty_no_match l e m = go (is_empty l) (not (is_property l)) e m
    where
      go : (e p : Bool) → e ≡ true → cond e false p ≡ true → ⊥
      go true p e m = cc
      go false p e m = cc

  single_lines : (above : List (List ℕ)) (ls : List Line) → AreSingle above (pieces is_empty ls) → repeated_from above ls ≡ []
  unfolding pieces repeated_from
  single_lines above [] h = refl
  single_lines above (l ∷ more) h = go (is_empty l) refl h (λ a. single_lines a more)
    where
      go : (b : Bool) → is_empty l ≡ b → AreSingle above (cond b ([] ∷ pieces is_empty more) (onto_first l (pieces is_empty more)))
          → ((a : List (List ℕ)) → AreSingle a (pieces is_empty more) → repeated_from a more ≡ [])
          → cond (is_match l) (cond (list_any (same l.text) above) (l.number ∷ repeated_from (l.text ∷ above) more) (repeated_from (l.text ∷ above) more)) (repeated_from [] more) ≡ []
      go true e g r =
          line_single (is_match l) (list_any (same l.text) above) l.number (repeated_from (l.text ∷ above) more) (repeated_from [] more) (λ m. absurd (empty_no_match l e m)) (λ m. r [] g.1)
      go false e g r =
          let o = onto_single l above (pieces is_empty more) g in
          line_single (is_match l) (list_any (same l.text) above) l.number (repeated_from (l.text ∷ above) more) (repeated_from [] more)
          (λ m. ((o.0 m).0, r (l.text ∷ above) (o.0 m).1)) (λ m. r [] (o.1 m))

  -- ---- a file

  -- each line that isn't dropped is given, if it isn't empty then
  abbrev pub AreRead : List Line → Type 0
  AreRead [] = Unit {0}
  AreRead (l ∷ more) = (is_dropped l ≡ false → is_empty (clean_line l) ≡ false → IsGiven (clean_line l)) × AreRead more

  lines_read : (ls : List Line) → AreAllGiven (clean ls) → AreRead ls
  lines_read [] h = tt
  lines_read (l ∷ more) h = go (is_dropped l) refl h (lines_read more)
    where
      go : (b : Bool) → is_dropped l ≡ b → AreAllGiven (cond b (clean more) (clean_line l ∷ clean more)) → (AreAllGiven (clean more) → AreRead more) → AreRead (l ∷ more)
      go true e g r = (λ f. let no : true ≡ false = sym e ∙ f in cc, r g)
      go false e g r = (λ f. g.0, r g.1)

  no_with_fault : (f : Fault) (fs : List Fault) → with_fault f fs ≡ [] → ⊥
  no_with_fault f [] e = cc
  no_with_fault f (g ∷ fs) e = go (is_gt (fault_cmp f g)) e
    where
      go : (b : Bool) → cond b (g ∷ with_fault f fs) (f ∷ (g ∷ fs)) ≡ [] → ⊥
      go true e = cc
      go false e = cc

  none_by_line : (fs : List Fault) → by_line fs ≡ [] → fs ≡ []
  none_by_line [] e = refl
  none_by_line (f ∷ fs) e = absurd (no_with_fault f (by_line fs) e)

  pub file_read : SectionsAreTheBlock → (file : List ℕ) → faults file ≡ [] → Steady 0 (assignments o file)
      → AreRead (lines file) × (repeated_lines file ≡ [])
  file_read law file e s =
      let ls = clean (lines file) in
      let f = both_none (spoilt_faults (lines file)) (flat_map section_faults (sections ls)) (none_by_line (all_faults file) e) in
      let sound = blocks_sound law (pieces is_empty ls) f.1 0 s in
      (lines_read (lines file) (lines_given ls (given_in_blocks (pieces is_empty ls) sound)), single_lines [] ls (single_in_blocks (pieces is_empty ls) sound))
