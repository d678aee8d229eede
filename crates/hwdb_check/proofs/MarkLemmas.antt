-- The marks of comments in a file, and in its lines.
use Rattle.std.proofs.Common.{◌≡◌, ℕ, zero, suc, ◌+◌, ◌-◌, ◌<◌, ◌≤◌, Bool, true, false, not, nat_lt, List, [], ◌∷◌, ◌++◌, take, drop, get_or, length, refl, ap, ◌∙◌, sym, subst, cond, arith, append-nil, append_assoc, eq-eqb}
use Rattle.std.specs.Prelude.{flat_map}
use Rattle.std.specs.List.{onto_first, position_or_len}
use Rattle.std.proofs.lemmas.Bool.{eqb-true, ltb-false, ltb-true}
use Rattle.std.proofs.lemmas.List.{drop-drop, take_all}
use Rattle.hwdb_spec.specs.Lines.{Line, begins_with, clean_line, is, is_blank, numbered, pieces}
use Rattle.hwdb_spec_commands.specs.Findings.{Finding, found_warnings, one_warning}
use Rattle.hwdb_spec_commands.specs.Warnings.{is_cut}
use Rattle.hwdb_check.specs.Internal.{line_of}
use Rattle.hwdb_check.specs.Lemmas.Pieces.{line_at, no_line_at}
use Rattle.hwdb_check.specs.Plain.{AreQuiet, IsQuiet, IsTame}
use Rattle.hwdb_check.proofs.PlainLemmas.{no_warnings, uncut_blank, uncut_without}
use Rattle.hwdb_spec_commands.specs.declared.formats.Format.{Format}

-- ---- parts of a text

tame_take : (prev : ℕ) (t : List ℕ) (n m : ℕ) → n ≤ m → IsTame prev (take m t) → IsTame prev (take n t)
tame_take prev t zero m h e = tt
tame_take prev [] (suc n) m h e = tt
tame_take prev (x ∷ t) (suc n) zero h e = absurd (omega (arith, h))
tame_take prev (x ∷ t) (suc n) (suc m) h e = (e.0, tame_take x t n m (omega (arith, h)) e.1)

tame_more : (prev : ℕ) (t : List ℕ) (n m : ℕ) → n ≤ length t → IsTame prev (take n t) → IsTame (get_or (prev ∷ t) n 0) (take m (drop n t)) → IsTame prev (take (n + m) t)
tame_more prev t zero m h e f = let s : 0 + m ≡ m = omega arith in subst (λ (k : ℕ). IsTame prev (take k t)) (sym s) f
tame_more prev [] (suc n) m h e f = absurd (omega (arith, h))
tame_more prev (x ∷ t) (suc n) m h e f =
    let s : suc n + m ≡ suc (n + m) = omega arith in
    subst (λ (k : ℕ). IsTame prev (take k (x ∷ t))) (sym s) (e.0, tame_more x t n m (omega (arith, h)) e.1 f)

tame_rest : (prev : ℕ) (t : List ℕ) (n q : ℕ) → n < q → n < length t → IsTame prev (take q t) → IsTame (get_or t n 0) (take (q - (n + 1)) (drop (n + 1) t))
tame_rest prev [] n q h l e = absurd (omega (arith, l))
tame_rest prev (x ∷ t) n zero h l e = absurd (omega (arith, h))
tame_rest prev (x ∷ t) zero (suc q) h l e = let s : suc q - (0 + 1) ≡ q = omega arith in subst (λ (k : ℕ). IsTame x (take k t)) (sym s) e.1
tame_rest prev (x ∷ t) (suc n) (suc q) h l e =
    let s : suc q - (suc n + 1) ≡ q - (n + 1) = omega arith in
    let r : suc n + 1 ≡ suc (n + 1) = omega arith in
    subst (λ (k : ℕ). IsTame (get_or t n 0) (take k (drop (suc n + 1) (x ∷ t)))) (sym s)
    (subst (λ (k : ℕ). IsTame (get_or t n 0) (take (q - (n + 1)) (drop k (x ∷ t)))) (sym r) (tame_rest x t n q (omega (arith, h)) (omega (arith, l)) e.1))

-- before the first mark there is none
free_by : (b : Bool) (x n p : ℕ) → is 35 x ≡ b → suc n ≤ cond (not b) (1 + p) 0 → (x ≡ 35 → ⊥) × (n ≤ p)
free_by true x n p e h = absurd (omega (arith, h))
free_by false x n p e h = (λ f. let no : false ≡ true = sym e ∙ eq-eqb x 35 f in cc, omega (arith, h))

free_tame : (prev : ℕ) (t : List ℕ) (n : ℕ) → n ≤ position_or_len (is 35) t → IsTame prev (take n t)
free_tame prev t zero h = tt
free_tame prev [] (suc n) h = tt
free_tame prev (x ∷ t) (suc n) h = let f = free_by (is 35 x) x n (position_or_len (is 35) t) refl h in (λ e. absurd (f.0 e), free_tame x t n f.1)

one_tame : (prev : ℕ) (t : List ℕ) → is_blank prev ≡ true → IsTame prev (take 1 t)
one_tame prev [] h = tt
one_tame prev (x ∷ t) h = (λ e. h, tt)

-- the search for the next mark goes on
pub mark_step : (t : List ℕ) (at size : ℕ) (rest : List ℕ) → at ≤ length t → IsTame 10 (take at t) → rest ≡ drop at t → size ≡ position_or_len (is 35) rest → IsTame 10 (take (at + size) t)
mark_step t at size rest h e r s =
    tame_more 10 t at size h e (free_tame (get_or (10 ∷ t) at 0) (drop at t) size (omega (arith, s, ap (position_or_len (is 35)) r)))

pub mark_passed : (t : List ℕ) (place : ℕ) → place < length t → IsTame 10 (take place t) → is_blank (get_or (10 ∷ t) place 0) ≡ true → IsTame 10 (take (place + 1) t)
mark_passed t place h e b = tame_more 10 t place 1 (omega (arith, h)) e (one_tame (get_or (10 ∷ t) place 0) (drop place t) b)

pub after_blank : (t : List ℕ) (place k : ℕ) (r : Bool) → place ≡ suc k → r ≡ is_blank (get_or t k 0) → r ≡ true → is_blank (get_or (10 ∷ t) place 0) ≡ true
after_blank t place k r e is_r passes = ap (λ (n : ℕ). is_blank (get_or (10 ∷ t) n 0)) e ∙ sym is_r ∙ passes

-- ---- lines

abbrev AreTame : ℕ → List (List ℕ) → Type 0
AreTame prev [] = Unit {0}
AreTame prev (p ∷ ps) = IsTame prev p × AreTame 10 ps

onto_tame : (prev b : ℕ) (ps : List (List ℕ)) → (b ≡ 35 → is_blank prev ≡ true) → AreTame b ps → AreTame prev (onto_first b ps)
onto_tame prev b [] h r = ((h, tt), tt)
onto_tame prev b (p ∷ ps) h r = ((h, r.0), r.1)

tame_lines : (prev : ℕ) (t : List ℕ) → IsTame prev t → AreTame prev (pieces (is 10) t)
unfolding pieces
tame_lines prev [] h = tt
tame_lines prev (b ∷ more) h = go (is 10 b) refl (tame_lines b more h.1)
  where
    go : (e : Bool) → is 10 b ≡ e → AreTame b (pieces (is 10) more) → AreTame prev (cond e ([] ∷ pieces (is 10) more) (onto_first b (pieces (is 10) more)))
    go true e r = (tt, subst (λ (n : ℕ). AreTame n (pieces (is 10) more)) (eqb-true b 10 e) r)
    go false e r = onto_tame prev b (pieces (is 10) more) h.0 r

front_mark : (t : List ℕ) → position_or_len (is 35) t ≡ 0 → 0 < length t → get_or t 0 0 ≡ 35
front_mark [] e h = absurd (omega (arith, h))
front_mark (x ∷ t) e h = go (is 35 x) refl e
  where
    go : (b : Bool) → is 35 x ≡ b → cond (not b) (1 + position_or_len (is 35) t) 0 ≡ 0 → x ≡ 35
    go true f g = eqb-true x 35 f
    go false f g = absurd (omega (arith, g))

next_place : (b : Bool) (k p : ℕ) → suc k ≡ cond (not b) (1 + p) 0 → k ≡ p
next_place true k p e = absurd (omega (arith, e))
next_place false k p e = omega (arith, e)

tame_at : (prev : ℕ) (t : List ℕ) (k : ℕ) → IsTame prev t → suc k ≡ position_or_len (is 35) t → suc k < length t → is_blank (get_or t k 0) ≡ true
tame_at prev [] k h e l = absurd (omega (arith, l))
tame_at prev (x ∷ []) k h e l = absurd (omega (arith, l))
tame_at prev (x ∷ (y ∷ t)) zero h e l =
    let f = next_place (is 35 x) 0 (position_or_len (is 35) (y ∷ t)) e in
    h.1.0 (front_mark (y ∷ t) (sym f) (omega arith))
tame_at prev (x ∷ (y ∷ t)) (suc k) h e l =
    let f = next_place (is 35 x) (suc k) (position_or_len (is 35) (y ∷ t)) e in
    tame_at x (y ∷ t) k h.1 f (omega (arith, l))

position_within : (t : List ℕ) → position_or_len (is 35) t ≤ length t
position_within [] = omega arith
position_within (x ∷ t) = go (is 35 x) (position_within t)
  where
    go : (b : Bool) → position_or_len (is 35) t ≤ length t → cond (not b) (1 + position_or_len (is 35) t) 0 ≤ suc (length t)
    go true h = omega arith
    go false h = omega (arith, h)

pub tame_uncut : (t : List ℕ) → IsTame 10 t → begins_with 35 t ≡ false → is_cut (line_of 0 t) (clean_line (line_of 0 t)) ≡ false
tame_uncut [] h n = uncut_without [] refl
tame_uncut (x ∷ t) h n = go (nat_lt (position_or_len (is 35) (x ∷ t)) (length (x ∷ t))) refl (position_or_len (is 35) (x ∷ t)) refl
  where
    go : (b : Bool) → nat_lt (position_or_len (is 35) (x ∷ t)) (length (x ∷ t)) ≡ b → (p : ℕ) → p ≡ position_or_len (is 35) (x ∷ t)
        → is_cut (line_of 0 (x ∷ t)) (clean_line (line_of 0 (x ∷ t))) ≡ false
    go true l zero e = let first : x ≡ 35 = front_mark (x ∷ t) (sym e) (omega arith) in let no : true ≡ false = sym (eq-eqb x 35 first) ∙ n in cc
    go true l (suc k) e =
        let below = ltb-true (position_or_len (is 35) (x ∷ t)) (length (x ∷ t)) l in
        uncut_blank (x ∷ t) (suc k) k 0 e refl (omega (arith, e, below)) (tame_at 10 (x ∷ t) k h e (omega (arith, e, below)))
    go false l p e =
        let above = ltb-false (position_or_len (is 35) (x ∷ t)) (length (x ∷ t)) l in
        uncut_without (x ∷ t) (let within = position_within (x ∷ t) in omega (arith, within, above))

none_told : (format : Format) (path file : List ℕ) (allowed : List (List ℕ)) (n : ℕ) (ps : List (List ℕ)) → AreTame 10 ps → AreQuiet file (numbered n ps)
    → flat_map (found_warnings format allowed path file) (numbered n ps) ≡ []
unfolding numbered
none_told format path file allowed n [] h q = refl
none_told format path file allowed n (p ∷ ps) h q =
    ap (λ ks. flat_map (one_warning format path (line_of n p)) ks ++ flat_map (found_warnings format allowed path file) (numbered (n + 1) ps)) (no_warnings file (line_of n p) q.0 (tame_uncut p h.0) allowed)
    ∙ none_told format path file allowed (n + 1) ps h.1 q.1

-- a line of which the first bytes are tame, and that has no more
pub line_tame : (t : List ℕ) (quiet : ℕ) → length t ≤ quiet → IsTame 10 (take quiet t) → begins_with 35 t ≡ false → is_cut (line_of 0 t) (clean_line (line_of 0 t)) ≡ false
line_tame t quiet h e = tame_uncut t (subst (IsTame 10) (take_all quiet t h) e)

pub front_tame : (t line : List ℕ) (end quiet : ℕ) → line ≡ take end t → IsTame 10 (take quiet t) → IsTame 10 (take quiet line)
front_tame t line end quiet e h = subst (λ (l : List ℕ). IsTame 10 (take quiet l)) (sym e) (by t end quiet 10 h)
  where
    by : (t : List ℕ) (end quiet prev : ℕ) → IsTame prev (take quiet t) → IsTame prev (take quiet (take end t))
    by t end zero prev h = tt
    by [] zero (suc quiet) prev h = tt
    by [] (suc end) (suc quiet) prev h = tt
    by (x ∷ t) zero (suc quiet) prev h = tt
    by (x ∷ t) (suc end) (suc quiet) prev h = (h.0, by t end quiet x h.1)

-- ---- from line to line

-- after a line, if its newline is among the tame bytes
at_newline : (t : List ℕ) (end : ℕ) → end ≡ position_or_len (is 10) t → end < length t → get_or t end 0 ≡ 10
at_newline [] end e h = absurd (omega (arith, h))
at_newline (x ∷ t) end e h = go (is 10 x) refl end e h (λ k. at_newline t k)
  where
    go : (b : Bool) → is 10 x ≡ b → (end : ℕ) → end ≡ cond (not b) (1 + position_or_len (is 10) t) 0 → end < suc (length t)
        → ((k : ℕ) → k ≡ position_or_len (is 10) t → k < length t → get_or t k 0 ≡ 10) → get_or (x ∷ t) end 0 ≡ 10
    go true f zero e h r = eqb-true x 10 f
    go true f (suc k) e h r = absurd (omega (arith, e))
    go false f zero e h r = absurd (omega (arith, e))
    go false f (suc k) e h r = r k (omega (arith, e)) (omega (arith, h))

pub tame_after : (rest : List ℕ) (end quiet left : ℕ) → end ≡ position_or_len (is 10) rest → end < length rest → end < quiet → left ≡ quiet - end - 1 → IsTame 10 (take quiet rest)
    → IsTame 10 (take left (drop (end + 1) rest))
tame_after rest end quiet left e h l is_left tame =
    let s : left ≡ quiet - (end + 1) = omega (arith, is_left) in
    subst (λ (k : ℕ). IsTame 10 (take k (drop (end + 1) rest))) (sym s)
    (subst (λ (b : ℕ). IsTame b (take (quiet - (end + 1)) (drop (end + 1) rest))) (at_newline rest end e h) (tame_rest 10 rest end quiet l h tame))

pub tame_on : (file rest : List ℕ) (at end quiet : ℕ) → rest ≡ drop at file → IsTame 10 (take quiet (drop (end + 1) rest)) → IsTame 10 (take quiet (drop (at + end + 1) file))
tame_on file rest at end quiet e h =
    let far : at + (end + 1) ≡ at + end + 1 = omega arith in
    subst (λ (l : List ℕ). IsTame 10 (take quiet l)) (ap (drop (end + 1)) e ∙ drop-drop (end + 1) at file ∙ ap (λ (n : ℕ). drop n file) far) h

module _ {X : Type 0} (f : Line → List X) (file : List ℕ) where
  abbrev Told : (so_far whole : List X) (n at : ℕ) → Type 0
  Told so_far whole n at = so_far ++ flat_map f (numbered n (pieces (is 10) (drop at file))) ≡ whole

  pub told_on : (so_far new whole : List X) (n at end : ℕ) (rest : List ℕ) → at < length file → rest ≡ drop at file → end ≡ position_or_len (is 10) rest
      → new ≡ so_far ++ f (line_of n (take end rest)) → Told so_far whole n at → Told new whole (n + 1) (at + end + 1)
  unfolding numbered
  told_on so_far new whole n at end rest h r e is_new told =
      ap (λ (l : List X). l ++ flat_map f (numbered (n + 1) (pieces (is 10) (drop (at + end + 1) file)))) is_new
      ∙ append_assoc so_far (f (line_of n (take end rest))) (flat_map f (numbered (n + 1) (pieces (is 10) (drop (at + end + 1) file))))
      ∙ sym (ap (λ (ps : List (List ℕ)). so_far ++ flat_map f (numbered n ps)) (line_at file at end rest h r e))
      ∙ told

  pub told_end : (so_far whole : List X) (n at : ℕ) → length file ≤ at → Told so_far whole n at → so_far ≡ whole
  unfolding numbered
  told_end so_far whole n at h told =
      sym (append-nil so_far) ∙ sym (ap (λ (ps : List (List ℕ)). so_far ++ flat_map f (numbered n ps)) (no_line_at file at h)) ∙ told

  told_rest : (so_far whole : List X) (n at : ℕ) → flat_map f (numbered n (pieces (is 10) (drop at file))) ≡ [] → Told so_far whole n at → so_far ≡ whole
  told_rest so_far whole n at e told = sym (append-nil so_far) ∙ sym (ap (λ (l : List X). so_far ++ l) e) ∙ told

pub quiet_on : (file : List ℕ) (n at end : ℕ) (rest : List ℕ) → at < length file → rest ≡ drop at file → end ≡ position_or_len (is 10) rest
    → AreQuiet file (numbered n (pieces (is 10) (drop at file)))
    → IsQuiet file (line_of n (take end rest)) × AreQuiet file (numbered (n + 1) (pieces (is 10) (drop (at + end + 1) file)))
unfolding numbered
quiet_on file n at end rest h r e q = subst (λ (ps : List (List ℕ)). AreQuiet file (numbered n ps)) (line_at file at end rest h r e) q

rest_tame : (file : List ℕ) (at quiet : ℕ) → length (drop at file) ≤ quiet → IsTame 10 (take quiet (drop at file)) → AreTame 10 (pieces (is 10) (drop at file))
rest_tame file at quiet h e = tame_lines 10 (drop at file) (subst (IsTame 10) (take_all quiet (drop at file) h) e)

pub told_tame : (format : Format) (allowed : List (List ℕ)) (path file rest : List ℕ) (so_far whole : List Finding) (n at quiet : ℕ) → rest ≡ drop at file → length rest ≤ quiet → IsTame 10 (take quiet (drop at file))
    → AreQuiet file (numbered n (pieces (is 10) (drop at file))) → so_far ++ flat_map (found_warnings format allowed path file) (numbered n (pieces (is 10) (drop at file))) ≡ whole → so_far ≡ whole
told_tame format allowed path file rest so_far whole n at quiet r h e q told =
    told_rest (found_warnings format allowed path file) file so_far whole n at
    (none_told format path file allowed n (pieces (is 10) (drop at file)) (rest_tame file at quiet (omega (arith, h, ap length r)) e) q) told
