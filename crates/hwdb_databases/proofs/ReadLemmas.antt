-- What a text of records assigns: what each of them assigns by itself.
use Rattle.std.proofs.Common.{◌≡◌, ◌∙◌, ◌+◌, ◌-◌, ap, sym, refl, ℕ, zero, suc, Bool, true, false, List, [], ◌∷◌, ◌++◌, map, take, take_while, length, flat_map, append_assoc, arith, None, Some, if◌then◌else◌, cond}
use Rattle.std.proofs.lemmas.Grind.{flat_map-append}
use Rattle.std.proofs.lemmas.List.{length-map}
use Rattle.std.specs.List.{onto_first, prefix_len}
use Rattle.hwdb_spec.specs.Assignment.{Assignment}
use Rattle.hwdb_spec_commands.specs.Dump.{record_text, comment_text, is_said, first_unsaid}
use Rattle.hwdb_spec.specs.Lines.{trimmed, Line, pieces, is, numbered, lines, clean, clean_line, is_dropped, is_empty, is_none, is_property, is_match, is_long, has_equals, has_key}
use Rattle.hwdb_spec.specs.Records.{Section, Origin, behind, first_section, size, sections_from, sections, patterns, assign, property_assignments, section_assignments, assignments}
use Rattle.hwdb_spec.specs.Texts.{property_text}

-- a list, cut
module _ {A : Type 0} (cuts : A → Bool) where
  some_pieces : (xs : List A) (x : A) → cuts x ≡ true → is_none (pieces cuts (xs ++ x ∷ [])) ≡ false
  unfolding pieces
  some_pieces [] x h = rw h refl
  some_pieces (z ∷ zs) x h =
      elim (cuts z) as (λ b. is_none (if b then [] ∷ pieces cuts (zs ++ x ∷ []) else onto_first z (pieces cuts (zs ++ x ∷ []))) ≡ false) [
        | true ↦ refl
        | false ↦ some_onto z (pieces cuts (zs ++ x ∷ []))
      ]
    where
      some_onto : (z : A) (ps : List (List A)) → is_none (onto_first z ps) ≡ false
      some_onto z [] = refl
      some_onto z (p ∷ ps) = refl

  onto_append : (z : A) (ps qs : List (List A)) → is_none ps ≡ false → onto_first z (ps ++ qs) ≡ onto_first z ps ++ qs
  onto_append z [] qs h = cc
  onto_append z (p ∷ ps) qs h = refl

  -- what comes after a member that cuts is cut by itself
  cut_behind : (xs : List A) (x : A) (ys : List A) → cuts x ≡ true → pieces cuts (xs ++ x ∷ ys) ≡ pieces cuts (xs ++ x ∷ []) ++ pieces cuts ys
  unfolding pieces
  cut_behind [] x ys h = rw h refl
  cut_behind (z ∷ zs) x ys h =
      let again : pieces cuts (zs ++ x ∷ ys) ≡ pieces cuts (zs ++ x ∷ []) ++ pieces cuts ys = cut_behind zs x ys h in
      elim (cuts z) as (λ b. (if b then [] ∷ pieces cuts (zs ++ x ∷ ys) else onto_first z (pieces cuts (zs ++ x ∷ ys)))
      ≡ (if b then [] ∷ pieces cuts (zs ++ x ∷ []) else onto_first z (pieces cuts (zs ++ x ∷ []))) ++ pieces cuts ys) [
        | true ↦ ap (λ l. [] ∷ l) again
        | false ↦ ap (onto_first z) again ∙ onto_append z (pieces cuts (zs ++ x ∷ [])) (pieces cuts ys) (some_pieces zs x h)
      ]

numbered_append : (k : ℕ) (xs ys : List (List ℕ)) → numbered k (xs ++ ys) ≡ numbered k xs ++ numbered (length xs + k) ys
unfolding numbered
numbered_append k [] ys = ap (λ n. numbered n ys) (omega arith)
numbered_append k (x ∷ xs) ys =
    ap (λ l. record { number = k; text = x } ∷ l) (numbered_append (k + 1) xs ys ∙ ap (λ n. numbered (k + 1) xs ++ numbered n ys) (omega arith))

clean_append : (xs ys : List Line) → clean (xs ++ ys) ≡ clean xs ++ clean ys
clean_append [] ys = refl
clean_append (l ∷ xs) ys =
    elim (is_dropped l) as (λ b. (if b then clean (xs ++ ys) else clean_line l ∷ clean (xs ++ ys)) ≡ (if b then clean xs else clean_line l ∷ clean xs) ++ clean ys) [
      | true ↦ clean_append xs ys
      | false ↦ ap (λ ls. clean_line l ∷ ls) (clean_append xs ys)
    ]

flat_map-map : {X Y Z : Type 0} (f : Y → List Z) (g : X → Y) (xs : List X) → flat_map f (map g xs) ≡ flat_map (λ x. f (g x)) xs
flat_map-map f g [] = refl
flat_map-map f g (x ∷ xs) = ap (λ l. f (g x) ++ l) (flat_map-map f g xs)

map_append : {X Y : Type 0} (f : X → Y) (xs ys : List X) → map f (xs ++ ys) ≡ map f xs ++ map f ys
map_append f [] ys = refl
map_append f (x ∷ xs) ys = ap (λ l. f x ∷ l) (map_append f xs ys)

map-flat_map : {X Y Z : Type 0} (f : Y → Z) (g : X → List Y) (xs : List X) → map f (flat_map g xs) ≡ flat_map (λ x. map f (g x)) xs
map-flat_map f g [] = refl
map-flat_map f g (x ∷ xs) = map_append f (g x) (flat_map g xs) ∙ ap (λ l. map f (g x) ++ l) (map-flat_map f g xs)

flat_map-same : {X Y : Type 0} (f g : X → List Y) → ((x : X) → f x ≡ g x) → (xs : List X) → flat_map f xs ≡ flat_map g xs
flat_map-same f g h [] = refl
flat_map-same f g h (x ∷ xs) = ap (λ l. l ++ flat_map f xs) (h x) ∙ ap (λ l. g x ++ l) (flat_map-same f g h xs)

-- ---- lines further on

module _ (n : ℕ) where
  abbrev on : Line → Line
  on l = record { number = n + l.number; text = l.text }

  numbered_on : (k : ℕ) (ts : List (List ℕ)) → numbered (n + k) ts ≡ map on (numbered k ts)
  unfolding numbered
  numbered_on k [] = refl
  numbered_on k (t ∷ ts) =
      ap (λ l. record { number = n + k; text = t } ∷ l) (ap (λ m. numbered m ts) (let P : n + k + 1 ≡ n + (k + 1) = omega arith in P) ∙ numbered_on (k + 1) ts)

  clean_on : (ls : List Line) → clean (map on ls) ≡ map on (clean ls)
  clean_on [] = refl
  clean_on (l ∷ ls) =
      elim (is_dropped l) as (λ b. (if b then clean (map on ls) else on (clean_line l) ∷ clean (map on ls)) ≡ map on (if b then clean ls else clean_line l ∷ clean ls)) [
        | true ↦ clean_on ls
        | false ↦ ap (λ l'. on (clean_line l) ∷ l') (clean_on ls)
      ]

  onto_on : (l : Line) (ps : List (List Line)) → onto_first (on l) (map (map on) ps) ≡ map (map on) (onto_first l ps)
  onto_on l [] = refl
  onto_on l (p ∷ ps) = refl

  blocks_on : (ls : List Line) → pieces is_empty (map on ls) ≡ map (map on) (pieces is_empty ls)
  unfolding pieces
  blocks_on [] = refl
  blocks_on (l ∷ ls) =
      elim (is_empty l) as (λ b. (if b then [] ∷ pieces is_empty (map on ls) else onto_first (on l) (pieces is_empty (map on ls)))
      ≡ map (map on) (if b then [] ∷ pieces is_empty ls else onto_first l (pieces is_empty ls))) [
        | true ↦ ap (λ p. [] ∷ p) (blocks_on ls)
        | false ↦ ap (onto_first (on l)) (blocks_on ls) ∙ onto_on l (pieces is_empty ls)
      ]

  module _ (test : Line → Bool) (alike : (l : Line) → test (on l) ≡ test l) where
    behind_on : (ls : List Line) → behind test (map on ls) ≡ map on (behind test ls)
    unfolding behind
    behind_on [] = refl
    behind_on (l ∷ ls) =
        ap (λ (b : Bool). if b then behind test (map on ls) else on l ∷ map on ls) (alike l)
        ∙ (elim (test l) as (λ b. (if b then behind test (map on ls) else on l ∷ map on ls) ≡ map on (if b then behind test ls else l ∷ ls)) [
          | true ↦ behind_on ls
          | false ↦ refl
        ])

    run_length : (ls : List Line) → prefix_len test (map on ls) ≡ prefix_len test ls
    run_length [] = refl
    run_length (l ∷ ls) = ap (λ (g : Bool × ℕ). cond g.0 (1 + g.1) 0) (λ i. (alike l i, run_length ls i))

    run_on : (ls : List Line) → take_while test (map on ls) ≡ map on (take_while test ls)
    run_on ls = ap (λ k. take k (map on ls)) (run_length ls) ∙ taken (prefix_len test ls) ls
      where
        taken : (k : ℕ) (ls : List Line) → take k (map on ls) ≡ map on (take k ls)
        taken zero ls = refl
        taken (suc k) [] = refl
        taken (suc k) (l ∷ ls) = ap (λ m. on l ∷ m) (taken k ls)

  first_on : (ls : List Line) → take 1 (map on ls) ≡ map on (take 1 ls)
  first_on [] = refl
  first_on (l ∷ ls) = refl

  abbrev section_on : Section → Section
  section_on s = record { leading = map on s.leading; matches = map on s.matches; properties = map on s.properties; stray = map on s.stray }

  first_section_on : (ls : List Line) → first_section (map on ls) ≡ section_on (first_section ls)
  unfolding first_section
  first_section_on ls =
      let matches : behind is_property (map on ls) ≡ map on (behind is_property ls) = behind_on is_property (λ l. refl) ls in
      let from = behind is_property ls in
      let properties : behind is_match (behind is_property (map on ls)) ≡ map on (behind is_match from) = ap (behind is_match) matches ∙ behind_on is_match (λ l. refl) from in
      let next = behind is_match from in
      λ i. record {
        leading = run_on is_property (λ l. refl) ls i;
        matches = (ap (take_while is_match) matches ∙ run_on is_match (λ l. refl) from) i;
        properties = (ap (take_while is_property) properties ∙ run_on is_property (λ l. refl) next) i;
        stray = (ap (λ m. take 1 (behind is_property m)) properties ∙ ap (take 1) (behind_on is_property (λ l. refl) next) ∙ first_on (behind is_property next)) i;
      }

  size_on : (s : Section) → size (section_on s) ≡ size s
  size_on s =
      let a = length-map s.leading on in let b = length-map s.matches on in let c = length-map s.properties on in let d = length-map s.stray on in
      omega (arith, a, b, c, d)

  sections_from_on : (skip : ℕ) (ls : List Line) → sections_from skip (map on ls) ≡ map section_on (sections_from skip ls)
  unfolding sections_from
  sections_from_on skip [] = refl
  sections_from_on (suc skip) (l ∷ ls) = sections_from_on skip ls
  sections_from_on zero (l ∷ ls) =
      ap (λ (s : Section). s ∷ sections_from (size s - 1) (map on ls)) (first_section_on (l ∷ ls))
      ∙ ap (λ (k : ℕ). section_on (first_section (l ∷ ls)) ∷ sections_from (k - 1) (map on ls)) (size_on (first_section (l ∷ ls)))
      ∙ ap (λ m. section_on (first_section (l ∷ ls)) ∷ m) (sections_from_on (size (first_section (l ∷ ls)) - 1) ls)

  sections_on : (ls : List Line) → sections (map on ls) ≡ map section_on (sections ls)
  sections_on ls =
      ap (flat_map (sections_from 0)) (blocks_on ls) ∙ flat_map-map (sections_from 0) (map on) (pieces is_empty ls)
      ∙ flat_map-same (λ b. sections_from 0 (map on b)) (λ b. map section_on (sections_from 0 b)) (sections_from_on 0) (pieces is_empty ls)
      ∙ sym (map-flat_map section_on (sections_from 0) (pieces is_empty ls))

  patterns_on : (ms : List Line) → patterns (map on ms) ≡ patterns ms
  patterns_on [] = refl
  patterns_on (l ∷ ms) =
      elim (is_long l) as (λ b. (if b then patterns (map on ms) else l.text ∷ patterns (map on ms)) ≡ (if b then patterns ms else l.text ∷ patterns ms)) [
        | true ↦ patterns_on ms
        | false ↦ ap (λ p. l.text ∷ p) (patterns_on ms)
      ]

  module _ (o p : Origin) where
    -- an assignment further on, in another file
    abbrev pub moved : Assignment → Assignment
    moved a = record {
      position = record { priority = o.priority; line = n + a.position.line; pattern = a.position.pattern; key = a.position.key };
      value = a.value;
      path = o.path;
    }

    all_on : (l : Line) (ps : List (List ℕ)) → map (assign o (on l)) ps ≡ map moved (map (assign p l) ps)
    all_on l [] = refl
    all_on l (q ∷ ps) = ap (λ m. assign o (on l) q ∷ m) (all_on l ps)

    property_on : (ps : List (List ℕ)) (l : Line) → property_assignments o ps (on l) ≡ map moved (property_assignments p ps l)
    property_on ps l =
        elim (has_equals l) as (λ b. (if b then (if has_key l then map (assign o (on l)) ps else []) else []) ≡ map moved (if b then (if has_key l then map (assign p l) ps else []) else [])) [
          | true ↦ elim (has_key l) as (λ c. (if c then map (assign o (on l)) ps else []) ≡ map moved (if c then map (assign p l) ps else [])) [
            | true ↦ all_on l ps
            | false ↦ refl
          ]
          | false ↦ refl
        ]

    section_moved : (s : Section) → section_assignments o (section_on s) ≡ map moved (section_assignments p s)
    section_moved s =
        ap (λ q. flat_map (property_assignments o q) (map on s.properties)) (patterns_on s.matches)
        ∙ flat_map-map (property_assignments o (patterns s.matches)) on s.properties
        ∙ flat_map-same (λ l. property_assignments o (patterns s.matches) (on l)) (λ l. map moved (property_assignments p (patterns s.matches) l)) (property_on (patterns s.matches)) s.properties
        ∙ sym (map-flat_map moved (property_assignments p (patterns s.matches)) s.properties)

    sections_moved : (ls : List Line) → flat_map (section_assignments o) (sections (clean (map on ls))) ≡ map moved (flat_map (section_assignments p) (sections (clean ls)))
    sections_moved ls =
        ap (λ c. flat_map (section_assignments o) (sections c)) (clean_on ls) ∙ ap (flat_map (section_assignments o)) (sections_on (clean ls))
        ∙ flat_map-map (section_assignments o) section_on (sections (clean ls))
        ∙ flat_map-same (λ s. section_assignments o (section_on s)) (λ s. map moved (section_assignments p s)) section_moved (sections (clean ls))
        ∙ sym (map-flat_map moved (section_assignments p) (sections (clean ls)))

-- what a text assigns whose first line has a number
abbrev pub read_from : Origin → ℕ → List ℕ → List Assignment
read_from o k text = flat_map (section_assignments o) (sections (clean (numbered k (pieces (is 10) text))))

-- a text assigns what it does wherever it begins
pub read_on : (o p : Origin) (n : ℕ) (text : List ℕ) → read_from o (n + 1) text ≡ map (moved n o p) (assignments p text)
read_on o p n text =
    ap (λ ls. flat_map (section_assignments o) (sections (clean ls))) (numbered_on n 1 (pieces (is 10) text))
    ∙ sections_moved n o p (lines text)

-- ---- records, one after another

two_behind : (a b e : List ℕ) → a ++ ((b ++ e) ++ e) ≡ ((a ++ b) ++ e) ++ e
two_behind a b e = sym (ap (λ l. l ++ e) (append_assoc a b e) ∙ append_assoc a (b ++ e) e)

abbrev end : List ℕ
end = 10 ∷ []

-- a record without its two last bytes
head : Assignment → List ℕ
head f = comment_text f ++ (f.position.pattern ++ 10 ∷ 32 ∷ (f.position.key ++ 61 ∷ f.value))

record_ends : (f : Assignment) → record_text f ≡ (head f ++ end) ++ end
unfolding head
record_ends f =
    let key = f.position.key in
    let own = key ++ 61 ∷ f.value in
    let property : property_text (key, f.value) ++ end ≡ (own ++ end) ++ end = append_assoc key (61 ∷ (f.value ++ end)) end ∙ two_behind key (61 ∷ f.value) end in
    ap (λ l. comment_text f ++ (f.position.pattern ++ 10 ∷ (32 ∷ l))) property
    ∙ ap (λ l. comment_text f ++ l) (two_behind f.position.pattern (10 ∷ 32 ∷ own) end)
    ∙ two_behind (comment_text f) (f.position.pattern ++ 10 ∷ 32 ∷ own) end

abbrev pub lines_in : List ℕ → List (List ℕ)
lines_in text = pieces (is 10) text

record_lines : (f : Assignment) → lines_in (record_text f) ≡ lines_in (head f ++ end) ++ [] ∷ []
unfolding pieces
record_lines f = ap lines_in (record_ends f ∙ append_assoc (head f) end end) ∙ cut_behind (is 10) (head f) 10 end refl

lines_behind : (f : Assignment) (more : List ℕ) → lines_in (record_text f ++ more) ≡ lines_in (record_text f) ++ lines_in more
lines_behind f more =
    ap (λ l. lines_in (l ++ more)) (record_ends f) ∙ ap lines_in (append_assoc (head f ++ end) end more)
    ∙ cut_behind (is 10) (head f ++ end) 10 more refl
    ∙ ap (λ l. lines_in l ++ lines_in more) (sym (record_ends f))

-- the clean lines of a record end in an empty one
abbrev last_line : Assignment → ℕ → Line
last_line f k = record { number = length (lines_in (head f ++ end)) + k; text = [] }

last_clean : (m : ℕ) → clean (numbered m ([] ∷ [])) ≡ record { number = m; text = [] } ∷ []
unfolding numbered trimmed
last_clean m = refl

clean_record : (f : Assignment) (k : ℕ) → clean (numbered k (lines_in (record_text f))) ≡ clean (numbered k (lines_in (head f ++ end))) ++ last_line f k ∷ []
clean_record f k =
    let front = lines_in (head f ++ end) in
    ap (λ l. clean (numbered k l)) (record_lines f) ∙ ap clean (numbered_append k front ([] ∷ []))
    ∙ clean_append (numbered k front) (numbered (length front + k) ([] ∷ []))
    ∙ ap (λ l. clean (numbered k front) ++ l) (last_clean (length front + k))

sections_behind : (xs : List Line) (e : Line) (ys : List Line) → is_empty e ≡ true → sections ((xs ++ e ∷ []) ++ ys) ≡ sections (xs ++ e ∷ []) ++ sections ys
sections_behind xs e ys h =
    ap sections (append_assoc xs (e ∷ []) ys) ∙ ap (flat_map (sections_from 0)) (cut_behind is_empty xs e ys h)
    ∙ flat_map-append (sections_from 0) (pieces is_empty (xs ++ e ∷ [])) (pieces is_empty ys)

pub read_behind : (o : Origin) (k : ℕ) (f : Assignment) (more : List ℕ)
    → read_from o k (record_text f ++ more) ≡ read_from o k (record_text f) ++ read_from o (length (lines_in (record_text f)) + k) more
read_behind o k f more =
    let own = numbered k (lines_in (record_text f)) in
    let rest = numbered (length (lines_in (record_text f)) + k) (lines_in more) in
    let front = clean (numbered k (lines_in (head f ++ end))) in
    let gives : List Line → List Assignment = λ ls. flat_map (section_assignments o) (sections ls) in
    ap (λ l. gives (clean (numbered k l))) (lines_behind f more)
    ∙ ap (λ l. gives (clean l)) (numbered_append k (lines_in (record_text f)) (lines_in more))
    ∙ ap gives (clean_append own rest)
    ∙ ap (λ l. gives (l ++ clean rest)) (clean_record f k)
    ∙ ap (flat_map (section_assignments o)) (sections_behind front (last_line f k) (clean rest) refl)
    ∙ flat_map-append (section_assignments o) (sections (front ++ last_line f k ∷ [])) (sections (clean rest))
    ∙ ap (λ l. gives l ++ gives (clean rest)) (sym (clean_record f k))

-- ---- what a record says

pub if_both : (a b : Bool) → (if a then b else false) ≡ true → (a ≡ true) × (b ≡ true)
if_both true b h = (refl, h)
if_both false b h = cc

pub none_unsaid : (f : Assignment) (fs : List Assignment) → first_unsaid (f ∷ fs) ≡ None → (is_said f ≡ true) × (first_unsaid fs ≡ None)
none_unsaid f fs h =
    elim (is_said f) as (λ b. is_said f ≡ b → (is_said f ≡ true) × (first_unsaid fs ≡ None)) [
      | true ↦ λ e. (e, sym (unsaid_rest e) ∙ h)
      | false ↦ λ e. let u : first_unsaid (f ∷ fs) ≡ Some f = rw e refl in let n : None ≡ Some f = sym h ∙ u in cc
    ] refl
  where
    unsaid_rest : is_said f ≡ true → first_unsaid (f ∷ fs) ≡ first_unsaid fs
    unsaid_rest e = rw e refl

pub nothing_read : (o : Origin) (k : ℕ) → let none : List ℕ = [] in let nothing : List Assignment = [] in read_from o k none ≡ nothing
unfolding pieces numbered
nothing_read o k = refl
