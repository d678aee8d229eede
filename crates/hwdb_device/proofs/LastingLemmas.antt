-- A record's pattern matches its string, and that of the same device in another port and with another BIOS.
use Rattle.std.proofs.Common.{◌≡◌, ◌∙◌, ap, sym, subst, refl, ℕ, zero, suc, ◌-◌, Bool, true, false, Option, None, Some, List, [], ◌∷◌, ◌++◌, cond, codes, take, drop, length, append_assoc, append-nil, ◌==◌}
use Rattle.std.proofs.lemmas.List.{take-append-drop}
use Rattle.std.specs.Cmp.Lexicographic.{other_text, pointwise, same_text}
use Rattle.std.specs.List.{ends_with}
use Rattle.std.specs.Option.{option_map_or}
use Rattle.std.specs.Prelude.{nat_eq}
use Rattle.hwdb_spec.specs.Patterns.{matches, piece_then, some_ending, token_at, tokens, tokens_from}
use Rattle.hwdb_spec_commands.specs.DeviceRecords.{begins, from_first, lasting, machine_pattern, model_part, model_pattern, model_type, numbers_end, pattern_for, text_pattern, up_to_colons}
use Rattle.hwdb_device.specs.RecordLaws.{Part}
use Rattle.hwdb_device.proofs.PatternLemmas.{fronted, matched}

-- ---- a star

ending_here : (test : List ℕ → Bool) (rest : List ℕ) → test rest ≡ true → some_ending test rest ≡ true
unfolding some_ending
ending_here test [] h = h
ending_here test (b ∷ rest) h = rw h refl

ending_is : (test : List ℕ → Bool) (piece rest : List ℕ) → test rest ≡ true → some_ending test (piece ++ rest) ≡ true
unfolding some_ending
ending_is test [] rest h = ending_here test rest h
ending_is test (b ∷ piece) rest h =
    let again : some_ending test (piece ++ rest) ≡ true = ending_is test piece rest h in
    elim (test (b ∷ piece ++ rest)) as (λ c. cond c true (some_ending test (piece ++ rest)) ≡ true) [ true ↦ refl | false ↦ again ]

any_then : (rest piece text : List ℕ) → matches (tokens rest) text ≡ true → matches (tokens (42 ∷ rest)) (piece ++ text) ≡ true
unfolding tokens_from matches token_at piece_then
any_then rest piece text m = ending_is (matches (tokens rest)) piece text m

nothing_left : matches (tokens []) [] ≡ true
unfolding tokens_from matches
nothing_left = refl

any : (text : List ℕ) → matches (tokens (codes "*")) text ≡ true
any text = subst (λ (t : List ℕ). matches (tokens (codes "*")) t ≡ true) (append-nil text) (any_then [] text [] nothing_left)

pub front_matched : (front rest : List ℕ) → matches (tokens (pattern_for front ++ codes "*")) (front ++ rest) ≡ true
front_matched front rest = fronted front (codes "*") rest (any rest)

-- ---- what a text begins and ends with

pub begins_is : (start text : List ℕ) → begins start text ≡ true → text ≡ start ++ drop (length start) text
begins_is start text h =
    sym (take-append-drop (length start) text)
    ∙ ap (λ (l : List ℕ). l ++ drop (length start) text) (sym (same_text start (take (length start) text) (sym h)))

ends_is : (text end : List ℕ) → ends_with nat_eq text end ≡ true → text ≡ take (length text - length end) text ++ end
ends_is text end h =
    sym (take-append-drop (length text - length end) text)
    ∙ ap (λ (l : List ℕ). take (length text - length end) text ++ l) (sym (same_text end (drop (length text - length end) text) (sym h)))

pub same_self : (text : List ℕ) → pointwise nat_eq text text ≡ true
same_self text =
    elim (pointwise nat_eq text text) as (λ c. c ≡ pointwise nat_eq text text → c ≡ true) [ true ↦ λ e. refl | false ↦ λ e. absurd (other_text text text e refl) ] refl

-- ---- the machine's vendor and model are a part of its name

from_ends : (wanted text : List ℕ) → (before : List ℕ) × (text ≡ before ++ from_first wanted text)
unfolding from_first
from_ends wanted [] = ([], refl)
from_ends wanted (b ∷ rest) =
    let more : (before : List ℕ) × (rest ≡ before ++ from_first wanted rest) = from_ends wanted rest in
    elim (begins wanted (b ∷ rest)) as (λ c. (before : List ℕ) × (b ∷ rest ≡ before ++ cond c (b ∷ rest) (from_first wanted rest))) [
      | true ↦ ([], refl)
      | false ↦ (b ∷ more.0, ap (λ (l : List ℕ). b ∷ l) more.1)
    ]

up_begins : (n : ℕ) (text : List ℕ) → (after : List ℕ) × (text ≡ up_to_colons n text ++ after)
unfolding up_to_colons
up_begins zero text = (text, refl)
up_begins (suc n) [] = ([], refl)
up_begins (suc n) (b ∷ rest) =
    let more : (after : List ℕ) × (rest ≡ up_to_colons (cond (b == 58) n (suc n)) rest ++ after) = up_begins (cond (b == 58) n (suc n)) rest in
    (more.0, ap (λ (l : List ℕ). b ∷ l) more.1)

type_begins : (model : List ℕ) → (after : List ℕ) × (model ≡ model_type model ++ after)
type_begins model =
    elim (begins (codes ":svnLENOVO:pn") model) as (λ c. (after : List ℕ) × (model ≡ cond c (take 17 model) model ++ after)) [
      | true ↦ (drop 17 model, sym (take-append-drop 17 model))
      | false ↦ ([], sym (append-nil model))
    ]

model_is_part : (rest : List ℕ) → Part (model_part rest) rest
model_is_part rest =
    let from : List ℕ = from_first (codes ":svn") rest in
    let model : List ℕ = up_to_colons 3 from in
    let f : (before : List ℕ) × (rest ≡ before ++ from) = from_ends (codes ":svn") rest in
    let u : (after : List ℕ) × (from ≡ model ++ after) = up_begins 3 from in
    let t : (after : List ℕ) × (model ≡ model_type model ++ after) = type_begins model in
    record {
      before = f.0;
      after = t.0 ++ u.0;
      is = f.1 ∙ ap (λ (l : List ℕ). f.0 ++ l) (u.1 ∙ ap (λ (l : List ℕ). l ++ u.0) t.1 ∙ append_assoc (model_type model) t.0 u.0);
    }

-- ---- a pattern matches its string

model_matched : (model before after : List ℕ) → matches (tokens (model_pattern model)) (codes "dmi:" ++ (before ++ (model ++ after))) ≡ true
model_matched [] before after = fronted (codes "dmi:") (codes "*") (before ++ after) (any (before ++ after))
model_matched (b ∷ more) before after =
    fronted (codes "dmi:") (42 ∷ (pattern_for (b ∷ more) ++ codes "*")) (before ++ ((b ∷ more) ++ after))
    (any_then (pattern_for (b ∷ more) ++ codes "*") before ((b ∷ more) ++ after) (front_matched (b ∷ more) after))

after_dmi_matched : (rest : List ℕ) → matches (tokens (model_pattern (model_part rest))) (codes "dmi:" ++ rest) ≡ true
after_dmi_matched rest =
    let part : Part (model_part rest) rest = model_is_part rest in
    subst (λ (l : List ℕ). matches (tokens (model_pattern (model_part rest))) (codes "dmi:" ++ l) ≡ true) (sym part.is)
    (model_matched (model_part rest) part.before part.after)

pub machine_matched : (machine : List ℕ) → matches (tokens (machine_pattern machine)) machine ≡ true
machine_matched machine =
    elim (begins (codes "dmi:") machine) as (λ c. begins (codes "dmi:") machine ≡ c
    → matches (tokens (cond c (model_pattern (model_part (drop 4 machine))) (pattern_for machine))) machine ≡ true) [
      | true ↦ λ e. subst (λ (l : List ℕ). matches (tokens (model_pattern (model_part (drop 4 machine)))) l ≡ true)
          (sym (begins_is (codes "dmi:") machine e)) (after_dmi_matched (drop 4 machine))
      | false ↦ λ e. matched machine
    ] refl

-- a string that ends with the machine's name, or doesn't
ending_matched : (machine text : List ℕ) → matches (tokens (cond (ends_with nat_eq text machine)
    (pattern_for (take (length text - length machine) text) ++ machine_pattern machine) (pattern_for text))) text ≡ true
ending_matched machine text =
    let front : List ℕ = take (length text - length machine) text in
    elim (ends_with nat_eq text machine) as (λ c. ends_with nat_eq text machine ≡ c
    → matches (tokens (cond c (pattern_for front ++ machine_pattern machine) (pattern_for text))) text ≡ true) [
      | true ↦ λ e. subst (λ (l : List ℕ). matches (tokens (pattern_for front ++ machine_pattern machine)) l ≡ true)
          (sym (ends_is text machine e)) (fronted front (machine_pattern machine) machine (machine_matched machine))
      | false ↦ λ e. matched text
    ] refl

text_matched : (machine text : List ℕ) → matches (tokens (text_pattern machine text)) text ≡ true
text_matched machine text =
    elim (begins (codes "dmi:") text) as (λ c. matches (tokens (cond c (machine_pattern text) (cond (ends_with nat_eq text machine)
    (pattern_for (take (length text - length machine) text) ++ machine_pattern machine) (pattern_for text)))) text ≡ true) [
      | true ↦ machine_matched text
      | false ↦ ending_matched machine text
    ]

pub lasting_matched : (machine text : List ℕ) → matches (tokens (lasting machine text)) text ≡ true
lasting_matched machine text =
    elim (numbers_end text) as (λ (o : Option ℕ). matches (tokens (option_map_or (λ size. pattern_for (take size text) ++ codes "*") o (text_pattern machine text))) text ≡ true) [
      | None ↦ text_matched machine text
      | Some size ↦ subst (λ (l : List ℕ). matches (tokens (pattern_for (take size text) ++ codes "*")) l ≡ true) (take-append-drop size text)
          (front_matched (take size text) (drop size text))
    ]
