-- A record's pattern matches no device with other numbers, and none on a machine of another vendor or model.
use Rattle.std.proofs.Common.{◌≡◌, ◌∙◌, ap, sym, refl, ℕ, ◌+◌, Bool, true, false, None, Some, List, [], ◌∷◌, ◌++◌, cond, codes, take, length, append_assoc, ◌==◌, eq-eqb}
use Rattle.std.proofs.lemmas.Bool.{eqb-true}
use Rattle.std.proofs.Math.Seq.{take-append_seam}
use Rattle.std.specs.List.{AllByRecursion, list_any}
use Rattle.hwdb_spec.specs.Lemmas.Truth.{or_neither}
use Rattle.hwdb_spec.specs.Patterns.{byte_then, matches, piece_then, some_ending, token_at, tokens, tokens_from}
use Rattle.hwdb_spec_commands.specs.DeviceRecords.{begins, is_special, lasting, model_pattern, model_type, numbered, numbers_end, pattern_byte, pattern_for}
use Rattle.hwdb_device.specs.RecordLaws.{IsOfModel, IsOfNumbers, Part, machine_of, named_model, of_machines}
use Rattle.hwdb_device.proofs.OutlivesLemmas.{lasting_machine, lasting_numbers, model_of}
use Rattle.hwdb_device.proofs.PatternLemmas.{itself}

-- ---- one byte

literal_then : (b c : ℕ) (rest text : List ℕ) → (b == 42) ≡ false → (b == 63) ≡ false → (b == 91) ≡ false
    → matches (tokens (b ∷ rest)) (c ∷ text) ≡ cond (c == b) (matches (tokens rest) text) false
unfolding tokens_from matches piece_then byte_then
literal_then b c rest text s q o = rw (itself b rest s q o) refl

literal_none : (b : ℕ) (rest : List ℕ) → (b == 42) ≡ false → (b == 63) ≡ false → (b == 91) ≡ false → matches (tokens (b ∷ rest)) [] ≡ false
unfolding tokens_from matches piece_then byte_then
literal_none b rest s q o = rw (itself b rest s q o) refl

literal_same : (b : ℕ) (rest text : List ℕ) → (b == 42) ≡ false → (b == 63) ≡ false → (b == 91) ≡ false
    → matches (tokens (b ∷ rest)) (b ∷ text) ≡ matches (tokens rest) text
literal_same b rest text s q o = literal_then b b rest text s q o ∙ rw (eq-eqb b b refl) refl

any_same : (b : ℕ) (rest text : List ℕ) → matches (tokens (63 ∷ rest)) (b ∷ text) ≡ matches (tokens rest) text
unfolding tokens_from matches token_at piece_then byte_then
any_same b rest text = refl

byte_same : (b : ℕ) (rest text : List ℕ) (s q o k h : Bool) → (b == 42) ≡ s → (b == 63) ≡ q → (b == 91) ≡ o → (b == 92) ≡ k → (b == 35) ≡ h
    → matches (tokens (pattern_byte b ∷ rest)) (b ∷ text) ≡ matches (tokens rest) text
byte_same b rest text true q o k h es eq eo ek eh = rw es (any_same b rest text)
byte_same b rest text false true o k h es eq eo ek eh = rw es (rw eq (any_same b rest text))
byte_same b rest text false false true k h es eq eo ek eh = rw es (rw eq (rw eo (any_same b rest text)))
byte_same b rest text false false false true h es eq eo ek eh = rw es (rw eq (rw eo (rw ek (any_same b rest text))))
byte_same b rest text false false false false true es eq eo ek eh = rw es (rw eq (rw eo (rw ek (rw eh (any_same b rest text)))))
byte_same b rest text false false false false false es eq eo ek eh = rw es (rw eq (rw eo (rw ek (rw eh (literal_same b rest text es eq eo)))))

-- a front that both have
front_same : (front rest text : List ℕ) → matches (tokens (pattern_for front ++ rest)) (front ++ text) ≡ matches (tokens rest) text
front_same [] rest text = refl
front_same (b ∷ front) rest text =
    byte_same b (pattern_for front ++ rest) (front ++ text) (b == 42) (b == 63) (b == 91) (b == 92) (b == 35) refl refl refl refl refl
    ∙ front_same front rest text

pattern_append : (front text rest : List ℕ) → pattern_for (front ++ text) ++ rest ≡ pattern_for front ++ (pattern_for text ++ rest)
pattern_append [] text rest = refl
pattern_append (b ∷ front) text rest = ap (λ (l : List ℕ). pattern_byte b ∷ l) (pattern_append front text rest)

-- ---- what a pattern for plain bytes matches begins with these

not_first : (c r : Bool) → cond c true r ≡ false → (c ≡ false) × (r ≡ false)
not_first true r e = absurd (cc)
not_first false r e = (refl, e)

both : (c r : Bool) → cond c r false ≡ true → (c ≡ true) × (r ≡ true)
both true r e = (refl, e)
both false r e = absurd (cc)

-- a byte that isn't special
record Plain (b : ℕ) : Type 0 where
  star : (b == 42) ≡ false
  one : (b == 63) ≡ false
  bracket : (b == 91) ≡ false
  byte : pattern_byte b ≡ b

plain_byte : (b : ℕ) → is_special b ≡ false → Plain b
plain_byte b h =
    let s : ((b == 42) ≡ false) × (cond (b == 63) true (cond (b == 91) true (cond (b == 92) true (b == 35))) ≡ false) =
    not_first (b == 42) (cond (b == 63) true (cond (b == 91) true (cond (b == 92) true (b == 35)))) h in
    let q : ((b == 63) ≡ false) × (cond (b == 91) true (cond (b == 92) true (b == 35)) ≡ false) =
    not_first (b == 63) (cond (b == 91) true (cond (b == 92) true (b == 35))) s.1 in
    let o : ((b == 91) ≡ false) × (cond (b == 92) true (b == 35) ≡ false) = not_first (b == 91) (cond (b == 92) true (b == 35)) q.1 in
    record { star = s.0; one = q.0; bracket = o.0; byte = ap (λ (c : Bool). cond c 63 b) h }

front_of : (front rest text : List ℕ) → list_any is_special front ≡ false → matches (tokens (pattern_for front ++ rest)) text ≡ true
    → (after : List ℕ) × (text ≡ front ++ after)
front_of [] rest text h m = (text, refl)
front_of (b ∷ front) rest [] h m =
    let p : Plain b = plain_byte b (or_neither (is_special b) (list_any is_special front) h).0 in
    let e : false ≡ true = sym (literal_none b (pattern_for front ++ rest) p.star p.one p.bracket)
    ∙ ap (λ (x : ℕ). matches (tokens (x ∷ (pattern_for front ++ rest))) []) (sym p.byte) ∙ m in
    absurd (cc)
front_of (b ∷ front) rest (c ∷ text) h m =
    let n : (is_special b ≡ false) × (list_any is_special front ≡ false) = or_neither (is_special b) (list_any is_special front) h in
    let p : Plain b = plain_byte b n.0 in
    let e : cond (c == b) (matches (tokens (pattern_for front ++ rest)) text) false ≡ true =
    sym (literal_then b c (pattern_for front ++ rest) text p.star p.one p.bracket)
    ∙ ap (λ (x : ℕ). matches (tokens (x ∷ (pattern_for front ++ rest))) (c ∷ text)) (sym p.byte) ∙ m in
    let t : ((c == b) ≡ true) × (matches (tokens (pattern_for front ++ rest)) text ≡ true) = both (c == b) (matches (tokens (pattern_for front ++ rest)) text) e in
    let more : (after : List ℕ) × (text ≡ front ++ after) = front_of front rest text n.1 t.1 in
    let is : c ≡ b = eqb-true c b t.0 in
    (more.0, ap (λ (x : ℕ). x ∷ text) is ∙ ap (λ (l : List ℕ). b ∷ l) more.1)

-- ---- numbers

numbers_row : (start : List ℕ) (n : ℕ) → ((text : List ℕ) → numbers_end (start ++ text) ≡ Some (length start + n)) → IsOfNumbers (start, n)
numbers_row start n ends numbers others rest other machine e f plain m =
    let made : matches (tokens (pattern_for start ++ (pattern_for numbers ++ codes "*"))) (start ++ (others ++ other)) ≡ true =
    ap (λ (p : List ℕ). matches (tokens p) (start ++ (others ++ other))) (sym (lasting_numbers start n ends numbers rest machine e ∙ pattern_append start numbers (codes "*"))) ∙ m in
    let own : matches (tokens (pattern_for numbers ++ codes "*")) (others ++ other) ≡ true =
    sym (front_same start (pattern_for numbers ++ codes "*") (others ++ other)) ∙ made in
    let found : (after : List ℕ) × (others ++ other ≡ numbers ++ after) = front_of numbers (codes "*") (others ++ other) plain own in
    sym (take-append_seam others other) ∙ ap (λ (k : ℕ). take k (others ++ other)) (f ∙ sym e) ∙ ap (take (length numbers)) found.1
    ∙ take-append_seam numbers found.0

pub only_numbers : AllByRecursion IsOfNumbers numbered
only_numbers = (
  numbers_row (codes "evdev:input:b") 14 (λ text. refl),
  (
    numbers_row (codes "id-input:modalias:input:b") 14 (λ text. refl),
    (
      numbers_row (codes "input:b") 14 (λ text. refl),
      (
        numbers_row (codes "mouse:usb:v") 10 (λ text. refl),
        (
          numbers_row (codes "mouse:bluetooth:v") 10 (λ text. refl),
          (
            numbers_row (codes "touchpad:usb:v") 10 (λ text. refl),
            (
              numbers_row (codes "touchpad:bluetooth:v") 10 (λ text. refl),
              (
                numbers_row (codes "joystick:usb:v") 10 (λ text. refl),
                (
                  numbers_row (codes "joystick:bluetooth:v") 10 (λ text. refl),
                  (
                    numbers_row (codes "usb:v") 9 (λ text. refl),
                    (numbers_row (codes "pci:v") 17 (λ text. refl), tt),
                  ),
                ),
              ),
            ),
          ),
        ),
      ),
    ),
  ),
)

-- ---- a machine

record Ending (test : List ℕ → Bool) (text : List ℕ) : Type 0 where
  piece : List ℕ
  rest : List ℕ
  whole : text ≡ piece ++ rest
  passes : test rest ≡ true

ending_of : (test : List ℕ → Bool) (text : List ℕ) → some_ending test text ≡ true → Ending test text
unfolding some_ending
ending_of test [] h = record { piece = []; rest = []; whole = refl; passes = h }
ending_of test (b ∷ rest) h =
    let again : some_ending test rest ≡ true → Ending test rest = ending_of test rest in
    elim (test (b ∷ rest)) as (λ c. test (b ∷ rest) ≡ c → cond c true (some_ending test rest) ≡ true → Ending test (b ∷ rest)) [
      | true ↦ λ e k. record { piece = []; rest = b ∷ rest; whole = refl; passes = e }
      | false ↦ λ e k. let r : Ending test rest = again k in record { piece = b ∷ r.piece; rest = r.rest; whole = ap (λ l. b ∷ l) r.whole; passes = r.passes }
    ] refl h

starred : (rest text : List ℕ) → matches (tokens (42 ∷ rest)) text ≡ true → Ending (matches (tokens rest)) text
unfolding tokens_from matches token_at piece_then
starred rest text m = ending_of (matches (tokens rest)) text m

model_only : (model other : List ℕ) → list_any is_special model ≡ false → matches (tokens (model_pattern model)) (codes "dmi:" ++ other) ≡ true → Part model other
model_only [] other h m = record { before = []; after = other; is = refl }
model_only (b ∷ more) other h m =
    let star : matches (tokens (42 ∷ (pattern_for (b ∷ more) ++ codes "*"))) other ≡ true =
    sym (front_same (codes "dmi:") (42 ∷ (pattern_for (b ∷ more) ++ codes "*")) other) ∙ m in
    let ending : Ending (matches (tokens (pattern_for (b ∷ more) ++ codes "*"))) other = starred (pattern_for (b ∷ more) ++ codes "*") other star in
    let own : (after : List ℕ) × (ending.rest ≡ (b ∷ more) ++ after) = front_of (b ∷ more) (codes "*") ending.rest h ending.passes in
    record { before = ending.piece; after = own.0; is = ending.whole ∙ ap (λ (l : List ℕ). ending.piece ++ l) own.1 }

model_row : (start : List ℕ) → ((text : List ℕ) → numbers_end (start ++ text) ≡ None) → ((text : List ℕ) → begins (codes "dmi:") (start ++ text) ≡ false)
    → IsOfModel start
model_row start n d name first bios vendor model rest other a v m plain is =
    let machine : List ℕ = machine_of (first ∷ bios) vendor model rest in
    let assoc : (start ++ name) ++ machine ≡ start ++ (name ++ machine) = append_assoc start name machine in
    let made : lasting machine (start ++ (name ++ machine)) ≡ pattern_for (start ++ name) ++ model_pattern (model_type (named_model vendor model)) =
    ap (lasting machine) (sym assoc)
    ∙ lasting_machine (start ++ name) machine (ap numbers_end assoc ∙ n (name ++ machine)) (ap (begins (codes "dmi:")) assoc ∙ d (name ++ machine))
    ∙ ap (λ (l : List ℕ). pattern_for (start ++ name) ++ model_pattern l) (model_of first bios vendor model rest a v m) in
    let matched : matches (tokens (pattern_for (start ++ name) ++ model_pattern (model_type (named_model vendor model)))) ((start ++ name) ++ (codes "dmi:" ++ other)) ≡ true =
    ap (λ (p : List ℕ). matches (tokens p) ((start ++ name) ++ (codes "dmi:" ++ other))) (sym made)
    ∙ ap (matches (tokens (lasting machine (start ++ (name ++ machine))))) (append_assoc start name (codes "dmi:" ++ other)) ∙ is in
    model_only (model_type (named_model vendor model)) other plain
    (sym (front_same (start ++ name) (model_pattern (model_type (named_model vendor model))) (codes "dmi:" ++ other)) ∙ matched)

pub only_model : AllByRecursion IsOfModel of_machines
only_model = (
  model_row (codes "evdev:atkbd:") (λ text. refl) (λ text. refl),
  (
    model_row (codes "evdev:name:") (λ text. refl) (λ text. refl),
    (
      model_row (codes "sensor:") (λ text. refl) (λ text. refl),
      (model_row (codes "battery:") (λ text. refl) (λ text. refl), tt),
    ),
  ),
)
