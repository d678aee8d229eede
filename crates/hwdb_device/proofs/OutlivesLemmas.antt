-- A record's pattern outlives another port and another BIOS, and matches no other device.
use Rattle.std.proofs.Common.{◌≡◌, ◌∙◌, ap, sym, subst, refl, ℕ, suc, ◌+◌, ◌-◌, true, false, None, Some, List, [], ◌∷◌, ◌++◌, codes, take, drop, length, append_assoc, arith}
use Rattle.std.proofs.lemmas.List.{length-append}
use Rattle.std.proofs.Math.Seq.{drop-append_seam, take-append_seam}
use Rattle.std.specs.Cmp.Lexicographic.{pointwise}
use Rattle.std.specs.List.{AllByRecursion, ends_with}
use Rattle.std.specs.Prelude.{nat_eq}
use Rattle.hwdb_spec.specs.Lines.{has, is}
use Rattle.hwdb_spec.specs.Lemmas.Truth.{or_neither}
use Rattle.hwdb_spec.specs.Patterns.{matches, tokens}
use Rattle.hwdb_spec_commands.specs.DeviceRecords.{begins, from_first, lasting, machine_pattern, model_part, model_pattern, model_type, numbered, numbers_end, pattern_for, up_to_colons}
use Rattle.hwdb_device.specs.RecordLaws.{IsOfBios, OutlivesBios, OutlivesPort, fields_before, machine_of, named_model, of_machines}
use Rattle.hwdb_device.proofs.LastingLemmas.{begins_is, front_matched, machine_matched, same_self}
use Rattle.hwdb_device.proofs.PatternLemmas.{fronted}

-- ---- numbers

numbers_of : (start numbers rest : List ℕ) (n : ℕ) → length numbers ≡ n → take (length start + n) (start ++ (numbers ++ rest)) ≡ start ++ numbers
numbers_of start numbers rest n e =
    ap (λ (k : ℕ). take k (start ++ (numbers ++ rest))) (ap (λ (k : ℕ). length start + k) (sym e) ∙ sym (length-append start numbers))
    ∙ ap (take (length (start ++ numbers))) (sym (append_assoc start numbers rest))
    ∙ take-append_seam (start ++ numbers) rest

pub lasting_numbers : (start : List ℕ) (n : ℕ) → ((text : List ℕ) → numbers_end (start ++ text) ≡ Some (length start + n))
    → (numbers rest machine : List ℕ) → length numbers ≡ n → lasting machine (start ++ (numbers ++ rest)) ≡ pattern_for (start ++ numbers) ++ codes "*"
lasting_numbers start n ends numbers rest machine e =
    rw (ends (numbers ++ rest)) (ap (λ (l : List ℕ). pattern_for l ++ codes "*") (numbers_of start numbers rest n e))

port_row : (start : List ℕ) (n : ℕ) → ((text : List ℕ) → numbers_end (start ++ text) ≡ Some (length start + n)) → OutlivesPort (start, n)
port_row start n ends numbers rest other machine e =
    subst (λ (p : List ℕ). matches (tokens p) (start ++ (numbers ++ other)) ≡ true) (sym (lasting_numbers start n ends numbers rest machine e))
    (subst (λ (t : List ℕ). matches (tokens (pattern_for (start ++ numbers) ++ codes "*")) t ≡ true) (append_assoc start numbers other)
    (front_matched (start ++ numbers) other))

pub outlives_port : AllByRecursion OutlivesPort numbered
outlives_port = (
  port_row (codes "evdev:input:b") 14 (λ text. refl),
  (
    port_row (codes "id-input:modalias:input:b") 14 (λ text. refl),
    (
      port_row (codes "input:b") 14 (λ text. refl),
      (
        port_row (codes "mouse:usb:v") 10 (λ text. refl),
        (
          port_row (codes "mouse:bluetooth:v") 10 (λ text. refl),
          (
            port_row (codes "touchpad:usb:v") 10 (λ text. refl),
            (
              port_row (codes "touchpad:bluetooth:v") 10 (λ text. refl),
              (
                port_row (codes "joystick:usb:v") 10 (λ text. refl),
                (
                  port_row (codes "joystick:bluetooth:v") 10 (λ text. refl),
                  (
                    port_row (codes "usb:v") 9 (λ text. refl),
                    (port_row (codes "pci:v") 17 (λ text. refl), tt),
                  ),
                ),
              ),
            ),
          ),
        ),
      ),
    ),
  ),
)

-- ---- fields of a BIOS are passed by

not_colon : (b : ℕ) → is 58 b ≡ false → b ≡ 58 → ⊥
not_colon b h e = let t : true ≡ false = subst (λ (x : ℕ). is 58 x ≡ false) e h in absurd (cc)

not_begun : (b : ℕ) (rest : List ℕ) → is 58 b ≡ false → begins (codes ":svn") (b ∷ rest) ≡ false
not_begun b rest h =
    elim (begins (codes ":svn") (b ∷ rest)) as (λ c. begins (codes ":svn") (b ∷ rest) ≡ c → c ≡ false) [
      | true ↦ λ e. let f : b ∷ rest ≡ 58 ∷ (115 ∷ 118 ∷ 110 ∷ drop 4 (b ∷ rest)) = begins_is (codes ":svn") (b ∷ rest) e in
          let g : b ≡ 58 = cc in absurd (not_colon b h g)
      | false ↦ λ e. refl
    ] refl

passed_field : (field text : List ℕ) → has 58 field ≡ false → from_first (codes ":svn") (field ++ 58 ∷ text) ≡ from_first (codes ":svn") (58 ∷ text)
unfolding from_first
passed_field [] text h = refl
passed_field (b ∷ field) text h =
    let both : (is 58 b ≡ false) × (has 58 field ≡ false) = or_neither (is 58 b) (has 58 field) h in
    rw (not_begun b (field ++ 58 ∷ text) both.0) (passed_field field text both.1)

no_115 : (b : ℕ) → b ≡ 58 → b ≡ 115 → ⊥
no_115 b e f = omega (arith, e, f)

no_118 : (b : ℕ) → b ≡ 58 → b ≡ 118 → ⊥
no_118 b e f = omega (arith, e, f)

no_110 : (b : ℕ) → b ≡ 58 → b ≡ 110 → ⊥
no_110 b e f = omega (arith, e, f)

not_vendor : (field text rest : List ℕ) → begins (codes "svn") field ≡ false → field ++ 58 ∷ text ≡ 115 ∷ 118 ∷ 110 ∷ rest → ⊥
not_vendor [] text rest h e = no_115 58 refl (cc)
not_vendor (a ∷ []) text rest h e = no_118 58 refl (cc)
not_vendor (a ∷ b ∷ []) text rest h e = no_110 58 refl (cc)
not_vendor (a ∷ b ∷ c ∷ field) text rest h e =
    let f : a ≡ 115 = cc in let g : b ≡ 118 = cc in let i : c ≡ 110 = cc in
    let j : begins (codes "svn") (115 ∷ b ∷ c ∷ field) ≡ false = subst (λ (x : ℕ). begins (codes "svn") (x ∷ b ∷ c ∷ field) ≡ false) f h in
    let k : begins (codes "svn") (115 ∷ 118 ∷ c ∷ field) ≡ false = subst (λ (x : ℕ). begins (codes "svn") (115 ∷ x ∷ c ∷ field) ≡ false) g j in
    let l : true ≡ false = subst (λ (x : ℕ). begins (codes "svn") (115 ∷ 118 ∷ x ∷ field) ≡ false) i k in absurd (cc)

not_vendor_here : (field text : List ℕ) → begins (codes "svn") field ≡ false → begins (codes ":svn") (58 ∷ (field ++ 58 ∷ text)) ≡ false
not_vendor_here field text h =
    elim (begins (codes ":svn") (58 ∷ (field ++ 58 ∷ text))) as (λ c. begins (codes ":svn") (58 ∷ (field ++ 58 ∷ text)) ≡ c → c ≡ false) [
      | true ↦ λ e. let f : 58 ∷ (field ++ 58 ∷ text) ≡ 58 ∷ (115 ∷ 118 ∷ 110 ∷ drop 4 (58 ∷ (field ++ 58 ∷ text))) = begins_is (codes ":svn") (58 ∷ (field ++ 58 ∷ text)) e in
          let g : field ++ 58 ∷ text ≡ 115 ∷ 118 ∷ 110 ∷ drop 4 (58 ∷ (field ++ 58 ∷ text)) = cc in
          absurd (not_vendor field text (drop 4 (58 ∷ (field ++ 58 ∷ text))) h g)
      | false ↦ λ e. refl
    ] refl

to_vendor : (bios : List (List ℕ)) (text : List ℕ) → AllByRecursion IsOfBios bios
    → from_first (codes ":svn") (58 ∷ fields_before bios (115 ∷ 118 ∷ 110 ∷ text)) ≡ 58 ∷ 115 ∷ 118 ∷ 110 ∷ text
unfolding from_first fields_before
to_vendor [] text a = refl
to_vendor (f ∷ bios) text a =
    rw (not_vendor_here f (fields_before bios (115 ∷ 118 ∷ 110 ∷ text)) a.0.1)
    (passed_field f (fields_before bios (115 ∷ 118 ∷ 110 ∷ text)) a.0.0 ∙ to_vendor bios text a.1)

from_vendor : (first : List ℕ) (bios : List (List ℕ)) (text : List ℕ) → AllByRecursion IsOfBios (first ∷ bios)
    → from_first (codes ":svn") (fields_before (first ∷ bios) (115 ∷ 118 ∷ 110 ∷ text)) ≡ 58 ∷ 115 ∷ 118 ∷ 110 ∷ text
unfolding fields_before
from_vendor first bios text a =
    passed_field first (fields_before bios (115 ∷ 118 ∷ 110 ∷ text)) a.0.0 ∙ to_vendor bios text a.1

-- ---- vendor and model

up_field : (n : ℕ) (field text : List ℕ) → has 58 field ≡ false → up_to_colons (suc n) (field ++ 58 ∷ text) ≡ field ++ 58 ∷ up_to_colons n text
unfolding up_to_colons
up_field n [] text h = refl
up_field n (b ∷ field) text h =
    let both : (is 58 b ≡ false) × (has 58 field ≡ false) = or_neither (is 58 b) (has 58 field) h in
    rw both.0 (ap (λ (l : List ℕ). b ∷ l) (up_field n field text both.1))

up_model : (vendor model rest : List ℕ) → has 58 vendor ≡ false → has 58 model ≡ false
    → up_to_colons 3 (58 ∷ 115 ∷ 118 ∷ 110 ∷ (vendor ++ 58 ∷ 112 ∷ 110 ∷ (model ++ 58 ∷ rest))) ≡ named_model vendor model
unfolding up_to_colons
up_model vendor model rest v m =
    ap (λ (l : List ℕ). 58 ∷ 115 ∷ 118 ∷ 110 ∷ l) (up_field 1 vendor (112 ∷ 110 ∷ (model ++ 58 ∷ rest)) v
    ∙ ap (λ (l : List ℕ). vendor ++ 58 ∷ 112 ∷ 110 ∷ l) (up_field 0 model rest m))

pub model_of : (first : List ℕ) (bios : List (List ℕ)) (vendor model rest : List ℕ) → AllByRecursion IsOfBios (first ∷ bios)
    → has 58 vendor ≡ false → has 58 model ≡ false
    → model_part (fields_before (first ∷ bios) (codes "svn" ++ (vendor ++ (codes ":pn" ++ (model ++ 58 ∷ rest))))) ≡ model_type (named_model vendor model)
model_of first bios vendor model rest a v m =
    ap (λ (l : List ℕ). model_type (up_to_colons 3 l)) (from_vendor first bios (vendor ++ 58 ∷ 112 ∷ 110 ∷ (model ++ 58 ∷ rest)) a)
    ∙ ap model_type (up_model vendor model rest v m)

-- ---- a string that ends with the machine's name

minus : (a b : ℕ) → (a + b) - b ≡ a
minus a b = omega arith

pub lasting_machine : (front machine : List ℕ) → numbers_end (front ++ machine) ≡ None → begins (codes "dmi:") (front ++ machine) ≡ false
    → lasting machine (front ++ machine) ≡ pattern_for front ++ machine_pattern machine
lasting_machine front machine n d =
    let k : length (front ++ machine) - length machine ≡ length front =
    ap (λ (x : ℕ). x - length machine) (length-append front machine) ∙ minus (length front) (length machine) in
    let e : ends_with nat_eq (front ++ machine) machine ≡ true =
    ap (λ (x : ℕ). pointwise nat_eq machine (drop x (front ++ machine))) k ∙ ap (pointwise nat_eq machine) (drop-append_seam front machine) ∙ same_self machine in
    rw n (rw d (rw e (ap (λ (x : ℕ). pattern_for (take x (front ++ machine)) ++ machine_pattern machine) k
    ∙ ap (λ (l : List ℕ). pattern_for l ++ machine_pattern machine) (take-append_seam front machine))))

bios_row : (start : List ℕ) → ((text : List ℕ) → numbers_end (start ++ text) ≡ None) → ((text : List ℕ) → begins (codes "dmi:") (start ++ text) ≡ false)
    → OutlivesBios start
bios_row start n d name first other bios others vendor model rest after a b v m =
    let old : List ℕ = machine_of (first ∷ bios) vendor model rest in
    let new : List ℕ = machine_of (other ∷ others) vendor model after in
    let assoc : (start ++ name) ++ old ≡ start ++ (name ++ old) = append_assoc start name old in
    let same : machine_pattern old ≡ machine_pattern new =
    ap (λ (l : List ℕ). model_pattern l) (model_of first bios vendor model rest a v m ∙ sym (model_of other others vendor model after b v m)) in
    let made : lasting old (start ++ (name ++ old)) ≡ pattern_for (start ++ name) ++ machine_pattern new =
    ap (lasting old) (sym assoc)
    ∙ lasting_machine (start ++ name) old (ap numbers_end assoc ∙ n (name ++ old)) (ap (begins (codes "dmi:")) assoc ∙ d (name ++ old))
    ∙ ap (λ (l : List ℕ). pattern_for (start ++ name) ++ l) same in
    subst (λ (p : List ℕ). matches (tokens p) (start ++ (name ++ new)) ≡ true) (sym made)
    (subst (λ (t : List ℕ). matches (tokens (pattern_for (start ++ name) ++ machine_pattern new)) t ≡ true) (append_assoc start name new)
    (fronted (start ++ name) (machine_pattern new) new (machine_matched new)))

pub outlives_bios : AllByRecursion OutlivesBios of_machines
outlives_bios = (
  bios_row (codes "evdev:atkbd:") (λ text. refl) (λ text. refl),
  (
    bios_row (codes "evdev:name:") (λ text. refl) (λ text. refl),
    (
      bios_row (codes "sensor:") (λ text. refl) (λ text. refl),
      (bios_row (codes "battery:") (λ text. refl) (λ text. refl), tt),
    ),
  ),
)
