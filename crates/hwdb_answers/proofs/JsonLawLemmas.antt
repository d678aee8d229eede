-- What is read of JSON is what was written.
use Rattle.std.proofs.Common.{◌≡◌, ◌∙◌, ◌<◌, ◌≤◌, ◌^◌, ℕ, suc, Bool, true, false, refl, ap₂, arith, codes, List, [], ◌∷◌, ◌++◌, Some, filter, map, not, if◌then◌else◌}
use Rattle.std.specs.Prelude.{All}
use Rattle.std.specs.Str.{is_utf8}
use Rattle.std.proofs.Math.Nat.{max-le}
use Rattle.std.proofs.lemmas.Fmt.{decimal_is_IsNumeral}
use Rattle.std.proofs.lemmas.List.Elements.{All-filter}
use Rattle.hex.specs.Hex.{IsBytes}
use Rattle.json.specs.Find.{get}
use Rattle.json.specs.Json.{Json, string}
use Rattle.json.specs.Tree.{HasNumbers, ItemsHaveNumbers, MembersHaveNumbers, depth, items_depth, members_depth}
use Rattle.json.proofs.Printed.Decimals.{IsNumber-decimal}
use Rattle.hwdb_answers.proofs.EscapedJsonLemmas.{document_escaped}
use Rattle.hwdb_spec_commands.specs.Json.{array_of, bytes_in, device_json, has_name, items_of, members_in, members_of, named_in, number_json, object_of, pair_in, pair_json, pairs_in, property_member, raw_in, raw_members, text_at, text_in, text_json}
use Rattle.hwdb_answers.specs.JsonLaws.{ArePairBytes, DevicesAreReadBack, TextsAreReadBack}

-- P holds of each
abbrev Each : {X : Type 0} → (X → Type 0) → List X → Type 0
Each P [] = Unit {0}
Each P (x ∷ xs) = P x × Each P xs

each_of : {X : Type 0} (P : X → Type 0) (xs : List X) → All P xs → Each P xs
each_of P [] h = tt
each_of P (x ∷ xs) h = (h 0 x (omega arith), each_of P xs (λ k d lt. h (suc k) d (omega (arith, lt))))

-- ---- texts

short : (n : ℕ) → n < 256 → n < 2 ^ 64
short n h = omega (arith, h)

bytes_read : (text : List ℕ) → IsBytes text → bytes_in (items_of (map number_json text)) ≡ text
unfolding items_of
bytes_read [] h = refl
bytes_read (b ∷ bs) h = ap₂ (λ x xs. x ∷ xs) (decimal_is_IsNumeral b (short b (h 0))).1 (bytes_read bs (λ i. h (suc i)))

pub text_read : TextsAreReadBack
text_read text h = go (is_utf8 text)
  where
    go : (b : Bool) → text_in (if b then string text else array_of (map number_json text)) ≡ text
    go true = refl
    go false = bytes_read text h

bytes_written : (text : List ℕ) → IsBytes text → ItemsHaveNumbers (items_of (map number_json text))
unfolding items_of
bytes_written [] h = tt
bytes_written (b ∷ bs) h = (IsNumber-decimal b (short b (h 0)), bytes_written bs (λ i. h (suc i)))

text_written : (text : List ℕ) → IsBytes text → HasNumbers (text_json text)
text_written text h = go (is_utf8 text)
  where
    go : (b : Bool) → HasNumbers (if b then string text else array_of (map number_json text))
    go true = tt
    go false = bytes_written text h

bytes_depth : (text : List ℕ) → items_depth (items_of (map number_json text)) ≤ 0
unfolding items_of
bytes_depth [] = omega arith
bytes_depth (b ∷ bs) = max-le (omega arith) (bytes_depth bs)

text_depth : (text : List ℕ) → depth (text_json text) ≤ 1
text_depth text = go (is_utf8 text)
  where
    go : (b : Bool) → depth (if b then string text else array_of (map number_json text)) ≤ 1
    go true = omega arith
    go false = omega (arith, bytes_depth text)

-- ---- properties

members_read : (ps : List (List ℕ × List ℕ)) → Each ArePairBytes ps → members_in (members_of (map property_member ps)) ≡ ps
unfolding members_of
members_read [] h = refl
members_read (p ∷ ps) h = ap₂ (λ v rest. (p.0, v) ∷ rest) (text_read p.1 h.0.1) (members_read ps h.1)

members_written : (ps : List (List ℕ × List ℕ)) → Each ArePairBytes ps → MembersHaveNumbers (members_of (map property_member ps))
unfolding members_of
members_written [] h = tt
members_written (p ∷ ps) h = (text_written p.1 h.0.1, members_written ps h.1)

members_deep : (ps : List (List ℕ × List ℕ)) → members_depth (members_of (map property_member ps)) ≤ 1
unfolding members_of
members_deep [] = omega arith
members_deep (p ∷ ps) = max-le (text_depth p.1) (members_deep ps)

pair_read : (p : List ℕ × List ℕ) → ArePairBytes p → pair_in (pair_json p) ≡ p
unfolding items_of
pair_read p h = ap₂ (λ key value. (key, value)) (text_read p.0 h.0) (text_read p.1 h.1)

pair_written : (p : List ℕ × List ℕ) → ArePairBytes p → HasNumbers (pair_json p)
unfolding items_of
pair_written p h = (text_written p.0 h.0, (text_written p.1 h.1, tt))

pair_depth : (p : List ℕ × List ℕ) → depth (pair_json p) ≤ 2
unfolding items_of
pair_depth p =
    let both : items_depth (items_of (text_json p.0 ∷ text_json p.1 ∷ [])) ≤ 1 = max-le (text_depth p.0) (max-le (text_depth p.1) (omega arith)) in
    omega (arith, both)

pairs_read : (ps : List (List ℕ × List ℕ)) → Each ArePairBytes ps → pairs_in (items_of (map pair_json ps)) ≡ ps
unfolding items_of
pairs_read [] h = refl
pairs_read (p ∷ ps) h = ap₂ (λ x xs. x ∷ xs) (pair_read p h.0) (pairs_read ps h.1)

pairs_written : (ps : List (List ℕ × List ℕ)) → Each ArePairBytes ps → ItemsHaveNumbers (items_of (map pair_json ps))
unfolding items_of
pairs_written [] h = tt
pairs_written (p ∷ ps) h = (pair_written p h.0, pairs_written ps h.1)

pairs_deep : (ps : List (List ℕ × List ℕ)) → items_depth (items_of (map pair_json ps)) ≤ 2
unfolding items_of
pairs_deep [] = omega arith
pairs_deep (p ∷ ps) = max-le (pair_depth p) (pairs_deep ps)

-- ---- devices

abbrev line_value : Json → Json → List (List ℕ × List ℕ) → Json
line_value device named raw = object_of ((codes "device", device) ∷ (codes "properties", named) ∷ raw_members raw)

device_found : (device named : Json) (raw : List (List ℕ × List ℕ)) → text_at (codes "device") (line_value device named raw) ≡ text_in device
unfolding members_of
device_found device named [] = refl
device_found device named (p ∷ ps) = refl

named_found : (device named : Json) (raw : List (List ℕ × List ℕ)) → get (codes "properties") (line_value device named raw) ≡ Some named
unfolding members_of
named_found device named [] = refl
named_found device named (p ∷ ps) = refl

raw_found : (device named : Json) (raw : List (List ℕ × List ℕ)) → raw_in (get (codes "raw") (line_value device named raw)) ≡ pairs_in (items_of (map pair_json raw))
unfolding members_of items_of
raw_found device named [] = refl
raw_found device named (p ∷ ps) = refl

raw_written : (raw : List (List ℕ × List ℕ)) → Each ArePairBytes raw → MembersHaveNumbers (members_of (raw_members raw))
unfolding members_of
raw_written [] h = tt
raw_written (p ∷ ps) h = (pairs_written (p ∷ ps) h, tt)

raw_depth : (raw : List (List ℕ × List ℕ)) → members_depth (members_of (raw_members raw)) ≤ 3
unfolding members_of
raw_depth [] = omega arith
raw_depth (p ∷ ps) = max-le (omega (arith, pairs_deep (p ∷ ps))) (omega arith)

line_written : (device named : Json) (raw : List (List ℕ × List ℕ)) → HasNumbers device → HasNumbers named → Each ArePairBytes raw → HasNumbers (line_value device named raw)
unfolding members_of
line_written device named raw a b r = (a, (b, raw_written raw r))

line_depth : (device named : Json) (raw : List (List ℕ × List ℕ)) → depth device ≤ 1 → depth named ≤ 2 → depth (line_value device named raw) ≤ 128
unfolding members_of
line_depth device named raw a b =
    let all : members_depth (members_of ((codes "device", device) ∷ (codes "properties", named) ∷ raw_members raw)) ≤ 3 =
    max-le (omega (arith, a)) (max-le (omega (arith, b)) (raw_depth raw)) in
    omega (arith, all)

pub device_read : DevicesAreReadBack
device_read device properties bytes pairs =
    let named = filter has_name properties in
    let raw = filter (λ p. not (has_name p)) properties in
    let named_bytes = each_of ArePairBytes named (All-filter has_name ArePairBytes properties pairs) in
    let raw_bytes = each_of ArePairBytes raw (All-filter (λ p. not (has_name p)) ArePairBytes properties pairs) in
    let under : Json = object_of (map property_member named) in
    record {
      value = device_json device properties;
      is_read = document_escaped (device_json device properties)
          (line_written (text_json device) under raw (text_written device bytes) (members_written named named_bytes) raw_bytes)
          (line_depth (text_json device) under raw (text_depth device) (omega (arith, members_deep named)));
      device_is = device_found (text_json device) under raw ∙ text_read device bytes;
      properties_are = ap₂ (λ a b. named_in a ++ b) (named_found (text_json device) under raw) (raw_found (text_json device) under raw)
          ∙ ap₂ (λ a b. a ++ b) (members_read named named_bytes) (pairs_read raw raw_bytes);
    }
