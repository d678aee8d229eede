-- The tokens of properties by their keys.
use Rattle.std.proofs.Common.{◌≡◌, ◌∙◌, Bool, true, false, ap, sym, refl, ℕ, List, [], ◌∷◌, ◌++◌, codes, filter, map, not, if◌then◌else◌}
use Rattle.std.specs.Str.{IsUtf8}
use Rattle.std.proofs.lemmas.List.{append-nil}
use Rattle.std.proofs.lemmas.Str.{is_utf8-from_IsUtf8}
use Rattle.json.specs.Token.{Token}
use Rattle.hwdb_spec_commands.specs.Json.{array_of, has_name, pair_json, property_member, raw_members, text_json}
use Rattle.hwdb_show.specs.JsonTokens.{tokens_of_member, tokens_of_members}
use Rattle.hwdb_spec.specs.Lemmas.Orders.{not_utf8}

abbrev pub tokens_if_named : List ℕ × List ℕ → List Token
tokens_if_named p = tokens_of_members (map property_member (filter has_name (p ∷ [])))

abbrev if_named : List ℕ × List ℕ → Bool → List Token
if_named p b = tokens_of_members (map property_member (if b then p ∷ [] else []))

pub named_tokens : (key name value : List ℕ) → name ≡ key → IsUtf8 key → tokens_of_member (name, text_json value) ≡ tokens_if_named (key, value)
named_tokens key name value is utf8 =
    ap (λ k. tokens_of_member (k, text_json value)) is ∙ sym (append-nil (tokens_of_member (key, text_json value)))
    ∙ sym (ap (if_named (key, value)) (is_utf8-from_IsUtf8 key utf8))

pub unnamed_tokens : (key value : List ℕ) → (IsUtf8 key → ⊥) → [] ≡ tokens_if_named (key, value)
unnamed_tokens key value none = sym (ap (if_named (key, value)) (not_utf8 key none))

pub named_step : (p : List ℕ × List ℕ) (ps : List (List ℕ × List ℕ))
    → tokens_of_members (map property_member (filter has_name (p ∷ ps))) ≡ tokens_if_named p ++ tokens_of_members (map property_member (filter has_name ps))
named_step p ps = go (has_name p)
  where
    go : (b : Bool) → tokens_of_members (map property_member (if b then p ∷ filter has_name ps else filter has_name ps)) ≡ if_named p b ++ tokens_of_members (map property_member (filter has_name ps))
    go true = ap (λ l. l ++ tokens_of_members (map property_member (filter has_name ps))) (sym (append-nil (tokens_of_member (property_member p))))
    go false = refl

pub raw_tokens : (ps : List (List ℕ × List ℕ)) → (ps ≡ [] → ⊥) → tokens_of_member (codes "raw", array_of (map pair_json ps)) ≡ tokens_of_members (raw_members ps)
raw_tokens [] some = absurd (some refl)
raw_tokens (p ∷ ps) some = sym (append-nil (tokens_of_member (codes "raw", array_of (map pair_json (p ∷ ps)))))

abbrev if_raw : List ℕ × List ℕ → Bool → List (List ℕ × List ℕ)
if_raw p b = if not b then p ∷ [] else []

pub raw_one : (p : List ℕ × List ℕ) → (IsUtf8 p.0 → ⊥) → filter (λ q. not (has_name q)) (p ∷ []) ≡ p ∷ []
raw_one p none = ap (if_raw p) (not_utf8 p.0 none)

pub raw_none : (p : List ℕ × List ℕ) → IsUtf8 p.0 → filter (λ q. not (has_name q)) (p ∷ []) ≡ []
raw_none p utf8 = ap (if_raw p) (is_utf8-from_IsUtf8 p.0 utf8)
