-- What holds of the tokens of values, by those of their parts. For the proofs of each crate that writes JSON.
use Rattle.std.proofs.Common.{◌≡◌, ◌∙◌, Bool, ap, sym, refl, ℕ, List, [], ◌∷◌, ◌++◌, append_assoc, flat_map, map, if◌then◌else◌}
use Rattle.std.proofs.lemmas.Grind.{flat_map-append}
use Rattle.std.specs.Str.{IsUtf8}
use Rattle.std.proofs.lemmas.List.{append-nil}
use Rattle.std.proofs.lemmas.Str.{is_utf8-from_IsUtf8}
use Rattle.json.specs.Json.{Json, string}
use Rattle.json.specs.Token.{Token}
use Rattle.json.specs.Tree.{json_tokens, items_tokens, members_tokens}
use Rattle.hwdb_spec_commands.specs.Json.{array_of, items_of, members_of, number_json, object_of, text_json}
use Rattle.hwdb_show.specs.JsonTokens.{tokens_of_member, tokens_of_members}
use Rattle.hwdb_spec.specs.Lemmas.Orders.{not_utf8}

-- ---- arrays and objects

-- the tokens of the items of an array, and of the members of an object
items_run : (values : List Json) → items_tokens (items_of values) ≡ flat_map json_tokens values ++ Token.end_array ∷ []
unfolding items_of
items_run [] = refl
items_run (v ∷ vs) = ap (λ l. json_tokens v ++ l) (items_run vs) ∙ sym (append_assoc (json_tokens v) (flat_map json_tokens vs) (Token.end_array ∷ []))

members_run : (ms : List (List ℕ × Json)) → members_tokens (members_of ms) ≡ tokens_of_members ms ++ Token.end_object ∷ []
unfolding members_of
members_run [] = refl
members_run (m ∷ ms) =
    ap (λ l. Token.key m.0 ∷ (json_tokens m.1 ++ l)) (members_run ms)
    ∙ ap (λ l. Token.key m.0 ∷ l) (sym (append_assoc (json_tokens m.1) (tokens_of_members ms) (Token.end_object ∷ [])))

-- what is written of an array, once it is closed
pub array_closed : (before now after : List Token) (done all : List Json) → now ≡ (before ++ Token.begin_array ∷ []) ++ flat_map json_tokens done → done ≡ all
    → after ≡ now ++ Token.end_array ∷ [] → after ≡ before ++ json_tokens (array_of all)
array_closed before now after done all so_far whole closed =
    closed ∙ ap (λ l. l ++ Token.end_array ∷ []) (so_far ∙ ap (λ d. (before ++ Token.begin_array ∷ []) ++ flat_map json_tokens d) whole)
    ∙ append_assoc (before ++ Token.begin_array ∷ []) (flat_map json_tokens all) (Token.end_array ∷ [])
    ∙ append_assoc before (Token.begin_array ∷ []) (flat_map json_tokens all ++ Token.end_array ∷ [])
    ∙ ap (λ l. before ++ Token.begin_array ∷ l) (sym (items_run all))

-- what is written of an object, once it is closed
pub object_closed : (before now after : List Token) (done all : List (List ℕ × Json)) → now ≡ (before ++ Token.begin_object ∷ []) ++ tokens_of_members done → done ≡ all
    → after ≡ now ++ Token.end_object ∷ [] → after ≡ before ++ json_tokens (object_of all)
object_closed before now after done all so_far whole closed =
    closed ∙ ap (λ l. l ++ Token.end_object ∷ []) (so_far ∙ ap (λ d. (before ++ Token.begin_object ∷ []) ++ tokens_of_members d) whole)
    ∙ append_assoc (before ++ Token.begin_object ∷ []) (tokens_of_members all) (Token.end_object ∷ [])
    ∙ append_assoc before (Token.begin_object ∷ []) (tokens_of_members all ++ Token.end_object ∷ [])
    ∙ ap (λ l. before ++ Token.begin_object ∷ l) (sym (members_run all))

-- one more after some
pub behind : {T : Type 0} (before now after : List T) (some one : List T) → now ≡ before ++ some → after ≡ now ++ one → after ≡ before ++ (some ++ one)
behind before now after some one so_far is = is ∙ ap (λ l. l ++ one) so_far ∙ append_assoc before some one

-- a name and its value
pub key_value : (before between after : List Token) (key : List ℕ) (value : Json) → between ≡ before ++ Token.key key ∷ [] → after ≡ between ++ json_tokens value
    → after ≡ before ++ tokens_of_member (key, value)
key_value before between after key value named is = behind before between after (Token.key key ∷ []) (json_tokens value) named is

-- one list of members after another
pub members_behind : (front before after : List Token) (ms more : List (List ℕ × Json)) → before ≡ front ++ tokens_of_members ms → after ≡ before ++ tokens_of_members more
    → after ≡ front ++ tokens_of_members (ms ++ more)
members_behind front before after ms more so_far is =
    behind front before after (tokens_of_members ms) (tokens_of_members more) so_far is ∙ ap (λ l. front ++ l) (sym (flat_map-append tokens_of_member ms more))

-- one member more
pub member_behind : (front before after : List Token) (ms : List (List ℕ × Json)) (m : List ℕ × Json) → before ≡ front ++ tokens_of_members ms → after ≡ before ++ tokens_of_member m
    → after ≡ front ++ tokens_of_members (ms ++ m ∷ [])
member_behind front before after ms m so_far is =
    members_behind front before after ms (m ∷ []) so_far (is ∙ ap (λ l. before ++ l) (sym (append-nil (tokens_of_member m))))

-- an array of two
pub two_closed : (before begun one two closed : List Token) (a b : Json) → begun ≡ before ++ Token.begin_array ∷ [] → one ≡ begun ++ json_tokens a → two ≡ one ++ json_tokens b
    → closed ≡ two ++ Token.end_array ∷ [] → closed ≡ before ++ json_tokens (array_of (a ∷ b ∷ []))
two_closed before begun one two closed a b opened first second is =
    array_closed before two closed (a ∷ b ∷ []) (a ∷ b ∷ [])
    (behind (before ++ Token.begin_array ∷ []) one two (json_tokens a) (json_tokens b) (first ∙ ap (λ l. l ++ json_tokens a) opened) second
    ∙ ap (λ l. (before ++ Token.begin_array ∷ []) ++ (json_tokens a ++ l)) (sym (append-nil (json_tokens b)))) refl is

-- members, once they have begun
pub no_members_yet : (front now : List Token) → now ≡ front → now ≡ front ++ tokens_of_members []
no_members_yet front now is = is ∙ sym (append-nil front)

-- ---- texts

-- the tokens of a text, if it is UTF-8 and if it isn't
abbrev text_tokens : List ℕ → Bool → List Token
text_tokens text b = json_tokens (if b then string text else array_of (map number_json text))

-- a text of UTF-8 is a string
pub string_tokens : (text s : List ℕ) → s ≡ text → IsUtf8 text → Token.string s ∷ [] ≡ json_tokens (text_json text)
string_tokens text s is utf8 = ap (λ l. Token.string l ∷ []) is ∙ sym (ap (text_tokens text) (is_utf8-from_IsUtf8 text utf8))

-- any other is an array of its bytes
pub byte_tokens : (text : List ℕ) → (IsUtf8 text → ⊥) → json_tokens (array_of (map number_json text)) ≡ json_tokens (text_json text)
byte_tokens text none = sym (ap (text_tokens text) (not_utf8 text none))
