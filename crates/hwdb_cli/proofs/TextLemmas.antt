-- A name that is none of the commands that take `--text`.
use Rattle.std.proofs.Common.{◌≡◌, ◌≢◌, ◌∙◌, ◌∷◌, ap, cond, refl, sym, true≢false, Bool, List, None, Option, Some, [], false, true}
use Rattle.std.proofs.lemmas.Slice.Eq.{bytes_eq-Decides}
use Rattle.std.specs.List.{find}
use Rattle.std.specs.Prelude.{codes, option_map}
use Rattle.std.specs.Str.{bytes_eq}
use Rattle.clap.specs.Walk.{Row, Text}
use Rattle.hwdb_cli.proofs.UseLemmas.{Each}
use Rattle.hwdb_spec_commands.specs.Jobs.{text_taker, text_takers}

false_if : (b : Bool) → (b ≡ true → ⊥) → b ≡ false
false_if true unlike = absurd (unlike refl)
false_if false unlike = refl

other : (known name : Text) → name ≢ known → bytes_eq known name ≡ false
other known name apart = false_if (bytes_eq known name) (λ same. apart (sym ((bytes_eq-Decides known name).0 same)))

none_found : {X : Type 0} (p : X → Bool) (xs : List X) → Each (λ x. p x ≡ false) xs → find p xs ≡ None
none_found p [] each = refl
none_found p (x ∷ xs) each = ap (λ (b : Bool). cond b (Some x) (find p xs)) each.0 ∙ none_found p xs each.1

pub no_taker : (name : Text) (inner : List Row) → name ≢ codes "query" → name ≢ codes "explain" → name ≢ codes "list" → name ≢ codes "near" → name ≢ codes "device" → name ≢ codes "test" → name ≢ codes "verify"
    → name ≢ codes "dump" → text_taker name inner ≡ None
no_taker name inner query explain list near device test verify dump =
    ap (λ (o : Option (Text × Option Text)). option_map (λ (taker : Text × Option Text). taker.1) o)
    (none_found (λ (taker : Text × Option Text). bytes_eq taker.0 name) (text_takers inner)
    (other _ name query, (other _ name explain, (other _ name list, (other _ name near, (other _ name device, (other _ name test, (other _ name verify, (other _ name dump, tt)))))))))
