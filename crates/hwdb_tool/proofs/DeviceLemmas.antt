-- A device, the lines of all of them, and what is said if there is none.
use Rattle.std.proofs.Common.{◌≡◌, ◌<◌, ◌≤◌, ◌+◌, ◌∙◌, ◌++◌, ◌∷◌, [], ap, arith, append_assoc, false, flat_map, get_or, if◌then◌else◌, is_some, length, map, not, refl, subst, sym, take, true, Bool, Err, Global, IfErr, List, Ok, Result, Vec, ℕ}
use Rattle.std.specs.Result.{IsErrAnd}
use Rattle.std.proofs.lemmas.List.{flat_map_more, take_all}
use Rattle.hwdb_spec_commands.specs.DeviceAsked.{leads_nowhere}
use Rattle.hwdb_spec_commands.specs.DeviceFound.{places_meant, several_text}
use Rattle.hwdb_spec_commands.specs.DeviceTree.{Sight, absolute}
use Rattle.hwdb_spec_commands.specs.Refusals.{IsInWords}
use Rattle.hwdb_spec_commands.specs.declared.refusals.Refusal.{Refusal}
use Rattle.hwdb_spec.specs.Lines.{byte, has}
use Rattle.hwdb_spec_program.specs.DeviceErrors.{SaysSeveral, asked_names}
use Rattle.hwdb_sysfs.specs.Lemmas.Names.{items, one_more}

-- a text, and four pieces after it
pub four_pieces : (t a b k e t0 t1 t2 t3 t4 : List ℕ) → t0 ≡ t → t1 ≡ t0 ++ a → t2 ≡ t1 ++ b → t3 ≡ t2 ++ k → t4 ≡ t3 ++ e
    → t4 ≡ t ++ (a ++ (b ++ (k ++ e)))
four_pieces t a b k e t0 t1 t2 t3 t4 h0 h1 h2 h3 h4 =
    h4
    ∙ ap (λ l. l ++ e) (h3 ∙ ap (λ l. l ++ k) (h2 ∙ ap (λ l. l ++ b) (h1 ∙ ap (λ l. l ++ a) h0)))
    ∙ append_assoc ((t ++ a) ++ b) k e
    ∙ append_assoc (t ++ a) b (k ++ e)
    ∙ append_assoc t a (b ++ (k ++ e))

-- the line of a name and a path, after a text
pub row_made : (t a k p e t1 t2 t3 t4 name : List ℕ) → name ≡ a → t1 ≡ t ++ name → t2 ≡ t1 ++ k → t3 ≡ t2 ++ p → t4 ≡ t3 ++ e
    → t4 ≡ t ++ ((a ++ (k ++ p)) ++ e)
row_made t a k p e t1 t2 t3 t4 name is h1 h2 h3 h4 =
    four_pieces t name k p e t t1 t2 t3 t4 refl h1 h2 h3 h4
    ∙ ap (λ (l : List ℕ). t ++ (l ++ (k ++ (p ++ e)))) is
    ∙ ap (λ (l : List ℕ). t ++ (a ++ l)) (sym (append_assoc k p e))
    ∙ ap (λ (l : List ℕ). t ++ l) (sym (append_assoc a (k ++ p) e))

-- the lines of so many places and of one more
pub rows_more : (f : List ℕ → List ℕ) (xs : List (Vec ℕ Global)) (i : ℕ) (d x : Vec ℕ Global) (done new : List ℕ) → i < length xs → x ≡ get_or xs i d
    → done ≡ flat_map f (map items (take i xs)) → new ≡ done ++ f x.items → new ≡ flat_map f (map items (take (i + 1) xs))
rows_more f xs i d x done new lt is whole next =
    next ∙ ap (λ (l : List ℕ). l ++ f x.items) whole ∙ flat_map_more f [] (map items (take i xs)) x.items
    ∙ ap (λ (l : List (List ℕ)). flat_map f l) (sym (one_more xs i d x lt is))

-- those of all places
pub rows_all : (f : List ℕ → List ℕ) (xs : List (Vec ℕ Global)) (i : ℕ) (text : List ℕ) (places : List (List ℕ)) → length xs ≤ i
    → text ≡ flat_map f (map items (take i xs)) → map items xs ≡ places → text ≡ flat_map f places
rows_all f xs i text places le whole are =
    whole ∙ ap (λ (l : List (Vec ℕ Global)). flat_map f (map items l)) (take_all i xs le) ∙ ap (λ (l : List (List ℕ)). flat_map f l) are

-- several devices are meant, and the error lists them
pub says_several : (sight : Sight) (root sys given : List ℕ) (r : Refusal) (xs : List (Vec ℕ Global)) → 1 < length xs → map items xs ≡ places_meant sight asked_names root sys given
    → IsInWords (several_text sight asked_names sys given (map items xs)) r → SaysSeveral root sys given sight r
says_several sight root sys given r [] lt are said = absurd (omega (arith, lt))
says_several sight root sys given r (x ∷ []) lt are said = absurd (omega (arith, lt))
says_several sight root sys given r (x ∷ y ∷ more) lt are said = record { one = x.items; other = y.items; more = map items more; are = sym are; said = said }

-- a path that leads somewhere, or a name
pub leads_somewhere : (sight : Sight) (root given : List ℕ) → (has (byte "/") given ≡ true → is_some (sight.place (root ++ absolute given)) ≡ true) → leads_nowhere sight root given ≡ false
leads_somewhere sight root given some = go (has (byte "/") given) (is_some (sight.place (root ++ absolute given))) some
  where
    go : (b found : Bool) → (b ≡ true → found ≡ true) → (if b then not found else false) ≡ false
    go true found some = ap not (some refl)
    go false found some = refl

-- an error that is handed on is what it was
pub error_kept : {T : Type 0} (Is : Refusal → Type 0) (r : Refusal) (result : Result T Refusal) → IsErrAnd result (λ x. x ≡ r) → Is r → IfErr result Is
error_kept Is r (Ok t) same is = absurd same
error_kept Is r (Err x) same is = subst Is (sym same) is
