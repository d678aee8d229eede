-- The tests that compute say what the facts say.
use Rattle.std.proofs.Common.{◌≡◌, ◌∙◌, ap, sym, refl, ℕ, zero, suc, ◌≤◌, Bool, true, false, List, [], ◌∷◌, ◌++◌, take, length, cond, arith, IsTrue, ◌↔◌}
use Rattle.hwdb_spec.specs.Patterns.{Token, star, one, bracket, literal, admits_byte, tokens, Matches, some_ending, byte_then, piece_then, matches}
use Rattle.hwdb_spec.specs.Tree.{closed_part, IsLive, some_up_to, is_live}

-- a list cut in two, whose second part passes
pub record Ending (test : List ℕ → Bool) (device : List ℕ) : Type 0 where
  pub piece : List ℕ
  pub rest : List ℕ
  pub whole : device ≡ piece ++ rest
  pub passes : test rest ≡ true

ending_of : (test : List ℕ → Bool) (device : List ℕ) → some_ending test device ≡ true → Ending test device
unfolding some_ending
ending_of test [] h = record { piece = []; rest = []; whole = refl; passes = h }
ending_of test (b ∷ rest) h =
    let again : some_ending test rest ≡ true → Ending test rest = ending_of test rest in
    elim (test (b ∷ rest)) as (λ c. test (b ∷ rest) ≡ c → cond c true (some_ending test rest) ≡ true → Ending test (b ∷ rest)) [
      | true ↦ λ e k. record { piece = []; rest = b ∷ rest; whole = refl; passes = e }
      | false ↦ λ e k. let r : Ending test rest = again k in record { piece = b ∷ r.piece; rest = r.rest; whole = ap (λ l. b ∷ l) r.whole; passes = r.passes }
    ] refl h

ending_here : (test : List ℕ → Bool) (rest : List ℕ) → test rest ≡ true → some_ending test rest ≡ true
unfolding some_ending
ending_here test [] h = h
ending_here test (b ∷ rest) h = rw h refl

ending_is : (test : List ℕ → Bool) (piece rest : List ℕ) → test rest ≡ true → some_ending test (piece ++ rest) ≡ true
unfolding some_ending
ending_is test [] rest h = ending_here test rest h
ending_is test (b ∷ piece) rest h =
    let again : some_ending test (piece ++ rest) ≡ true = ending_is test piece rest h in
    elim (test (b ∷ piece ++ rest)) as (λ c. cond c true (some_ending test (piece ++ rest)) ≡ true) [ true ↦ refl | false ↦ again ]

-- one byte that is admitted, before what passes
pub record Byte (token : Token) (test : List ℕ → Bool) (device : List ℕ) : Type 0 where
  pub byte : ℕ
  pub rest : List ℕ
  pub whole : device ≡ byte ∷ rest
  pub admitted : admits_byte token byte ≡ true
  pub passes : test rest ≡ true

byte_of : (token : Token) (test : List ℕ → Bool) (device : List ℕ) → byte_then token test device ≡ true → Byte token test device
unfolding byte_then
byte_of token test [] h = cc
byte_of token test (b ∷ rest) h =
    elim (admits_byte token b) as (λ c. admits_byte token b ≡ c → cond c (test rest) false ≡ true → Byte token test (b ∷ rest)) [
      | true ↦ λ e k. record { byte = b; rest = rest; whole = refl; admitted = e; passes = k }
      | false ↦ λ e k. cc
    ] refl h

byte_is : (token : Token) (test : List ℕ → Bool) (b : ℕ) (rest : List ℕ) → admits_byte token b ≡ true → test rest ≡ true → byte_then token test (b ∷ rest) ≡ true
unfolding byte_then
byte_is token test b rest a h = rw a h

true_is : (b : Bool) → b ≡ true → IsTrue b
true_is b h = h

is_true : (b : Bool) → IsTrue b → b ≡ true
is_true b h = h

pub matches_sound : (ts : List Token) (device : List ℕ) → matches ts device ≡ true → Matches ts device
unfolding matches piece_then
matches_sound [] [] h = refl
matches_sound [] (b ∷ rest) h = cc
matches_sound (star ∷ more) device h =
    let e : Ending (matches more) device = ending_of (matches more) device h in
    (e.piece, e.rest, e.whole, tt, matches_sound more e.rest e.passes)
matches_sound (one ∷ more) device h =
    let e : Byte one (matches more) device = byte_of one (matches more) device h in
    (e.byte ∷ [], e.rest, e.whole, (e.byte, refl, true_is _ e.admitted), matches_sound more e.rest e.passes)
matches_sound (bracket found ∷ more) device h =
    let e : Byte (bracket found) (matches more) device = byte_of (bracket found) (matches more) device h in
    (e.byte ∷ [], e.rest, e.whole, (e.byte, refl, true_is _ e.admitted), matches_sound more e.rest e.passes)
matches_sound (literal own ∷ more) device h =
    let e : Byte (literal own) (matches more) device = byte_of (literal own) (matches more) device h in
    (e.byte ∷ [], e.rest, e.whole, (e.byte, refl, true_is _ e.admitted), matches_sound more e.rest e.passes)

single : (token : Token) (test : List ℕ → Bool) (device piece rest : List ℕ) (b : ℕ) → device ≡ piece ++ rest → piece ≡ b ∷ [] → IsTrue (admits_byte token b) → test rest ≡ true → byte_then token test device ≡ true
single token test device piece rest b whole p a h =
    ap (byte_then token test) (whole ∙ ap (λ l. l ++ rest) p) ∙ byte_is token test b rest (is_true _ a) h

pub matches_complete : (ts : List Token) (device : List ℕ) → Matches ts device → matches ts device ≡ true
unfolding matches piece_then
matches_complete [] [] h = refl
matches_complete [] (b ∷ rest) h = cc
matches_complete (star ∷ more) device h = ap (some_ending (matches more)) h.2 ∙ ending_is (matches more) h.0 h.1 (matches_complete more h.1 h.4)
matches_complete (one ∷ more) device h = single one (matches more) device h.0 h.1 h.3.0 h.2 h.3.1 h.3.2 (matches_complete more h.1 h.4)
matches_complete (bracket found ∷ more) device h = single (bracket found) (matches more) device h.0 h.1 h.3.0 h.2 h.3.1 h.3.2 (matches_complete more h.1 h.4)
matches_complete (literal own ∷ more) device h = single (literal own) (matches more) device h.0 h.1 h.3.0 h.2 h.3.1 h.3.2 (matches_complete more h.1 h.4)

-- a number up to the end that passes
pub record UpTo (test : ℕ → Bool) (end : ℕ) : Type 0 where
  pub at : ℕ
  pub within : at ≤ end
  pub passes : test at ≡ true

up_to_of : (test : ℕ → Bool) (n : ℕ) → some_up_to test n ≡ true → UpTo test n
unfolding some_up_to
up_to_of test zero h = record { at = 0; within = omega arith; passes = h }
up_to_of test (suc n) h =
    let again : some_up_to test n ≡ true → UpTo test n = up_to_of test n in
    elim (test (suc n)) as (λ c. test (suc n) ≡ c → cond c true (some_up_to test n) ≡ true → UpTo test (suc n)) [
      | true ↦ λ e k. record { at = suc n; within = omega arith; passes = e }
      | false ↦ λ e k. let r : UpTo test n = again k in record { at = r.at; within = omega arith; passes = r.passes }
    ] refl h

up_to_is : (test : ℕ → Bool) (n k : ℕ) → k ≤ n → test k ≡ true → some_up_to test n ≡ true
unfolding some_up_to
up_to_is test zero k l h = ap test (only_zero k l) ∙ h
  where
    only_zero : (k : ℕ) → k ≤ 0 → 0 ≡ k
    only_zero k l = omega arith
up_to_is test (suc n) k l h =
    let again : k ≤ n → some_up_to test n ≡ true = λ q. up_to_is test n k q h in
    elim (test (suc n)) as (λ c. test (suc n) ≡ c → cond c true (some_up_to test n) ≡ true) [
      | true ↦ λ e. refl
      | false ↦ λ e. again (
          let ne : k ≡ suc n → ⊥ = λ q. let w : true ≡ false = sym h ∙ ap test q ∙ e in cc in
          omega arith)
    ] refl

pub live_sound : (path device : List ℕ) → is_live path device ≡ true → IsLive path device
unfolding is_live
live_sound path device h =
    let r : UpTo (λ n. matches (tokens (closed_part path)) (take n device)) (length device) = up_to_of _ _ h in
    (r.at, r.within, matches_sound (tokens (closed_part path)) (take r.at device) r.passes)

pub live_complete : (path device : List ℕ) → IsLive path device → is_live path device ≡ true
unfolding is_live
live_complete path device h =
    up_to_is (λ n. matches (tokens (closed_part path)) (take n device)) (length device) h.0 h.1 (matches_complete (tokens (closed_part path)) (take h.0 device) h.2)

pub matches_tested : (ts : List Token) (device : List ℕ) → IsTrue (matches ts device) ↔ Matches ts device
matches_tested ts device = ((λ h. matches_sound ts device h), (λ m. matches_complete ts device m))

pub live_tested : (path device : List ℕ) → IsTrue (is_live path device) ↔ IsLive path device
live_tested path device = ((λ h. live_sound path device h), (λ l. live_complete path device l))
