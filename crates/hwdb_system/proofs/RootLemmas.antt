-- What is known of paths below a root.
use Rattle.std.proofs.Common.{◌≡◌, ◌∙◌, ◌+◌, ◌<◌, ◌++◌, ◌||◌, ap, append_assoc, arith, subst, sym, refl, cond, get_or, length, map, not, string_bytes, take, ℕ, zero, suc, Bool, Global, String, true, false, List, [], ◌∷◌, codes}
use Rattle.std.proofs.lemmas.List.{append-nil}
use Rattle.std.proofs.lemmas.List.Concat.{flat_map-append}
use Rattle.std.proofs.lemmas.List.Elements.{All-cons, All-nil}
use Rattle.std.specs.List.{before_first, position_or_len}
use Rattle.std.specs.Prelude.{All, flat_map}
use Rattle.hwdb_spec.specs.Lines.{has, is}
use Rattle.hwdb_system.specs.Roots.{IsBelow, IsName, below}

-- what is before the first of some bytes has none
none_by : (t : Bool) (b x n : ℕ) (xs : List ℕ) → is b x ≡ t → has b (take n xs) ≡ false → has b (take (cond (not t) (1 + n) 0) (x ∷ xs)) ≡ false
none_by true b x n xs e rest = refl
none_by false b x n xs e rest =
    let one : 1 + n ≡ suc n = omega arith in
    subst (λ k. has b (take k (x ∷ xs)) ≡ false) (sym one) (ap (λ t. t || has b (take n xs)) e ∙ rest)

pub none_before : (b : ℕ) (text : List ℕ) → has b (before_first (is b) text) ≡ false
none_before b [] = refl
none_before b (x ∷ xs) = none_by (is b x) b x (position_or_len (is b) xs) xs refl (none_before b xs)

-- all names but the last ones lead inward
pub front_names : (xs ys : List (String Global)) → All IsName (map string_bytes (xs ++ ys)) → All IsName (map string_bytes xs)
front_names [] ys all k d lt = absurd (omega (arith, lt))
front_names (x ∷ xs) ys all zero d lt = all zero d (omega arith)
front_names (x ∷ xs) ys all (suc k) d lt = front_names xs ys (λ j e less. all (suc j) e (omega (arith, less))) k d (omega (arith, lt))

-- one more name of a path
mapped_more : (xs : List (String Global)) (i : ℕ) (x : String Global) → i < length xs → x ≡ get_or xs i x → map string_bytes (take (suc i) xs) ≡ map string_bytes (take i xs) ++ string_bytes x ∷ []
mapped_more [] i x lt e = absurd (omega arith)
mapped_more (y ∷ xs) zero x lt e = ap (λ z. string_bytes z ∷ []) (sym e)
mapped_more (y ∷ xs) (suc i) x lt e = ap (λ l. string_bytes y ∷ l) (mapped_more xs i x (omega arith) e)

abbrev entered : List ℕ → List ℕ
entered name = 47 ∷ name

pub below_more : (root : List ℕ) (names : List (String Global)) (i : ℕ) (x : String Global) (old mid new : List ℕ) → i < length names → x ≡ get_or names i x
    → old ≡ below root (map string_bytes (take i names)) → mid ≡ old ++ 47 ∷ [] → new ≡ mid ++ string_bytes x → new ≡ below root (map string_bytes (take (suc i) names))
below_more root names i x old mid new lt is so_far slash name =
    let before = flat_map entered (map string_bytes (take i names)) in
    name ∙ ap (λ l. l ++ string_bytes x) (slash ∙ ap (λ l. l ++ 47 ∷ []) so_far)
    ∙ append_assoc (root ++ before) (47 ∷ []) (string_bytes x)
    ∙ append_assoc root before (47 ∷ string_bytes x)
    ∙ ap (λ l. root ++ l) (sym (
    ap (flat_map entered) (mapped_more names i x lt is)
    ∙ flat_map-append entered (map string_bytes (take i names)) (string_bytes x ∷ [])
    ∙ ap (λ l. before ++ 47 ∷ l) (append-nil (string_bytes x))))

-- /dev/null below a root
dev : IsName (codes "dev")
dev = record {
  some = λ e. absurd (omega (arith, ap length e));
  plain = refl;
  other = λ e. absurd (omega (arith, ap length e));
  inward = λ e. absurd (omega (arith, ap length e));
}

null : IsName (codes "null")
null = record {
  some = λ e. absurd (omega (arith, ap length e));
  plain = refl;
  other = λ e. absurd (omega (arith, ap length e));
  inward = λ e. absurd (omega (arith, ap length e));
}

pub null_below : (root : List ℕ) → IsBelow root (root ++ codes "/dev/null")
null_below root = (codes "dev" ∷ codes "null" ∷ [], All-cons IsName (codes "dev") (codes "null" ∷ []) dev (All-cons IsName (codes "null") [] null (All-nil IsName)), refl)
