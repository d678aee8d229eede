-- Lists whose members go together, and strings by number.
use Rattle.std.proofs.Common.{◌≡◌, ◌<◌, ℕ, zero, suc, ◌+◌, List, [], ◌∷◌, ◌++◌, map, length, get_or, take, drop, refl, sym, ◌∙◌, ap, subst, arith, add-one, length-append}
use Rattle.std.specs.List.{AllZip}
use Rattle.std.proofs.lemmas.List.{get_or_append_left, get_or-map, length-map}
use Rattle.std.proofs.Math.Seq.{get_or-append_seam, take-suc, drop-cons}
use Rattle.std.proofs.lemmas.Grind.{flat_map-append}
use Rattle.hwdb_spec.specs.Tree.{Value}
use Rattle.hwdb_writer.specs.declared.entries.Setting.{Setting}
use Rattle.hwdb_writer.specs.declared.nodes.BuiltNode.{BuiltNode}
use Rattle.hwdb_writer.specs.declared.stored.StoredNode.{StoredNode}
use Rattle.hwdb_writer.specs.declared.stored.StoredValue.{StoredValue}
use Rattle.hwdb_writer.specs.Internal.PostOrder.{values_at}
use Rattle.hwdb_writer.specs.Internal.Membership.{SameMembers}
use Rattle.hwdb_writer.proofs.MembershipLemmas.{same_known}
use Rattle.hwdb_writer.specs.Internal.Stored.{IsUnder, Grows, IsAt, IsValue, AreValues, IsNode, AreNodes, all_values}

module _ {A B : Type 0} where
  pub pairs_length : (R : A → B → Type 0) (xs : List A) (ys : List B) → AllZip R xs ys → length xs ≡ length ys
  pairs_length R [] [] p = refl
  pairs_length R [] (y ∷ ys) p = absurd p
  pairs_length R (x ∷ xs) [] p = absurd p
  pairs_length R (x ∷ xs) (y ∷ ys) p = ap suc (pairs_length R xs ys p.1)

  pub pairs_map : (R S : A → B → Type 0) → ((x : A) (y : B) → R x y → S x y) → (xs : List A) (ys : List B) → AllZip R xs ys → AllZip S xs ys
  pairs_map R S f [] [] p = tt
  pairs_map R S f [] (y ∷ ys) p = absurd p
  pairs_map R S f (x ∷ xs) [] p = absurd p
  pairs_map R S f (x ∷ xs) (y ∷ ys) p = (f x y p.0, pairs_map R S f xs ys p.1)

  pub pairs_append : (R : A → B → Type 0) (xs us : List A) (ys vs : List B) → AllZip R xs ys → AllZip R us vs → AllZip R (xs ++ us) (ys ++ vs)
  pairs_append R [] us [] vs p q = q
  pairs_append R [] us (y ∷ ys) vs p q = absurd p
  pairs_append R (x ∷ xs) us [] vs p q = absurd p
  pairs_append R (x ∷ xs) us (y ∷ ys) vs p q = (p.0, pairs_append R xs us ys vs p.1 q)

  pub pairs_one : (R : A → B → Type 0) (xs : List A) (ys : List B) (x : A) (y : B) → AllZip R xs ys → R x y → AllZip R (xs ++ x ∷ []) (ys ++ y ∷ [])
  pairs_one R xs ys x y p r = pairs_append R xs (x ∷ []) ys (y ∷ []) p (r, tt)

  pub pairs_take : (R : A → B → Type 0) (n : ℕ) (xs : List A) (ys : List B) → AllZip R xs ys → AllZip R (take n xs) (take n ys)
  pairs_take R zero xs ys p = tt
  pairs_take R (suc n) [] [] p = tt
  pairs_take R (suc n) [] (y ∷ ys) p = absurd p
  pairs_take R (suc n) (x ∷ xs) [] p = absurd p
  pairs_take R (suc n) (x ∷ xs) (y ∷ ys) p = (p.0, pairs_take R n xs ys p.1)

  pub pairs_drop : (R : A → B → Type 0) (n : ℕ) (xs : List A) (ys : List B) → AllZip R xs ys → AllZip R (drop n xs) (drop n ys)
  pairs_drop R zero xs ys p = p
  pairs_drop R (suc n) [] [] p = tt
  pairs_drop R (suc n) [] (y ∷ ys) p = absurd p
  pairs_drop R (suc n) (x ∷ xs) [] p = absurd p
  pairs_drop R (suc n) (x ∷ xs) (y ∷ ys) p = pairs_drop R n xs ys p.1

  pub pairs_at : (R : A → B → Type 0) (xs : List A) (ys : List B) (i : ℕ) (d : A) (e : B) → i < length xs → AllZip R xs ys → R (get_or xs i d) (get_or ys i e)
  pairs_at R [] ys i d e lt p = absurd (omega (arith, lt))
  pairs_at R (x ∷ xs) [] i d e lt p = absurd p
  pairs_at R (x ∷ xs) (y ∷ ys) zero d e lt p = p.0
  pairs_at R (x ∷ xs) (y ∷ ys) (suc i) d e lt p = pairs_at R xs ys i d e (omega (arith, lt)) p.1

-- strings keep their numbers
pub grows_itself : (words : List (List ℕ)) → Grows words words
grows_itself words n s u = u

pub grows_by : (old new more : List (List ℕ)) → new ≡ old ++ more → Grows old new
grows_by old new more e n s u =
    subst (λ (ws : List (List ℕ)). IsUnder ws n s) (sym e) (record {
      known = let l = length-append old more in omega (arith, u.known, l);
      is = get_or_append_left old more [] n u.known ∙ u.is;
    })

pub last_under : (old new : List (List ℕ)) (s : List ℕ) (n : ℕ) → new ≡ old ++ s ∷ [] → n ≡ length old → IsUnder new n s
last_under old new s n e l =
    subst (λ (ws : List (List ℕ)). IsUnder ws n s) (sym e) (subst (λ (m : ℕ). IsUnder (old ++ s ∷ []) m s) (sym l) (record {
      known = let k = length-append old (s ∷ []) in omega (arith, k);
      is = get_or-append_seam old s [] [];
    }))

pub under_same : (words : List (List ℕ)) (n : ℕ) (s t : List ℕ) → s ≡ t → IsUnder words n s → IsUnder words n t
under_same words n s t e u = subst (IsUnder words n) e u

-- by another meaning of numbers
pub values_by : (By To : ℕ → List ℕ → Type 0) → ((n : ℕ) (s : List ℕ) → By n s → To n s) → (vs : List StoredValue) (xs : List Value) → AreValues By vs xs → AreValues To vs xs
values_by By To f vs xs p =
    pairs_map (IsValue By) (IsValue To) (λ v x h. record { key = f _ _ h.key; value = f _ _ h.value; path = f _ _ h.path; line = h.line; priority = h.priority }) vs xs p

pub nodes_by : (By To : ℕ → List ℕ → Type 0) → ((n : ℕ) (s : List ℕ) → By n s → To n s) → (ss : List StoredNode) (ns : List BuiltNode) → AreNodes By ss ns → AreNodes To ss ns
nodes_by By To f ss ns p = pairs_map (IsNode By) (IsNode To) (λ s n h. record { prefix = f _ _ h.prefix; byte = h.byte; count = h.count; children = h.children }) ss ns p

-- from strings to their places
pub placed_at : (place : List ℕ → ℕ) (words : List (List ℕ)) (places : List ℕ) → places ≡ map place words → (n : ℕ) (s : List ℕ) → IsUnder words n s → IsAt place places n s
placed_at place words places e n s u =
    subst (λ (ps : List ℕ). IsAt place ps n s) (sym e) (record {
      known = let l = length-map words place in omega (arith, u.known, l);
      is = get_or-map place words n [] 0 u.known ∙ ap place u.is;
    })

-- nothing more
pub none_behind : (xs : List Value) → xs ++ [] ≡ xs
none_behind [] = refl
none_behind (x ∷ xs) = ap (λ l. x ∷ l) (none_behind xs)

-- one more
pub one_more : {X : Type 0} (xs : List X) (i : ℕ) (d : X) → i < length xs → take (i + 1) xs ≡ take i xs ++ get_or xs i d ∷ []
one_more xs i d lt = rw (add-one) (take-suc xs i d lt)

-- the values of one more node
pub values_more : (es : List Setting) (ns : List BuiltNode) (i : ℕ) (d : BuiltNode) → i < length ns → all_values es (take (i + 1) ns) ≡ all_values es (take i ns) ++ values_at es (get_or ns i d)
values_more es ns i d lt =
    ap (all_values es) (one_more ns i d lt) ∙ flat_map-append (values_at es) (take i ns) (get_or ns i d ∷ []) ∙ ap (λ l. all_values es (take i ns) ++ l) (none_behind (values_at es (get_or ns i d)))

pub values_left : (es : List Setting) (ns : List BuiltNode) (i : ℕ) (d : BuiltNode) → i < length ns → all_values es (drop i ns) ≡ values_at es (get_or ns i d) ++ all_values es (drop (i + 1) ns)
values_left es ns i d lt =
    let rest : drop i ns ≡ get_or ns i d ∷ drop (i + 1) ns = rw (add-one) (drop-cons ns i d lt) in
    ap (all_values es) rest

-- a string that has a number comes again
pub again : (words : List (List ℕ)) (n : ℕ) (s : List ℕ) → IsUnder words n s → SameMembers words (words ++ s ∷ [])
again words n s u = same_known words words n [] s refl u.known u.is

-- what an index reads after the last value
abbrev pub no_value : Value
no_value = record { priority = 0; line = 0; key = []; value = []; path = [] }
