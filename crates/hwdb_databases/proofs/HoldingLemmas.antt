-- Assignments whose patterns are parts of one text.
use Rattle.std.proofs.Common.{◌≡◌, ◌∙◌, ◌+◌, ◌≤◌, ap, refl, ℕ, zero, suc, List, [], ◌∷◌, ◌++◌, arith, drop, length, length-append, map, take}
use Rattle.std.specs.Prelude.{All}
use Rattle.std.proofs.lemmas.List.Elements.{All-nil, All-cons, All-head, All-tail, All-append, All-weaker}
use Rattle.hwdb_spec.specs.Assignment.{Assignment}
use Rattle.hwdb_databases.specs.declared.holding.Held.{Held}
use Rattle.hwdb_databases.specs.declared.members.Member.{Member}
use Rattle.hwdb_databases.specs.Internal.Holding.{IsWithin, held_in}
use Rattle.hwdb_databases.specs.Internal.Meeting.{member_of}

less : (m n : ℕ) → suc m ≤ suc n → m ≤ n
less m n h = omega (arith, h)

less_from : (k m n : ℕ) → suc k + m ≤ suc n → k + m ≤ n
less_from k m n h = omega (arith, h)

front : (n : ℕ) (ps qs : List ℕ) → n ≤ length ps → take n (ps ++ qs) ≡ take n ps
front zero ps qs h = refl
front (suc n) [] qs h = absurd (omega (arith, h))
front (suc n) (p ∷ ps) qs h = ap (λ (l : List ℕ). p ∷ l) (front n ps qs (less n (length ps) h))

-- a part stays as it is if more comes after it
same_part : (from n : ℕ) (ps qs : List ℕ) → from + n ≤ length ps → take n (drop from (ps ++ qs)) ≡ take n (drop from ps)
same_part zero n ps qs h = front n ps qs (let e : 0 + n ≤ length ps = h in omega (arith, e))
same_part (suc from) zero [] qs h = refl
same_part (suc from) (suc n) [] qs h = absurd (omega (arith, h))
same_part (suc from) n (p ∷ ps) qs h = same_part from n ps qs (less_from from n (length ps) h)

-- what comes after a text
rest_of_it : (ps qs : List ℕ) → take (length qs) (drop (length ps) (ps ++ qs)) ≡ qs
rest_of_it [] qs = whole qs
  where
    whole : (qs : List ℕ) → take (length qs) qs ≡ qs
    whole [] = refl
    whole (q ∷ qs) = ap (λ (l : List ℕ). q ∷ l) (whole qs)
rest_of_it (p ∷ ps) qs = rest_of_it ps qs

module _ (ps pattern : List ℕ) (m : Member) where
  abbrev new : Held
  new = record { from = length ps; length = length pattern; member = m }

  pub pushed : (hs : List Held) → All (IsWithin ps) hs → map (held_in (ps ++ pattern)) (hs ++ new ∷ []) ≡ map (held_in ps) hs ++ member_of pattern m ∷ []
  pushed [] w = ap (λ (t : List ℕ). member_of t m ∷ []) (rest_of_it ps pattern)
  pushed (h ∷ hs) w =
      ap (λ (t : List ℕ). member_of t h.member ∷ map (held_in (ps ++ pattern)) (hs ++ new ∷ [])) (same_part h.from h.length ps pattern (All-head (IsWithin ps) h hs w))
      ∙ ap (λ (l : List Assignment). held_in ps h ∷ l) (pushed hs (All-tail (IsWithin ps) h hs w))

  pub within_pushed : (hs : List Held) → All (IsWithin ps) hs → All (IsWithin (ps ++ pattern)) (hs ++ new ∷ [])
  within_pushed hs w =
      let size = length-append ps pattern in
      All-append (IsWithin (ps ++ pattern)) hs (new ∷ []) (All-weaker (IsWithin ps) (IsWithin (ps ++ pattern)) (λ h k. omega (arith, size, k)) hs w)
      (All-cons (IsWithin (ps ++ pattern)) new [] (omega (arith, size)) (All-nil (IsWithin (ps ++ pattern))))
