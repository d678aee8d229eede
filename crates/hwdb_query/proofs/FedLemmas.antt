-- A prefix that is fed in pieces.
use Rattle.std.proofs.Common.{◌≡◌, ◌∙◌, ap, sym, refl, subst, ℕ, zero, suc, ◌+◌, ◌≤◌, ◌<◌, Bool, false, List, [], ◌∷◌, ◌++◌, take, drop, length, arith, append_assoc, Option, None, Some, IsTrue, ◌↔◌, inl, inr}
use Rattle.std.proofs.lemmas.Bool.{cases_lt}
use Rattle.std.proofs.lemmas.List.{take-take, take_all, drop-drop, length-append, length-drop, length-take-le}
use Rattle.hwdb_pattern.specs.Laws.{MatchesIsTested, LiveIsTested, DeadStaysDead, DeadMatchesNothing}
use Rattle.hwdb_query.specs.declared.descent.Seen.{Seen}
use Rattle.hwdb_spec.specs.Tree.{Tree, prefix_of, IsLive}
use Rattle.hwdb_query.specs.Internal.Descents.{IsSeen, IsFed}
use Rattle.hwdb_query.proofs.DeadPathLemmas.{dead_path}
use Rattle.hwdb_query.proofs.StackLemmas.{lost_at_path}
use Rattle.hwdb_query.proofs.StepLemmas.{dead_is}
use Rattle.hwdb_query.specs.Lemmas.Stacks.{take_front}

front_and_rest : (n : ℕ) (xs : List ℕ) → take n xs ++ drop (length (take n xs)) xs ≡ xs
front_and_rest zero xs = refl
front_and_rest (suc n) [] = refl
front_and_rest (suc n) (x ∷ xs) = ap (λ l. x ∷ l) (front_and_rest n xs)

pub piece_and_rest : (xs piece : List ℕ) (most : ℕ) → piece ≡ take most xs → piece ++ drop (length piece) xs ≡ xs
piece_and_rest xs piece most p = ap (λ l. l ++ drop (length l) xs) p ∙ front_and_rest most xs

pub piece_goes_on : (prefix path piece whole : List ℕ) (fed most : ℕ) → piece ≡ take most (drop fed prefix) → path ++ drop fed prefix ≡ whole
    → (path ++ piece) ++ drop (fed + length piece) prefix ≡ whole
piece_goes_on prefix path piece whole fed most p w =
    append_assoc path piece (drop (fed + length piece) prefix)
    ∙ ap (λ l. path ++ (piece ++ l)) (sym (drop-drop (length piece) fed prefix))
    ∙ ap (λ l. path ++ l) (piece_and_rest (drop fed prefix) piece most p) ∙ w

short : (n : ℕ) (xs : List ℕ) → length (take n xs) ≤ length xs
short zero xs = omega arith
short (suc n) [] = omega arith
short (suc n) (x ∷ xs) = let h = short n xs in omega (arith, h)

pub piece_within : (prefix piece : List ℕ) (fed most : ℕ) → piece ≡ take most (drop fed prefix) → fed ≤ length prefix → fed + length piece ≤ length prefix
piece_within prefix piece fed most p h =
    let s = short most (drop fed prefix) in
    omega (arith, h, s, ap length p, length-drop fed prefix)

pub piece_ends : (xs piece : List ℕ) (most : ℕ) → piece ≡ take most xs → 0 < most → length piece ≡ 0 → xs ≡ []
piece_ends xs piece zero p h e = absurd (omega arith)
piece_ends [] piece (suc n) p h e = refl
piece_ends (x ∷ xs) piece (suc n) p h e = absurd (omega (arith, e, ap length p))

pub no_bytes : (xs : List ℕ) → length xs ≡ 0 → xs ≡ []
no_bytes [] h = refl
no_bytes (x ∷ xs) h = absurd (omega (arith, h))

-- the front of a path stays as it grows
pub front_stays : (old path more : List ℕ) → take (length old) path ≡ old → take (length old) (path ++ more) ≡ old
front_stays [] path more e = refl
front_stays (o ∷ old) [] more e = cc
front_stays (o ∷ old) (b ∷ path) more e =
    let first : b ≡ o = cc in
    let rest : take (length old) path ≡ old = cc in
    ap (λ x. x ∷ take (length old) (path ++ more)) first ∙ ap (λ l. o ∷ l) (front_stays old path more rest)

pub front_within : (old now : List ℕ) → take (length old) now ≡ old → length old ≤ length now
front_within old now e = let s = short (length old) now in omega (arith, s, ap length e)

-- a path that was dead before its end
pub dead_before : (device path more whole : List ℕ) (b : Bool) → DeadStaysDead → path ++ more ≡ whole → b ≡ false → (IsTrue b ↔ IsLive path device) → IsLive whole device → ⊥
dead_before device path more whole b stays w e h live = dead_is device path b e h (stays path more device (subst (λ p. IsLive p device) (sym w) live))

-- what a look at a child shows, by what feeding the rest of its prefix shows
pub seen_by_fed : (device base path piece now : List ℕ) (k : ℕ × Tree) (most : ℕ) (o : Option Seen)
    → MatchesIsTested → LiveIsTested → DeadStaysDead → DeadMatchesNothing
    → path ≡ (base ++ k.0 ∷ []) ++ piece → piece ≡ take most (prefix_of k.1)
    → IsFed device path (drop (length piece) (prefix_of k.1)) now o → IsSeen device base k now o
seen_by_fed device base path piece now k most o matched live longer below p f fed = go o fed
  where
    whole : path ++ drop (length piece) (prefix_of k.1) ≡ (base ++ k.0 ∷ []) ++ prefix_of k.1
    whole = ap (λ l. l ++ drop (length piece) (prefix_of k.1)) p ∙ append_assoc (base ++ k.0 ∷ []) piece (drop (length piece) (prefix_of k.1))
        ∙ ap (λ l. (base ++ k.0 ∷ []) ++ l) (piece_and_rest (prefix_of k.1) piece most f)

    go : (q : Option Seen) → IsFed device path (drop (length piece) (prefix_of k.1)) now q → IsSeen device base k now q
    go None lost =
        lost_at_path device base k
        (dead_path device ((base ++ k.0 ∷ []) ++ prefix_of k.1) matched live longer below (subst (λ l. IsLive l device → ⊥) whole lost))
    go (Some seen) to = record { path_is = to.path_is ∙ whole; stands = to.stands; same_device = to.same_device; live = to.live }

-- the base stays
pub base_stays : (size : ℕ) (base path now old : List ℕ) → size ≤ length path → take size path ≡ take size old → take (length path) now ≡ path → take size now ≡ take size old
base_stays size base path now old h b f = sym (take-take size (length path) now h) ∙ ap (take size) f ∙ b

pub child_front : (size : ℕ) (old whole piece : List ℕ) (byte : ℕ) → size ≤ length old → whole ≡ (take size old ++ byte ∷ []) ++ piece
    → (size ≤ length whole) × (take size whole ≡ take size old)
child_front size old whole piece byte h w =
    let at : length (take size old) ≡ size = length-take-le size old h in
    let long : length whole ≡ size + length (byte ∷ piece) = ap length (w ∙ append_assoc (take size old) (byte ∷ []) piece) ∙ length-append (take size old) (byte ∷ piece) ∙ ap (λ n. n + length (byte ∷ piece)) at in (
      omega (arith, long),
      ap (take size) (w ∙ append_assoc (take size old) (byte ∷ []) piece) ∙ take_front size (take size old) (byte ∷ piece) at,
    )

-- the front that a path shares with an older one
pub shared_front : (size : ℕ) (old path now : List ℕ) → (size ≤ length path) × (take size path ≡ take size old) → take (length path) now ≡ path
    → (size ≤ length now) × (take size now ≡ take size old)
shared_front size old path now h f = let s = front_within path now f in (omega (arith, h.0, s), base_stays size old path now old h.0 h.1 f)

-- a piece that is shorter than it may be is the whole
pub short_piece : (xs piece : List ℕ) (most : ℕ) → piece ≡ take most xs → (length piece ≡ most → ⊥) → piece ≡ xs
short_piece xs piece most p short = elim (cases_lt (length xs) most) [
  | inl below ↦ p ∙ take_all most xs (omega arith)
  | inr past ↦ absurd (short (ap length p ∙ length-take-le most xs past))
]
