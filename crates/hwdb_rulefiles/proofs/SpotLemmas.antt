-- Rows until the place.
use Rattle.std.proofs.Common.{◌≡◌, ℕ, ◌+◌, ◌-◌, ◌<◌, ◌≤◌, Bool, true, false, List, [], ◌∷◌, map, drop, length, refl, sym, ap, ◌∙◌, arith}
use Rattle.std.specs.Prelude.{if◌then◌else◌, nat_lt}
use Rattle.std.proofs.lemmas.Bool.Decides.{nat_tests}
use Rattle.std.specs.Borrow.{Bor}
use Rattle.std.proofs.lemmas.List.{drop-map}
use Rattle.hwdb_rulefiles.specs.RuleText.{Reading, start, step}
use Rattle.hwdb_rulefiles.specs.Views.{text_of}
use Rattle.hwdb_rulefiles.specs.RuleSpots.{here, spot_in, spot_of}
use Rattle.hwdb_rulefiles.specs.declared.spots.Spot.{Spot}

below : (m n : ℕ) → m < n → nat_lt m n ≡ true
below m n h = grind (arith, nat_tests)

not_below : (m n : ℕ) → n ≤ m → nat_lt m n ≡ false
not_below m n h = grind (arith, nat_tests)

pub spot_none : (r : Reading) (i : ℕ) (all : List (List ℕ)) (place : ℕ) (s : Spot) → all ≡ [] → spot_in r i all place s ≡ s
unfolding spot_in
spot_none r i all place s e = ap (λ (l : List (List ℕ)). spot_in r i l place s) e

pub spot_stop : (r : Reading) (i : ℕ) (all : List (List ℕ)) (place : ℕ) (s : Spot) → place < length r.text → spot_in r i all place s ≡ s
unfolding spot_in
spot_stop r i [] place s h = refl
spot_stop r i (row ∷ more) place s h = rw (below place (length r.text) h) refl

one_row : (r : Reading) (i : ℕ) (all rest : List (List ℕ)) (row : List ℕ) (place : ℕ) (s : Spot) → all ≡ row ∷ rest → length r.text ≤ place
    → spot_in r i all place s
    ≡ (if (step r (i + 1) row).held then spot_in (step r (i + 1) row) (i + 1) rest place (here r i row place s) else here r i row place s)
unfolding spot_in
one_row r i all rest row place s e h = ap (λ (l : List (List ℕ)). spot_in r i l place s) e ∙ rw (not_below place (length r.text) h) refl

pub spot_end : (r next : Reading) (i : ℕ) (all rest : List (List ℕ)) (row : List ℕ) (place : ℕ) (s t : Spot) → all ≡ row ∷ rest → length r.text ≤ place
    → next ≡ step r (i + 1) row → t ≡ here r i row place s → next.held ≡ false → spot_in r i all place s ≡ t
spot_end r next i all rest row place s t e h n w f =
    one_row r i all rest row place s e h
    ∙ ap (λ (x : Reading). if x.held then spot_in x (i + 1) rest place (here r i row place s) else here r i row place s) (sym n)
    ∙ ap (λ (x : Bool). if x then spot_in next (i + 1) rest place (here r i row place s) else here r i row place s) f
    ∙ sym w

pub spot_on : (r next : Reading) (i : ℕ) (all rest : List (List ℕ)) (row : List ℕ) (place : ℕ) (s t : Spot) → all ≡ row ∷ rest → length r.text ≤ place
    → next ≡ step r (i + 1) row → t ≡ here r i row place s → next.held ≡ true → spot_in r i all place s ≡ spot_in next (i + 1) rest place t
spot_on r next i all rest row place s t e h n w f =
    one_row r i all rest row place s e h
    ∙ ap (λ (x : Reading). if x.held then spot_in x (i + 1) rest place (here r i row place s) else here r i row place s) (sym n)
    ∙ ap (λ (x : Bool). if x then spot_in next (i + 1) rest place (here r i row place s) else here r i row place s) f
    ∙ ap (spot_in next (i + 1) rest place) (sym w)

pub spot_first : (r : Reading) (i line place : ℕ) (xs : List (Bor (List ℕ))) → r ≡ start → i ≡ line - 1
    → spot_in r i (map text_of (drop i xs)) place (record { line = line; column = 1 }) ≡ spot_of (map text_of xs) line place
spot_first r i line place xs e f =
    let s : Spot = record { line = line; column = 1 } in
    ap (λ (x : Reading). spot_in x i (map text_of (drop i xs)) place s) e
    ∙ ap (λ (n : ℕ). spot_in start n (map text_of (drop n xs)) place s) f
    ∙ ap (λ (l : List (List ℕ)). spot_in start (line - 1) l place s) (sym (drop-map text_of (line - 1) xs))
