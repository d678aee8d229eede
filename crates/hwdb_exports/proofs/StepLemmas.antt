-- Steps of walks over the lines of an export, over its devices, and over a text with coded bytes.
use Rattle.std.proofs.Common.{◌≡◌, ◌∙◌, ◌+◌, ◌<◌, ◌≤◌, ◌++◌, ◌∷◌, Bool, List, None, Option, Some, ap, append_assoc, arith, cond, drop, false, get_or, length, map, refl, subst, suc, sym, take, true, zero, ℕ, []}
use Rattle.std.specs.Borrow.{Bor}
use Rattle.std.specs.List.{cons_option, prefix_len}
use Rattle.std.specs.Option.{option_map_or, unwrap_or}
use Rattle.std.specs.Prelude.{◌==◌, filter_map, flat_map, if◌then◌else◌, not}
use Rattle.std.proofs.lemmas.Grind.{flat_map-append}
use Rattle.std.proofs.lemmas.List.{append-nil, drop_all, drop_more}
use Rattle.hwdb_spec.specs.Lines.{byte}
use Rattle.hwdb_spec_commands.specs.Exports as spec
use Rattle.hwdb_exports.specs.Views.{AreListed, AreSet, names_at, spot_at}
use Rattle.hwdb_exports.proofs.SetLemmas.{Names, Spots, after_both}

abbrev Lines : Type 0
Lines = List (Bor (List ℕ))

abbrev texts : Lines → List (List ℕ)
texts lines = map (λ (l : Bor (List ℕ)). l.now) lines

-- ---- lines before the next device
abbrev stays : List ℕ → Bool
stays line = not (spec.begins_device line)

taken_texts : (n : ℕ) (lines : Lines) → texts (take n lines) ≡ take n (texts lines)
taken_texts zero lines = refl
taken_texts (suc n) [] = refl
taken_texts (suc n) (l ∷ lines) = ap (λ (x : List (List ℕ)). l.now ∷ x) (taken_texts n lines)

-- as many as pass
pub own_all : (lines : Lines) (end rest : ℕ) → end + rest ≡ prefix_len stays (texts lines) → rest ≡ 0 → texts (take end lines) ≡ spec.own_lines (texts lines)
own_all lines end rest is none =
    let all : end ≡ prefix_len stays (texts lines) = omega (arith, is, none) in
    taken_texts end lines ∙ ap (λ (n : ℕ). take n (texts lines)) all

-- the next device begins here
pub own_here : (lines : Lines) (end : ℕ) (d : Bor (List ℕ)) → end < length lines → spec.begins_device (get_or lines end d).now ≡ true → prefix_len stays (texts (drop end lines)) ≡ 0
own_here lines end d lt is =
    ap (λ (l : Lines). prefix_len stays (texts l)) (drop_more lines end d lt)
    ∙ ap (λ (b : Bool). cond (not b) (1 + prefix_len stays (texts (drop (end + 1) lines))) 0) is

-- no line is left
pub own_past : (lines : Lines) (end : ℕ) → length lines ≤ end → prefix_len stays (texts (drop end lines)) ≡ 0
own_past lines end le = ap (λ (l : Lines). prefix_len stays (texts l)) (drop_all end lines le)

-- ---- coded bytes
pub skipped : (n : ℕ) (text : List ℕ) → spec.decoded n text ≡ spec.decoded 0 (drop n text)
unfolding spec.decoded
skipped zero text = refl
skipped (suc n) [] = refl
skipped (suc n) (b ∷ text) = skipped n text

abbrev coded_at : ℕ → List ℕ → Option ℕ
coded_at b rest = if b == byte "\\" then spec.coded rest else None

-- one that is coded
pub coded_step : (done next left rest all : List ℕ) (b c : ℕ) → left ≡ b ∷ rest → coded_at b rest ≡ Some c → next ≡ done ++ c ∷ [] → done ++ spec.decoded 0 left ≡ all → next ++ spec.decoded 0 (drop 3 rest) ≡ all
unfolding spec.decoded
coded_step done next left rest all b c is at more before =
    ap (λ (l : List ℕ). l ++ spec.decoded 0 (drop 3 rest)) more ∙ append_assoc done (c ∷ []) (spec.decoded 0 (drop 3 rest))
    ∙ ap (λ (l : List ℕ). done ++ c ∷ l) (sym (skipped 3 rest))
    ∙ sym (ap (λ (l : List ℕ). done ++ spec.decoded 0 l) is ∙ ap (λ (o : Option ℕ). done ++ option_map_or (λ x. x ∷ spec.decoded 3 rest) o (b ∷ spec.decoded 0 rest)) at) ∙ before

-- one that isn't
pub plain_step : (done next left rest all : List ℕ) (b : ℕ) → left ≡ b ∷ rest → coded_at b rest ≡ None → next ≡ done ++ b ∷ [] → done ++ spec.decoded 0 left ≡ all → next ++ spec.decoded 0 rest ≡ all
unfolding spec.decoded
plain_step done next left rest all b is at more before =
    ap (λ (l : List ℕ). l ++ spec.decoded 0 rest) more ∙ append_assoc done (b ∷ []) (spec.decoded 0 rest)
    ∙ sym (ap (λ (l : List ℕ). done ++ spec.decoded 0 l) is ∙ ap (λ (o : Option ℕ). done ++ option_map_or (λ x. x ∷ spec.decoded 3 rest) o (b ∷ spec.decoded 0 rest)) at) ∙ before

-- no byte is left
pub all_decoded : (done left all : List ℕ) → length left ≡ 0 → done ++ spec.decoded 0 left ≡ all → done ≡ all
unfolding spec.decoded
all_decoded done [] all none before = sym (append-nil done) ∙ before
all_decoded done (b ∷ left) all none before = absurd (omega (arith, none))

-- ---- attributes
abbrev Row : Type 0
Row = List ℕ × spec.Spot

-- what is made of a rule, if something is
pub made_step : (path : List ℕ) (o new : Option spec.Spot) (r : Option Row) (rows : List Row) → new ≡ spec.spot_after path o (cons_option r []) → spec.spot_after path new rows ≡ spec.spot_after path o (cons_option r rows)
unfolding spec.spot_after
made_step path o new None rows is = ap (λ (x : Option spec.Spot). spec.spot_after path x rows) is
made_step path o new (Some r) rows is = ap (λ (x : Option spec.Spot). spec.spot_after path x rows) is

pub rule_step : (make : List ℕ → Option Row) (path : List ℕ) (o new all : Option spec.Spot) (rule : List ℕ) (left more : List (List ℕ)) → left ≡ rule ∷ more → new ≡ spec.spot_after path o (cons_option (make rule) [])
    → spec.spot_after path o (filter_map make left) ≡ all → spec.spot_after path new (filter_map make more) ≡ all
rule_step make path o new all rule left more is put before =
    made_step path o new (make rule) (filter_map make more) put ∙ sym (ap (λ (l : List (List ℕ)). spec.spot_after path o (filter_map make l)) is) ∙ before

pub no_rule : (make : List ℕ → Option Row) (path : List ℕ) (o all : Option spec.Spot) (left : List (List ℕ)) → left ≡ [] → spec.spot_after path o (filter_map make left) ≡ all → o ≡ all
unfolding spec.spot_after
no_rule make path o all left is before = sym (ap (λ (l : List (List ℕ)). spec.spot_after path o (filter_map make l)) is) ∙ before

-- a rule that makes nothing
pub unmade : (make : Option (List ℕ) → Option Row) (path : List ℕ) (o : Option spec.Spot) (told : Option (List ℕ)) → make None ≡ None → None ≡ told → o ≡ spec.spot_after path o (cons_option (make told) [])
unfolding spec.spot_after
unmade make path o told none is = ap (λ (r : Option Row). spec.spot_after path o (cons_option r [])) (sym none ∙ ap make is)

-- ---- devices
-- a device begins with a line
begun : (line : List ℕ) (more : List (List ℕ)) (d : spec.Exported) (b : Bool) → Some d ≡ (if b then Some (record { path = drop 3 line; lines = spec.own_lines more }) else None)
    → (if b then record { path = drop 3 line; lines = spec.own_lines more } ∷ spec.devices_in more else spec.devices_in more) ≡ d ∷ spec.devices_in more
begun line more d true is = let same : d ≡ record { path = drop 3 line; lines = spec.own_lines more } = cc in ap (λ (x : spec.Exported). x ∷ spec.devices_in more) (sym same)
begun line more d false is = absurd cc

pub device_here : (lines rest : Lines) (at : ℕ) (b : Bor (List ℕ)) (d : spec.Exported) → at < length lines → rest ≡ drop (at + 1) lines
    → Some d ≡ (if spec.begins_device (get_or lines at b).now then Some (record { path = drop 3 (get_or lines at b).now; lines = spec.own_lines (texts rest) }) else None)
    → spec.devices_in (texts (drop at lines)) ≡ d ∷ spec.devices_in (texts (drop (at + 1) lines))
unfolding spec.devices_in
device_here lines rest at b d lt left is =
    ap (λ (l : Lines). spec.devices_in (texts l)) (drop_more lines at b lt)
    ∙ begun (get_or lines at b).now (texts (drop (at + 1) lines)) d (spec.begins_device (get_or lines at b).now)
    (subst
    (λ (l : Lines). Some d ≡ (if spec.begins_device (get_or lines at b).now then Some (record { path = drop 3 (get_or lines at b).now; lines = spec.own_lines (texts l) }) else None))
    left is)

-- what it stands for
pub spots_step : (path : List ℕ) (old new : Spots) (all : Option spec.Spot) (d : spec.Exported) (left more : List spec.Exported) → left ≡ d ∷ more → AreSet (spec.spots_of d) old new
    → spec.spot_after path (spot_at old path) (flat_map spec.spots_of left) ≡ all → spec.spot_after path (spot_at new path) (flat_map spec.spots_of more) ≡ all
spots_step path old new all d left more is put before =
    ap (λ (o : Option spec.Spot). spec.spot_after path o (flat_map spec.spots_of more)) (put path) ∙ sym (after_both path (spot_at old path) (spec.spots_of d) (flat_map spec.spots_of more))
    ∙ sym (ap (λ (l : List spec.Exported). spec.spot_after path (spot_at old path) (flat_map spec.spots_of l)) is) ∙ before

-- and its names
pub names_step : (folder : List ℕ) (old new : Names) (all : List ℕ) (d : spec.Exported) (left more : List spec.Exported) → left ≡ d ∷ more → AreListed (spec.entries_of d) old new
    → names_at old folder ++ spec.names_under folder (flat_map spec.entries_of left) ≡ all → names_at new folder ++ spec.names_under folder (flat_map spec.entries_of more) ≡ all
names_step folder old new all d left more is put before =
    let rest = spec.names_under folder (flat_map spec.entries_of more) in
    ap (λ (l : List ℕ). l ++ rest) (put folder) ∙ append_assoc (names_at old folder) (spec.names_under folder (spec.entries_of d)) rest
    ∙ ap (λ (l : List ℕ). names_at old folder ++ l) (sym (flat_map-append (spec.name_in folder) (spec.entries_of d) (flat_map spec.entries_of more)))
    ∙ sym (ap (λ (l : List spec.Exported). names_at old folder ++ spec.names_under folder (flat_map spec.entries_of l)) is) ∙ before

-- no line is left
pub no_spots : (lines : Lines) (at : ℕ) (path : List ℕ) (o all : Option spec.Spot) → length lines ≤ at → spec.spot_after path o (flat_map spec.spots_of (spec.devices_in (texts (drop at lines)))) ≡ all → o ≡ all
unfolding spec.devices_in spec.spot_after
no_spots lines at path o all le before = sym (ap (λ (l : Lines). spec.spot_after path o (flat_map spec.spots_of (spec.devices_in (texts l)))) (drop_all at lines le)) ∙ before

-- ---- the folder above
pub by_third : (path found : List ℕ) (one two three : Option (List ℕ)) → one ≡ None → two ≡ None → three ≡ Some found → found ≡ unwrap_or one (unwrap_or two (unwrap_or three path))
by_third path found one two three no_one no_two is =
    sym (ap (λ (o : Option (List ℕ)). unwrap_or o (unwrap_or two (unwrap_or three path))) no_one ∙ ap (λ (o : Option (List ℕ)). unwrap_or o (unwrap_or three path)) no_two ∙ ap (λ (o : Option (List ℕ)). unwrap_or o path) is)
