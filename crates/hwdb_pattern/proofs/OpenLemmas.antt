-- Where items are never closed, seen from a place further to the left.
use Rattle.std.proofs.Common.{◌≡◌, ℕ, zero, suc, ◌+◌, ◌-◌, ◌<◌, ◌≤◌, Bool, true, false, List, drop, length, get_or, replicate, sym, ap, ◌∙◌, None, arith}
use Rattle.std.proofs.lemmas.List.{drop-drop, drop_all, length-drop, get_or-replicate, length-replicate}
use Rattle.hwdb_spec.specs.Patterns.{bracket_at, bracket_of, item_at, items_from, joined, is_inversion}
use Rattle.hwdb_pattern.specs.Internal.Parts.{items_part}
use Rattle.hwdb_pattern.specs.Internal.Search.{AreOpen, NeverClose}
use Rattle.hwdb_pattern.specs.declared.brackets.Part.{Part}
use Rattle.hwdb_pattern.proofs.BracketLemmas.{bracket_inverted, bracket_upright, items_next, items_none}

-- no item comes after the end
pub never_at_end : (text : List ℕ) (at : ℕ) (table : List Bool) → length text ≤ at → NeverClose (drop at text) table
never_at_end text at table h k e =
    ap (λ (t : List ℕ). items_from false 0 t) (drop-drop k at text ∙ drop_all (at + k) text (omega (arith, h))) ∙ items_none false

-- an item of so many bytes, after which the items are never closed
pub never_behind : (first : Bool) (text : List ℕ) (size : ℕ) → 0 < length text → (first ≡ false → get_or text 0 0 ≡ 93 → ⊥) → size ≡ (item_at text).size
    → items_from false 0 (drop size text) ≡ None → items_from first 0 text ≡ None
never_behind first text size h n e none =
    items_next first text h n
    ∙ ap (λ (m : ℕ). joined (item_at text) (items_from false 0 (drop m text))) (sym e)
    ∙ ap (joined (item_at text)) none

pub size_of_part : (text : List ℕ) (b : ℕ) (p : Part) → p ≡ items_part b (item_at text) → p.size ≡ (item_at text).size
size_of_part text b p e = ap (λ (q : Part). q.size) e

-- a table of the places after the first byte, asked for a place of the text
pub told : (text : List ℕ) (table : List Bool) (k : ℕ) → NeverClose (drop 1 text) table → get_or table k false ≡ true → items_from false 0 (drop (k + 1) text) ≡ None
told text table k h e =
    ap (λ (t : List ℕ). items_from false 0 t) (ap (λ (n : ℕ). drop n text) (omega arith) ∙ sym (drop-drop k 1 text)) ∙ h k e

pub never_by_table : (text : List ℕ) (table : List Bool) (b : ℕ) (p : Part) → 0 < length text → (get_or text 0 0 ≡ 93 → ⊥) → NeverClose (drop 1 text) table
    → p ≡ items_part b (item_at text) → 0 < p.size → get_or table (p.size - 1) false ≡ true → items_from false 0 text ≡ None
never_by_table text table b p h n known q pos found =
    never_behind false text p.size h (λ _. n) (size_of_part text b p q)
    (ap (λ (m : ℕ). items_from false 0 (drop m text)) (omega (arith, pos)) ∙ told text table (p.size - 1) known found)

open_upright : (text : List ℕ) → 2 ≤ length text → get_or text 0 0 ≡ 91 → is_inversion (get_or text 1 0) ≡ false → items_from true 0 (drop 1 text) ≡ None → bracket_at text ≡ None
open_upright text h e i none = bracket_upright text h e i ∙ ap (bracket_of 1 false) none

open_inverted : (text : List ℕ) → 2 ≤ length text → get_or text 0 0 ≡ 91 → is_inversion (get_or text 1 0) ≡ true → items_from true 0 (drop 2 text) ≡ None → bracket_at text ≡ None
open_inverted text h e i none = bracket_inverted text h e i ∙ ap (bracket_of 2 true) none

-- a bracket that is never closed, by what is known after its first item
pub open_by_table : (text here : List ℕ) (table : List Bool) (b : ℕ) (p : Part) → here ≡ drop 1 text → 2 ≤ length text → get_or text 0 0 ≡ 91 → is_inversion (get_or text 1 0) ≡ false
    → NeverClose (drop 1 text) table → p ≡ items_part b (item_at here) → get_or table p.size false ≡ true → bracket_at text ≡ None
open_by_table text here table b p t h e i known q found =
    open_upright text h e i
    (never_behind true (drop 1 text) p.size (omega (arith, length-drop 1 text, h)) (λ w. cc) (size_of_part here b p q ∙ ap (λ (d : List ℕ). (item_at d).size) t)
    (known p.size found))

pub open_inverted_by_table : (text here : List ℕ) (table : List Bool) (b : ℕ) (p : Part) → here ≡ drop 2 text → 3 ≤ length text → get_or text 0 0 ≡ 91 → is_inversion (get_or text 1 0) ≡ true
    → NeverClose (drop 1 text) table → p ≡ items_part b (item_at here) → get_or table (p.size + 1) false ≡ true → bracket_at text ≡ None
open_inverted_by_table text here table b p t h e i known q found =
    open_inverted text (omega (arith, h)) e i
    (never_behind true (drop 2 text) p.size (omega (arith, length-drop 2 text, h)) (λ w. cc) (size_of_part here b p q ∙ ap (λ (d : List ℕ). (item_at d).size) t)
    (ap (λ (d : List ℕ). items_from false 0 d) (drop-drop p.size 2 text ∙ ap (λ (n : ℕ). drop n text) (omega arith) ∙ sym (drop-drop (p.size + 1) 1 text)) ∙ known (p.size + 1) found))

-- a `[` and its inversion at the end
pub open_at_end : (text : List ℕ) → length text ≡ 2 → get_or text 0 0 ≡ 91 → is_inversion (get_or text 1 0) ≡ true → bracket_at text ≡ None
open_at_end text h e i =
    open_inverted text (omega (arith, h)) e i (ap (λ (d : List ℕ). items_from true 0 d) (drop_all 2 text (omega (arith, h))) ∙ items_none true)

-- the table of a place further to the left
pub never_more : (text : List ℕ) (table next : List Bool) (first : Bool) → NeverClose (drop 1 text) table → (first ≡ true → items_from false 0 text ≡ None)
    → get_or next 0 false ≡ first → ((k : ℕ) → get_or next (suc k) false ≡ true → get_or table k false ≡ true) → NeverClose text next
never_more text table next first known f e others zero found = f (sym e ∙ found)
never_more text table next first known f e others (suc k) found =
    let next : drop k (drop 1 text) ≡ drop (suc k) text = drop-drop k 1 text ∙ place (1 + k) (omega arith) in
    ap (λ (t : List ℕ). items_from false 0 t) (sym next) ∙ known k (others k found)
  where
    place : (n : ℕ) → n ≡ suc k → drop n text ≡ drop (suc k) text
    place n e = ap (λ (m : ℕ). drop m text) e

-- what is known of the places after the first byte, one place to the left
pub known_left : (pattern here : List ℕ) (table : List Bool) (at : ℕ) → here ≡ drop (at - 1) pattern → 0 < at → NeverClose (drop at pattern) table → NeverClose (drop 1 here) table
known_left pattern here table at t pos known k e =
    ap (λ (d : List ℕ). items_from false 0 (drop k d)) (ap (λ (d : List ℕ). drop 1 d) t ∙ drop-drop 1 (at - 1) pattern ∙ ap (λ (n : ℕ). drop n pattern) (omega (arith, pos)))
    ∙ known k e

pub open_start : (pattern : List ℕ) (n : ℕ) → AreOpen pattern (replicate n false)
open_start pattern n k lt e = absurd (let w : true ≡ false = sym e ∙ get_or-replicate n k false false (omega (arith, lt, length-replicate n false)) in cc)
