-- The fillings of a run are counted.
use Rattle.std.proofs.Common.{◌≡◌, ◌∙◌, ap, sym, refl, subst, ℕ, zero, suc, ◌+◌, ◌-◌, ◌<◌, ◌≤◌, ◌==◌, Bool, true, false, not, if◌then◌else◌, List, [], ◌∷◌, length, drop, min, arith, ◌*◌, ◌⊎◌, inl, inr, ◌/◌, ◌%◌}
use Rattle.std.specs.Int.{div_ceil}
use Rattle.std.proofs.Math.Nat.{add-div_left, add-mod_left}
use Rattle.std.proofs.lemmas.Bool.{ne_eqb}
use Rattle.std.proofs.lemmas.Grind.{div_ceil_times}
use Rattle.hwdb_spec.specs.Assignment.{Assignment}
use Rattle.hwdb_query.specs.Views.{Progress, fills}
use Rattle.hwdb_query.specs.Laws.{fillings, FillingsOfARun}

not_none : (n : ℕ) → 0 < n → (n == 0) ≡ false
not_none n some = ne_eqb n 0 (λ is. omega (arith, some, is))

-- a page is held; if nothing was to come, the end is reached
abbrev pub filled : Progress → Progress
filled p = record p { held = min p.page (length p.to_come); ended = length p.to_come == 0; entered = p.live }

-- the first hit is given, if there is one
abbrev pub given : Progress → Progress
given p = record p { to_come = drop 1 p.to_come; held = p.held - 1 }

-- after a `next` that fills a page, or doesn't
abbrev next_by : Bool → Progress → Progress
next_by b p = record {
  to_come = drop 1 p.to_come;
  held = (if b then min p.page (length p.to_come) else p.held) - 1;
  page = p.page;
  ended = if b then length p.to_come == 0 else p.ended;
  entered = if b then p.live else p.entered;
  live = p.live;
}

-- with hits held nothing is filled
fills_not : (p : Progress) (h : ℕ) → p.held ≡ suc h → fills p ≡ false
fills_not p h is = ap (λ b. if b then not p.ended else false) (not_none p.held (omega (arith, is)))

pub fills_none : (p : Progress) → p.held ≡ 0 → p.ended ≡ true → fills p ≡ false
fills_none p held ended = ap (λ n. if n == 0 then not p.ended else false) held ∙ ap not ended

pub fills_now : (p : Progress) → p.held ≡ 0 → p.ended ≡ false → fills p ≡ true
fills_now p held ended = ap (λ n. if n == 0 then not p.ended else false) held ∙ ap not ended

-- with a hit held nothing is filled
pub held_fills_not : (p : Progress) → 0 < p.held → fills p ≡ false
held_fills_not p h = fills_not p (p.held - 1) (omega (arith, h))

-- a call that fills no page
no_filling : (calls : ℕ) (p : Progress) → fills p ≡ false → fillings (suc calls) p ≡ fillings calls (given p)
unfolding fillings
no_filling calls p is = ap (λ b. (if b then 1 else 0) + fillings calls (next_by b p)) is ∙ omega arith

-- a call that fills one
one_filling : (calls : ℕ) (p : Progress) → fills p ≡ true → fillings (suc calls) p ≡ 1 + fillings calls (given (filled p))
unfolding fillings
one_filling calls p is = ap (λ b. (if b then 1 else 0) + fillings calls (next_by b p)) is

-- after the end nothing is filled
over : (calls : ℕ) (p : Progress) → p.held ≡ 0 → p.ended ≡ true → fillings calls p ≡ 0
unfolding fillings
over zero p held ended = refl
over (suc calls) p held ended = no_filling calls p (fills_none p held ended) ∙ over calls (given p) (omega (arith, held)) ended

tail_length : (l : List Assignment) → length (drop 1 l) ≡ length l - 1
tail_length [] = refl
tail_length (x ∷ l) = omega arith

-- what is held is read without a filling
read_held : (h n calls value : ℕ) (p : Progress) → p.held ≡ h → length p.to_come ≡ h + n
    → ((q : Progress) → q.held ≡ 0 → q.ended ≡ p.ended → q.page ≡ p.page → length q.to_come ≡ n → fillings calls q ≡ value) → fillings (h + calls) p ≡ value
read_held zero n calls value p held size rest = subst (λ k. fillings k p ≡ value) (omega arith) (rest p held refl refl (size ∙ omega arith))
read_held (suc h) n calls value p held size rest =
    let tail = tail_length p.to_come in
    subst (λ k. fillings k p ≡ value) (omega arith)
    (no_filling (h + calls) p (fills_not p h held) ∙ read_held h n calls value (given p) (omega (arith, held)) (omega (arith, tail, size)) rest)

no_pages : (page : ℕ) → 0 < page → div_ceil 0 page ≡ 0
no_pages page big = let b = div_ceil_times 0 page big in few (div_ceil 0 page) page b.1
  where
    few : (k page : ℕ) → k * page < 0 + page → k ≡ 0
    few zero page lt = refl
    few (suc k) page lt = absurd (omega (arith, lt))

one_page : (n page : ℕ) → 0 < page → 0 < n → n ≤ page → div_ceil n page ≡ 1
one_page n page big some few = let b = div_ceil_times n page big in one (div_ceil n page) n page some few b.0 b.1
  where
    one : (k n page : ℕ) → 0 < n → n ≤ page → n ≤ k * page → k * page < n + page → k ≡ 1
    one zero n page some few le lt = absurd (omega (arith, some, le))
    one (suc zero) n page some few le lt = refl
    one (suc (suc k)) n page some few le lt = absurd (omega (arith, few, lt))

page_more : (n page : ℕ) → 0 < page → div_ceil (page + n) page ≡ div_ceil n page + 1
page_more n page big =
    ap (λ q. q + min 1 ((page + n) % page)) (add-div_left n big) ∙ ap (λ r. (n / page + 1) + min 1 r) (add-mod_left page n) ∙ omega arith

-- a page, and the pages of what it left
pages : (n page : ℕ) → 0 < page → 0 < n → 1 + (div_ceil (n - min page n) page + 1) ≡ div_ceil n page + 1
pages n page big some =
    elim (split n page) [
      | inl few ↦ ap (λ k. 1 + (div_ceil k page + 1)) (none_left n page few) ∙ ap (λ k. 1 + (k + 1)) (no_pages page big) ∙ sym (ap (λ k. k + 1) (one_page n page big some few))
      | inr m ↦ ap (λ k. 1 + (div_ceil k page + 1)) (some_left n page m.0 m.1) ∙ omega arith ∙ ap (λ k. k + 1) (sym (page_more m.0 page big) ∙ sym (ap (λ k. div_ceil k page) m.1))
    ]
  where
    split : (n page : ℕ) → (n ≤ page) ⊎ ((m : ℕ) × (n ≡ page + m))
    split n zero = inr (n, omega arith)
    split zero (suc page) = inl (omega arith)
    split (suc n) (suc page) = elim (split n page) [ inl few ↦ inl (omega (arith, few)) | inr m ↦ inr (m.0, (let h = m.1 in omega (arith, h))) ]

    none_left : (n page : ℕ) → n ≤ page → n - min page n ≡ 0
    none_left n page few = omega (arith, few)

    some_left : (n page m : ℕ) → n ≡ page + m → n - min page n ≡ m
    some_left n page m is = omega (arith, is)

run : (bound n calls : ℕ) (p : Progress) → n < bound → 0 < p.page → p.held ≡ 0 → p.ended ≡ false → length p.to_come ≡ n → n < calls → fillings calls p ≡ div_ceil n p.page + 1
run zero n calls p lt big held opened size more = absurd (omega (arith, lt))
run (suc bound) n zero p lt big held opened size more = absurd (omega (arith, more))
run (suc bound) zero (suc calls) p lt big held opened size more =
    one_filling calls p (fills_now p held opened)
    ∙ ap (λ k. 1 + k) (over calls (given (filled p)) (omega (arith, size)) (ap (λ k. k == 0) size)) ∙ sym (ap (λ k. k + 1) (no_pages p.page big))
run (suc bound) (suc n) (suc calls) p lt big held opened size more =
    let page = p.page in
    let h = min page (suc n) - 1 in
    let left = suc n - min page (suc n) in
    let tail = tail_length p.to_come in
    let again : fillings calls (given (filled p)) ≡ div_ceil left page + 1 =
    subst (λ k. fillings k (given (filled p)) ≡ div_ceil left page + 1) (omega (arith, more, big))
    (read_held h left (calls - h) (div_ceil left page + 1) (given (filled p))
    (ap (λ k. min page k - 1) size)
    (omega (arith, tail, size, big))
    (λ q none ended same rest.
    subst (λ k. fillings (calls - h) q ≡ div_ceil left k + 1) same
    (run bound left (calls - h) q (omega (arith, lt, big)) (omega (arith, same, big)) none (ended ∙ not_none (length p.to_come) (omega (arith, size))) rest (omega (arith, more, big))))) in
    one_filling calls p (fills_now p held opened) ∙ ap (λ k. 1 + k) again ∙ pages (suc n) page big (omega arith)

pub fillings_of_a_run : FillingsOfARun
fillings_of_a_run p calls big held opened more = run (suc (length p.to_come)) (length p.to_come) calls p (omega arith) big held opened refl more
