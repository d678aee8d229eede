-- A text, seen from the beginning of a piece of it.
use Rattle.std.proofs.Common.{◌≡◌, ℕ, suc, ◌+◌, ◌<◌, ◌≤◌, Bool, true, false, cond, not, List, [], ◌∷◌, take, drop, length, refl, ap, ◌∙◌, sym, arith}
use Rattle.std.proofs.lemmas.List.{drop-drop, drop_all, length-drop}
use Rattle.std.specs.List.{onto_first, position_or_len}
use Rattle.hwdb_spec.specs.Lines.{is, pieces}

module _ (b : ℕ) where
  line_by : (t : Bool) (x : ℕ) (xs : List ℕ) (e : ℕ) (ps : List (List ℕ)) (more : List (List ℕ)) → (t ≡ false → onto_first x ps ≡ (x ∷ take e xs) ∷ more) → (t ≡ true → ps ≡ more)
      → cond t ([] ∷ ps) (onto_first x ps) ≡ take (cond (not t) (1 + e) 0) (x ∷ xs) ∷ more
  line_by true x xs e ps more f g = ap (λ (r : List (List ℕ)). [] ∷ r) (g refl)
  line_by false x xs e ps more f g = f refl ∙ ap (λ (k : ℕ). take k (x ∷ xs) ∷ more) (let s : suc e ≡ 1 + e = omega arith in s)

  rest_by : (t : Bool) (x : ℕ) (xs : List ℕ) (e : ℕ) → t ≡ false → drop (cond (not t) (1 + e) 0 + 1) (x ∷ xs) ≡ drop (e + 1) xs
  rest_by true x xs e f = cc
  rest_by false x xs e f = ap (λ (k : ℕ). drop k (x ∷ xs)) (let s : 1 + e + 1 ≡ suc (e + 1) = omega arith in s)

  rest_here : (t : Bool) (x : ℕ) (xs : List ℕ) (e : ℕ) → t ≡ true → drop (cond (not t) (1 + e) 0 + 1) (x ∷ xs) ≡ xs
  rest_here true x xs e f = refl
  rest_here false x xs e f = cc

  pub no_pieces : pieces (is b) [] ≡ []
  unfolding pieces
  no_pieces = refl

  -- the first piece, and those after it
  pub piece_step : (text : List ℕ) → 0 < length text
      → pieces (is b) text ≡ take (position_or_len (is b) text) text ∷ pieces (is b) (drop (position_or_len (is b) text + 1) text)
  unfolding pieces
  piece_step [] h = absurd (omega arith)
  piece_step (x ∷ []) h =
      line_by (is b x) x [] 0 [] _
      (λ f. ap (λ (r : List (List ℕ)). (x ∷ []) ∷ r) (sym (ap (pieces (is b)) (rest_by (is b x) x [] 0 f) ∙ no_pieces)))
      (λ f. sym (ap (pieces (is b)) (rest_here (is b x) x [] 0 f) ∙ no_pieces))
  piece_step (x ∷ y ∷ xs) h =
      line_by (is b x) x (y ∷ xs) (position_or_len (is b) (y ∷ xs)) (pieces (is b) (y ∷ xs)) _
      (λ f. ap (onto_first x) (piece_step (y ∷ xs) (omega arith))
      ∙ ap (λ (r : List ℕ). (x ∷ take (position_or_len (is b) (y ∷ xs)) (y ∷ xs)) ∷ pieces (is b) r) (sym (rest_by (is b x) x (y ∷ xs) (position_or_len (is b) (y ∷ xs)) f)))
      (λ f. ap (pieces (is b)) (sym (rest_here (is b x) x (y ∷ xs) (position_or_len (is b) (y ∷ xs)) f)))

  -- the piece at a place, and those after it
  pub piece_at : (file : List ℕ) (at end : ℕ) (rest : List ℕ) → at < length file → rest ≡ drop at file → end ≡ position_or_len (is b) rest
      → pieces (is b) (drop at file) ≡ take end rest ∷ pieces (is b) (drop (at + end + 1) file)
  piece_at file at end rest h r e =
      let some : 0 < length (drop at file) = omega (arith, length-drop at file) in
      let q : position_or_len (is b) (drop at file) ≡ end = sym (e ∙ ap (position_or_len (is b)) r) in
      let far : at + (end + 1) ≡ at + end + 1 = omega arith in
      piece_step (drop at file) some
      ∙ ap (λ (n : ℕ). take n (drop at file) ∷ pieces (is b) (drop (n + 1) (drop at file))) q
      ∙ ap (λ (x : List ℕ). take end x ∷ pieces (is b) (drop (end + 1) (drop at file))) (sym r)
      ∙ ap (λ (x : List ℕ). take end rest ∷ pieces (is b) x) (drop-drop (end + 1) at file ∙ ap (λ (n : ℕ). drop n file) far)

  pub no_piece_at : (file : List ℕ) (at : ℕ) → length file ≤ at → pieces (is b) (drop at file) ≡ []
  no_piece_at file at h = ap (pieces (is b)) (drop_all at file h) ∙ no_pieces

-- the line at a place, and those after it
pub line_at : (file : List ℕ) (at end : ℕ) (rest : List ℕ) → at < length file → rest ≡ drop at file → end ≡ position_or_len (is 10) rest
    → pieces (is 10) (drop at file) ≡ take end rest ∷ pieces (is 10) (drop (at + end + 1) file)
line_at file at end rest h r e = piece_at 10 file at end rest h r e

pub no_line_at : (file : List ℕ) (at : ℕ) → length file ≤ at → pieces (is 10) (drop at file) ≡ []
no_line_at file at h = no_piece_at 10 file at h
