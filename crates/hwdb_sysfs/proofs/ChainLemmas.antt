-- The folders above a path, one by one.
use Rattle.std.proofs.Common.{◌≡◌, ◌<◌, ◌+◌, ◌==◌, ℕ, Bool, true, false, List, [], ◌∷◌, ◌++◌, Option, None, Some, arith, length, take, reverse, refl, sym, ap, ◌∙◌, append-nil, append_assoc, if◌then◌else◌}
use Rattle.std.proofs.lemmas.List.{reverse-append, reverse-reverse, take_all, take_more}
use Rattle.std.proofs.lemmas.List.Elements.{filter_map-append}
use Rattle.std.specs.List.{cons_option}
use Rattle.std.specs.Prelude.{filter_map}
use Rattle.hwdb_spec_commands.specs.DeviceTree.{above}
use Rattle.hwdb_spec.specs.Lines.{byte}
use Rattle.hwdb_sysfs.specs.Internal.{folder_before}

by_byte : (b : Bool) (x : ℕ) (front : List ℕ) → (x == byte "/") ≡ b
    → above (x ∷ reverse front) ≡ (if x == byte "/" then front ∷ [] else []) ++ above (reverse front)
unfolding above
by_byte true x front e = rw e (ap (λ (l : List ℕ). l ∷ above (reverse front)) (reverse-reverse front))
by_byte false x front e = rw e refl

-- one byte more from the end
above_more : (path : List ℕ) (n : ℕ) → n < length path → above (reverse (take (n + 1) path)) ≡ folder_before path n ++ above (reverse (take n path))
above_more path n lt =
    ap (λ (l : List ℕ). above (reverse l)) (take_more path n 0 lt) ∙ ap above (reverse-append (take n path) _) ∙ by_byte _ _ (take n path) refl

module _ {A : Type 0} (find : List ℕ → Option A) where
  pub chain_begins : (path : List ℕ) (new : List A) → new ≡ cons_option (find path) []
      → new ++ filter_map find (above (reverse (take (length path) path))) ≡ filter_map find (path ∷ above (reverse path))
  chain_begins path new is =
      ap (λ (l : List A). l ++ filter_map find (above (reverse (take (length path) path)))) is
      ∙ onto (find path) _ ∙ ap (λ (l : List ℕ). cons_option (find path) (filter_map find (above (reverse l)))) (take_all (length path) path (omega arith))
    where
      onto : (o : Option A) (xs : List A) → cons_option o [] ++ xs ≡ cons_option o xs
      onto None xs = refl
      onto (Some x) xs = refl

  pub chain_more : (path : List ℕ) (m n : ℕ) (done new all : List A) → n < length path → m ≡ n + 1
      → done ++ filter_map find (above (reverse (take m path))) ≡ all → new ≡ done ++ filter_map find (folder_before path n)
      → new ++ filter_map find (above (reverse (take n path))) ≡ all
  chain_more path m n done new all lt next whole is =
      let rest = filter_map find (above (reverse (take n path))) in
      ap (λ (l : List A). l ++ rest) is ∙ append_assoc done (filter_map find (folder_before path n)) rest
      ∙ ap (λ (l : List A). done ++ l) (sym (filter_map-append find (folder_before path n) (above (reverse (take n path)))))
      ∙ ap (λ (l : List (List ℕ)). done ++ filter_map find l) (sym (above_more path n lt))
      ∙ ap (λ (k : ℕ). done ++ filter_map find (above (reverse (take k path)))) (sym next) ∙ whole

  pub chain_ends : (path : List ℕ) (n : ℕ) (done all : List A) → n ≡ 0 → done ++ filter_map find (above (reverse (take n path))) ≡ all → done ≡ all
  unfolding above
  chain_ends path n done all none whole =
      sym (append-nil done) ∙ sym (ap (λ (k : ℕ). done ++ filter_map find (above (reverse (take k path)))) none) ∙ whole
