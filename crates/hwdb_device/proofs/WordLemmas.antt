-- Devices that a text means, one by one, and what is said of several.
use Rattle.std.proofs.Common.{◌≡◌, ◌∙◌, ℕ, List, [], ◌∷◌, ◌++◌, Option, None, Some, Global, Vec, ap, append_assoc, flat_map, map, refl, sym}
use Rattle.std.specs.List.{cons_option}
use Rattle.std.specs.Prelude.{filter_map}
use Rattle.hwdb_spec_commands.specs.DeviceTree.{nearer, nearest_of}
use Rattle.hwdb_sysfs.specs.Lemmas.Names.{items}

onto : (o : Option (List ℕ)) (xs : List (List ℕ)) → cons_option o [] ++ xs ≡ cons_option o xs
onto None xs = refl
onto (Some x) xs = refl

-- the place of one link more
pub place_more : (find : List ℕ → Option (List ℕ)) (left rest : List (Vec ℕ Global)) (link : Vec ℕ Global) (done new all : List (List ℕ)) → left ≡ link ∷ rest
    → new ≡ done ++ cons_option (find link.items) [] → done ++ filter_map find (map items left) ≡ all → new ++ filter_map find (map items rest) ≡ all
place_more find left rest link done new all is put whole =
    let more = filter_map find (map items rest) in
    ap (λ (l : List (List ℕ)). l ++ more) put ∙ append_assoc done (cons_option (find link.items) []) more
    ∙ ap (λ (l : List (List ℕ)). done ++ l) (onto (find link.items) more)
    ∙ sym (ap (λ (l : List (Vec ℕ Global)). done ++ filter_map find (map items l)) is) ∙ whole

-- what is said: a text, a name and a newline, lines, and an end
pub said : (b : ℕ) (t name rows end t0 t1 t2 t3 t4 : List ℕ) → t0 ≡ t → t1 ≡ t0 ++ name → t2 ≡ t1 ++ b ∷ [] → t3 ≡ t2 ++ rows → t4 ≡ t3 ++ end
    → t4 ≡ t ++ (name ++ b ∷ (rows ++ end))
said b t name rows end t0 t1 t2 t3 t4 h0 h1 h2 h3 h4 =
    h4
    ∙ ap (λ (l : List ℕ). l ++ end) (h3 ∙ ap (λ (l : List ℕ). l ++ rows) (h2 ∙ ap (λ (l : List ℕ). l ++ b ∷ []) (h1 ∙ ap (λ (l : List ℕ). l ++ name) h0)))
    ∙ append_assoc ((t ++ name) ++ b ∷ []) rows end
    ∙ append_assoc (t ++ name) (b ∷ []) (rows ++ end)
    ∙ append_assoc t name (b ∷ (rows ++ end))

-- ---- what is near
-- of two lists of names, one after the other
nearest_after : (wanted before : List ℕ) (names more : List (List ℕ)) → nearest_of wanted before (names ++ more) ≡ nearest_of wanted (nearest_of wanted before names) more
unfolding nearest_of
nearest_after wanted before [] more = refl
nearest_after wanted before (name ∷ names) more = nearest_after wanted (nearer wanted before name) names more

-- the nearest after the names of one link more
pub nearest_more : (find : List ℕ → List (List ℕ)) (wanted before now all : List ℕ) (left rest : List (Vec ℕ Global)) (link : Vec ℕ Global) → left ≡ link ∷ rest
    → now ≡ nearest_of wanted before (find link.items) → nearest_of wanted before (flat_map find (map items left)) ≡ all → nearest_of wanted now (flat_map find (map items rest)) ≡ all
nearest_more find wanted before now all left rest link is put whole =
    let more = flat_map find (map items rest) in
    ap (λ (b : List ℕ). nearest_of wanted b more) put
    ∙ sym (nearest_after wanted before (find link.items) more)
    ∙ sym (ap (λ (l : List (Vec ℕ Global)). nearest_of wanted before (flat_map find (map items l))) is) ∙ whole
