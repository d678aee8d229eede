-- The strings of devices, one device after another.
use Rattle.std.proofs.Common.{◌≡◌, ◌∙◌, ◌++◌, ◌∷◌, Global, List, [], Vec, ap, append_assoc, flat_map, map, refl, sym, ℕ}
use Rattle.hwdb_spec_commands.specs.AllStrings.{with_text, with_texts}
use Rattle.hwdb_sysfs.specs.Lemmas.Names.{items}

-- of two lists of texts, one after the other
kept_after : (kept texts more : List (List ℕ)) → with_texts kept (texts ++ more) ≡ with_texts (with_texts kept texts) more
unfolding with_texts
kept_after kept [] more = refl
kept_after kept (text ∷ texts) more = kept_after (with_text kept text) texts more

-- what is kept after the texts of one link more
pub kept_more : (find : List ℕ → List (List ℕ)) (kept now all : List (List ℕ)) (left rest : List (Vec ℕ Global)) (link : Vec ℕ Global) → left ≡ link ∷ rest
    → now ≡ with_texts kept (find link.items) → with_texts kept (flat_map find (map items left)) ≡ all → with_texts now (flat_map find (map items rest)) ≡ all
kept_more find kept now all left rest link is put whole =
    let more = flat_map find (map items rest) in
    ap (λ (k : List (List ℕ)). with_texts k more) put
    ∙ sym (kept_after kept (find link.items) more)
    ∙ sym (ap (λ (l : List (Vec ℕ Global)). with_texts kept (flat_map find (map items l))) is) ∙ whole

-- what is said of a path
pub said : (a n z t0 t1 t2 t3 : List ℕ) → t1 ≡ t0 ++ a → t2 ≡ t1 ++ n → t3 ≡ t2 ++ z → t3 ≡ t0 ++ (a ++ (n ++ z))
said a n z t0 t1 t2 t3 h1 h2 h3 =
    h3 ∙ ap (λ (l : List ℕ). l ++ z) (h2 ∙ ap (λ (l : List ℕ). l ++ n) h1)
    ∙ append_assoc (t0 ++ a) n z ∙ append_assoc t0 a (n ++ z)
