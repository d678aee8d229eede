-- Names as a set.
use Rattle.std.proofs.Common.{◌≡◌, ℕ, List, [], ◌∷◌, refl, Bool, true, false, filter}
use Rattle.hwdb_spec.specs.Assignment.{put_all, text_cmp}
use Rattle.hwdb_spec_commands.specs.SysfsAnswers.{leads_on}

entry_by : (b : Bool) (name : List ℕ) (rest kept : List (List ℕ)) → leads_on name ≡ b
    → put_all text_cmp (filter leads_on (name ∷ rest)) kept ≡ put_all text_cmp (filter leads_on rest) (put_all text_cmp (filter leads_on (name ∷ [])) kept)
unfolding put_all
entry_by true name rest kept e = rw e refl
entry_by false name rest kept e = rw e refl

-- a name of a listing is put in its place if it leads on
pub entry_taken : (name : List ℕ) (rest kept : List (List ℕ))
    → put_all text_cmp (filter leads_on (name ∷ rest)) kept ≡ put_all text_cmp (filter leads_on rest) (put_all text_cmp (filter leads_on (name ∷ [])) kept)
entry_taken name rest kept = entry_by (leads_on name) name rest kept refl
