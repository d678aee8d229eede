-- What is near to strings that get nothing.
use Rattle.std.proofs.Common.{◌≡◌, ◌∙◌, ◌==◌, ap, false, true≢false, ℕ, List, [], ◌∷◌, ◌++◌, append_assoc, codes, length}
use Rattle.hwdb_spec_commands.specs.DeviceTexts.{nearest_part}

-- the line is before the reports that there are
pub parted : (text mid after reports : List ℕ) → (length reports == 0) ≡ false → mid ≡ text ++ codes "nearest patterns to what got nothing:\n"
    → after ≡ mid ++ reports → after ≡ text ++ nearest_part reports
parted text mid after [] some heading lines = absurd (true≢false some)
parted text mid after (b ∷ rest) some heading lines =
    lines ∙ ap (λ (l : List ℕ). l ++ b ∷ rest) heading ∙ append_assoc text (codes "nearest patterns to what got nothing:\n") (b ∷ rest)
