-- What the laws say of baselines. A definition that let more pass, or less, would be noticed here.
use Rattle.std.specs.Prelude.{◌≡◌, ◌∷◌, ℕ, Bool, false, List, [], None, Ok, Err, codes, drop, filter, length}
use Rattle.hwdb_spec.specs.Folders.{same}
use Rattle.hwdb_spec_commands.specs.Baselines.{mark_of, marks_in, new_findings, without_first, wrong_text}
use Rattle.hwdb_spec_commands.specs.Findings.{Finding}

-- whether a finding has this path, kind and line
abbrev pub has : (mark : List ℕ) → Finding → Bool
has mark f = same mark (mark_of f)

-- Of the findings with one path, kind and line as many pass as the baseline has, and these are the first; the others are told, in their order.
abbrev pub AsManyPass : Type 0
AsManyPass =
    (known : List (List ℕ)) (fs : List Finding) (mark : List ℕ)
    → filter (has mark) (new_findings known fs) ≡ drop (length (filter (same mark) known)) (filter (has mark) fs)

-- without a baseline each is told
abbrev pub NothingPasses : Type 0
NothingPasses = (fs : List Finding) → new_findings [] fs ≡ fs

-- a finding with this path, kind and line
abbrev pub found : (path kind source : List ℕ) → Finding
found path kind source = record {
  path = path;
  line = 7;
  place = 0;
  fault = false;
  kind = kind;
  text = [];
  hint = [];
  source = source;
  fix = None;
}

-- A text is taken once. A line of a baseline may have more than what is compared, in any order. One that lacks it, or has a number there,
-- has no finding, and is named by its number.
pub record BaselineRows : Type 0 where
  pub first : without_first (codes "b") (codes "a" ∷ codes "b" ∷ codes "c" ∷ codes "b" ∷ []) ≡ codes "a" ∷ codes "c" ∷ codes "b" ∷ []
  pub empty : marks_in (codes "\n\n") ≡ Ok []
  pub read : marks_in (codes "{\"line\":3,\"kind\":\"unread\",\"source\":[32,255],\"path\":\"a\\u0062\"}\n") ≡ Ok (mark_of (found (codes "ab") (codes "unread") (32 ∷ 255 ∷ [])) ∷ [])
  pub lacking : marks_in (codes "\n{\"kind\":\"unread\",\"path\":\"a\"}\n") ≡ Err 2
  pub no_text : marks_in (codes "{\"kind\":\"unread\",\"path\":\"a\",\"source\":5}") ≡ Err 1
  pub other : new_findings (mark_of (found (codes "a") (codes "unread") (codes " A=1")) ∷ []) (found (codes "a") (codes "unread") (codes " A=2") ∷ [])
      ≡ found (codes "a") (codes "unread") (codes " A=2") ∷ []
  pub wrong : wrong_text (codes "b.json") 3 ≡ codes "b.json:3: no finding as hwdb check --json prints it"
