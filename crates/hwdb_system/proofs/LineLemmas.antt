-- Lines that are written in pieces.
use Rattle.std.proofs.Common.{◌≡◌, ◌≢◌, ◌∙◌, ap, sym, subst, refl, ℕ, zero, suc, ◌+◌, ◌<◌, List, [], ◌∷◌, ◌++◌, length, take, get_or, ◌==◌, Option, Some, None, codes, decimal, Bor, arith, append_assoc, length-append}
use Rattle.std.proofs.lemmas.List.{append-nil, take-append-le}
use Rattle.std.specs.List.{concat}
use Rattle.std.specs.Io.KnownBytes.{Appends}
use Rattle.std.proofs.KnownBytes.{Appends-trans}
use Rattle.hwdb_spec.specs.Outputs.{AppendsPrefix}
use Rattle.hwdb_spec.specs.declared.DbFault.{DbFault}
use Rattle.hwdb_spec.specs.declared.causes.Cause.{Cause}
use Rattle.hwdb_spec.specs.declared.errors.ToolError.{ToolError}
use Rattle.hwdb_spec.specs.declared.errors.ToolError.TheVariants.{Read, Write, TooLong, TooManyFiles, TooManyLines, TooLarge, BadPosition, BadDatabase, Replace, Memory}
use Rattle.hwdb_system.specs.Internal.{line_at, said_part, said_parts}
use Rattle.hwdb_spec.specs.Visible.{shown_name}
use Rattle.hwdb_spec_commands.specs.Refusals.{Refused, refusal_line, path_text}
use Rattle.hwdb_spec.specs.Errors.{error_text}
use Rattle.hwdb_spec.specs.Texts.{at_offset, db_fault_name, db_fault_offset}
use Rattle.hwdb_spec_commands.specs.Verdicts.{fault_line, remedy}

abbrev Pieces : Type 0
Pieces = List (Bor (List ℕ))

-- the text of pieces, the first of which is at a place
abbrev pub text_of : (name at : ℕ) → Pieces → List ℕ
text_of name at ps = concat (said_parts name at ps)

text_after : (name at : ℕ) (ps : Pieces) (i : ℕ) (d : Bor (List ℕ)) → i < length ps
    → text_of name at (take (suc i) ps) ≡ text_of name at (take i ps) ++ said_part (at + i == name) (get_or ps i d).now
text_after name at [] i d lt = absurd (omega (arith, lt))
text_after name at (p ∷ ps) zero d lt =
    let same : at ≡ at + 0 = omega arith in
    append-nil (said_part (at == name) p.now) ∙ ap (λ (k : ℕ). said_part (k == name) p.now) same
text_after name at (p ∷ ps) (suc i) d lt =
    let same : at + 1 + i ≡ at + suc i = omega arith in
    ap (λ (l : List ℕ). said_part (at == name) p.now ++ l) (text_after name (at + 1) ps i d (omega (arith, lt)))
    ∙ sym (append_assoc (said_part (at == name) p.now) (text_of name (at + 1) (take i ps)) (said_part (at + 1 + i == name) (get_or ps i d).now))
    ∙ ap (λ (k : ℕ). (said_part (at == name) p.now ++ text_of name (at + 1) (take i ps)) ++ said_part (k == name) (get_or ps i d).now) same

pub text_next : (name : ℕ) (ps : Pieces) (i : ℕ) (d : Bor (List ℕ)) → i < length ps
    → text_of name 0 (take (i + 1) ps) ≡ text_of name 0 (take i ps) ++ said_part (i == name) (get_or ps i d).now
text_next name ps i d lt =
    let same : i + 1 ≡ suc i = omega arith in
    let there : 0 + i ≡ i = omega arith in
    ap (λ (k : ℕ). text_of name 0 (take k ps)) same ∙ text_after name 0 ps i d lt
    ∙ ap (λ (k : ℕ). text_of name 0 (take i ps) ++ said_part (k == name) (get_or ps i d).now) there

pub text_split : (name at : ℕ) (ps : Pieces) (i : ℕ) → (rest : List ℕ) × (text_of name at ps ≡ text_of name at (take i ps) ++ rest)
text_split name at [] zero = ([], refl)
text_split name at [] (suc i) = ([], refl)
text_split name at (p ∷ ps) zero = (text_of name at (p ∷ ps), refl)
text_split name at (p ∷ ps) (suc i) =
    let more = text_split name (at + 1) ps i in
    (more.0, ap (λ (l : List ℕ). said_part (at == name) p.now ++ l) more.1 ∙ sym (append_assoc (said_part (at == name) p.now) (text_of name (at + 1) (take i ps)) more.0))

pub next_taken : (name : ℕ) (ps : Pieces) (i : ℕ) (d : Bor (List ℕ)) (a b c : Option (List ℕ)) → i < length ps → Appends a b (text_of name 0 (take i ps))
    → Appends b c (said_part (i == name) (get_or ps i d).now) → Appends a c (text_of name 0 (take (i + 1) ps))
next_taken name ps i d a b c lt p q = let P : List ℕ → Type 0 = λ l. Appends a c l in subst P (sym (text_next name ps i d lt)) (Appends-trans a b c _ _ p q)

take_past : (xs ys : List ℕ) (m n : ℕ) → m ≡ length xs + n → take m (xs ++ ys) ≡ xs ++ take n ys
take_past [] ys m n is = let same : m ≡ n = omega (arith, is) in ap (λ (k : ℕ). take k ys) same
take_past (x ∷ xs) ys zero n is = absurd (omega (arith, is))
take_past (x ∷ xs) ys (suc m) n is = ap (λ (l : List ℕ). x ∷ l) (take_past xs ys m n (omega (arith, is)))

-- a call failed in the midst of a piece
pub cut : (whole front piece behind : List ℕ) (a b c : Option (List ℕ)) → whole ≡ (front ++ piece) ++ behind → Appends a b front → AppendsPrefix b c piece → AppendsPrefix a c whole
cut whole front piece behind a b c is p q =
    let size = length-append front piece in
    let all = ap length is ∙ length-append (front ++ piece) behind in
    let n = length front + q.0 in
    let same : take n whole ≡ front ++ take q.0 piece =
    ap (λ (l : List ℕ). take n l) is
    ∙ take-append-le n (front ++ piece) behind (omega (arith, q.1, size))
    ∙ take_past front piece n q.0 refl in
    let P : List ℕ → Type 0 = λ l. Appends a c l in
    (n, omega (arith, q.1, size, all), subst P (sym same) (Appends-trans a b c _ _ p q.2))

pub cut_text : (name : ℕ) (ps : Pieces) (i : ℕ) (d : Bor (List ℕ)) (a b c : Option (List ℕ)) → i < length ps → Appends a b (text_of name 0 (take i ps))
    → AppendsPrefix b c (said_part (i == name) (get_or ps i d).now) → AppendsPrefix a c (text_of name 0 ps)
cut_text name ps i d a b c lt =
    let split = text_split name 0 ps (i + 1) in
    cut (text_of name 0 ps) (text_of name 0 (take i ps)) (said_part (i == name) (get_or ps i d).now) split.0 a b c
    (split.1 ∙ ap (λ (l : List ℕ). l ++ split.0) (text_next name ps i d lt))

-- the same line, spelled in another way
pub refused_as : (line other : List ℕ) (a b : Option (List ℕ)) (m n : ℕ) → line ≡ other → Refused line a b m n → Refused other a b m n
refused_as line other a b m n is r = subst (λ l. Refused l a b m n) is r

-- a fault of the database, without an offset and with one
pub database_line : (fault : DbFault) (name : List ℕ) (offset : Option ℕ) → name ≡ db_fault_name fault → offset ≡ db_fault_offset fault → offset ≡ None
    → codes "hwdb: bad database: " ++ (name ++ 10 ∷ []) ≡ refusal_line (codes "bad database: " ++ at_offset (db_fault_name fault) (db_fault_offset fault))
database_line fault name offset named is none =
    ap (λ (n : List ℕ). codes "hwdb: bad database: " ++ (n ++ 10 ∷ [])) named
    ∙ ap (λ (o : Option ℕ). refusal_line (codes "bad database: " ++ at_offset (db_fault_name fault) o)) (sym none ∙ is)

pub offset_line : (fault : DbFault) (name digits : List ℕ) (offset : Option ℕ) (at : ℕ) → name ≡ db_fault_name fault → digits ≡ decimal at
    → offset ≡ db_fault_offset fault → offset ≡ Some at
    → codes "hwdb: bad database: " ++ (name ++ (codes " at " ++ (digits ++ 10 ∷ []))) ≡ refusal_line (codes "bad database: " ++ at_offset (db_fault_name fault) (db_fault_offset fault))
offset_line fault name digits offset at named spelled is some =
    ap (λ (n : List ℕ). codes "hwdb: bad database: " ++ (n ++ (codes " at " ++ (digits ++ 10 ∷ [])))) named
    ∙ ap (λ (d : List ℕ). codes "hwdb: bad database: " ++ (db_fault_name fault ++ (codes " at " ++ (d ++ 10 ∷ [])))) spelled
    ∙ ap (λ (l : List ℕ). codes "hwdb: bad database: " ++ l) (sym (append_assoc (db_fault_name fault) (codes " at " ++ decimal at) (10 ∷ [])))
    ∙ ap (λ (o : Option ℕ). refusal_line (codes "bad database: " ++ at_offset (db_fault_name fault) o)) (sym some ∙ is)

-- the same of the database at a path, and what to do
line_end : (fault path what : List ℕ)
    → codes "hwdb: bad database: " ++ (fault ++ (codes ": " ++ (path ++ (codes ": " ++ (what ++ 10 ∷ [])))))
    ≡ refusal_line (codes "bad database: " ++ (fault ++ (codes ": " ++ (path ++ (codes ": " ++ what)))))
line_end fault path what =
    ap (λ (l : List ℕ). codes "hwdb: bad database: " ++ (fault ++ (codes ": " ++ l))) (sym (append_assoc path (codes ": " ++ what) (10 ∷ [])))
    ∙ ap (λ (l : List ℕ). codes "hwdb: bad database: " ++ l) (sym (append_assoc fault (codes ": " ++ (path ++ (codes ": " ++ what))) (10 ∷ [])))

pub path_line : (path name name_text what what_text : List ℕ) → name ≡ name_text → what ≡ what_text
    → codes "hwdb: bad database: " ++ (name ++ (codes ": " ++ (shown_name path ++ (codes ": " ++ (what ++ 10 ∷ []))))) ≡ refusal_line (line_at path name_text None what_text)
path_line path name name_text what what_text named remedied =
    line_end name (shown_name path) what
    ∙ ap (λ (w : List ℕ). refusal_line (line_at path name None w)) remedied
    ∙ ap (λ (n : List ℕ). refusal_line (line_at path n None what_text)) named

pub path_offset_line : (path name name_text digits what what_text : List ℕ) (at : ℕ) → name ≡ name_text → digits ≡ decimal at → what ≡ what_text
    → codes "hwdb: bad database: " ++ (name ++ (codes " at " ++ (digits ++ (codes ": " ++ (shown_name path ++ (codes ": " ++ (what ++ 10 ∷ []))))))) ≡ refusal_line (line_at path name_text (Some at) what_text)
path_offset_line path name name_text digits what what_text at named spelled remedied =
    ap (λ (l : List ℕ). codes "hwdb: bad database: " ++ l) (sym (append_assoc name (codes " at " ++ digits) (codes ": " ++ (shown_name path ++ (codes ": " ++ (what ++ 10 ∷ []))))))
    ∙ line_end (name ++ (codes " at " ++ digits)) (shown_name path) what
    ∙ ap (λ (d : List ℕ). refusal_line (codes "bad database: " ++ ((name ++ (codes " at " ++ d)) ++ (codes ": " ++ (shown_name path ++ (codes ": " ++ what)))))) spelled
    ∙ ap (λ (w : List ℕ). refusal_line (line_at path name (Some at) w)) remedied
    ∙ ap (λ (n : List ℕ). refusal_line (line_at path n (Some at) what_text)) named

pub fault_line_is : (fault : DbFault) (path name what : List ℕ) (offset found : Option ℕ) → name ≡ db_fault_name fault → what ≡ remedy path → found ≡ db_fault_offset fault → found ≡ offset
    → refusal_line (line_at path name offset what) ≡ refusal_line (fault_line path fault)
fault_line_is fault path name what offset found named remedied is same =
    ap (λ (n : List ℕ). refusal_line (line_at path n offset what)) named
    ∙ ap (λ (w : List ℕ). refusal_line (line_at path (db_fault_name fault) offset w)) remedied
    ∙ ap (λ (o : Option ℕ). refusal_line (line_at path (db_fault_name fault) o (remedy path))) (sym same ∙ is)

-- two texts, and a path with a cause
pub two_line : (first second : List ℕ) → codes "hwdb: " ++ (first ++ (second ++ 10 ∷ [])) ≡ refusal_line (first ++ second)
two_line first second = ap (λ (l : List ℕ). codes "hwdb: " ++ l) (sym (append_assoc first second (10 ∷ [])))

pub cause_line : (failed path colon words : List ℕ) → colon ≡ codes ": " → codes "hwdb: " ++ (failed ++ (path ++ (colon ++ (words ++ 10 ∷ [])))) ≡ refusal_line (failed ++ (path ++ (codes ": " ++ words)))
cause_line failed path colon words is =
    ap (λ (c : List ℕ). codes "hwdb: " ++ (failed ++ (path ++ (c ++ (words ++ 10 ∷ []))))) is
    ∙ ap (λ (l : List ℕ). codes "hwdb: " ++ l)
    (ap (λ (l : List ℕ). failed ++ l) (sym (append_assoc path (codes ": " ++ words) (10 ∷ []))) ∙ sym (append_assoc failed (path ++ (codes ": " ++ words)) (10 ∷ [])))

-- an error that has no text of its own over a path
pub plain_text : (e : ToolError) (path words : List ℕ) (cause : Option Cause) → e ≢ Read → e ≢ Write → e ≢ TooLong → ((fault : DbFault) → e ≢ BadDatabase fault) → error_text e ≡ path_text e path cause words
plain_text Read path words cause nr nw nl nb = absurd (nr refl)
plain_text Write path words cause nr nw nl nb = absurd (nw refl)
plain_text TooLong path words cause nr nw nl nb = absurd (nl refl)
plain_text TooManyFiles path words cause nr nw nl nb = refl
plain_text TooManyLines path words cause nr nw nl nb = refl
plain_text TooLarge path words cause nr nw nl nb = refl
plain_text BadPosition path words cause nr nw nl nb = refl
plain_text (BadDatabase fault) path words cause nr nw nl nb = absurd (nb fault refl)
plain_text (Replace u) path words cause nr nw nl nb = refl
plain_text Memory path words cause nr nw nl nb = refl

-- the parts so far, with the next one
pub joined_next : (name : ℕ) (ps : Pieces) (i : ℕ) (d : Bor (List ℕ)) (old new : List ℕ) → i < length ps → old ≡ text_of name 0 (take i ps)
    → new ≡ old ++ said_part (i == name) (get_or ps i d).now → new ≡ text_of name 0 (take (i + 1) ps)
joined_next name ps i d old new lt so_far added =
    added ∙ ap (λ (l : List ℕ). l ++ said_part (i == name) (get_or ps i d).now) so_far ∙ sym (text_next name ps i d lt)
