-- What the definitions of Raw come to, case by case: a claim that said less would be noticed here.
use Rattle.std.specs.Prelude.{◌≡◌, ℕ, List, [], ◌∷◌, ◌++◌, Bool, codes, pos, true, false, Option, Some, None, Result, Ok, Err}
use Rattle.hwdb_spec.specs.declared.causes.Cause.{Cause}
use Rattle.hwdb_spec.specs.declared.causes.Cause.TheVariants as why
use Rattle.hwdb_system.specs.declared.raw.Kind.{Kind}
use Rattle.hwdb_system.specs.declared.raw.Kind.TheVariants.{File, Null, Folder, Pipe, Socket, Device}
use Rattle.hwdb_spec_commands.specs.declared.unread.Unread.{Unread}
use Rattle.hwdb_spec_commands.specs.declared.refusals.Refusal.{Refusal}
use Rattle.hwdb_system.specs.Raw.{IsOfMemory, IsRefusedAs, IsRefusedFor, database_answer, failed, ignored_answer, names_answer, text_answer}

-- every place is of one kind, and holds these bytes
abbrev pub text_of_all : Kind → (bytes : List ℕ) → Result (List ℕ) Unread
text_of_all kind bytes = text_answer (Ok []) (Ok true) (λ p. false) (λ p. Ok kind) (λ p. Ok bytes)

abbrev pub database_of_all : Kind → (bytes : List ℕ) → Result (Option (List ℕ)) Unread
database_of_all kind bytes = database_answer (Ok true) (Ok []) (λ p. Ok kind) (λ p. Ok bytes)

-- of each kind a text file and a database are read so
pub record KindsAreTold : Type 0 where
  pub file : (bytes : List ℕ) → (text_of_all File bytes ≡ Ok bytes) × (database_of_all File bytes ≡ Ok (Some bytes))
  pub null : (bytes : List ℕ) → (text_of_all Null bytes ≡ Ok []) × (database_of_all Null bytes ≡ Err (failed why.Device))
  pub folder : (bytes : List ℕ) → (text_of_all Folder bytes ≡ Err (failed why.Folder)) × (database_of_all Folder bytes ≡ Err (failed why.Folder))
  pub pipe : (bytes : List ℕ) → (text_of_all Pipe bytes ≡ Err (failed why.Pipe)) × (database_of_all Pipe bytes ≡ Err (failed why.Pipe))
  pub socket : (bytes : List ℕ) → (text_of_all Socket bytes ≡ Err (failed why.Socket)) × (database_of_all Socket bytes ≡ Err (failed why.Socket))
  pub device : (bytes : List ℕ) → (text_of_all Device bytes ≡ Err (failed why.Device)) × (database_of_all Device bytes ≡ Err (failed why.Device))
  pub missing : (kind : Kind) (bytes : List ℕ) → database_answer (Ok false) (Ok []) (λ p. Ok kind) (λ p. Ok bytes) ≡ Ok None

-- what a text file's read gives of a path that leads to nothing, by whether something has its name
abbrev pub text_of_none : (there : Bool) (cause : Cause) → Result (List ℕ) Unread
text_of_none there cause = text_answer (Ok []) (Ok there) (λ p. false) (λ p. Err cause) (λ p. Ok [])

-- a link to nothing is told as one, and other causes as they are
pub record LinksAreTold : Type 0 where
  pub link : text_of_none true (why.System (pos 2)) ≡ Err (failed why.Link)
  pub none : text_of_none false (why.System (pos 2)) ≡ Err (failed (why.System (pos 2)))
  pub other : text_of_none true (why.System (pos 13)) ≡ Err (failed (why.System (pos 13)))
  pub database : database_answer (Ok true) (Ok []) (λ p. Err (why.System (pos 2))) (λ p. Ok []) ≡ Err (failed why.Link)

-- what was read is no error but one of memory
abbrev pub ReadIsNoError : Type 0
ReadIsNoError = (answer : Result (List ℕ) Unread) (bytes path : List ℕ) (refusal : Refusal) → answer ≡ Ok bytes → IsRefusedAs answer path refusal → IsOfMemory path refusal

-- an error tells one thing
abbrev pub ErrorsHaveOneCause : Type 0
ErrorsHaveOneCause = (v w : Unread) (path : List ℕ) (refusal : Refusal) → IsRefusedFor v path refusal → IsRefusedFor w path refusal → v ≡ w

-- of five names in a listing two count, and two are ignored
abbrev pub listing : List ℕ
listing = codes "a.hwdb" ++ 0 ∷ (codes "b" ++ 0 ∷ (codes "c.hwdb" ++ 0 ∷ (codes ".d" ++ 0 ∷ (codes "e.hwdb.txt" ++ 0 ∷ []))))

abbrev pub listed : Result (List (List ℕ)) Unread
listed = names_answer (Ok (Some listing))

abbrev pub ignored : Result (List (List ℕ)) Unread
ignored = ignored_answer (Ok (Some listing))
