-- What is said of an opened file, as of the bytes that are told of its path.
use Rattle.std.proofs.Common.{List, ℕ, Option, None, Some, IfSome}

pub of_opened : {X : Type 0} (Told At Is : List ℕ → Type 0) (Within P : X → List ℕ → Type 0) → ((bytes : List ℕ) × Told bytes × At bytes × Is bytes) → (o : Option X)
    → IfSome o (λ x. (bytes : List ℕ) → Is bytes → Within x bytes × P x bytes) → IfSome o (λ x. (bytes : List ℕ) × Told bytes × P x bytes)
of_opened Told At Is Within P (bytes, told, at, is) None h = tt
of_opened Told At Is Within P (bytes, told, at, is) (Some x) h = (bytes, told, (h bytes is).1)
