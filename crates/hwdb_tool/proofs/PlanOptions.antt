-- Plans that there may be: what holds of one holds of what is made of it.
use Rattle.std.proofs.Common.{◌≡◌, refl, IfSome, Option, None, Some}
use Rattle.std.specs.Prelude.{option_map}
use Rattle.hwdb_plan.specs.Plans.{Plan}

pub each : (P Q : Plan → Type 0) (o : Option Plan) → ((p : Plan) → P p → Q p) → IfSome o P → IfSome o Q
each P Q None step has = tt
each P Q (Some p) step has = step p has

pub both : (P Q R : Plan → Type 0) (o : Option Plan) → ((p : Plan) → P p → Q p → R p) → IfSome o P → IfSome o Q → IfSome o R
both P Q R None step one other = tt
both P Q R (Some p) step one other = step p one other

pub mapped : (f : Plan → Plan) (P Q : Plan → Type 0) (o : Option Plan) → ((p : Plan) → P p → Q (f p)) → IfSome o P → IfSome (option_map f o) Q
mapped f P Q None step has = tt
mapped f P Q (Some p) step has = step p has

pub remapped : (f g : Plan → Plan) (P Q : Plan → Type 0) (o : Option Plan) → ((p : Plan) → o ≡ Some p → P (f p) → Q (g p)) → IfSome (option_map f o) P → IfSome (option_map g o) Q
remapped f g P Q None step has = tt
remapped f g P Q (Some p) step has = step p refl has

pub all_mapped : (f : Plan → Plan) (Q : Plan → Type 0) (o : Option Plan) → ((p : Plan) → Q (f p)) → IfSome (option_map f o) Q
all_mapped f Q None step = tt
all_mapped f Q (Some p) step = step p
