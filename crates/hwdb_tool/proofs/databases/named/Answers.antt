use Rattle.std.proofs.Common.{Bor, List, Option, option_map, string_bytes, subst, sym, ℕ}
use Rattle.hwdb_plan.specs.Asking.{named}
use Rattle.hwdb_plan.specs.Plans.{Reaches}
use Rattle.hwdb_tool.specs.declared.databases.FoundDatabase.{FoundDatabase}
use Rattle.hwdb_tool.proofs.databases.named.Goals as goal

pub returns-in-None-clause-follows : goal.returns-in-None-clause-follows
returns-in-None-clause-follows g c = λ tells.
    subst (λ (o : Option (Bor (List ℕ))). Reaches (λ (f : FoundDatabase). string_bytes f.path) (λ f. f.bytes.items) (g.D.System.reads c.args.system.now) (named (option_map (λ t. t.now) o) c.args.root.now) c.asked.result)
    (sym c.in-None.is) (c.asked.ensures.follows tells)

pub returns-in-Some-clause-follows : goal.returns-in-Some-clause-follows
returns-in-Some-clause-follows g c = λ tells.
    subst (λ (o : Option (Bor (List ℕ))). Reaches (λ (f : FoundDatabase). string_bytes f.path) (λ f. f.bytes.items) (g.D.System.reads c.args.system.now) (named (option_map (λ t. t.now) o) c.args.root.now) c.given_at.result)
    (sym c.in-Some.is) (c.given_at.ensures.follows tells)
